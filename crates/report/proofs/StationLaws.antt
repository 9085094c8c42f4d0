-- What the station's program stands on: the first bytes of its two files decide, and the line of a record names what the record holds.
use Prim.Native.Nat.{ℕ, ◌+◌, ◌*◌, ◌/◌, ◌%◌, ◌≤◌, ◌<◌}
use mathlib.Core.Bool.{Bool, true, false, cond}
use mathlib.Core.List.{List, [], ◌∷◌, ◌++◌}
use mathlib.Core.Path.{◌≡◌, refl, sym, ◌∙◌, ap}
use native.Mathlib.Omega.{arith}
use borrow.Author.Tests.{lt-leb, leb-true, leb-false, ne_eqb}
use lib.Dec.{leb}
use lib.ListN.{length, take, length-map}
use lib.Seq.{take_all, length-take-le}
use Rattle.numbers.specs.BigEndian.{big_endian, bytes_of, Bytes}
use Rattle.numbers.specs.Field.{field}
use Rattle.limits.specs.Limits.{program_limits}
use Rattle.format.specs.Fields.{known_attention}
use Rattle.format.specs.Lookup.{register_entries}
use Rattle.format.specs.Parsed.{Parsed, done, refused, require}
use Rattle.format.specs.Tree.{Root, Chip}
use Rattle.format.specs.Verdict.{verdict}
use Rattle.tables.specs.Tables.{key_of}
use Rattle.tables.specs.Keys.{register_keys}
use Rattle.readings.specs.ReadingsFile.{file_fits}
use Rattle.format.specs.Finding.{root_for}
use Rattle.isolation.specs.Outcome.{stopped, in_list}
use Rattle.listing.specs.Records.{bit_bytes, record_of}
use Rattle.report.specs.Report.{file_from_root, find_file_in, find_file, isolate_file, station_list, report}
use Rattle.report.specs.Text.{text_of, bit_line, record_line}
use Rattle.report.proofs.FileLaws.{meets}

-- The line of a record.
pub record-line : (model slot attention bit id number : ℕ) (rest : List ℕ) → attention < 256 → bit < 256 → id < 65536 → number < 256
    → record_line (record_of model slot attention bit id number ++ rest) ≡ bit_line attention id number bit
unfolding record_line record_of bit_bytes bytes_of field big_endian
record-line model slot attention bit id number rest a b i n =
    let e : attention / 1 % 256 * 1 + 0 ≡ attention = omega arith in
    let f : bit / 1 % 256 * 1 + 0 ≡ bit = omega arith in
    let g : id / 256 % 256 * 256 + (id / 1 % 256 * 1 + 0) ≡ id = omega arith in
    let h : number / 1 % 256 * 1 + 0 ≡ number = omega arith in
    rw (e, f, g, h)

-- A chip data file that is too long.
too_long : (s : List ℕ) → program_limits.bytes < length s → verdict program_limits s ≡ refused 1 0
unfolding verdict require
too_long s h = rw (lt-leb (length s) program_limits.bytes h)

-- So many bytes of a chip data file decide.
abbrev pub chip_front : ℕ
chip_front = program_limits.bytes + 1

pub chip-front : (s : List ℕ) → verdict program_limits (take chip_front s) ≡ verdict program_limits s
chip-front s = go (leb (length s) chip_front) refl
  where
    go : (b : Bool) → leb (length s) chip_front ≡ b → verdict program_limits (take chip_front s) ≡ verdict program_limits s
    go true e = ap (verdict program_limits) (take_all chip_front s (leb-true _ _ e))
    go false e =
        let h : chip_front < length s = leb-false _ _ e in
        let l : length (take chip_front s) ≡ chip_front = length-take-le chip_front s (omega arith) in
        too_long (take chip_front s) (omega arith) ∙ sym (too_long s (omega arith))

-- So many bytes of a readings file decide: one for as many register instances as a file may have has one byte less.
abbrev pub readings_front : ℕ
readings_front = program_limits.register_instances * 16 + 1

-- A readings file that is too long.
no_fit : (keys bytes : List ℕ) → length keys ≤ program_limits.register_instances → program_limits.register_instances * 16 < length bytes → file_fits keys bytes ≡ false
unfolding file_fits
no_fit keys bytes few h = rw (ne_eqb (length bytes) (16 * length keys) (λ e. omega (arith, e)))

no_fit_root : (c : Chip) (attention : ℕ) (bytes : List ℕ) (t : Root) (ts : List Root) → file_fits (register_keys c) bytes ≡ false → file_from_root c attention bytes (t ∷ ts) ≡ stopped 17 0
unfolding file_from_root
no_fit_root c attention bytes t ts e = rw e

-- Its first bytes decide.
module _ (c : Chip) (few : length (register_keys c) ≤ program_limits.register_instances) (attention : ℕ) (bytes : List ℕ) where
  root_front : (ts : List Root) → readings_front < length bytes → file_from_root c attention (take readings_front bytes) ts ≡ file_from_root c attention bytes ts
  unfolding file_from_root
  root_front [] h = refl
  root_front (t ∷ ts) h =
      let l : length (take readings_front bytes) ≡ readings_front = length-take-le readings_front bytes (omega arith) in
      no_fit_root c attention (take readings_front bytes) t ts (no_fit (register_keys c) (take readings_front bytes) few (omega arith))
      ∙ sym (no_fit_root c attention bytes t ts (no_fit (register_keys c) bytes few (omega arith)))

  readings-front : (end : ℕ) → find_file_in attention (take readings_front bytes) (done c end) ≡ find_file_in attention bytes (done c end)
  unfolding find_file_in
  readings-front end = go (leb (length bytes) readings_front) refl
    where
      go : (b : Bool) → leb (length bytes) readings_front ≡ b
          → find_file_in attention (take readings_front bytes) (done c end) ≡ find_file_in attention bytes (done c end)
      go true e = ap (λ u. find_file_in attention u (done c end)) (take_all readings_front bytes (leb-true _ _ e))
      go false e = ap (λ o. cond (known_attention attention) o (stopped 15 0)) (root_front (root_for attention c) (leb-false _ _ e))

-- The program reads as many bytes of its files as decide, so that a longer file is seen to be longer.
pub first_bytes : (file : List ℕ) → Bytes file → (attention : ℕ) (readings : List ℕ)
    → report (take chip_front file) attention (take readings_front readings) ≡ report file attention readings
unfolding report isolate_file find_file find_file_in
first_bytes file bytes attention readings =
    ap (λ q. text_of (in_list station_list (find_file_in attention (take readings_front readings) q))) (chip-front file)
    ∙ ap (λ o. text_of (in_list station_list o)) (go (verdict program_limits file) refl)
  where
    go : (q : Parsed Chip) → verdict program_limits file ≡ q → find_file_in attention (take readings_front readings) q ≡ find_file_in attention readings q
    go (done c end) v =
        readings-front c (omega (arith, length-map (register_entries c) (λ e. key_of e.id e.instance.number), (meets program_limits file bytes v).within.registers)) attention readings end
    go (refused n p) v = refl
