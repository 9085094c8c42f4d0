-- The laws of isolation with a readings file.
use Prim.Native.Nat.{ℕ, ◌*◌, ◌≤◌, ◌<◌}
use mathlib.Core.Bool.{Bool, true, false, cond, ◌&&◌}
use mathlib.Core.List.{List, [], ◌∷◌}
use mathlib.Core.Path.{◌≡◌, refl, sym, ◌∙◌, ap}
use native.Mathlib.Omega.{arith}
use borrow.Author.Tests.{le-leb, lt-leb, ne_eqb, leb-true}
use lib.Dec.{leb}
use lib.ListN.{length, take, drop, replicate, length-append, length-map}
use lib.Seq.{take_at, length-take-le}
use Rattle.limits.specs.Limits.{Limits}
use Rattle.limits.specs.Classes.{Class}
use Rattle.numbers.specs.BigEndian.{Bytes}
use Rattle.numbers.proofs.Bools.{and_left, and_right}
use Rattle.format.specs.Fields.{known_attention}
use Rattle.format.specs.Lookup.{gathered, entries_of, register_entries}
use Rattle.format.specs.Parsed.{Parsed, done, refused}
use Rattle.format.specs.Rules.{Every, Meets}
use Rattle.format.specs.Tree.{Register, Root, Chip}
use Rattle.format.specs.Verdict.{verdict}
use Rattle.format.proofs.Acceptance.{verdict_meets}
use Rattle.tables.specs.Keys.{register_keys}
use Rattle.reader.specs.Classes.{class_room}
use Rattle.reader.specs.Examined.{lengths_of, room_for}
use Rattle.readings.specs.ReadingsFile.{read_byte, value_in, file_fits, words_of, read_of, places_for, decodes, lent_after}
use Rattle.readings.proofs.RecordLaws.{each-length}
use Rattle.isolation.specs.Readings.{readings_fit}
use Rattle.format.specs.Finding.{root_for}
use Rattle.isolation.specs.Outcome.{Outcome, refused_outcome, stopped, from_root, find_in, find, in_list, isolate}
use Rattle.isolation.specs.Ready.{both_fit, room_in}
use Rattle.isolation.proofs.ClassesLaws.{class_outcome, isolate_number}
use Rattle.report.specs.Report.{file_from_root, find_file_in, find_file, isolate_file}

-- An accepted file has a register instance.
some_entries : (rs : List Register) → 0 < length rs → Every (λ r. 0 < length r.instances) rs → 0 < length (gathered entries_of rs)
unfolding gathered entries_of Every
some_entries [] h e = absurd (omega arith)
some_entries (r ∷ rs) h e = simp (length-append, length-map) (omega (arith, e.0))

module _ (limits : Limits) (file : List ℕ) (bytes : Bytes file) {c : Chip} {end : ℕ} (v : verdict limits file ≡ done c end) where
  pub meets : Meets limits c
  meets = verdict_meets limits file bytes v

  some_registers : 0 < length (register_entries c)
  unfolding register_entries
  some_registers = some_entries c.registers meets.counts.registers meets.counts.register_instances

  -- No readings do not fit.
  none_fit : readings_fit c [] [] ≡ false
  unfolding readings_fit
  none_fit = rw (ne_eqb 0 (length (register_entries c)) (λ e. omega (arith, e, some_registers)))

  module _ (attention : ℕ) (readings : List ℕ) where
    -- A readings file that fits.
    fits_root : (ts : List Root) → file_fits (register_keys c) readings ≡ true
        → from_root c 0 attention (words_of (register_keys c) readings) (read_of (register_keys c) readings) ts ≡ file_from_root c attention readings ts
    unfolding file_from_root from_root
    fits_root [] e = refl
    fits_root (t ∷ ts) e = rw e

    fits_is : file_fits (register_keys c) readings ≡ true
        → find limits 0 file attention (words_of (register_keys c) readings) (read_of (register_keys c) readings) ≡ find_file limits file attention readings
    unfolding find find_in find_file find_file_in
    fits_is e = rw v (ap (λ o. cond (known_attention attention) o (stopped 15 0)) (fits_root (root_for attention c) e))

    -- One that does not.
    misfit_root : (ts : List Root) → file_fits (register_keys c) readings ≡ false → from_root c 0 attention [] [] ts ≡ file_from_root c attention readings ts
    unfolding file_from_root from_root
    misfit_root [] e = refl
    misfit_root (t ∷ ts) e = rw (e, none_fit)

    misfit_is : file_fits (register_keys c) readings ≡ false → find limits 0 file attention [] [] ≡ find_file limits file attention readings
    unfolding find find_in find_file find_file_in
    misfit_is e = rw v (ap (λ o. cond (known_attention attention) o (stopped 15 0)) (misfit_root (root_for attention c) e))

    -- The readings that decoding leaves: those of the file, or none.
    module _ {keys : List ℕ} (k : keys ≡ register_keys c) where
      left : (words read : List ℕ) (b : Bool) → file_fits keys readings ≡ b
          → find limits 0 file attention (take (cond b (length keys) 0) (lent_after b (words_of keys readings) words)) (take (cond b (length keys) 0) (lent_after b (read_of keys readings) read))
          ≡ find_file limits file attention readings
      unfolding lent_after
      left words read true f =
          let x = take_at (words_of keys readings) (drop (length (words_of keys readings)) words) (length keys) (each-length value_in keys readings) in
          let y = take_at (read_of keys readings) (drop (length (read_of keys readings)) read) (length keys) (each-length read_byte keys readings) in
          rw (x, y, k) (fits_is (rw k at f))
      left words read false f = misfit_is (rw k at f)

      pub decoded_is : (list words read : List ℕ) → length keys ≤ length words → length keys ≤ length read
          → {n : ℕ} → n ≡ cond (decodes keys readings words read) (length keys) 0
          → {words' read' : List ℕ} → words' ≡ lent_after (decodes keys readings words read) (words_of keys readings) words → read' ≡ lent_after (decodes keys readings words read) (read_of keys readings) read
          → isolate limits file attention (take n words') (take n read') list ≡ isolate_file limits file attention readings list
      unfolding decodes places_for isolate isolate_file
      decoded_is list words read p q a w u =
          rw (a, w, u, le-leb _ _ p, le-leb _ _ q) (ap (in_list list) (left words read (file_fits keys readings) refl))

module _ (limits : Limits) (file : List ℕ) (attention : ℕ) (readings : List ℕ) where
  -- A file that is refused.
  file_refused : {n p : ℕ} → verdict limits file ≡ refused n p → (words read : List ℕ) → find limits 0 file attention words read ≡ find_file limits file attention readings
  unfolding find find_in find_file find_file_in
  file_refused v words read = rw v

  -- What is found is what isolation finds with some readings.
  pub some_readings : Bytes file → (words : List ℕ) × (read : List ℕ) × (find limits 0 file attention words read ≡ find_file limits file attention readings)
  some_readings bytes = go (verdict limits file) refl
    where
      pick : (c : Chip) (end : ℕ) → verdict limits file ≡ done c end → (b : Bool) → file_fits (register_keys c) readings ≡ b
          → (words : List ℕ) × (read : List ℕ) × (find limits 0 file attention words read ≡ find_file limits file attention readings)
      pick c end v true e = (words_of (register_keys c) readings, read_of (register_keys c) readings, fits_is limits file bytes v attention readings e)
      pick c end v false e = ([], [], misfit_is limits file bytes v attention readings e)

      go : (q : Parsed Chip) → verdict limits file ≡ q → (words : List ℕ) × (read : List ℕ) × (find limits 0 file attention words read ≡ find_file limits file attention readings)
      go (done c end) v = pick c end v (file_fits (register_keys c) readings) refl
      go (refused n p) v = ([], [], file_refused v [] [])

  module _ (list : List ℕ) where
    pub answer_file : {n p : ℕ} → verdict limits file ≡ refused n p → refused_outcome n p list ≡ isolate_file limits file attention readings list
    unfolding isolate_file find_file find_file_in in_list
    answer_file v = rw v

    -- The answer never is 43.
    pub file_number : Bytes file → (isolate_file limits file attention readings list).number ≡ 43 → ⊥
    unfolding isolate isolate_file
    file_number bytes e =
        let x = some_readings bytes in
        isolate_number limits file attention x.0 x.1 list (ap (λ o. (in_list list o).number) x.2 ∙ e)

-- The first names have places where all have.
pub first_in : (keys : List ℕ) {m w : ℕ} → m ≤ length keys → m ≤ w → length (take m keys) ≤ w
first_in keys {m} h k = omega (arith, length-take-le m keys h)

-- The tables for the readings
module _ (m words read : ℕ) where
  pub short_words : words < m → leb m words ≡ both_fit m words read
  unfolding both_fit
  short_words h = rw (lt-leb _ _ h)

  pub read_fits : m ≤ words → leb m read ≡ both_fit m words read
  unfolding both_fit
  read_fits h = rw (le-leb _ _ h)

  module _ {t : Bool} (e : t ≡ both_fit m words read) (b : Bool) (x s : Outcome) where
    -- Where they have room, the others decide.
    pub readings_room : t ≡ true → {o : Outcome} → o ≡ cond b x s → o ≡ cond (both_fit m words read && b) x s
    readings_room h d = d ∙ ap (λ a. cond (a && b) x s) (sym h ∙ e)

    pub readings_answer : t ≡ true → {y : Outcome} → y ≡ x → {o : Outcome} → o ≡ cond b y s → o ≡ cond (both_fit m words read && b) x s
    readings_answer h k d = readings_room h (d ∙ ap (λ x. cond b x s) k)

    pub readings_short : t ≡ false → s ≡ cond (both_fit m words read && b) x s
    readings_short h = ap (λ a. cond (a && b) x s) (sym h ∙ e)

  pub both_in : {t : Bool} → t ≡ both_fit m words read → t ≡ true → (m ≤ words) × (m ≤ read)
  unfolding both_fit
  both_in e h = let r = sym e ∙ h in (leb-true _ _ (and_left _ _ r), leb-true _ _ (and_right (leb m words) _ r))

  pub readings_in : m ≤ words → m ≤ read → (b : Bool) (x s : Outcome) {o : Outcome} → o ≡ cond (both_fit m words read && b) x s → o ≡ cond b x s
  unfolding both_fit
  readings_in p q b x s e = rw (le-leb _ _ p, le-leb _ _ q) at e

-- A class of tables, with those for the readings
pub class-room : (limits : Limits) (k : Class) (file : List ℕ) {o : Outcome} (x s : Outcome)
    → o ≡ cond (both_fit (length (replicate {A = ℕ} k.registers 0)) (length (replicate {A = ℕ} k.registers 0)) (length (replicate {A = ℕ} k.registers 0))
    && room_in limits (lengths_of (replicate k.registers 0) (replicate k.registers 0) (replicate k.nodes 0) (replicate k.nodes 0) (replicate k.nodes 0) (replicate (k.nodes * 64) 0)) (length (replicate {A = ℕ} k.nodes 0)) file) x s
    → o ≡ cond (room_for limits (class_room k) file) x s
unfolding both_fit
class-room limits k file x s e =
    let h : leb (length (replicate {A = ℕ} k.registers 0)) (length (replicate {A = ℕ} k.registers 0)) ≡ true = le-leb _ _ (let z : length (replicate {A = ℕ} k.registers 0) ≤ length (replicate {A = ℕ} k.registers 0) = omega arith in z) in
    class_outcome limits k file x s (rw h at e)
