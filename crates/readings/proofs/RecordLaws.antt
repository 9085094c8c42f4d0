-- The laws of a record, of records one after another, and of decoding.
use Prim.Native.Nat.{ℕ, suc, ◌+◌, ◌*◌, ◌≤◌, ◌<◌}
use mathlib.Core.Bool.{true, false, ◌&&◌}
use mathlib.Core.List.{List, [], ◌∷◌, ◌++◌}
use Rattle.std.specs.Prelude.{Ok, Err}
use mathlib.Core.Path.{◌≡◌, refl, sym, ◌∙◌, ap}
use native.Mathlib.Numerals.{add-one}
use native.Mathlib.Omega.{arith}
use borrow.Author.Tests.{eqb-true}
use lib.Dec.{eqb, lit≤}
use lib.ListN.{length, drop, get_or, set, length-drop, length-append, drop_of_length-le}
use lib.Seq.{drop-append_seam, drop-cons}
use Rattle.std.proofs.lemmas.List.{take-append-le, drop-append-le}
use Rattle.numbers.specs.BigEndian.{big_endian}
use Rattle.numbers.specs.Field.{field}
use Rattle.numbers.proofs.Bools.{and_left, and_right}
use Rattle.numbers.proofs.FieldLaws.{field-byte}
use Rattle.format.specs.declared.Refusal.{Refusal}
use Rattle.format.proofs.NumberedLaws.{kind_some}
use Rattle.tables.specs.Tables.{written}
use Rattle.tables.proofs.TablesLaws.{written_front}
use Rattle.readings.specs.ReadingsFile.{read_byte, value_in, record_fits, records_fit, file_fits, each_record, words_of, read_of, decodes, decoded_values, decoding, lent_after}

-- The read byte of a record.
pub read_is : (s : List ℕ) → length s ≡ 16 → read_byte s ≡ get_or s 4 0
unfolding read_byte
read_is s h = field-byte s 4 (omega arith)

-- A record that more follows: it fits a key, and has a read byte and a value, as the bytes do that it begins.
module _ (r rest : List ℕ) (h : length r ≡ 16) where
  begun : (at n : ℕ) → at + n ≤ 16 → field r at n ≡ field (r ++ rest) at n
  unfolding field
  begun at n l =
      let a : at ≤ length r = omega arith in
      let b : n ≤ length (drop at r) = omega (arith, length-drop at r) in
      ap big_endian (sym (rw drop-append-le (take-append-le n (drop at r) rest b)))

  value_begun : value_in r ≡ value_in (r ++ rest)
  unfolding value_in
  value_begun = begun 8 8 (lit≤ tt)

  read_begun : read_byte r ≡ read_byte (r ++ rest)
  unfolding read_byte
  read_begun = begun 4 1 (lit≤ tt)

  fits_begun : (key : ℕ) → record_fits key r ≡ record_fits key (r ++ rest)
  unfolding record_fits
  fits_begun key = rw (begun 0 4 (lit≤ tt), begun 5 3 (lit≤ tt), value_begun, read_begun)

  after : drop 16 (r ++ rest) ≡ rest
  after = ap (λ n. drop n (r ++ rest)) (sym h) ∙ drop-append_seam r rest

-- The first record decides, or those that follow it.
pub more_fit : (key : ℕ) (keys r rest : List ℕ) → length r ≡ 16 → records_fit (key ∷ keys) (r ++ rest) ≡ record_fits key r && records_fit keys rest
unfolding records_fit
more_fit key keys r rest h = rw (after r rest h, fits_begun r rest h key)

-- Where no key is left, every record was one for its key.
pub none_fit : (keys bytes : List ℕ) → length keys ≡ 0 → records_fit keys bytes ≡ true
unfolding records_fit
none_fit [] bytes h = refl
none_fit (k ∷ keys) bytes h = absurd (omega arith)

pub ruleset fitting = (more_fit, none_fit, length-append)

-- What is written: with what is wanted of the records to come, the first of which goes to place i.
module _ (want : List ℕ → ℕ) (same : (r rest : List ℕ) → length r ≡ 16 → want r ≡ want (r ++ rest)) where
  put_more : (t keys r rest : List ℕ) (i : ℕ) → i < length keys → length r ≡ 16
      → written t i (each_record want (drop i keys) (r ++ rest)) ≡ written (set t i (want r)) (i + 1) (each_record want (drop (i + 1) keys) rest)
  unfolding each_record written
  put_more t keys r rest i l h = rw (drop-cons keys i 0 l, add-one, after r rest h, ← same r rest h)

pub words_more : (t keys r rest : List ℕ) (i : ℕ) → i < length keys → length r ≡ 16
    → written t i (words_of (drop i keys) (r ++ rest)) ≡ written (set t i (value_in r)) (i + 1) (words_of (drop (i + 1) keys) rest)
words_more = put_more value_in value_begun

pub reads_more : (t keys r rest : List ℕ) (i : ℕ) → i < length keys → length r ≡ 16
    → written t i (read_of (drop i keys) (r ++ rest)) ≡ written (set t i (read_byte r)) (i + 1) (read_of (drop (i + 1) keys) rest)
reads_more = put_more read_byte read_begun

-- Where no key is left, the table is what it is to be.
pub put_end : (want : List ℕ → ℕ) (t keys bytes : List ℕ) (i : ℕ) → length keys ≤ i → written t i (each_record want (drop i keys) bytes) ≡ t
unfolding each_record written
put_end want t keys bytes i h = rw (drop_of_length-le keys h)

pub ruleset putting = (words_more, reads_more, put_end, read_is, length-append)

pub each-length : (want : List ℕ → ℕ) (keys bytes : List ℕ) → length (each_record want keys bytes) ≡ length keys
unfolding each_record
each-length want [] bytes = refl
each-length want (k ∷ keys) bytes = ap suc (each-length want keys (drop 16 bytes))

-- The size of a file, and its records.
module _ (keys bytes : List ℕ) where
  pub file_size : file_fits keys bytes ≡ true → length bytes ≡ 16 * length keys
  unfolding file_fits
  file_size e = eqb-true _ _ (and_left _ _ e)

  pub file_records : file_fits keys bytes ≡ true → records_fit keys bytes ≡ true
  unfolding file_fits
  file_records e = and_right (eqb (length bytes) (16 * length keys)) _ e

-- A list that has room, after what was decoded was written to it.
pub lent_written : (want : List ℕ → ℕ) (keys bytes lent : List ℕ) → length keys ≤ length lent
    → written lent 0 (each_record want keys bytes) ≡ lent_after true (each_record want keys bytes) lent
unfolding lent_after
lent_written want keys bytes lent h = written_front lent (each_record want keys bytes) (omega (arith, each-length want keys bytes))

-- Decoding: whether it succeeds, by its answer.
module _ (keys bytes words read : List ℕ) where
  pub decoded_yes : decoded_values (Ok tt) ≡ decoding keys bytes words read → decodes keys bytes words read ≡ true
  unfolding decoding decodes
  decoded_yes e = grind arith

  pub decoded_no : (r : Refusal) → decoded_values (Err r) ≡ decoding keys bytes words read → decodes keys bytes words read ≡ false
  unfolding decoding decodes
  decoded_no r e = grind (arith, kind_some)
