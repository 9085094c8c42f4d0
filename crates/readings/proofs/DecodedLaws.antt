-- What holds of the readings that a file gives.
use Prim.Native.Nat.{ℕ, zero, suc, ◌^◌, ◌≤◌, ◌<◌}
use mathlib.Core.Bool.{true, false}
use mathlib.Core.List.{List, [], ◌∷◌}
use mathlib.Core.Path.{◌≡◌, refl}
use native.Mathlib.Omega.{arith}
use borrow.Author.Tests.{le-ltb}
use lib.Dec.{lit<, ltb}
use lib.ListN.{length, drop, get_or}
use Rattle.numbers.specs.Field.{field}
use Rattle.numbers.specs.BigEndian.{Bytes}
use Rattle.numbers.proofs.BigEndianLaws.{bytes_drop}
use Rattle.numbers.proofs.Bools.{and_left, and_right}
use Rattle.numbers.proofs.FieldLaws.{field_lt}
use Rattle.format.specs.Lookup.{some}
use Rattle.readings.specs.ReadingsFile.{Holdable, read_byte, value_in, record_fits, records_fit, file_fits, each_record, words_of, read_of}
use Rattle.readings.proofs.RecordLaws.{each-length, file_records}

-- The four facts of a record for a key.
pub record Fits (key : ℕ) (bs : List ℕ) : Type 0 where
  pub name : field bs 0 4 ≡ key
  pub byte : read_byte bs ≤ 1
  pub zeros : field bs 5 3 ≡ 0
  pub unread : read_byte bs ≡ 0 → value_in bs ≡ 0

module _ (key : ℕ) (bs : List ℕ) where
  pub fits_out : record_fits key bs ≡ true → Fits key bs
  unfolding record_fits
  fits_out e = record { name = grind arith; byte = grind arith; zeros = grind arith; unread = λ z. grind arith }

  pub fits_in : Fits key bs → record_fits key bs ≡ true
  unfolding record_fits
  fits_in f = grind (arith, f.unread)

-- Record after record.

abbrev pub Fit : List ℕ → List ℕ → Type 0
Fit keys bytes = records_fit keys bytes ≡ true

pub first_fits : (k : ℕ) (keys bytes : List ℕ) → Fit (k ∷ keys) bytes → Fits k bytes
unfolding records_fit
first_fits k keys bytes e = fits_out k bytes (and_left _ _ e)

pub others_fit : (k : ℕ) (keys bytes : List ℕ) → Fit (k ∷ keys) bytes → Fit keys (drop 16 bytes)
unfolding records_fit
others_fit k keys bytes e = and_right (record_fits k bytes) _ e

read_below : (keys bytes : List ℕ) → Fit keys bytes → some (ltb 1) (read_of keys bytes) ≡ false
unfolding each_record some
read_below [] bytes e = refl
read_below (k ∷ keys) bytes e =
    rw (le-ltb 1 (read_byte bytes) (first_fits k keys bytes e).byte) (read_below keys (drop 16 bytes) (others_fit k keys bytes e))

zero_unread : (keys bytes : List ℕ) → Fit keys bytes → (i : ℕ) → get_or (read_of keys bytes) i 0 ≡ 0 → get_or (words_of keys bytes) i 0 ≡ 0
unfolding each_record
zero_unread [] bytes e i z = refl
zero_unread (k ∷ keys) bytes e zero z = (first_fits k keys bytes e).unread z
zero_unread (k ∷ keys) bytes e (suc i) z = zero_unread keys (drop 16 bytes) (others_fit k keys bytes e) i z

words_below : (keys bytes : List ℕ) → Bytes bytes → (i : ℕ) → get_or (words_of keys bytes) i 0 < 256 ^ 8
unfolding each_record value_in
words_below [] bytes h i = lit< tt
words_below (k ∷ keys) bytes h zero = field_lt bytes 8 8 h
words_below (k ∷ keys) bytes h (suc i) = words_below keys (drop 16 bytes) (bytes_drop 16 bytes h) i

-- A file that fits gives readings that a file can hold: one entry for each key, every read byte 0 or 1, and an unread word zero.
pub decoded_holdable : (keys bytes : List ℕ) → Bytes bytes → file_fits keys bytes ≡ true → Holdable (length keys) (words_of keys bytes) (read_of keys bytes)
decoded_holdable keys bytes h e =
    record {
      words_many = each-length value_in keys bytes;
      read_many = each-length read_byte keys bytes;
      read_bytes = read_below keys bytes (file_records keys bytes e);
      unread-zero = zero_unread keys bytes (file_records keys bytes e);
      words_small = words_below keys bytes h;
    }
