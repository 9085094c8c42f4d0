-- Writing and reading: exactly one file for each set of readings.
use Prim.Native.Nat.{ℕ, zero, suc, ◌+◌, ◌*◌, ◌^◌, ◌≤◌, ◌<◌}
use mathlib.Core.Bool.{true}
use mathlib.Core.List.{List, [], ◌∷◌, ◌++◌, append_assoc}
use mathlib.Core.Path.{◌≡◌, refl, sym, ◌∙◌, ap}
use native.Mathlib.Omega.{arith}
use borrow.Author.Tests.{eq-eqb, ltb-false}
use lib.Dec.{lit<, ltb}
use lib.ListN.{length, take, drop, get_or, length-drop, take-append-drop}
use lib.Seq.{drop-drop, length-take-le}
use Rattle.numbers.specs.BigEndian.{big_endian, bytes_of, Bytes}
use Rattle.numbers.specs.Field.{field}
use Rattle.numbers.proofs.BigEndianLaws.{bytes_take, bytes_drop, read_written, written_read, bytes_bytes}
use Rattle.numbers.proofs.Bools.{and_both}
use Rattle.format.specs.Lookup.{some}
use Rattle.format.specs.Rules.{Every}
use Rattle.format.proofs.EveryLaws.{or-false_left, or-false_right}
use Rattle.readings.specs.ReadingsFile.{reading_record, file_of, key_file, Holdable, read_byte, value_in, records_fit, file_fits, each_record, words_of, read_of}
use Rattle.readings.proofs.RecordLaws.{file_size, file_records}
use Rattle.readings.proofs.DecodedLaws.{Fits, fits_in, first_fits, others_fit}

-- The record of a key, and what is read of it.
module _ (k r w : ℕ) (rest : List ℕ) where
  abbrev written_record : List ℕ
  written_record = reading_record (bytes_of 4 k) r w ++ rest

  record_name : k < 256 ^ 4 → field written_record 0 4 ≡ k
  unfolding reading_record bytes_of field
  record_name h = read_written 4 k h

  record-byte : r < 256 → read_byte written_record ≡ r
  unfolding reading_record bytes_of field read_byte
  record-byte h = read_written 1 r h

  record_zeros : field written_record 5 3 ≡ 0
  unfolding reading_record bytes_of field
  record_zeros = read_written 3 0 (lit< tt)

  record_value : w < 256 ^ 8 → value_in written_record ≡ w
  unfolding reading_record bytes_of field value_in
  record_value h = read_written 8 w h

  record_rest : drop 16 written_record ≡ rest
  unfolding reading_record bytes_of
  record_rest = refl

  record-length : length written_record ≡ 16 + length rest
  unfolding reading_record bytes_of
  record-length = omega arith

  record-fits : k < 256 ^ 4 → r ≤ 1 → w < 256 ^ 8 → (r ≡ 0 → w ≡ 0) → Fits k written_record
  record-fits hk hr hw z =
      let b : read_byte written_record ≡ r = record-byte (omega arith) in
      record { name = record_name hk; byte = omega arith; zeros = record_zeros; unread = λ e. record_value hw ∙ z (sym b ∙ e) }

-- The first of some readings, and the others.
holdable_first : {n r w : ℕ} {words read : List ℕ} → Holdable n (w ∷ words) (r ∷ read) → r ≤ 1
unfolding some
holdable_first h = ltb-false 1 _ (or-false_left _ _ h.read_bytes)

holdable_others : {n r w : ℕ} {words read : List ℕ} → Holdable (suc n) (w ∷ words) (r ∷ read) → Holdable n words read
unfolding some
holdable_others {r = r} h =
    record {
      words_many = omega (arith, h.words_many);
      read_many = omega (arith, h.read_many);
      read_bytes = or-false_right (ltb 1 r) _ h.read_bytes;
      unread-zero = λ i. h.unread-zero (suc i);
      words_small = λ i. h.words_small (suc i);
    }

-- Writing readings that a file can hold gives a file that fits, and reading it gives them back.
pub record Back (keys words read : List ℕ) : Type 0 where
  pub size : length (key_file keys words read) ≡ 16 * length keys
  pub records : records_fit keys (key_file keys words read) ≡ true
  pub words_back : words_of keys (key_file keys words read) ≡ words
  pub read_back : read_of keys (key_file keys words read) ≡ read

back : (keys words read : List ℕ) → Every (λ k. k < 256 ^ 4) keys → Holdable (length keys) words read → Back keys words read
unfolding key_file file_of records_fit each_record Every
back [] [] [] s h = record { size = refl; records = refl; words_back = refl; read_back = refl }
back [] (w ∷ words) read s h = absurd (omega (arith, h.words_many))
back [] [] (r ∷ read) s h = absurd (omega (arith, h.read_many))
back (k ∷ keys) [] read s h = absurd (omega (arith, h.words_many))
back (k ∷ keys) (w ∷ words) [] s h = absurd (omega (arith, h.read_many))
back (k ∷ keys) (w ∷ words) (r ∷ read) s h =
    let hr : r ≤ 1 = holdable_first h in
    let hw : w < 256 ^ 8 = h.words_small 0 in
    let b : Back keys words read = back keys words read s.1 (holdable_others h) in
    let rest = key_file keys words read in
    let f = record-fits k r w rest s.0 hr hw (h.unread-zero 0) in
    record {
      size = omega (arith, record-length k r w rest, b.size);
      records = and_both (fits_in k _ f) (rw (record_rest k r w rest) b.records);
      words_back = rw (record_value k r w rest hw, record_rest k r w rest, b.words_back);
      read_back = rw (record-byte k r w rest (omega arith), record_rest k r w rest, b.read_back);
    }

module _ (keys words read : List ℕ) (small : Every (λ k. k < 256 ^ 4) keys) (h : Holdable (length keys) words read) where
  pub written_fits : file_fits keys (key_file keys words read) ≡ true
  unfolding file_fits
  written_fits = let b = back keys words read small h in and_both (eq-eqb _ _ b.size) b.records

  pub written_words : words_of keys (key_file keys words read) ≡ words
  written_words = (back keys words read small h).words_back

  pub written_read_bytes : read_of keys (key_file keys words read) ≡ read
  written_read_bytes = (back keys words read small h).read_back

-- What is written are bytes.
bytes-append : (xs ys : List ℕ) → Bytes xs → Bytes ys → Bytes (xs ++ ys)
bytes-append [] ys h k i = k i
bytes-append (x ∷ xs) ys h k zero = h 0
bytes-append (x ∷ xs) ys h k (suc i) = bytes-append xs ys (λ j. h (suc j)) k i

record-bytes : (k r w : ℕ) → Bytes (reading_record (bytes_of 4 k) r w)
unfolding reading_record
record-bytes k r w =
    bytes-append (bytes_of 4 k) (bytes_of 1 r ++ (bytes_of 3 0 ++ bytes_of 8 w)) (bytes_bytes 4 k)
    (bytes-append (bytes_of 1 r) (bytes_of 3 0 ++ bytes_of 8 w) (bytes_bytes 1 r) (bytes-append (bytes_of 3 0) (bytes_of 8 w) (bytes_bytes 3 0) (bytes_bytes 8 w)))

pub written_bytes : (keys words read : List ℕ) → Bytes (key_file keys words read)
unfolding key_file file_of
written_bytes [] words read = λ i. lit< tt
written_bytes (k ∷ keys) words read =
    bytes-append (reading_record (bytes_of 4 k) (get_or read 0 0) (get_or words 0 0)) (key_file keys (drop 1 words) (drop 1 read))
    (record-bytes k (get_or read 0 0) (get_or words 0 0)) (written_bytes keys (drop 1 words) (drop 1 read))

-- A field that is wholly there is written as the bytes that it was read from.
field_written : (s : List ℕ) (at n : ℕ) → Bytes s → at + n ≤ length s → bytes_of n (field s at n) ≡ take n (drop at s)
unfolding field
field_written s at n h l =
    let e : length (take n (drop at s)) ≡ n = length-take-le n (drop at s) (omega (arith, length-drop at s)) in
    ap (λ m. bytes_of m (big_endian (take n (drop at s)))) (sym e) ∙ written_read (take n (drop at s)) (bytes_take n (drop at s) (bytes_drop at s h))

part_next : (s : List ℕ) (at n : ℕ) → take n (drop at s) ++ drop (at + n) s ≡ drop at s
part_next s at n = rw (← drop-drop n at s) (take-append-drop n (drop at s))

record_again : (k : ℕ) (s : List ℕ) → Bytes s → 16 ≤ length s → Fits k s → reading_record (bytes_of 4 k) (read_byte s) (value_in s) ++ drop 16 s ≡ s
unfolding reading_record read_byte value_in
record_again k s h l f =
    let a : bytes_of 4 k ≡ take 4 (drop 0 s) = ap (bytes_of 4) (sym f.name) ∙ field_written s 0 4 h (omega arith) in
    let z : bytes_of 3 0 ≡ take 3 (drop 5 s) = ap (bytes_of 3) (sym f.zeros) ∙ field_written s 5 3 h (omega arith) in
    let b : bytes_of 1 (field s 4 1) ≡ take 1 (drop 4 s) = field_written s 4 1 h (omega arith) in
    let v : bytes_of 8 (field s 8 8) ≡ take 8 (drop 8 s) = field_written s 8 8 h (omega arith) in
    rw (a, b, z, v) (simp append_assoc (rw (part_next s 8 8, part_next s 5 3, part_next s 4 1) (part_next s 0 4)))

-- A file that fits is the one that is written of what it gives.
again : (keys bytes : List ℕ) → Bytes bytes → length bytes ≡ 16 * length keys → records_fit keys bytes ≡ true
    → key_file keys (words_of keys bytes) (read_of keys bytes) ≡ bytes
unfolding key_file file_of each_record
again [] [] h l e = refl
again [] (b ∷ bytes) h l e = absurd (omega arith)
again (k ∷ keys) bytes h l e =
    let r = again keys (drop 16 bytes) (bytes_drop 16 bytes h) (omega (arith, length-drop 16 bytes)) (others_fit k keys bytes e) in
    ap (λ t. reading_record (bytes_of 4 k) (read_byte bytes) (value_in bytes) ++ t) r ∙ record_again k bytes h (omega arith) (first_fits k keys bytes e)

pub read_is_written : (keys bytes : List ℕ) → Bytes bytes → file_fits keys bytes ≡ true → key_file keys (words_of keys bytes) (read_of keys bytes) ≡ bytes
read_is_written keys bytes h e = again keys bytes h (file_size keys bytes e) (file_records keys bytes e)
