-- The first records of some bytes: they are those of the first bytes alone, and have these bytes again. The records of a tree are bytes.
use Prim.Native.Nat.{ℕ, zero, suc, ◌+◌, ◌*◌, ◌/◌, ◌≤◌}
use mathlib.Core.List.{List, [], ◌∷◌, ◌++◌}
use mathlib.Core.Path.{◌≡◌, refl, sym, ◌∙◌, ap}
use native.Mathlib.Omega.{arith}
use lib.Dec.{lit<}
use lib.ListN.{length, take, drop, length-append, length-drop, take-append-drop}
use lib.Seq.{length-take-le, take-append-le, drop-append-le}
use Rattle.numbers.specs.BigEndian.{Bytes, big_endian, bytes_of}
use Rattle.numbers.specs.Field.{field}
use Rattle.numbers.proofs.BigEndianLaws.{bytes_take, bytes_bytes}
use Rattle.format.specs.Lookup.{gathered}
use Rattle.format.specs.Tree.{Chip}
use Rattle.records.proofs.AgainLaws.{length_from, from_again}
use Rattle.records.specs.declared.Record.{Record}
use Rattle.records.specs.Elements.{elements, records}
use Rattle.records.specs.Record.{record_bytes, record_at, records_from, whole_records, records_in}

-- What follows some bytes does not change what is read from them.
module _ (t more : List ℕ) where
  field_front : (at n : ℕ) → at + n ≤ length t → field (t ++ more) at n ≡ field t at n
  unfolding field
  field_front at n h =
      ap (λ x. big_endian (take n x)) (drop-append-le at t more (omega arith))
      ∙ ap big_endian (take-append-le n (drop at t) more (omega (arith, length-drop at t)))

  record_front : (at : ℕ) → at + 16 ≤ length t → record_at (t ++ more) at ≡ record_at t at
  unfolding record_at
  record_front at h =
      rw (
        field_front at 1 (omega arith),
        field_front (at + 1) 1 (omega arith),
        field_front (at + 2) 1 (omega arith),
        field_front (at + 3) 1 (omega arith),
        field_front (at + 4) 4 (omega arith),
        field_front (at + 8) 8 (omega arith),
      )

  from_front : (n at : ℕ) → at + n * 16 ≤ length t → records_from (t ++ more) n at ≡ records_from t n at
  unfolding records_from
  from_front zero at h = refl
  from_front (suc n) at h = rw (record_front at (omega arith), from_front n (at + 16) (omega arith))

take_from : (s : List ℕ) (k n at : ℕ) → k ≤ n → take k (records_from s n at) ≡ records_from s k at
unfolding records_from
take_from s zero n at h = refl
take_from s (suc k) zero at h = absurd (omega arith)
take_from s (suc k) (suc n) at h = ap (λ x. record_at s at ∷ x) (take_from s k n (at + 16) (omega arith))

-- The first k records of bytes that begin with t, which is as long as k records.
pub front : (k : ℕ) (t more : List ℕ) → length t ≡ k * 16 → take k (records_in (t ++ more)) ≡ records_from t k 0
unfolding records_in whole_records
front k t more e =
    let h : k ≤ length (t ++ more) / 16 = omega (arith, length-append t more) in
    take_from (t ++ more) k (length (t ++ more) / 16) 0 h ∙ from_front t more k 0 (omega arith)

pub length_in : (s : List ℕ) → length (records_in s) ≡ length s / 16
unfolding records_in whole_records
length_in s = length_from s (length s / 16) 0

-- The bytes of the first k records, where there are so many, are the first bytes.
pub front_bytes : (s : List ℕ) → Bytes s → (k : ℕ) → k * 16 ≤ length s → gathered record_bytes (take k (records_in s)) ≡ take (k * 16) s
front_bytes s bytes k h =
    let t = take (k * 16) s in
    let l : length t ≡ k * 16 = length-take-le (k * 16) s h in
    let w : take k (records_in s) ≡ records_from t k 0 =
    ap (λ x. take k (records_in x)) (sym (take-append-drop (k * 16) s)) ∙ front k t (drop (k * 16) s) l in
    let e : 0 + k * 16 ≡ length t = omega arith in
    ap (gathered record_bytes) w ∙ from_again t (bytes_take (k * 16) s bytes) k 0 e

-- Two byte lists that begin alike have the same first records.
pub front_same : (k : ℕ) (s x more : List ℕ) → k * 16 ≤ length s → x ≡ take (k * 16) s ++ more → take k (records_in x) ≡ take k (records_in s)
front_same k s x more h e =
    let t = take (k * 16) s in
    let l : length t ≡ k * 16 = length-take-le (k * 16) s h in
    ap (λ y. take k (records_in y)) e ∙ front k t more l ∙ sym (front k t (drop (k * 16) s) l)
    ∙ ap (λ y. take k (records_in y)) (take-append-drop (k * 16) s)

-- The records of a tree are bytes.

bytes-append : (xs ys : List ℕ) → Bytes xs → Bytes ys → Bytes (xs ++ ys)
bytes-append [] ys h k i = k i
bytes-append (x ∷ xs) ys h k zero = h 0
bytes-append (x ∷ xs) ys h k (suc i) = bytes-append xs ys (λ j. h (suc j)) k i

record-bytes : (r : Record) → Bytes (record_bytes r)
unfolding record_bytes
record-bytes r =
    bytes-append (bytes_of 1 r.kind) _ (bytes_bytes 1 r.kind)
    (bytes-append (bytes_of 1 r.form) _ (bytes_bytes 1 r.form)
    (bytes-append (bytes_of 1 r.amount) _ (bytes_bytes 1 r.amount)
    (bytes-append (bytes_of 1 r.number) _ (bytes_bytes 1 r.number)
    (bytes-append (bytes_of 4 r.id) _ (bytes_bytes 4 r.id) (bytes_bytes 8 r.value)))))

all_bytes : (rs : List Record) → Bytes (gathered record_bytes rs)
unfolding gathered
all_bytes [] = λ i. lit< tt
all_bytes (r ∷ rs) = bytes-append (record_bytes r) (gathered record_bytes rs) (record-bytes r) (all_bytes rs)

pub records_bytes : (c : Chip) → Bytes (records c)
unfolding records
records_bytes c = all_bytes (elements c)
