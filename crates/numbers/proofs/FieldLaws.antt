-- The laws of a number at a place.
use Prim.Native.Nat.{ℕ, suc, ◌+◌, ◌*◌, ◌-◌, ◌^◌, ◌≤◌, ◌<◌}
use mathlib.Core.Path.{◌≡◌, refl, ap}
use mathlib.Core.List.{List}
use mathlib.Core.Bool.{Bool, true, false, cond}
use native.Mathlib.Nat.{add-sub_cancel_left, lt_of_lt_of_le, pow-le-pow_right}
use native.Mathlib.Omega.{arith}
use borrow.Author.Tests.{le-leb, lt-leb, leb-false}
use lib.ListN.{length, take, drop, get_or, length-take}
use lib.Seq.{drop-cons, drop-drop}
use lib.Dec.{leb, lit<, lit≤}
use Rattle.numbers.specs.declared.Width.{Width}
use Rattle.numbers.specs.declared.Width.TheVariants.{Two, Three, Four, Eight}
use Rattle.numbers.specs.BigEndian.{big_endian, Bytes}
use Rattle.numbers.specs.Field.{size_of, present, field, read_with, not_whole, number_at}
use Rattle.numbers.proofs.BigEndianLaws.{bytes_take, bytes_drop, big_endian-lt}

pub present_yes : (s : List ℕ) (at n : ℕ) → at + n ≤ length s → present s at n ≡ true
unfolding present
present_yes s at n h = le-leb _ _ h

pub present_no : (s : List ℕ) (at n : ℕ) → length s < at + n → present s at n ≡ false
unfolding present
present_no s at n h = lt-leb _ _ h

-- A field of n bytes is below 256 ^ n.
pub field_lt : (s : List ℕ) (at n : ℕ) → Bytes s → field s at n < 256 ^ n
unfolding field
field_lt s at n h =
    lt_of_lt_of_le
    (big_endian-lt (take n (drop at s)) (bytes_take n (drop at s) (bytes_drop at s h)))
    (pow-le-pow_right (lit< tt) (rw length-take (omega arith)))

-- A field of one byte is that byte.
pub field-byte : (s : List ℕ) (at : ℕ) → at < length s → field s at 1 ≡ get_or s at 0
unfolding field big_endian
field-byte s at h = rw (drop-cons s at 0 h) (omega arith)

-- A field of two bytes.
pub field_two : (s : List ℕ) (at : ℕ) → at + 2 ≤ length s → field s at 2 ≡ get_or s at 0 * 256 + get_or s (suc at) 0
unfolding field big_endian
field_two s at h = rw (drop-cons s at 0 (omega arith), drop-cons s (suc at) 0 (omega arith)) (omega arith)

-- A field of what follows a place.
pub field-drop : (s : List ℕ) (at k n : ℕ) → field (drop at s) k n ≡ field s (at + k) n
unfolding field
field-drop s at k n = rw drop-drop

pub size-le : (w : Width) → size_of w ≤ 8
size-le Two = lit≤ tt
size-le Three = lit≤ tt
size-le Four = lit≤ tt
size-le Eight = lit≤ tt

-- The number at a place for each width, from one fact over the number of bytes.
pub number_cut : (s : List ℕ) (at : ℕ) {n m : ℕ} → n ≡ m → length s < at + n → not_whole at ≡ number_at s at m
unfolding number_at
number_cut s at {n} {m} e h = let k : length s < at + m = omega arith in simp (present_no s at m k)

pub number_whole : (s : List ℕ) (at : ℕ) {n m v : ℕ} → n ≡ m → v ≡ big_endian (take (at + n - at) (drop at s)) → at + n ≤ length s
    → read_with v (at + n) ≡ number_at s at m
unfolding number_at field
number_whole s at {n} {m} {v} g e h =
    let k : at + m ≤ length s = omega arith in
    simp (present_yes s at m k, e, add-sub_cancel_left, g)

pub byte_whole : (s : List ℕ) (at : ℕ) → at < length s → read_with (get_or s at 0) (at + 1) ≡ number_at s at 1
unfolding number_at
byte_whole s at h = let k : at + 1 ≤ length s = omega arith in simp (present_yes s at 1 k, field-byte s at h)

-- What an answer says of the field: with a value its bytes are there, and without one they are not.
module _ (s : List ℕ) (at n : ℕ) where
  pub record Whole (v m : ℕ) : Type 0 where
    pub there : present s at n ≡ true
    pub is : v ≡ field s at n
    pub after : m ≡ at + n

  pub read_means : {v m : ℕ} → read_with v m ≡ number_at s at n → Whole v m
  unfolding number_at
  read_means {v} {m} = go (present s at n) refl
    where
      go : (b : Bool) → present s at n ≡ b → read_with v m ≡ cond b (read_with (field s at n) (at + n)) (not_whole at) → Whole v m
      go true p e = record { there = p; is = ap (λ r. r.value) e; after = ap (λ r. r.next) e }
      go false p e = let z : ◌≡◌ {A = ℕ} 0 2 = ap (λ r. r.number) e in absurd (omega arith)

  pub cut_means : not_whole at ≡ number_at s at n → length s < at + n
  unfolding number_at present
  cut_means = go (leb (at + n) (length s)) refl
    where
      go : (b : Bool) → leb (at + n) (length s) ≡ b → not_whole at ≡ cond b (read_with (field s at n) (at + n)) (not_whole at) → length s < at + n
      go true p e = let z : ◌≡◌ {A = ℕ} 2 0 = ap (λ r. r.number) e in absurd (omega arith)
      go false p e = leb-false _ _ p
