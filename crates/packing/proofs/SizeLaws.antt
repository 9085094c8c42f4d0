-- Packing one part after another, and how many bytes that makes.
use Prim.Native.Nat.{ℕ, zero, suc, ◌+◌, ◌-◌, ◌*◌, ◌≤◌}
use mathlib.Core.Bool.{Bool, true, false, cond}
use mathlib.Core.List.{List, [], ◌∷◌, ◌++◌, append_assoc}
use mathlib.Core.Path.{◌≡◌, refl, sym, ◌∙◌, ap}
use native.Mathlib.Omega.{arith}
use borrow.Author.Tests.{eq-eqb, ne_eqb}
use lib.Dec.{eqb}
use native.Mathlib.Nat.{add_assoc}
use lib.ListN.{length, take, drop, length-append}
use lib.Seq.{take-take}
use Rattle.std.proofs.lemmas.List.{drop-take}
use Rattle.numbers.specs.BigEndian.{big_endian}
use Rattle.numbers.specs.Field.{field}
use Rattle.numbers.proofs.FieldLaws.{field-drop}
use Rattle.format.specs.Fields.{address_size}
use Rattle.records.specs.declared.Record.{Record}
use Rattle.records.specs.declared.Element.{Element}
use Rattle.records.specs.Record.{record_at, records_from}
use Rattle.records.specs.Grammar.{element_of, expression_of, element}
use Rattle.records.specs.Sizes.{own_size}
use Rattle.packing.specs.declared.Counts.{Counts}
use Rattle.packing.specs.Packing.{own_bytes, Packed, packed_of, type_as, type_with, pack_one, pack}
use Rattle.packing.specs.Writing.{type_after, sizes}
use Rattle.packing.proofs.OwnLaws.{own-length, own_most}

-- How many bytes some records make.
pub pack_size : (t : ℕ) (rs : List Record) (p : Packed) → length (pack t rs p).bytes ≡ sizes t rs + length p.bytes
unfolding pack pack_one sizes
pack_size t [] p = omega arith
pack_size t (r ∷ rs) p =
    let q = pack (type_with t r) rs p in
    let own = own_bytes (address_size t) q.counts (element r) r in
    length-append own q.bytes
    ∙ omega (arith, own-length (address_size t) q.counts (element r) r, pack_size (type_with t r) rs p)

pub sizes_most : (t : ℕ) (rs : List Record) → sizes t rs ≤ 9 * length rs
unfolding sizes
sizes_most t [] = omega arith
sizes_most t (r ∷ rs) = omega (arith, own_most t (element r), sizes_most (type_with t r) rs)

-- What stands behind stays behind.
pub pack_behind : (t : ℕ) (rs : List Record) (c : Counts) (bs behind : List ℕ)
    → pack t rs (packed_of c (bs ++ behind)) ≡ packed_of (pack t rs (packed_of c bs)).counts ((pack t rs (packed_of c bs)).bytes ++ behind)
unfolding pack pack_one
pack_behind t [] c bs behind = refl
pack_behind t (r ∷ rs) c bs behind =
    let q = pack (type_with t r) rs (packed_of c bs) in
    rw (pack_behind (type_with t r) rs c bs behind)
    (ap (packed_of _) (sym (append_assoc (own_bytes (address_size t) q.counts (element r) r) q.bytes behind)))

-- The last record of some.
pub pack_last : (t : ℕ) (rs : List Record) (r : Record) (p : Packed) → pack t (rs ++ (r ∷ [])) p ≡ pack t rs (pack_one (type_after t rs) r p)
unfolding pack type_after
pack_last t [] r p = refl
pack_last t (x ∷ rs) r p = ap (pack_one t x) (pack_last (type_with t x) rs r p)

pub sizes_last : (t : ℕ) (rs : List Record) (r : Record) → sizes t (rs ++ (r ∷ [])) ≡ sizes t rs + own_size (address_size (type_after t rs)) (element r)
unfolding sizes type_after
sizes_last t [] r = omega arith
sizes_last t (x ∷ rs) r = omega (arith, sizes_last (type_with t x) rs r)

pub type_last : (t : ℕ) (rs : List Record) (r : Record) → type_after t (rs ++ (r ∷ [])) ≡ type_with (type_after t rs) r
unfolding type_after
type_last t [] r = refl
type_last t (x ∷ rs) r = type_last (type_with t x) rs r

-- Records at their places.
module _ (s : List ℕ) where
  pub from_last : (n at : ℕ) → records_from s (suc n) at ≡ records_from s n at ++ (record_at s (at + 16 * n) ∷ [])
  unfolding records_from
  from_last zero at = let e : at + 16 * 0 ≡ at = omega arith in rw e
  from_last (suc n) at =
      let e : at + 16 * suc n ≡ at + 16 + 16 * n = omega arith in
      rw e (ap (λ rs. record_at s at ∷ rs) (from_last n (at + 16)))

  pub from-length : (n at : ℕ) → length (records_from s n at) ≡ n
  unfolding records_from
  from-length zero at = refl
  from-length (suc n) at = ap suc (from-length n (at + 16))

  pub from-take : (k n at : ℕ) → k ≤ n → take k (records_from s n at) ≡ records_from s k at
  unfolding records_from
  from-take zero n at h = refl
  from-take (suc k) zero at h = absurd (omega (arith, h))
  from-take (suc k) (suc n) at h = ap (λ rs. record_at s at ∷ rs) (from-take k n (at + 16) (omega (arith, h)))

  pub from-drop : (k n at : ℕ) → k ≤ n → drop k (records_from s n at) ≡ records_from s (n - k) (at + 16 * k)
  unfolding records_from
  from-drop zero n at h = let e : n - 0 ≡ n = omega arith in let f : at + 16 * 0 ≡ at = omega arith in rw (e, f)
  from-drop (suc k) zero at h = absurd (omega (arith, h))
  from-drop (suc k) (suc n) at h =
      let e : suc n - suc k ≡ n - k = omega arith in
      let f : at + 16 * suc k ≡ at + 16 + 16 * k = omega arith in
      rw (e, f) (from-drop k n (at + 16) (omega (arith, h)))

  -- There is none.
  pub from_none : (n at : ℕ) → n ≤ 0 → records_from s n at ≡ []
  unfolding records_from
  from_none zero at h = refl
  from_none (suc n) at h = absurd (omega (arith, h))

-- The records of a part of some bytes.
field-take : (s : List ℕ) (m at n : ℕ) → at + n ≤ m → field (take m s) at n ≡ field s at n
unfolding field
field-take s m at n h =
    let l : n ≤ m - at = omega arith in
    let e : m ≡ at + (m - at) = omega arith in
    ap (λ k. big_endian (take n (drop at (take k s)))) e ∙ rw (drop-take, take-take n (m - at) (drop at s) l)

pub from_front : (s : List ℕ) (m n at : ℕ) → at + 16 * n ≤ m → records_from (take m s) n at ≡ records_from s n at
unfolding records_from record_at
from_front s m zero at h = refl
from_front s m (suc n) at h =
    rw (
      field-take s m at 1 (omega arith),
      field-take s m (at + 1) 1 (omega arith),
      field-take s m (at + 2) 1 (omega arith),
      field-take s m (at + 3) 1 (omega arith),
      field-take s m (at + 4) 4 (omega arith),
      field-take s m (at + 8) 8 (omega arith),
      from_front s m n (at + 16) (omega arith),
    )

pub from_behind : (s : List ℕ) (k n at : ℕ) → records_from (drop k s) n at ≡ records_from s n (k + at)
unfolding records_from record_at
from_behind s k zero at = refl
from_behind s k (suc n) at =
    simp (field-drop, from_behind s k n (at + 16), ← add_assoc)

-- Only a register changes the type.
module _ (t : ℕ) (r : Record) where
  kept : (b : Bool) (x y : Element) → type_as t r x ≡ t → type_as t r y ≡ t → type_as t r (cond b x y) ≡ t
  kept true x y p q = p
  kept false x y p q = q

  pub type_register : eqb r.kind 1 ≡ true → type_with t r ≡ r.form
  unfolding type_with element_of
  type_register e = rw e

  pub type_other : eqb r.kind 1 ≡ false → type_with t r ≡ t
  unfolding type_with element_of expression_of
  type_other e =
      rw e
      (kept (eqb r.kind 2) _ _ refl
      (kept (eqb r.kind 3) _ _ refl
      (kept (eqb r.kind 4) _ _ refl
      (kept (eqb r.kind 5) _ _ refl
      (kept (eqb r.kind 6) _ _ refl
      (kept (eqb r.kind 7) _ _
      (kept (eqb r.form 1) _ _ refl
      (kept (eqb r.form 2) _ _ refl
      (kept (eqb r.form 16) _ _ refl
      (kept (eqb r.form 17) _ _ refl
      (kept (eqb r.form 18) _ _ refl
      (kept (eqb r.form 19) _ _ refl
      (kept (eqb r.form 20) _ _ refl refl)))))))
      (kept (eqb r.kind 8) _ _ refl (kept (eqb r.kind 9) _ _ refl refl))))))))

-- Those, by what a test says of the kind.
pub ruleset type_changes = (type_register, type_other, eq-eqb, ne_eqb)
