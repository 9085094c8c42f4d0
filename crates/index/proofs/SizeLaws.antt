-- The size of the instances of a register that was read: each is a number byte and an address.
use Prim.Native.Nat.{ℕ, zero, suc, ◌+◌, ◌-◌, ◌*◌, ◌≤◌, ◌<◌}
use mathlib.Core.Bool.{true}
use mathlib.Core.List.{List, [], ◌∷◌}
use mathlib.Core.Path.{◌≡◌, sym}
use native.Mathlib.Nat.{zero-mul, suc-mul}
use native.Mathlib.Omega.{arith}
use lib.ListN.{length}
use borrow.Author.Tests.{leb-true, eq-eqb, ne_eqb}
use Rattle.numbers.specs.Field.{present}
use Rattle.format.specs.Fields.{field_at, address_size}
use Rattle.format.specs.Parsed.{done, row_at}
use Rattle.format.specs.RegisterLayout.{register_instance_at}
use Rattle.format.specs.Tree.{RegisterInstance}
use Rattle.format.proofs.ParsedLaws.{then_out, making_out, require_out}
use Rattle.index.proofs.Again.{done_out, register_instance_fields}
use Rattle.index.proofs.FillingLaws.{row_first}

-- A field that was read stands in the file.
field_within : (s : List ℕ) (at n : ℕ) {x m : ℕ} → field_at s at n ≡ done x m → (m ≡ at + n) × (m ≤ length s)
unfolding field_at present
field_within s at n {x} {m} e =
    let r = require_out _ _ _ _ e in
    let h : at + n ≤ length s = leb-true _ _ r.0 in
    let w : at + n ≡ m = (done_out r.1).1 in
    (sym w, omega arith)

pub size_four : (t : ℕ) → t ≡ 1 → 4 ≡ address_size t
unfolding address_size
size_four t e = rw (eq-eqb t 1 e)

pub size_eight : (t : ℕ) → (t ≡ 1 → ⊥) → 8 ≡ address_size t
unfolding address_size
size_eight t e = rw (ne_eqb t 1 e)

module _ (limit : ℕ) (s : List ℕ) (total type : ℕ) {size : ℕ} (sized : size ≡ address_size type) where
  instance_size : (before : List RegisterInstance) (at : ℕ) {i : RegisterInstance} {m : ℕ} → register_instance_at limit s true total type before at ≡ done i m
      → (m ≡ at + (1 + size)) × (m ≤ length s)
  instance_size before at {i} e =
      let f = register_instance_fields limit s at total type before e in
      let a = field_within s at 1 f.0 in
      let b = field_within s i.place (address_size type) f.1 in
      (omega (arith, a.0, b.0), b.1)

  instances_size : (n : ℕ) (before : List RegisterInstance) (at : ℕ) {is : List RegisterInstance} {m : ℕ} → row_at (register_instance_at limit s true total type) n before at ≡ done is m
      → (m ≡ at + n * (1 + size)) × (at ≤ length s → m ≤ length s)
  unfolding row_at
  instances_size zero before at e = let d = (done_out e).1 in (omega (arith, d), λ h. omega (arith, d))
  instances_size (suc n) before at e =
      let t = then_out _ _ e in
      let g = making_out _ _ t.3 in
      let a = instance_size before at t.2 in
      let r = instances_size n (t.0 ∷ before) t.1 g.1 in
      (omega (arith, a.0, r.0, suc-mul n (1 + size)), λ h. r.1 a.1)

  instances_within : (n at : ℕ) {is : List RegisterInstance} {m : ℕ} → 0 < n → row_at (register_instance_at limit s true total type) n [] at ≡ done is m → m ≤ length s
  instances_within n at h e =
      let f = row_first _ n [] at h e in
      (instances_size (n - 1) _ _ f.4).1 (instance_size [] at f.3).1

  -- The place so many bytes on, where these stand in the file, is the place after the instances.
  pub instances_after : (n at : ℕ) {b r : ℕ} → b ≡ n * (1 + size) → (at + b ≤ length s → r ≡ at + b) → (b ≡ 0 → r ≡ at)
      → {is : List RegisterInstance} {m : ℕ} → row_at (register_instance_at limit s true total type) n [] at ≡ done is m → r ≡ m
  instances_after zero at {b} {r} k there none e =
      let z : b ≡ 0 = omega (arith, zero-mul (1 + size)) in
      let w : r ≡ at = none z in
      omega (arith, (instances_size zero [] at e).0)
  instances_after (suc n) at {b} {r} k there none {m = m} e =
      let q = (instances_size (suc n) [] at e).0 in
      let h : m ≤ length s = instances_within (suc n) at (omega arith) e in
      let l : at + b ≤ length s = omega (arith, q) in
      let w : r ≡ at + b = there l in
      omega (arith, q)
