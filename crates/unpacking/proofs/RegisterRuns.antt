-- A run over registers and their instances, and one over roots.
use Prim.Native.Nat.{ℕ, suc, ◌+◌, ◌^◌, ◌<◌}
use mathlib.Core.List.{List, [], ◌∷◌, ◌++◌}
use mathlib.Core.Path.{◌≡◌, refl}
use native.Mathlib.Omega.{arith}
use lib.Dec.{lit<, lit≤}
use lib.ListN.{length}
use Rattle.numbers.specs.BigEndian.{bytes_of}
use Rattle.numbers.proofs.BigEndianLaws.{length_bytes}
use Rattle.format.specs.Fields.{address_size}
use Rattle.format.specs.Tree.{RegisterInstance, Register, Root}
use Rattle.format.specs.Lookup.{gathered}
use Rattle.format.specs.Encoding.{encode_register_instance, encode_register, encode_root}
use Rattle.format.specs.Rules.{Every}
use Rattle.format.proofs.Spelling.{Spell, spell_split}
use Rattle.format.proofs.RegistersAccepted.{size_positive}
use Rattle.records.specs.declared.Element.TheVariants as element
use Rattle.records.specs.Elements.{record_of, register_instance_record, register_records, root_record}
use Rattle.unpacking.specs.declared.Left.{Left}
use Rattle.unpacking.specs.Unpacking.{left_of, value_at, element_next}
use Rattle.format.proofs.GatheredLaws.{gathered_each}
use Rattle.unpacking.proofs.Steps.{some, one_less, value-in, Goes, goes_none, goes_one, goes_join, goes_row}

-- Among the registers no node and no root is to come; among the roots nothing else.
abbrev pub registers_left : ℕ → ℕ → ℕ → Left
registers_left f i r = left_of f 0 0 0 0 0 0 i r 0

abbrev pub roots_left : ℕ → Left
roots_left t = left_of 0 0 0 0 0 0 0 0 0 t

-- Every number fits its field.
pub record RegisterInstanceFine (type : ℕ) (i : RegisterInstance) : Type 0 where
  pub number : i.number < 256
  pub address : i.address < 256 ^ address_size type

pub record RegisterFine (r : Register) : Type 0 where
  pub id : r.id < 256 ^ 3
  pub type : r.type < 256
  pub flags : r.flags < 256
  pub count : length r.instances < 256
  pub each : Every (RegisterInstanceFine r.type) r.instances

pub record RootFine (t : Root) : Type 0 where
  pub attention : t.attention < 256
  pub id : t.id < 256 ^ 2
  pub number : t.number < 256

-- The type of the last register.
unfoldable pub last_type : ℕ → List Register → ℕ
last_type f [] = f
last_type f (r ∷ rs) = last_type r.type rs

module _ (s : List ℕ) where
  goes_register_instance : (type r : ℕ) (x : RegisterInstance) (i at m : ℕ) → RegisterInstanceFine type x → Spell s at m (encode_register_instance type x)
      → Goes s at (registers_left type (suc i) r) (register_instance_record x ∷ []) m (registers_left type i r)
  unfolding encode_register_instance register_instance_record element_next
  goes_register_instance type r x i at m h a =
      let n = address_size type in
      let b = spell_split s (bytes_of 1 x.number) (bytes_of n x.address) a in
      let p : at + length (bytes_of 1 x.number) ≡ at + 1 = omega (arith, length_bytes 1 x.number) in
      let v : value_at s at 1 ≡ x.number = value-in s at 1 x.number (lit< tt) b.0 refl h.number in
      let w : value_at s (at + 1) n ≡ x.address = value-in s (at + 1) n x.address (size_positive type) b.1 p h.address in
      goes_one s at (registers_left type (suc i) r) element.RegisterInstance (rw some) refl (rw (v, w))
      (omega (arith, b.1.ends, p, length_bytes n x.address)) (omega arith) (rw one_less)

  goes_register : (x : Register) (f r at m : ℕ) → RegisterFine x → Spell s at m (encode_register x)
      → Goes s at (registers_left f 0 (suc r)) (register_records x) m (registers_left x.type 0 r)
  unfolding encode_register register_records element_next
  goes_register x f r at m h a =
      let ty = bytes_of 1 x.type in
      let fl = bytes_of 1 x.flags in
      let co = bytes_of 1 (length x.instances) in
      let z = spell_split s (bytes_of 3 x.id ++ (ty ++ (fl ++ co))) (gathered (encode_register_instance x.type) x.instances) a in
      let b = spell_split s (bytes_of 3 x.id) (ty ++ (fl ++ co)) z.0 in
      let d = spell_split s ty (fl ++ co) b.1 in
      let e = spell_split s fl co d.1 in
      let p : at + length (bytes_of 3 x.id) ≡ at + 3 = omega (arith, length_bytes 3 x.id) in
      let q : at + length (bytes_of 3 x.id) + length ty ≡ at + 4 = omega (arith, p, length_bytes 1 x.type) in
      let u : at + length (bytes_of 3 x.id) + length ty + length fl ≡ at + 5 = omega (arith, q, length_bytes 1 x.flags) in
      let t : at + length (bytes_of 3 x.id ++ (ty ++ (fl ++ co))) ≡ at + 6 = omega (arith, e.1.ends, u, length_bytes 1 (length x.instances)) in
      let vi : value_at s at 3 ≡ x.id = value-in s at 3 x.id (lit< tt) b.0 refl h.id in
      let vt : value_at s (at + 3) 1 ≡ x.type = value-in s (at + 3) 1 _ (lit< tt) d.0 p h.type in
      let vf : value_at s (at + 4) 1 ≡ x.flags = value-in s (at + 4) 1 _ (lit< tt) e.0 q h.flags in
      let vc : value_at s (at + 5) 1 ≡ length x.instances = value-in s (at + 5) 1 _ (lit< tt) e.1 u h.count in
      rw (← gathered_each register_instance_record x.instances)
      (goes_join s (record_of 1 x.type x.flags 0 x.id 0 ∷ []) (gathered (λ y. register_instance_record y ∷ []) x.instances)
      (goes_one s at (registers_left f 0 (suc r)) element.Register (rw some) refl (rw (vi, vt, vf)) t (lit≤ tt) (rw (vt, vc, one_less)))
      (goes_row s (RegisterInstanceFine x.type) (encode_register_instance x.type) (λ y. register_instance_record y ∷ [])
      (λ j. registers_left x.type j r) (goes_register_instance x.type r) x.instances _ h.each z.1))

  pub goes_registers : (xs : List Register) (f at : ℕ) {m : ℕ} → Every RegisterFine xs → Spell s at m (gathered encode_register xs)
      → Goes s at (registers_left f 0 (length xs)) (gathered register_records xs) m (registers_left (last_type f xs) 0 0)
  unfolding gathered Every last_type
  goes_registers [] f at h a = goes_none s at (registers_left f 0 0) (omega (arith, a.ends))
  goes_registers (x ∷ xs) f at h a =
      let b = spell_split s (encode_register x) (gathered encode_register xs) a in
      goes_join s (register_records x) (gathered register_records xs) (goes_register x f (length xs) at _ h.0 b.0)
      (goes_registers xs x.type _ h.1 b.1)

  pub goes_root : (x : Root) (t at m : ℕ) → RootFine x → Spell s at m (encode_root x)
      → Goes s at (roots_left (suc t)) (root_record x ∷ []) m (roots_left t)
  unfolding encode_root root_record element_next
  goes_root x t at m h a =
      let b = spell_split s (bytes_of 1 x.attention) (bytes_of 2 x.id ++ bytes_of 1 x.number) a in
      let d = spell_split s (bytes_of 2 x.id) (bytes_of 1 x.number) b.1 in
      let p : at + length (bytes_of 1 x.attention) ≡ at + 1 = omega (arith, length_bytes 1 x.attention) in
      let q : at + length (bytes_of 1 x.attention) + length (bytes_of 2 x.id) ≡ at + 3 = omega (arith, p, length_bytes 2 x.id) in
      let v : value_at s at 1 ≡ x.attention = value-in s at 1 x.attention (lit< tt) b.0 refl h.attention in
      let w : value_at s (at + 1) 2 ≡ x.id = value-in s (at + 1) 2 x.id (lit< tt) d.0 p h.id in
      let y : value_at s (at + 3) 1 ≡ x.number = value-in s (at + 3) 1 x.number (lit< tt) d.1 q h.number in
      goes_one s at (roots_left (suc t)) element.Root (rw some) refl (rw (v, w, y))
      (omega (arith, d.1.ends, q, length_bytes 1 x.number)) (lit≤ tt) (rw one_less)
