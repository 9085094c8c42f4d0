-- The search for an address, register after register.
use Prim.Native.Nat.{ℕ}
use mathlib.Core.Bool.{true}
use mathlib.Core.List.{List, [], ◌∷◌}
use mathlib.Core.Path.{◌≡◌, sym, ◌∙◌, ap}
use Rattle.format.specs.Lookup.{gathered, entries_of}
use Rattle.format.specs.Parsed.{done, row_at}
use Rattle.format.specs.Refusals.{AddressValues}
use Rattle.format.specs.RegisterLayout.{RegisterHead, register_total, register_instance_at, register_head_at, register_at}
use Rattle.format.specs.Tree.{RegisterInstance, Register}
use Rattle.format.proofs.ParsedLaws.{then_out, making_out}
use Rattle.index.specs.declared.Head.{Head}
use Rattle.index.specs.Rows.{head_of}
use Rattle.index.specs.Sought.{address_among, register_of}
use Rattle.index.proofs.SoughtLaws.{among_first, among_rest}

module _ (limit : ℕ) (s : List ℕ) (at : ℕ) {h : Head} (heads : (ids : List ℕ) (g : RegisterHead) (m : ℕ) → register_head_at s true ids at ≡ done g m → h ≡ head_of g m) where
  -- The instances of a register whose head was read again.
  register_parts : (before : List Register) (r : Register) (m : ℕ) → register_at limit s true before at ≡ done r m
      → (flags : ℕ) × (is : List RegisterInstance) × (row_at (register_instance_at limit s true (register_total before) h.kind) h.count [] h.next ≡ done is m)
      × (register_of h.id h.kind flags is ≡ r)
  unfolding register_at
  register_parts before r m d =
      let b = then_out _ _ d in
      let g = making_out _ _ b.3 in
      let e : h ≡ head_of b.0 b.1 = heads _ b.0 b.1 b.2 in
      (b.0.flags, g.0, rw e g.1, rw e g.2)

  -- What the register answers by itself decides, or those after it do.
  module _ (id number : ℕ) {v : AddressValues}
      (told : (limit total flags : ℕ) (is : List RegisterInstance) (m : ℕ) → row_at (register_instance_at limit s true total h.kind) h.count [] h.next ≡ done is m
      → v ≡ address_among id number (entries_of (register_of h.id h.kind flags is))) where
    register_told : (before : List Register) (r : Register) (m : ℕ) → register_at limit s true before at ≡ done r m → v ≡ address_among id number (entries_of r)
    register_told before r m d =
        let p = register_parts before r m d in
        told limit (register_total before) p.0 p.1 m p.2 ∙ ap (λ x. address_among id number (entries_of x)) p.3

    pub register_found : v.number ≡ 0 → (before : List Register) (r : Register) (m : ℕ) → register_at limit s true before at ≡ done r m
        → (rs : List Register) → v ≡ address_among id number (gathered entries_of (r ∷ rs))
    unfolding gathered
    register_found z before r m d rs =
        let w = register_told before r m d in
        w ∙ among_first id number (entries_of r) (gathered entries_of rs) (sym (ap (λ a. a.number) w) ∙ z)

    pub register_passed : v.size ≡ 0 → {next : ℕ}
        → ((limit total : ℕ) (is : List RegisterInstance) (m : ℕ) → row_at (register_instance_at limit s true total h.kind) h.count [] h.next ≡ done is m → next ≡ m)
        → (before : List Register) (r : Register) (m : ℕ) → register_at limit s true before at ≡ done r m
        → (next ≡ m) × ((rs : List Register) → address_among id number (gathered entries_of (r ∷ rs)) ≡ address_among id number (gathered entries_of rs))
    unfolding gathered
    register_passed z after before r m d =
        let p = register_parts before r m d in
        let w = register_told before r m d in
        (after limit (register_total before) p.1 m p.2, λ rs. among_rest id number (entries_of r) (gathered entries_of rs) (sym (ap (λ a. a.size) w) ∙ z))
