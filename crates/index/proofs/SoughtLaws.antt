-- The search for an address among register instances, one after another and register after register.
use Prim.Native.Nat.{ℕ}
use mathlib.Core.Bool.{true, false}
use mathlib.Core.List.{List, [], ◌∷◌, ◌++◌}
use mathlib.Core.Logic.{⊎_elim}
use mathlib.Core.Path.{◌≡◌, refl, sym, ◌∙◌, ap}
use native.Mathlib.Omega.{arith}
use lib.Dec.{eqb}
use borrow.Author.Tests.{eq-eqb, ne_eqb}
use Rattle.numbers.proofs.Bools.{either, and_none, and_both}
use Rattle.format.specs.Fields.{address_size}
use Rattle.format.specs.Lookup.{position, RegisterEntry, entries_of, register_named}
use Rattle.format.specs.Refusals.{AddressValues}
use Rattle.format.specs.Tree.{RegisterInstance}
use Rattle.format.specs.Verdict.{address_in}
use Rattle.format.proofs.PositionsLaws.{at_empty, at_first, at_next}
use Rattle.format.proofs.RegistersAccepted.{size_positive}
use Rattle.index.specs.declared.Instance.{Instance}
use Rattle.index.specs.Rows.{instance_of}
use Rattle.index.specs.Sought.{address_among, register_of}

module _ (id number : ℕ) where
  pub among_none : address_in [] ≡ address_among id number []
  unfolding address_among position
  among_none = sym (ap address_in (at_empty 0))

  -- The first instance is the one that is sought, or it is passed over.
  among_here : (e : RegisterEntry) (es : List RegisterEntry) → register_named id number e ≡ true
      → ◌≡◌ {A = AddressValues} (record { number = 0; place = 0; offset = e.instance.place; size = address_size e.type }) (address_among id number (e ∷ es))
  unfolding address_among address_in position
  among_here e es h = rw h (sym (ap address_in (at_first e es)))

  among_next : (e : RegisterEntry) (es : List RegisterEntry) → register_named id number e ≡ false → address_among id number (e ∷ es) ≡ address_among id number es
  unfolding address_among position
  among_next e es h = rw h (ap address_in (at_next (position (register_named id number) es) e es))

  -- What is found among the first instances is found among all; and where nothing is, the others decide.
  pub among_first : (xs ys : List RegisterEntry) → (address_among id number xs).number ≡ 0 → address_among id number xs ≡ address_among id number (xs ++ ys)
  unfolding address_in
  among_first [] ys h = let z : ◌≡◌ {A = ℕ} 12 0 = ap (λ a. a.number) among_none ∙ h in absurd (omega arith)
  among_first (x ∷ xs) ys h =
      ⊎_elim
      (λ t. sym (among_here x xs t) ∙ among_here x (xs ++ ys) t)
      (λ t. among_next x xs t ∙ among_first xs ys (ap (λ a. a.number) (sym (among_next x xs t)) ∙ h) ∙ sym (among_next x (xs ++ ys) t))
      (either (register_named id number x))

  pub among_rest : (xs ys : List RegisterEntry) → (address_among id number xs).size ≡ 0 → address_among id number (xs ++ ys) ≡ address_among id number ys
  among_rest [] ys h = refl
  among_rest (x ∷ xs) ys h =
      ⊎_elim
      (λ t. let z : address_size x.type ≡ 0 = ap (λ a. a.size) (among_here x xs t) ∙ h in absurd (omega (arith, size_positive x.type)))
      (λ t. among_next x (xs ++ ys) t ∙ among_rest xs ys (ap (λ a. a.size) (sym (among_next x xs t)) ∙ h))
      (either (register_named id number x))

-- The instances of one register.
module _ (id type flags number : ℕ) where
  pub instance_none : address_in [] ≡ address_among id number (entries_of (register_of id type flags []))
  unfolding entries_of
  instance_none = among_none id number

  instance_here : (i : RegisterInstance) (is : List RegisterInstance) → i.number ≡ number
      → ◌≡◌ {A = AddressValues} (record { number = 0; place = 0; offset = i.place; size = address_size type }) (address_among id number (entries_of (register_of id type flags (i ∷ is))))
  unfolding entries_of register_named
  instance_here i is h = among_here id number _ _ (and_both (eq-eqb id id refl) (eq-eqb i.number number h))

  instance_next : (i : RegisterInstance) (is : List RegisterInstance) → (i.number ≡ number → ⊥)
      → address_among id number (entries_of (register_of id type flags (i ∷ is))) ≡ address_among id number (entries_of (register_of id type flags is))
  unfolding entries_of register_named
  instance_next i is h = among_next id number _ _ (rw (ne_eqb i.number number h) (and_none (eqb id id)))

  -- An instance that was read again.
  module _ (i : RegisterInstance) {x : Instance} {m : ℕ} (e : x ≡ instance_of i.number i.place m) where
    pub instance_found : {size : ℕ} → x.number ≡ number → size ≡ address_size type → (is : List RegisterInstance)
        → ◌≡◌ {A = AddressValues} (record { number = 0; place = 0; offset = x.place; size = size }) (address_among id number (entries_of (register_of id type flags (i ∷ is))))
    instance_found {size} h z is =
        let n : i.number ≡ number = sym (ap (λ y. y.number) e) ∙ h in
        let p : x.place ≡ i.place = ap (λ y. y.place) e in
        rw (p, z) (instance_here i is n)

    pub instance_passed : (x.number ≡ number → ⊥)
        → (x.next ≡ m) × ((is : List RegisterInstance) → address_among id number (entries_of (register_of id type flags (i ∷ is))) ≡ address_among id number (entries_of (register_of id type flags is)))
    instance_passed h = (ap (λ y. y.next) e, λ is. instance_next i is (λ n. h (ap (λ y. y.number) e ∙ n)))

-- A register with that ID is asked for the number alone.
pub register_same : (number : ℕ) (es : List RegisterEntry) {id own : ℕ} {v : AddressValues} → own ≡ id → v ≡ address_among own number es → v ≡ address_among id number es
register_same number es h e = e ∙ ap (λ x. address_among x number es) h

-- A register with another ID has no such instance.
pub register_other : (id number own type flags : ℕ) (is : List RegisterInstance) → (own ≡ id → ⊥) → address_in [] ≡ address_among id number (entries_of (register_of own type flags is))
unfolding entries_of register_named
register_other id number own type flags [] h = among_none id number
register_other id number own type flags (i ∷ is) h = register_other id number own type flags is h ∙ sym (among_next id number _ _ (rw (ne_eqb own id h)))
