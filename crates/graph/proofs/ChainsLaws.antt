-- What is computed of chains is what they are.
use mathlib.Core.Path.{◌≡◌, refl, sym, subst, ap}
use mathlib.Core.Bool.{Bool, true, false, not}
use mathlib.Core.List.{List, [], ◌∷◌, ◌++◌}
use mathlib.Core.Logic.{◌⊎◌, inl, inr, ⊎_elim, ◌↔◌}
use mathlib.Core.Option.{Option, none, some}
use Prim.Native.Nat.{ℕ, ◌<◌}
use native.Mathlib.Omega.{arith}
use lib.Dec.{eqb}
use borrow.Author.Tests.{eqb-true, eq-eqb, not-true}
use Rattle.numbers.proofs.Bools.{either, clash, and_left, and_right, and_both}
use Rattle.graph.specs.Below.{any}
use Rattle.graph.specs.Paths.{Reached, here, next, Inside}
use Rattle.graph.specs.Chains.{Graph, Sound, Link, link, Chain, last, Through, first, later, ChainReaches, ReachedByChains, Silent, NothingBelow, Listed, names, silent, none_or, nothing_below, linked, reached_from, listable, listed}
use Rattle.graph.specs.Chains as chains
use Rattle.graph.proofs.BelowLaws.{any_in, any_out}
use Rattle.graph.proofs.PathsLaws.{reached_law}

names_out : (o : Option ℕ) (j : ℕ) → names o j ≡ true → o ≡ some j
names_out none j e = clash e refl
names_out (some c) j e = ap some (eqb-true c j e)

names_in : (o : Option ℕ) (j : ℕ) → o ≡ some j → names o j ≡ true
names_in o j e = rw e (eq-eqb j j refl)

not_through : {j : ℕ} {ls : List Link} → Through j ls → ls ≡ [] → ⊥
not_through (first e) h = let z : ◌≡◌ {A = ℕ} 0 1 = cc in omega arith
not_through (later t) h = let z : ◌≡◌ {A = ℕ} 0 1 = cc in omega arith

module _ (g : Graph) where
  pub linked_out : (i j : ℕ) → linked g i j ≡ true → (b : ℕ) × (b < 64) × (g.active i b ≡ true) × (g.child i b ≡ some j)
  unfolding linked
  linked_out i j e =
      let r = any_out 64 _ e in
      (r.0, r.1, and_left _ _ r.2, names_out _ j (and_right (g.active i r.0) _ r.2))

  pub linked-in : (i j b : ℕ) → b < 64 → g.active i b ≡ true → g.child i b ≡ some j → linked g i j ≡ true
  unfolding linked
  linked-in i j b h a e = any_in 64 _ b h (and_both a (names_in _ j e))

  -- A chain goes on with an active bit of the child of its last bit.
  chain_more : {i k c : ℕ} {ls : List Link} {l : Link} → Chain g i ls l → g.child l.instance l.bit ≡ some k → g.active k c ≡ true
      → Chain g i (ls ++ (link k c ∷ [])) (link k c)
  chain_more (last a) e h = chains.next a e (last h)
  chain_more (chains.next a d ch) e h = chains.next a d (chain_more ch e h)

  -- The last link's bit is active.
  chain_active : {i : ℕ} {ls : List Link} {l : Link} → Chain g i ls l → g.active l.instance l.bit ≡ true
  chain_active (last a) = a
  chain_active (chains.next a d ch) = chain_active ch

  -- The node instance that a chain starts at has an active bit.
  pub chain_first : {i : ℕ} {ls : List Link} {l : Link} → Chain g i ls l → (b : ℕ) × (g.active i b ≡ true)
  chain_first (last {b = b} a) = (b, a)
  chain_first (chains.next {b = b} a d ch) = (b, a)

  module _ (sound : Sound g) where
    -- A node instance is silent, or has an active bit.
    pub silent? : (j : ℕ) → Silent g j ⊎ ((b : ℕ) × (g.active j b ≡ true))
    silent? j = ⊎_elim (λ e. let r = any_out 64 (g.active j) e in inr (r.0, r.2)) (λ e. inl (off e)) (either (any 64 (g.active j)))
      where
        off : any 64 (g.active j) ≡ false → Silent g j
        off e b = ⊎_elim (λ a. clash (any_in 64 (g.active j) b (sound.bits j b a) a) e) (λ a. a) (either (g.active j b))

    -- What is computed of a node instance is that it is silent.
    pub silent_words : (j : ℕ) → (silent g j ≡ true) ↔ Silent g j
    unfolding silent
    silent_words j = (λ e. ⊎_elim (λ s. s) (λ r. clash (on r) (not-true _ e)) (silent? j), λ h. off h (either (any 64 (g.active j))))
      where
        on : (b : ℕ) × (g.active j b ≡ true) → any 64 (g.active j) ≡ true
        on r = any_in 64 (g.active j) r.0 (sound.bits j r.0 r.1) r.1

        off : Silent g j → (any 64 (g.active j) ≡ true) ⊎ (any 64 (g.active j) ≡ false) → not (any 64 (g.active j)) ≡ true
        off h (inl a) = let r = any_out 64 (g.active j) a in clash r.2 (h r.0)
        off h (inr a) = rw a

    -- What is computed of a bit is that it has no child, or one that is silent.
    below_words : (i b : ℕ) → (nothing_below g i b ≡ true) ↔ NothingBelow g i b
    unfolding nothing_below
    below_words i b = (out (g.child i b) refl, back)
      where
        out : (o : Option ℕ) → g.child i b ≡ o → none_or (silent g) o ≡ true → NothingBelow g i b
        out none e h = inl e
        out (some c) e h = inr (record { child = c; entry = e; silent = (silent_words c).0 h })

        back : NothingBelow g i b → none_or (silent g) (g.child i b) ≡ true
        back (inl e) = rw e
        back (inr s) = rw s.entry ((silent_words s.child).1 s.silent)

  module _ (sound : Sound g) (root : ℕ) where
    abbrev start : ℕ → Bool
    start i = eqb i root

    pub linked_inside : Inside g.size (linked g)
    linked_inside i j e = let r = linked_out i j e in (sound.instances i r.0 r.2, sound.children i r.0 j r.3)

    pub reached-in : (j : ℕ) → (reached_from g root j ≡ true) ↔ Reached start (linked g) j
    unfolding reached_from
    reached-in j = reached_law g.size start (linked g) linked_inside j

    -- The child of an active bit of what is reached is reached.
    pub child_reached : (i b j : ℕ) → reached_from g root i ≡ true → g.active i b ≡ true → g.child i b ≡ some j → reached_from g root j ≡ true
    child_reached i b j r a e = (reached-in j).1 (next ((reached-in i).0 r) (linked-in i j b (sound.bits i b a) a e))

    -- Every active bit of what is reached ends some chain.
    chain_to : {i : ℕ} → Reached start (linked g) i → (b : ℕ) → g.active i b ≡ true → (ls : List Link) × Chain g root ls (link i b)
    chain_to (here {j = j} e) b a =
        subst (λ x. g.active x b ≡ true → (ls : List Link) × Chain g root ls (link x b)) (sym (eqb-true j root e)) (λ h. (link root b ∷ [], last h)) a
    chain_to (next {i = i} {j = j} r e) b a =
        let l = linked_out i j e in
        let c = chain_to r l.0 l.2 in
        (c.0 ++ (link j b ∷ []), chain_more c.1 l.3 a)

    -- A chain from what is reached ends in what is reached, and goes through what is reached.
    chain_end : {i : ℕ} {ls : List Link} {l : Link} → Reached start (linked g) i → Chain g i ls l → Reached start (linked g) l.instance
    chain_end r (last a) = r
    chain_end r (chains.next {i = i} {b = b} {j = j} a d ch) = chain_end (next r (linked-in i j b (sound.bits i b a) a d)) ch

    chain_through : {i j : ℕ} {ls : List Link} {l : Link} → Reached start (linked g) i → Chain g i ls l → Through j ls → Reached start (linked g) j
    chain_through r (last a) (first e) = subst (λ x. Reached start (linked g) x) e r
    chain_through r (last a) (later t) = absurd (not_through t refl)
    chain_through r (chains.next a d ch) (first e) = subst (λ x. Reached start (linked g) x) e r
    chain_through r (chains.next {i = i} {b = b} {j = k} a d ch) (later t) = chain_through (next r (linked-in i k b (sound.bits i b a) a d)) ch t

    -- Demand 3's reached instances are those of document 01's isolation, step by step.
    pub reached_by_chains : (j : ℕ) → (reached_from g root j ≡ true) ↔ ReachedByChains g root j
    reached_by_chains j = (λ e. out ((reached-in j).0 e), λ h. (reached-in j).1 (⊎_elim root_in chain_in h))
      where
        out : {j : ℕ} → Reached start (linked g) j → ReachedByChains g root j
        out (here {j = j} e) = inl (eqb-true j root e)
        out (next {i = i} {j = j} r e) =
            let l = linked_out i j e in
            let c = chain_to r l.0 l.2 in
            inr (record { links = c.0; end = link i l.0; chain = c.1; reaches = inr l.3 })

        root_in : {j : ℕ} → j ≡ root → Reached start (linked g) j
        root_in {j} e = here (eq-eqb j root e)

        chain_in : {j : ℕ} → ChainReaches g root j → Reached start (linked g) j
        chain_in {j} c =
            let l = c.end in
            let r = root_in {j = root} refl in
            let a = chain_active c.chain in
            ⊎_elim (chain_through r c.chain)
            (λ d. next (chain_end r c.chain) (linked-in l.instance j l.bit (sound.bits l.instance l.bit a) a d))
            c.reaches

    -- Demand 3's listed bits are those of document 01's isolation.
    pub listed_words : (i b : ℕ) → (listed g root i b ≡ true) ↔ Listed g root i b
    unfolding listed listable
    listed_words i b = (out, back)
      where
        out : listed g root i b ≡ true → Listed g root i b
        out e =
            let h = and_right (reached_from g root i) _ e in
            let c = chain_to ((reached-in i).0 (and_left _ _ e)) b (and_left _ _ h) in
            record { links = c.0; chain = c.1; ends = (below_words sound i b).0 (and_right (g.active i b) _ h) }

        back : Listed g root i b → listed g root i b ≡ true
        back l =
            let r = chain_end (here (eq-eqb root root refl)) l.chain in
            and_both ((reached-in i).1 r) (and_both (chain_active l.chain) ((below_words sound i b).1 l.ends))

    -- A bit of what is reached whose child is silent is listed.
    pub listed_silent : (i b j : ℕ) → ReachedByChains g root i → g.active i b ≡ true → g.child i b ≡ some j → Silent g j → Listed g root i b
    listed_silent i b j r a e s =
        let c = chain_to ((reached-in i).0 ((reached_by_chains i).1 r)) b a in
        record { links = c.0; chain = c.1; ends = inr (record { child = j; entry = e; silent = s }) }
