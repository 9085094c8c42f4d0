-- Where no path leads back, some chain from every active bit ends in a bit that is listed.
use mathlib.Core.Path.{◌≡◌, refl}
use mathlib.Core.Bool.{Bool, true, false}
use mathlib.Core.List.{List, [], ◌∷◌}
use mathlib.Core.Logic.{inl, inr, ⊎_elim}
use mathlib.Core.Option.{Option, none, some}
use Prim.Native.Nat.{ℕ, zero, suc, ◌<◌}
use native.Mathlib.Omega.{arith}
use Rattle.numbers.proofs.Bools.{either}
use Rattle.graph.specs.Below.{count}
use Rattle.graph.specs.Paths.{Path, one, more, reached}
use Rattle.graph.specs.Chains.{Graph, Sound, Link, link, Chain, last, NothingBelow, Listed, linked}
use Rattle.graph.specs.Chains as chains
use Rattle.graph.proofs.BelowLaws.{count_more}
use Rattle.graph.proofs.PathsLaws.{path_law}
use Rattle.graph.proofs.ChainsLaws.{linked-in, linked_inside, silent?}

module _ (g : Graph) (sound : Sound g) (acyclic : (i : ℕ) → Path (linked g) i i → ⊥) where
  -- A path leads from i to j.
  abbrev under : ℕ → ℕ → Bool
  under i = reached g.size (linked g i) (linked g)

  under_out : (i j : ℕ) → under i j ≡ true → Path (linked g) i j
  under_out i j = (path_law g.size (linked g) (linked_inside g sound i) i j).0

  under_in : (i j : ℕ) → Path (linked g) i j → under i j ≡ true
  under_in i j = (path_law g.size (linked g) (linked_inside g sound i) i j).1

  not_under : (j : ℕ) → under j j ≡ false
  not_under j = ⊎_elim (λ e. absurd (acyclic j (under_out j j e))) (λ e. e) (either (under j j))

  -- Under a child there is less than under its parent.
  less : (i j : ℕ) → linked g i j ≡ true → count g.size (under j) < count g.size (under i)
  less i j e =
      count_more (under j) (under i) (λ k d. under_in i k (more e (under_out j k d))) g.size j (linked_inside g sound i i j e).1 (not_under j)
      (under_in i j (one e))

  -- A chain from i whose last bit is listed.
  abbrev Ending : ℕ → Type 0
  Ending i = (l : Link) × (ls : List Link) × Chain g i ls l × NothingBelow g l.instance l.bit

  -- One link more, with what is known of the child.
  ending_on : (i b : ℕ) → g.active i b ≡ true → ((j : ℕ) → linked g i j ≡ true → (c : ℕ) → g.active j c ≡ true → Ending j) → Ending i
  ending_on i b a below = go (g.child i b) refl
    where
      here : NothingBelow g i b → Ending i
      here e = (link i b, link i b ∷ [], last a, e)

      go : (o : Option ℕ) → g.child i b ≡ o → Ending i
      go none e = here (inl e)
      go (some j) e =
          ⊎_elim (λ s. here (inr (record { child = j; entry = e; silent = s })))
          (λ r. let t = below j (linked-in g i j b (sound.bits i b a) a e) r.0 r.1 in
          (t.0, link i b ∷ t.1, chains.next a e t.2, t.3))
          (silent? g sound j)

  ending : (n i b : ℕ) → count g.size (under i) < n → g.active i b ≡ true → Ending i
  ending zero i b h a = absurd (omega arith)
  ending (suc n) i b h a = ending_on i b a (λ j e c d. ending n j c (omega (arith, h, less i j e)) d)

  pub listed_from : (root b : ℕ) → g.active root b ≡ true → (l : Link) × Listed g root l.instance l.bit
  listed_from root b a =
      let t = ending (suc (count g.size (under root))) root b (omega arith) a in
      (t.0, record { links = t.1; chain = t.2; ends = t.3 })
