-- The listing is what demand 3 names, and nothing else is; and the steps are as many as chains reach.
use Prim.Native.Nat.{ℕ, zero, suc, ◌+◌, ◌<◌}
use mathlib.Core.Bool.{Bool, true, false, cond}
use mathlib.Core.List.{List, [], ◌∷◌, map}
use mathlib.Core.Logic.{inl, inr, ⊎_elim, ◌↔◌}
use mathlib.Core.Path.{◌≡◌, refl, sym, ◌∙◌, ap, subst}
use native.Mathlib.Omega.{arith}
use lib.ListN.{length, length-append}
use Rattle.numbers.proofs.Bools.{and_left, and_right}
use Rattle.graph.specs.Below.{count}
use Rattle.graph.specs.Chains.{Graph, Sound, Link, link, ReachedByChains, Listed, reached_from, listable, listed, below, kept, listed_of, reached_count}
use Rattle.graph.proofs.ChainsLaws.{reached_by_chains, listed_words}
use Rattle.listing.specs.Records.{listing}
use Rattle.isolation.proofs.GraphsLaws.{reached_below}
use Rattle.listing.proofs.RowsLaws.{kept_append}
use Rattle.demands.specs.Rows.{In, InOrder, Different}
use Rattle.demands.specs.Demand3.{Before, NamedBits}
use Rattle.demands.proofs.RowsLaws.{in-gathered_out, in-gathered_in, in-map_out, in-map_in, in_kept_out, in_kept_in, in_below_in, order-map, order_unique, order-list, order-gathered, order_kept, order_below}

before_irreflexive : (l : Link) → Before l l → ⊥
unfolding Before
before_irreflexive l h = ⊎_elim (λ a. omega arith) (λ a. omega (arith, a.1)) h

before_asymmetric : (l m : Link) → Before l m → Before m l → ⊥
unfolding Before
before_asymmetric l m h k =
    ⊎_elim (λ a. ⊎_elim (λ b. omega arith) (λ b. omega (arith, b.0)) k)
    (λ a. ⊎_elim (λ b. omega (arith, a.0)) (λ b. omega (arith, a.1, b.1)) k) h

-- How many numbers pass is the length of what is kept.
count_kept : (p : ℕ → Bool) (n : ℕ) → length (kept p (below n)) ≡ count n p
unfolding kept below count
count_kept p zero = refl
count_kept p (suc n) =
    ap length (kept_append p (below n) (n ∷ [])) ∙ length-append (kept p (below n)) (kept p (n ∷ [])) ∙ go (p n) (count_kept p n)
  where
    go : (t : Bool) → length (kept p (below n)) ≡ count n p
        → length (kept p (below n)) + length (cond t (n ∷ []) []) ≡ cond t (suc (count n p)) (count n p)
    go true e = omega arith
    go false e = omega arith

module _ (g : Graph) (sound : Sound g) (root : ℕ) (root_in : root < g.size) where
  listing_out : (l : Link) → In l (listing g root) → Listed g root l.instance l.bit
  unfolding listing listed_of
  listing_out l j =
      let r = in-gathered_out (λ i. map (link i) (listed_of g root i)) (below g.size) l j in
      let m = in-map_out (link r.0) (listed_of g root r.0) l r.2 in
      let k = in_kept_out (listed g root r.0) (below 64) m.0 m.1 in
      subst (λ x. Listed g root x.instance x.bit) (sym m.2) ((listed_words g sound root r.0 m.0).0 k.1)

  listing_in : (l : Link) → listed g root l.instance l.bit ≡ true → In l (listing g root)
  unfolding listing listed_of listed listable
  listing_in l e =
      let i = l.instance in
      let b = l.bit in
      let h : i < g.size = reached_below g sound root root_in i (and_left _ _ e) in
      let a : g.active i b ≡ true = and_left _ _ (and_right (reached_from g root i) _ e) in
      in-gathered_in (λ k. map (link k) (listed_of g root k)) (below g.size) i l (in_below_in g.size i h)
      (in-map_in (link i) (listed_of g root i) b (in_kept_in (listed g root i) (below 64) b (in_below_in 64 b (sound.bits i b a)) e))

  listing_ordered : InOrder Before (listing g root)
  unfolding listing listed_of Before
  listing_ordered =
      order-gathered ◌<◌ Before (λ i. map (link i) (listed_of g root i))
      (λ i. order-list ◌<◌ Before (link i) (λ x y h. inr (refl, h)) (listed_of g root i) (order_kept ◌<◌ (listed g root i) (below 64) (order_below 64)))
      (λ i j h a b p q. let m = in-map_out (link i) (listed_of g root i) a p in
      let n = in-map_out (link j) (listed_of g root j) b q in
      let u : a.instance ≡ i = ap (λ x. x.instance) m.2 in
      let v : b.instance ≡ j = ap (λ x. x.instance) n.2 in
      inl (let w : a.instance < b.instance = omega arith in w))
      (below g.size) (order_below g.size)

  pub listing_named : NamedBits g root (listing g root)
  listing_named =
      record {
        exactly = λ l. (listing_out l, λ h. listing_in l ((listed_words g sound root l.instance l.bit).1 h));
        once = order-map Before Different (λ x y h e. before_irreflexive y (subst (λ z. Before z y) e h)) (listing g root) listing_ordered;
        ordered = listing_ordered;
      }

  -- There is one list of the bits that demand 3 names.
  pub named_listing : (ls : List Link) → NamedBits g root ls → ls ≡ listing g root
  named_listing ls n =
      let m = listing_named in
      order_unique Before before_irreflexive before_asymmetric ls (listing g root) n.ordered m.ordered
      (λ l i. (m.exactly l).1 ((n.exactly l).0 i)) (λ l i. (n.exactly l).1 ((m.exactly l).0 i))

  -- The node instances that chains reach.
  pub instances : List ℕ
  instances = kept (reached_from g root) (below g.size)

  pub instances_reached : (j : ℕ) → In j instances ↔ ReachedByChains g root j
  unfolding instances
  instances_reached j =
      let c = reached_by_chains g sound root j in (
        λ i. c.0 (in_kept_out (reached_from g root) (below g.size) j i).1,
        λ h. in_kept_in (reached_from g root) (below g.size) j (in_below_in g.size j (reached_below g sound root root_in j (c.1 h))) (c.1 h),
      )

  pub instances_different : InOrder Different instances
  unfolding instances
  instances_different =
      order-map ◌<◌ Different (λ x y h e. omega arith) instances (order_kept ◌<◌ (reached_from g root) (below g.size) (order_below g.size))

  pub instances_counted : reached_count g root ≡ length instances
  unfolding instances reached_count
  instances_counted = sym (count_kept (reached_from g root) g.size)
