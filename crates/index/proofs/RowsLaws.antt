-- What was read in a nodes section is read again at its place.
use Prim.Native.Nat.{ℕ, zero, suc}
use mathlib.Core.Bool.{true}
use mathlib.Core.List.{List, [], ◌∷◌}
use mathlib.Core.Path.{◌≡◌, ap, subst}
use Rattle.limits.specs.Limits.{library_limits}
use Rattle.format.specs.Lookup.{node_entries_of, gathered}
use Rattle.format.specs.NodeLayout.{node_instance_at, node_at, nodes_at}
use Rattle.format.specs.Parsed.{Parsed, done, row_at}
use Rattle.format.specs.Rules.{Every}
use Rattle.format.specs.Tree.{NodeInstance, Node}
use Rattle.format.proofs.EveryLaws.{every-list_in, every-gathered_in}
use Rattle.format.proofs.ParsedLaws.{then_out, making_out}
use Rattle.index.specs.Rows.{ReadAgain}
use Rattle.index.proofs.Again.{node_instance_again, done_out}

-- Every element of a row was read somewhere.
pub row_every : {A : Type 0} (p : List A → ℕ → Parsed A) (P : A → Type 0) → ((before : List A) (at : ℕ) (a : A) (m : ℕ) → p before at ≡ done a m → P a)
    → (n : ℕ) (before : List A) (at : ℕ) {xs : List A} {m : ℕ} → row_at p n before at ≡ done xs m → Every P xs
unfolding row_at Every
row_every p P f zero before at {xs} {m} e = let h : [] ≡ xs = (done_out e).0 in subst (Every P) h tt
row_every p P f (suc n) before at {xs} {m} e =
    let t = then_out _ _ e in
    let g = making_out _ _ t.3 in
    subst (Every P) g.2 (f before at t.0 t.1 t.2, row_every p P f n (t.0 ∷ before) t.1 g.1)

module _ (limit : ℕ) (s : List ℕ) where
  instance_again : (total : ℕ) (before : List NodeInstance) (at : ℕ) (i : NodeInstance) (m : ℕ) → node_instance_at limit s true total before at ≡ done i m
      → (id type : ℕ) → ReadAgain s (record { id = id; type = type; instance = i })
  instance_again total before at i m e id type =
      let f = node_instance_again limit s at total before e in
      record { next = m; read = subst (λ p. node_instance_at library_limits.node_instances s true 0 [] p ≡ done i m) f.1 f.0 }

  node_again : (before : List Node) (at : ℕ) (n : Node) (m : ℕ) → node_at limit s true before at ≡ done n m → Every (ReadAgain s) (node_entries_of n)
  unfolding node_at node_entries_of
  node_again before at n m e =
      let t = then_out _ _ e in
      let g = making_out _ _ t.3 in
      let is : g.0 ≡ n.instances = ap (λ x. x.instances) g.2 in
      every-list_in _ _ n.instances
      (subst (Every _) is
      (row_every _ (λ i. ReadAgain s (record { id = n.id; type = n.type; instance = i })) (λ b a i k d. instance_again _ b a i k d n.id n.type) _ [] _ g.1))

  pub nodes_again : (at : ℕ) {ns : List Node} {m : ℕ} → nodes_at limit s true at ≡ done ns m → Every (ReadAgain s) (gathered node_entries_of ns)
  unfolding nodes_at
  nodes_again at {ns} e =
      let t = then_out _ _ e in
      let c = then_out _ _ t.3 in
      every-gathered_in (ReadAgain s) node_entries_of ns (row_every _ _ node_again _ [] _ c.3)
