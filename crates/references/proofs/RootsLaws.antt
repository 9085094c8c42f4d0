-- The fault of a root.
use Prim.Native.Nat.{ℕ, ◌≤◌, ◌<◌, ◌^◌}
use mathlib.Core.Bool.{true, not, ◌&&◌}
use mathlib.Core.Logic.{⊎_elim}
use mathlib.Core.List.{List, [], ◌∷◌, map}
use mathlib.Core.Path.{◌≡◌, refl, sym, ◌∙◌, ap}
use native.Mathlib.Omega.{arith}
use lib.Dec.{eqb, ltb}
use lib.ListN.{length, get_or, length-map}
use borrow.Author.Tests.{eq-eqb, ne_eqb, ltb-false}
use Rattle.limits.specs.Limits.{library_limits}
use Rattle.numbers.proofs.Bools.{either, clash, and_left, and_right, and_both, same_truth}
use Rattle.format.specs.Fields.{field_at, attention_at}
use Rattle.format.specs.FileLayout.{root_at}
use Rattle.format.specs.Lookup.{some, position, gathered, NodeEntry, node_entries, node_named, node_position}
use Rattle.format.specs.NodeLayout.{node_instance_at}
use Rattle.format.specs.Parsed.{Parsed, done, refused}
use Rattle.format.specs.References.{unless, has_rule, root_faults}
use Rattle.format.specs.Rules.{Every, FieldsFit, NamesUnique}
use Rattle.format.specs.Tree.{Root, NodeInstance, Chip}
use Rattle.format.proofs.EveryLaws.{every_map}
use Rattle.format.proofs.ParsedLaws.{then_out, making_out, requiring_out}
use Rattle.format.proofs.FaultsLaws.{at_none, some_none}
use Rattle.format.proofs.GatheredLaws.{gathered_same}
use Rattle.format.proofs.PositionsLaws.{every_at, at_inside, position_at, some_at, some_one, node-position}
use Rattle.tables.specs.Faults.{judged_at, position_in}
use Rattle.index.specs.Rows.{ReadAgain, entry_place}
use Rattle.tables.specs.Keys.{node_keys}
use Rattle.index.proofs.Again.{not_refused}
use Rattle.index.proofs.PartsLaws.{Naming, naming_id, naming_number, naming_all}
use Rattle.links.specs.Links.{rule_place}
use Rattle.links.proofs.LinksLaws.{instance_rule_some}
use Rattle.references.specs.declared.roots.RootEntry.{RootEntry}
use Rattle.references.specs.FaultsIn.{ruled, root_faults_in}
use Rattle.references.specs.RootIn.{root_position, root_of}
use Rattle.tables.proofs.ColumnLaws.{column_at}
use Rattle.format.proofs.PositionsLaws.{some_position, some_out}
use Rattle.tables.proofs.KeysLaws.{node_position_in}

module _ (nodes places : List ℕ) (attention id number : ℕ) {k : ℕ} (found : k ≡ position_in nodes id number) (es : List NodeEntry) where
  pub root_absent : (p next : ℕ) → places ≡ map entry_place es → length places ≤ k → refused 12 p ≡ judged_at (unless (ruled nodes es attention id number) 12 p) next
  unfolding ruled unless judged_at
  root_absent p next c h =
      let l : length es ≤ k = let z : length places ≡ length es = ap length c ∙ length-map es entry_place in omega arith in
      rw (← found, some_none (λ (e : NodeEntry). has_rule attention e.instance) (at_none k es l))

  module _ (s : List ℕ) (again : Every (ReadAgain s) es) (c : places ≡ map entry_place es) (h : k < length places) {r : ℕ}
      (rule : (limit total : ℕ) (before : List NodeInstance) (i : NodeInstance) (m : ℕ) → node_instance_at limit s true total before (get_or places k 0) ≡ done i m → r ≡ rule_place attention i.rules) where
    root_rule : ruled nodes es attention id number ≡ not (eqb r 0)
    unfolding ruled has_rule
    root_rule =
        let l : k < length es = let z : length places ≡ length es = ap length c ∙ length-map es entry_place in omega arith in
        let a = at_inside k es l in
        let e = a.0 in
        let g = every_at (ReadAgain s) k es again a.1 in
        let p : get_or places k 0 ≡ entry_place e = ap (λ z. get_or z k 0) c ∙ column_at entry_place es k a.1 in
        let n : node_instance_at library_limits.node_instances s true 0 [] (get_or places k 0) ≡ done e.instance g.next = rw p g.read in
        let w : r ≡ rule_place attention e.instance.rules = rule library_limits.node_instances 0 [] e.instance g.next n in
        rw (← found, a.1) (some_one (λ e. has_rule attention e.instance) e ∙ sym (instance_rule_some s attention (entry_place e) _ 0 [] g.read) ∙ rw (← w))

    pub root_ruled : (p next : ℕ) → (r ≡ 0 → ⊥) → done tt next ≡ judged_at (unless (ruled nodes es attention id number) 12 p) next
    unfolding unless judged_at
    root_ruled p next z = rw (root_rule, ne_eqb r 0 z)

    pub root_unruled : (p next : ℕ) → r ≡ 0 → refused 12 p ≡ judged_at (unless (ruled nodes es attention id number) 12 p) next
    unfolding unless judged_at
    root_unruled p next z = rw (root_rule, eq-eqb r 0 z)

module _ (s : List ℕ) (p : ℕ) where
  pub root_fields : (before : List Root) {t : Root} {m : ℕ} → root_at s true before p ≡ done t m
      → Naming s p t.attention t.id t.number m × (p ≡ t.place)
  unfolding root_at attention_at
  root_fields before {t} {m} e =
      let d = then_out _ _ e in
      let q = requiring_out _ _ _ _ d.2 in
      let o = requiring_out _ _ _ _ q.0 in
      let c = then_out _ _ d.3 in
      let g = making_out _ _ c.3 in
      let x : d.0 ≡ t.attention = ap (λ x. x.attention) g.2 in
      let i : c.0 ≡ t.id = ap (λ x. x.id) g.2 in
      let n : g.0 ≡ t.number = ap (λ x. x.number) g.2 in
      (record { id_at = d.1; number_at = c.1; first_is = o.0 ∙ rw x; id_is = c.2 ∙ rw i; number_is = g.1 ∙ rw n }, ap (λ x. x.place) g.2)

  module _ {x a : ℕ} (o : done x a ≡ field_at s p 1) where
    module _ {id b : ℕ} (d : done id b ≡ field_at s a 2) where
      pub root_judged : (nodes : List ℕ) (es : List NodeEntry) {number next : ℕ} {y : Parsed (Unit {0})}
          → done number next ≡ field_at s b 1 → y ≡ judged_at (unless (ruled nodes es x id number) 12 p) next
          → (before : List Root) (t : Root) (m : ℕ) → root_at s true before p ≡ done t m → y ≡ judged_at (root_faults_in nodes es t) m
      unfolding root_faults_in
      root_judged nodes es q h before t m e =
          let f = root_fields before e in
          let w = naming_all f.0 o d q in
          h ∙ rw (w.0, w.1, w.2, w.3, f.1)

      pub root_there : {B : Type 0} {w z : ℕ} → refused w z ≡ field_at s b 1
          → (before : List Root) (t : Root) (m : ℕ) → root_at s true before p ≡ done t m → B
      root_there q before t m e = not_refused q (naming_number (root_fields before e).0 o d).0

    pub root_named : {B : Type 0} {w z : ℕ} → refused w z ≡ field_at s a 2
        → (before : List Root) (t : Root) (m : ℕ) → root_at s true before p ≡ done t m → B
    root_named d before t m e = not_refused d (naming_id (root_fields before e).0 o).0

  pub root_typed : {B : Type 0} {w z : ℕ} → refused w z ≡ field_at s p 1
      → (before : List Root) (t : Root) (m : ℕ) → root_at s true before p ≡ done t m → B
  root_typed o before t m e = not_refused o (root_fields before e).0.first_is

-- A root that is read again, and the search for one.
module _ (s : List ℕ) (p : ℕ) (before : List Root) (t : Root) (m : ℕ) (e : root_at s true before p ≡ done t m) where
  module _ {x a : ℕ} (o : done x a ≡ field_at s p 1) {id b : ℕ} (d : done id b ≡ field_at s a 2) where
    pub root_again : {number next : ℕ} → done number next ≡ field_at s b 1 → ◌≡◌ {A = RootEntry} (record { attention = x; id = id; number = number; next = next }) (root_of t m)
    root_again q = let w = naming_all (root_fields s p before e).0 o d q in rw (w.0, w.1, w.2, w.3)

module _ (nodes : List ℕ) (attention : ℕ) (t : Root) (m : ℕ) {r : RootEntry} (e : r ≡ root_of t m) where
  pub root_found : r.attention ≡ attention → {k : ℕ} → k ≡ position_in nodes r.id r.number → (ts : List Root) → k ≡ root_position nodes attention (t ∷ ts)
  unfolding root_position
  root_found h {k} d ts =
      let a : t.attention ≡ attention = sym (ap (λ x. x.attention) e) ∙ h in
      let i : r.id ≡ t.id = ap (λ x. x.id) e in
      let n : r.number ≡ t.number = ap (λ x. x.number) e in
      rw (eq-eqb t.attention attention a) (d ∙ rw (i, n))

  pub root_other : (r.attention ≡ attention → ⊥) → (r.next ≡ m) × ((ts : List Root) → root_position nodes attention ts ≡ root_position nodes attention (t ∷ ts))
  unfolding root_position
  root_other h =
      (ap (λ x. x.next) e, λ ts. rw (ne_eqb t.attention attention (λ q. h (ap (λ x. x.attention) e ∙ q))))

pub root_nowhere : (nodes : List ℕ) (attention : ℕ) → 65535 ≡ root_position nodes attention []
unfolding root_position
root_nowhere nodes attention = refl

-- The roots have the same faults by the tables.
module _ (c : Chip) (fit : FieldsFit c) (unique : NamesUnique c) where
  ruled_same : (attention id number : ℕ) → id < 256 ^ 3 → number < 256
      → ruled (node_keys c) (node_entries c) attention id number ≡ some (λ e. node_named id number e && has_rule attention e.instance) (node_entries c)
  unfolding ruled node_position
  ruled_same attention id number hi hn =
      rw (node_position_in c fit id number hi hn)
      (same_truth _ _
      (λ q. ⊎_elim
      (λ h.
      let d = position_at (node_named id number) (node_entries c) (some_position (node_named id number) (node_entries c) ∙ h) in
      let w : has_rule attention d.0.instance ≡ true = sym (some_one (λ (e : NodeEntry). has_rule attention e.instance) d.0) ∙ ap (some (λ (e : NodeEntry). has_rule attention e.instance)) (sym d.1) ∙ q in
      some_at _ _ (node_entries c) d.1 (and_both d.2 w))
      (λ h.
      let z = at_none _ (node_entries c) (ltb-false _ _ h) in
      clash q (some_none (λ (e : NodeEntry). has_rule attention e.instance) z))
      (either (ltb (position (node_named id number) (node_entries c)) (length (node_entries c)))))
      (λ q.
      let o = some_out (λ e. node_named id number e && has_rule attention e.instance) (node_entries c) q in
      let p : position (node_named id number) (node_entries c) ≡ o.0 = node-position c unique o.0 id number o.2 (and_left _ _ o.3) in
      rw (p, o.2) (some_one (λ e. has_rule attention e.instance) o.1 ∙ and_right (node_named id number o.1) _ o.3)))

  pub roots_same : gathered (root_faults_in (node_keys c) (node_entries c)) c.roots ≡ gathered (root_faults c) c.roots
  unfolding root_faults_in root_faults
  roots_same =
      gathered_same _ _ c.roots
      (every_map _ _ (λ (t : Root) h. rw (ruled_same t.attention t.id t.number (omega (arith, h.0)) h.1)) c.roots fit.roots)
