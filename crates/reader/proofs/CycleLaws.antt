-- The cycles of the table of children are the cycles of the child entries.
use Prim.Native.Nat.{ℕ, suc, ◌+◌, ◌*◌, ◌≤◌, ◌<◌, ◌^◌}
use mathlib.Core.Bool.{Bool, true, false, cond}
use mathlib.Core.List.{List, [], ◌∷◌, ◌++◌}
use mathlib.Core.Logic.{⊎_elim}
use mathlib.Core.Path.{◌≡◌, refl, sym, ◌∙◌, ap, subst, fun_ext}
use native.Mathlib.Omega.{arith}
use lib.Dec.{eqb}
use lib.ListN.{length, get_or, drop, length-map, length-append}
use borrow.Author.Tests.{eqb-true, eq-eqb, ltb-true, lt-ltb}
use Rattle.limits.proofs.LimitsLaws.{nodes_within}
use Rattle.limits.specs.Limits.{library_limits, limits_of}
use Rattle.limits.specs.declared.LimitSet.{LimitSet}
use Rattle.numbers.specs.BigEndian.{Bytes}
use Rattle.numbers.proofs.Bools.{clash, same_truth}
use Rattle.graph.specs.Chains.{names}
use Rattle.graph.specs.Paths.{on_cycle}
use Rattle.format.specs.Cycles.{leads, child_edge, cycles_from, cycle_faults}
use Rattle.format.specs.FileLayout.{file_at}
use Rattle.format.specs.Lookup as lookup
use Rattle.format.specs.Lookup.{position, at, gathered, NodeEntry, node_entries, node_named, node_position}
use Rattle.format.specs.Parsed.{done, refused}
use Rattle.format.specs.References.{has_node, reference_faults, unless}
use Rattle.format.specs.Rules.{Every, NamesPresent, all_children}
use Rattle.format.specs.Tree.{Child, Chip}
use Rattle.format.proofs.EveryLaws.{every_map, every_both, every-gathered_out}
use Rattle.format.proofs.FaultsLaws.{references_out, edges_inside}
use Rattle.format.proofs.Grouping.{LayoutMeets}
use Rattle.format.proofs.PositionsLaws.{at_first, at_next, every_at, at_inside, inside_at, position_at, some_at, some_one, key_position, node-position}
use Rattle.cycles.specs.Cycle.{table_edge, in_cycle, first_below, first_cycle}
use Rattle.cycles.proofs.TableLaws.{edge_out, edge_in, first_cycle_few}
use Rattle.tables.specs.Tables.{written}
use Rattle.tables.specs.Faults.{judged_at, position_in}
use Rattle.tables.proofs.TablesLaws.{written_front}
use Rattle.tables.specs.Keys.{node_keys}
use Rattle.index.specs.Columns.{node_places}
use Rattle.index.specs.Rows.{entry_place}
use Rattle.links.specs.Links.{child_row, child_in, ChildrenFit}
use Rattle.links.proofs.ChildrenLaws.{child_row-length}
use Rattle.links.proofs.TableLaws.{table_child}
use Rattle.tables.proofs.ColumnLaws.{column_at}
use Rattle.format.proofs.PositionsLaws.{at_most, some_position, some_out}
use Rattle.tables.proofs.KeysLaws.{node_position_in}
use Rattle.reader.proofs.NameLaws.{layout_meets}

module _ (of : LimitSet) (c : Chip) (meets : LayoutMeets (limits_of of) c) (present : NamesPresent c) where
  abbrev entries : List NodeEntry
  entries = node_entries c

  -- A child's position by key is the node instance's position, inside the file.
  child-position : (k : Child) → (k.id < 256 ^ 2) × (k.number < 256) → position_in (node_keys c) k.id k.number ≡ position (node_named k.id k.number) entries
  child-position k h = node_position_in c meets.fields k.id k.number (omega (arith, h.0)) h.1

  abbrev Found : Child → Type 0
  Found k = (position_in (node_keys c) k.id k.number ≡ position (node_named k.id k.number) entries) × (position (node_named k.id k.number) entries < length entries)

  children_found : Every Found (all_children c)
  unfolding has_node
  children_found =
      every_map _ _
      (λ (k : Child) h. (child-position k h.0, ltb-true _ _ (sym (some_position (node_named k.id k.number) entries) ∙ h.1)))
      (all_children c) (every_both _ _ (all_children c) meets.fields.children present.children)

  -- So the table of children can be read.
  pub entry-children : Every (λ e. Every Found e.instance.children) entries
  unfolding all_children
  entry-children = every-gathered_out _ _ entries children_found

  bits_small : Every (λ e. Every (λ k. k.bit < 64) e.instance.children) entries
  unfolding all_children
  bits_small = every-gathered_out _ _ entries meets.bits

  node-at : (id number i : ℕ) {e : NodeEntry} → at i entries ≡ e ∷ [] → node_named id number e ≡ true → position (node_named id number) entries ≡ i
  unfolding node_position
  node-at id number i q h = node-position c meets.unique i id number q h

  pub children_fit : Every (λ e. ChildrenFit (node_keys c) (length entries) e.instance) entries
  children_fit =
      every_map _ _
      (λ (e : NodeEntry) h. record { unique = h.0; present = every_map _ _ (λ (k : Child) f. rw f.0 f.1) e.instance.children h.1 })
      entries (every_both _ _ entries meets.unique.children entry-children)

  module _ (few : length entries ≤ library_limits.node_instances) (rest : List ℕ) where
    abbrev table : List ℕ
    table = gathered (λ e. child_row (node_keys c) e.instance) entries ++ rest

    named_none : (j : ℕ) (ks : List Child) → ks ≡ [] → names (child_in (node_keys c) ks) j ≡ false
    unfolding child_in
    named_none j ks e = rw e

    named_some : (j : ℕ) (ks : List Child) (k : Child) → ks ≡ k ∷ [] → names (child_in (node_keys c) ks) j ≡ eqb (position_in (node_keys c) k.id k.number) j
    unfolding child_in
    named_some j ks k e = rw e

    -- An edge of the table is an edge of the child entries, and back.
    edge_entry : (i j : ℕ) {e : NodeEntry} → at i entries ≡ e ∷ [] → lookup.some (leads e) (at j entries) ≡ true → child_edge c i j ≡ true
    unfolding child_edge
    edge_entry i j {e} q h = ap (lookup.some (λ a. lookup.some (leads a) (at j entries))) q ∙ some_one (λ a. lookup.some (leads a) (at j entries)) e ∙ h

    edge_there : (i j : ℕ) → table_edge (length entries) table i j ≡ true → child_edge c i j ≡ true
    unfolding leads
    edge_there i j h =
        let o = edge_out (length entries) table i j h in
        let a = at_inside i entries o.0 in
        let e = a.0 in
        let b = o.1.0 in
        let ks = at (position (λ k. eqb k.bit b) e.instance.children) e.instance.children in
        let w : names (child_in (node_keys c) ks) j ≡ true = ap (λ x. names x j) (sym (table_child (node_keys c) entries few children_fit i a.1 b o.1.1 rest)) ∙ o.1.2 in
        ⊎_elim
        (λ n. clash w (named_none j ks n))
        (λ s.
        let k = s.0 in
        let p : position_in (node_keys c) k.id k.number ≡ j = eqb-true _ _ (sym (named_some j ks k s.1) ∙ w) in
        let g = every_at _ i entries entry-children a.1 in
        let f = every_at Found _ e.instance.children g s.1 in
        let l : lookup.some (node_named k.id k.number) entries ≡ true = some_position (node_named k.id k.number) entries ∙ lt-ltb _ _ f.1 in
        let d = position_at (node_named k.id k.number) entries l in
        let z : position (node_named k.id k.number) entries ≡ j = sym f.0 ∙ p in
        let m : at j entries ≡ d.0 ∷ [] = subst (λ x. at x entries ≡ d.0 ∷ []) z d.1 in
        edge_entry i j a.1
        (ap (lookup.some (leads e)) m ∙ some_one (leads e) d.0 ∙ some_at (λ x. node_named x.id x.number d.0) _ e.instance.children s.1 d.2))
        (at_most (position (λ k. eqb k.bit b) e.instance.children) e.instance.children)

    edge_back : (i j : ℕ) → child_edge c i j ≡ true → table_edge (length entries) table i j ≡ true
    unfolding child_edge leads
    edge_back i j h =
        let s = edges_inside c i j h in
        let a = at_inside i entries s.0 in
        let d = at_inside j entries s.1 in
        let e = a.0 in
        let l : leads e d.0 ≡ true =
        sym (ap (lookup.some (λ a. lookup.some (leads a) (at j entries))) a.1 ∙ some_one (λ a. lookup.some (leads a) (at j entries)) e ∙ ap (lookup.some (leads e)) d.1 ∙ some_one (leads e) d.0) ∙ h
        in
        let o = some_out (λ k. node_named k.id k.number d.0) e.instance.children l in
        let k = o.1 in
        let b = every_at (λ k. k.bit < 64) o.0 e.instance.children (every_at _ i entries bits_small a.1) o.2 in
        let u = every_at (λ e. ChildrenFit (node_keys c) (length entries) e.instance) i entries children_fit a.1 in
        let q : at (position (λ x. eqb x.bit k.bit) e.instance.children) e.instance.children ≡ k ∷ [] =
        subst (λ x. at x e.instance.children ≡ k ∷ []) (sym (key_position (λ x. x.bit) e.instance.children u.unique o.0 o.2 refl)) o.2
        in
        let f = every_at Found o.0 e.instance.children (every_at _ i entries entry-children a.1) o.2 in
        let n : position (node_named k.id k.number) entries ≡ j = node-at k.id k.number j d.1 o.3 in
        let p : position_in (node_keys c) k.id k.number ≡ j = f.0 ∙ n in
        edge_in (length entries) table i j k.bit s.0 b
        (ap (λ x. names x j) (table_child (node_keys c) entries few children_fit i a.1 k.bit b rest) ∙ named_some j _ k q ∙ eq-eqb _ _ p)

    edges_same : table_edge (length entries) table ≡ child_edge c
    edges_same = fun_ext λ i. fun_ext λ j. same_truth _ _ (edge_there i j) (edge_back i j)

    abbrev cyclic : ℕ → Bool
    cyclic i = on_cycle (length entries) (child_edge c) i

    cycles_same : (i : ℕ) → in_cycle (length entries) table i ≡ cyclic i
    unfolding in_cycle
    cycles_same i = ap (λ e. on_cycle (length entries) e i) edges_same

    -- The first that lies on a cycle decides.
    cycle_yes : (i : ℕ) (e : NodeEntry) (es : List NodeEntry) (m : ℕ) → cyclic i ≡ true → refused 14 e.instance.place ≡ judged_at (cycles_from c i (e ∷ es)) m
    unfolding cycles_from unless judged_at
    cycle_yes i e es m h = rw h

    cycle_no : (i : ℕ) (e : NodeEntry) (es : List NodeEntry) (m : ℕ) → cyclic i ≡ false → judged_at (cycles_from c (suc i) es) m ≡ judged_at (cycles_from c i (e ∷ es)) m
    unfolding cycles_from unless judged_at
    cycle_no i e es m h = rw h

    no_cycle : (i m : ℕ) → done tt m ≡ judged_at (cycles_from c i []) m
    unfolding cycles_from judged_at
    no_cycle i m = refl

    next_test : (p : ℕ → Bool) (i : ℕ) → ((k : ℕ) → p k ≡ cyclic (i + k)) → (k : ℕ) → p (suc k) ≡ cyclic (suc i + k)
    next_test p i h k = h (suc k) ∙ ap cyclic (let z : i + suc k ≡ suc i + k = omega arith in z)

    first_test : (p : ℕ → Bool) (i : ℕ) → ((k : ℕ) → p k ≡ cyclic (i + k)) → cyclic i ≡ p 0
    first_test p i h = ap cyclic (let z : i ≡ i + 0 = omega arith in z) ∙ sym (h 0)

    first_yes : (p : ℕ → Bool) (i : ℕ) (es : List NodeEntry) → ((k : ℕ) → p k ≡ cyclic (i + k)) → (m : ℕ) {e : NodeEntry}
        → at (first_below (length es) p) es ≡ e ∷ [] → refused 14 e.instance.place ≡ judged_at (cycles_from c i es) m
    unfolding first_below
    first_yes p i [] h m q = absurd (let z = inside_at _ [] q in omega arith)
    first_yes p i (x ∷ es) h m {e} q = go (p 0) refl q (λ w. first_yes (λ k. p (suc k)) (suc i) es (next_test p i h) m w)
      where
        go : (t : Bool) → p 0 ≡ t → at (cond t 0 (suc (first_below (length es) (λ k. p (suc k))))) (x ∷ es) ≡ e ∷ []
            → (at (first_below (length es) (λ k. p (suc k))) es ≡ e ∷ [] → refused 14 e.instance.place ≡ judged_at (cycles_from c (suc i) es) m)
            → refused 14 e.instance.place ≡ judged_at (cycles_from c i (x ∷ es)) m
        go true d w r =
            let v : x ≡ e = let z : x ∷ [] ≡ e ∷ [] = sym (at_first x es) ∙ w in cc in
            subst (λ y. refused 14 y.instance.place ≡ judged_at (cycles_from c i (x ∷ es)) m) v (cycle_yes i x es m (first_test p i h ∙ d))
        go false d w r = r (sym (at_next _ x es) ∙ w) ∙ cycle_no i x es m (first_test p i h ∙ d)

    first_no : (p : ℕ → Bool) (i : ℕ) (es : List NodeEntry) → ((k : ℕ) → p k ≡ cyclic (i + k)) → (m : ℕ)
        → length es ≤ first_below (length es) p → done tt m ≡ judged_at (cycles_from c i es) m
    unfolding first_below
    first_no p i [] h m l = no_cycle i m
    first_no p i (x ∷ es) h m l = go (p 0) refl l (λ w. first_no (λ k. p (suc k)) (suc i) es (next_test p i h) m w)
      where
        go : (t : Bool) → p 0 ≡ t → suc (length es) ≤ cond t 0 (suc (first_below (length es) (λ k. p (suc k))))
            → (length es ≤ first_below (length es) (λ k. p (suc k)) → done tt m ≡ judged_at (cycles_from c (suc i) es) m)
            → done tt m ≡ judged_at (cycles_from c i (x ∷ es)) m
        go true d w r = absurd (omega arith)
        go false d w r = r (omega arith) ∙ cycle_no i x es m (first_test p i h ∙ d)

    test_is : (k : ℕ) → in_cycle (length entries) table k ≡ cyclic (0 + k)
    test_is k = cycles_same k ∙ ap cyclic (let z : k ≡ 0 + k = omega arith in z)

    module _ {k : ℕ} (found : k ≡ first_cycle table (length entries)) (m : ℕ) where
      first_is : k ≡ first_below (length entries) (in_cycle (length entries) table)
      first_is = found ∙ first_cycle_few table (length entries) few

      pub cycle_found : k < length entries → refused 14 (get_or (node_places c) k 0) ≡ judged_at (cycle_faults c) m
      unfolding cycle_faults
      cycle_found h =
          let a = at_inside k entries h in
          let p : get_or (node_places c) k 0 ≡ entry_place a.0 = column_at entry_place entries k a.1 in
          rw p (first_yes (in_cycle (length entries) table) 0 entries test_is m (subst (λ x. at x entries ≡ a.0 ∷ []) first_is a.1))

      pub cycle_none : length entries ≤ k → done tt m ≡ judged_at (cycle_faults c) m
      unfolding cycle_faults
      cycle_none h = first_no (in_cycle (length entries) table) 0 entries test_is m (omega (arith, first_is))

-- 64 places for each.
pub rows-length : (nodes : List ℕ) (es : List NodeEntry) → length (gathered (λ e. child_row nodes e.instance) es) ≡ length es * 64
unfolding gathered
rows-length nodes [] = refl
rows-length nodes (e ∷ es) =
    length-append (child_row nodes e.instance) _ ∙ (let a = child_row-length nodes e.instance in let b = rows-length nodes es in omega arith)

-- What the code finds in a table that begins with the children of each.
module _ (of : LimitSet) (s : List ℕ) (bytes : Bytes s) (c : Chip) {end : ℕ} (file : file_at (limits_of of) s true 0 ≡ done c end) (clean : reference_faults c ≡ []) (places table : List ℕ)
    (places_are : places ≡ node_places c) (long : length (node_entries c) * 64 ≤ length table) {child : List ℕ}
    (filled : child ≡ written table 0 (gathered (λ e. child_row (node_keys c) e.instance) (node_entries c)))
    {k : ℕ} (found : k ≡ first_cycle child (length places)) (m : ℕ) where
  size_is : length places ≡ length (node_entries c)
  size_is = ap length places_are ∙ length-map (node_entries c) entry_place

  room : length (node_entries c) ≤ library_limits.node_instances
  room = omega (arith, (layout_meets (limits_of of) s bytes file).within.nodes, nodes_within of)

  found_is : k ≡ first_cycle (gathered (λ e. child_row (node_keys c) e.instance) (node_entries c) ++ drop (length (gathered (λ e. child_row (node_keys c) e.instance) (node_entries c))) table) (length (node_entries c))
  found_is =
      let l = rows-length (node_keys c) (node_entries c) in
      let h : length (gathered (λ e. child_row (node_keys c) e.instance) (node_entries c)) ≤ length table = omega (arith, long) in
      found ∙ ap (λ z. first_cycle z (length places)) (filled ∙ written_front table _ h) ∙ ap (first_cycle _) size_is

  pub fault_found : k < length places → refused 14 (get_or places k 0) ≡ judged_at (cycle_faults c) m
  fault_found h =
      ap (λ z. refused 14 (get_or z k 0)) places_are
      ∙ cycle_found of c (layout_meets (limits_of of) s bytes file) (references_out c clean).0 room _ found_is m (omega (arith, size_is))

  pub fault_none : length places ≤ k → done tt m ≡ judged_at (cycle_faults c) m
  fault_none h = cycle_none of c (layout_meets (limits_of of) s bytes file) (references_out c clean).0 room _ found_is m (omega (arith, size_is))
