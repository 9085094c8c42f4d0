-- The faults that the tables show are those of the file.
use Prim.Native.Nat.{ℕ, ◌≤◌, ◌<◌}
use mathlib.Core.Bool.{true}
use mathlib.Core.List.{List, [], ◌∷◌, map}
use mathlib.Core.Path.{◌≡◌, refl, sym, ◌∙◌, ap, subst}
use native.Mathlib.Omega.{arith}
use lib.ListN.{length, length-map}
use Rattle.limits.proofs.LimitsLaws.{nodes_within}
use Rattle.limits.specs.Limits.{Limits, library_limits, limits_of}
use Rattle.limits.specs.declared.LimitSet.{LimitSet}
use Rattle.numbers.specs.BigEndian.{Bytes}
use Rattle.format.specs.FileLayout.{roots_at, file_at}
use Rattle.format.specs.Lookup.{gathered, NodeEntry, node_entries}
use Rattle.format.specs.Parsed.{Parsed, done, refused}
use Rattle.format.specs.References.{Fault, instance_faults, root_faults, reference_faults}
use Rattle.format.specs.Rules.{Every}
use Rattle.format.specs.Tree.{Root, Chip}
use Rattle.format.proofs.FaultsLaws.{append_none}
use Rattle.format.proofs.FileAccepted.{file_out}
use Rattle.format.proofs.Grouping.{LayoutMeets, layout_out}
use Rattle.format.proofs.GatheredLaws.{gathered_same}
use Rattle.format.proofs.ParsedLaws.{then_out, making_out}
use Rattle.tables.specs.Faults.{judged_at, capture_faults_in, register_names_in}
use Rattle.tables.specs.Keys.{node_keys}
use Rattle.tables.specs.Tables.{written}
use Rattle.tables.proofs.FaultsLaws.{judged_stop, judged_on}
use Rattle.index.specs.Rows.{ReadAgain, entry_place}
use Rattle.index.specs.Columns.{TablesOf}
use Rattle.index.proofs.RowsLaws.{nodes_again}
use Rattle.links.specs.Links.{child_row}
use Rattle.node_pass.specs.Passed.{entry_names_in}
use Rattle.references.specs.FaultsIn.{child_faults_in, instance_faults_in, entry_faults_in, root_faults_in}
use Rattle.references.proofs.TablesLaws.{instances_same}
use Rattle.references.proofs.RootsLaws.{roots_same}

-- What a file that was read keeps to.
pub layout_meets : (limits : Limits) (s : List ℕ) → Bytes s → {c : Chip} {end : ℕ} → file_at limits s true 0 ≡ done c end → LayoutMeets limits c
layout_meets limits s bytes {c} e = (layout_out limits c (file_out limits s bytes e).1).1

-- So few names as a file has fit an index.
names_few : {E : Type 0} (f : E → ℕ) (es : List E) (keys : List ℕ) → keys ≡ map f es → length es ≤ library_limits.register_instances → length keys < 65536
names_few f es keys e h = let l : length keys ≡ length es = ap length e ∙ length-map es f in omega arith

module _ (of : LimitSet) (s : List ℕ) (bytes : Bytes s) {c : Chip} {end : ℕ} (file : file_at (limits_of of) s true 0 ≡ done c end) where
  pub few_nodes : (keys : List ℕ) → keys ≡ node_keys c → length keys < 65536
  few_nodes keys e = names_few _ (node_entries c) keys e (omega (arith, (layout_meets (limits_of of) s bytes file).within.nodes, nodes_within of))

-- Its node instances are read again at their places.
pub entries_again : (limits : Limits) (s : List ℕ) {c : Chip} {end : ℕ} → file_at limits s true 0 ≡ done c end → Every (ReadAgain s) (node_entries c)
unfolding file_at node_entries
entries_again limits s {c} e =
    let t = then_out _ _ e in
    let u = then_out _ _ t.3 in
    let v = then_out _ _ u.3 in
    let g = making_out _ _ v.3 in
    let n : v.0 ≡ c.nodes = ap (λ x. x.nodes) g.2 in
    nodes_again limits.node_instances s u.1 (v.2 ∙ ap (λ x. done x v.1) n)

-- The table of children by the names of the chip's node instances.
pub children-of : (c : Chip) (nodes table : List ℕ) → nodes ≡ node_keys c → {t : List ℕ} → t ≡ written table 0 (gathered (λ e. child_row nodes e.instance) (node_entries c))
    → t ≡ written table 0 (gathered (λ e. child_row (node_keys c) e.instance) (node_entries c))
children-of c nodes table e {t} d = subst (λ n. t ≡ written table 0 (gathered (λ e. child_row n e.instance) (node_entries c))) e d

-- Where every register fits and every child is there, no node instance has a fault.
pub no_faults : (keys kinds nodes : List ℕ) (es : List NodeEntry) → gathered (entry_names_in keys kinds) es ≡ [] → gathered (λ e. gathered (child_faults_in nodes) e.instance.children) es ≡ []
    → gathered (entry_faults_in keys kinds nodes) es ≡ []
unfolding gathered entry_names_in register_names_in entry_faults_in instance_faults_in
no_faults keys kinds nodes [] a b = refl
no_faults keys kinds nodes (e ∷ es) a b =
    let p = append_none (entry_names_in keys kinds e) _ a in
    let q = append_none (gathered (capture_faults_in keys kinds) e.instance.captures) _ p.0 in
    let r = append_none (gathered (child_faults_in nodes) e.instance.children) _ b in
    rw (q.0, q.1, r.0, no_faults keys kinds nodes es p.1 r.1)

pub clean_judged : (fs : List Fault) → fs ≡ [] → done tt 0 ≡ judged_at fs 0
unfolding judged_at
clean_judged fs e = rw e

module _ (limits : Limits) (s : List ℕ) (bytes : Bytes s) (keys kinds nodes wanted places : List ℕ) (c : Chip) (end : ℕ) (file : file_at limits s true 0 ≡ done c end)
    (tables : TablesOf c keys kinds nodes wanted places) where
  instances_are : gathered (entry_faults_in keys kinds nodes) (node_entries c) ≡ gathered (instance_faults c) (node_entries c)
  unfolding entry_faults_in
  instances_are =
      let m = layout_meets limits s bytes file in
      rw (tables.keys_are, tables.kinds_are, tables.nodes_are) (gathered_same _ _ (node_entries c) (instances_same c m.fields m.unique))

  roots_are : gathered (root_faults_in nodes (node_entries c)) c.roots ≡ gathered (root_faults c) c.roots
  roots_are = let m = layout_meets limits s bytes file in rw tables.nodes_are (roots_same c m.fields m.unique)

  module _ {y : Parsed (Unit {0})} (f : y ≡ judged_at (gathered (entry_faults_in keys kinds nodes) (node_entries c)) 0) where
    nodes_judged : y ≡ judged_at (gathered (instance_faults c) (node_entries c)) 0
    nodes_judged = f ∙ ap (λ z. judged_at z 0) instances_are

    -- A node instance's fault decides.
    pub names_refused : {n p : ℕ} → y ≡ refused n p → refused n p ≡ judged_at (reference_faults c) end
    unfolding reference_faults
    names_refused e = sym (judged_stop (gathered (instance_faults c) (node_entries c)) (gathered (root_faults c) c.roots) 0 end (sym nodes_judged ∙ e))

    -- Where there is none, the roots decide.
    pub names_roots : {u : Unit {0}} {a : ℕ} → y ≡ done u a → {z : Parsed (Unit {0})} (at : ℕ)
        → ((es : List NodeEntry) → Every (ReadAgain s) es → places ≡ map entry_place es → (ts : List Root) (m : ℕ) → roots_at s true at ≡ done ts m → z ≡ judged_at (gathered (root_faults_in nodes es) ts) m)
        → roots_at s true at ≡ done c.roots end → z ≡ judged_at (reference_faults c) end
    unfolding reference_faults
    names_roots e {z} at g r =
        let j = judged_on (gathered (instance_faults c) (node_entries c)) (gathered (root_faults c) c.roots) end (sym nodes_judged ∙ e) in
        g (node_entries c) (entries_again limits s file) tables.places_are c.roots end r ∙ ap (λ x. judged_at x end) roots_are ∙ sym j.1
