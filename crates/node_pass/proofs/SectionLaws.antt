-- The nodes section as it is kept, by the pass and by the exact reader.
use Prim.Native.Nat.{ℕ, ◌≤◌, ◌<◌}
use mathlib.Core.Bool.{Bool, true, false, not, ◌&&◌}
use mathlib.Core.List.{List, map}
use mathlib.Core.Path.{◌≡◌, refl, sym, ◌∙◌, subst}
use native.Mathlib.Omega.{arith}
use borrow.Author.Tests.{leb-true, ltb-true, le-leb, lt-leb, lt-ltb, not-true, not-false}
use lib.Dec.{leb, ltb}
use lib.ListN.{length, take}
use lib.Seq.{length-take-le}
use Rattle.numbers.proofs.Bools.{and_left, and_right, and_both, clash}
use Rattle.format.specs.Lookup.{gathered, node_entries_of}
use Rattle.format.specs.NodeLayout.{nodes_at}
use Rattle.format.specs.Parsed.{Parsed, done, making}
use Rattle.format.specs.Tree.{Node}
use Rattle.format.proofs.ParsedLaws.{making_in}
use Rattle.fields.specs.Views.{Section}
use Rattle.nodes.specs.Nodes.{node_section}
use Rattle.index.specs.Rows.{Rows, filled, node_row}
use Rattle.index.proofs.Again.{same_done}
use Rattle.node_pass.specs.declared.SectionPass.{SectionPass}
use Rattle.node_pass.specs.declared.section.NodesRead.{NodesRead}
use Rattle.node_pass.specs.Passed.{SectionPassed}
use Rattle.node_pass.specs.Section.{NodesKept}

-- Tables that hold the names.
pub record Holds (m keys kinds : ℕ) : Type 0 where
  pub keys_in : m ≤ keys
  pub kinds_in : m ≤ kinds
  pub few : m < 65536

pub holds : (m keys kinds : ℕ) {b : Bool} → b ≡ leb m keys && (leb m kinds && ltb m 65536) → not b ≡ false → Holds m keys kinds
holds m keys kinds e t =
    let a = sym e ∙ not-false _ t in
    let b = and_right (leb m keys) _ a in
    record { keys_in = leb-true _ _ (and_left (leb m keys) _ a); kinds_in = leb-true _ _ (and_left (leb m kinds) _ b); few = ltb-true _ _ (and_right (leb m kinds) _ b) }

pub holds_not : {A : Type 0} (m keys kinds : ℕ) {b : Bool} → b ≡ leb m keys && (leb m kinds && ltb m 65536) → not b ≡ true → m < 65536 → m ≤ keys → m ≤ kinds → A
holds_not m keys kinds e t f k l = clash (sym (not-true _ t) ∙ e ∙ and_both (le-leb m keys k) (and_both (le-leb m kinds l) (lt-ltb m 65536 f))) refl

pub no_keys : (m keys kinds : ℕ) → keys < m → false ≡ leb m keys && (leb m kinds && ltb m 65536)
no_keys m keys kinds h = rw (lt-leb m keys h)

pub no-kinds : (m keys kinds : ℕ) → m ≤ keys → kinds < m → false ≡ leb m keys && (leb m kinds && ltb m 65536)
no-kinds m keys kinds k h = rw (le-leb m keys k, lt-leb m kinds h)

pub few_names : (m keys kinds : ℕ) → m ≤ keys → m ≤ kinds → ltb m 65536 ≡ leb m keys && (leb m kinds && ltb m 65536)
few_names m keys kinds k l = rw (le-leb m keys k, le-leb m kinds l)

pub few_taken : (m : ℕ) (keys : List ℕ) → m ≤ length keys → m < 65536 → length (take m keys) < 65536
few_taken m keys h f = omega (arith, length-take-le m keys h)

-- What one section is, is one.
pub one_section : {p q : SectionPass} → NodesRead.Section p ≡ NodesRead.Section q → p ≡ q
one_section {p} {q} e = let z : p ≡ q = cc in z

-- By the exact reader, from tables of the lengths of those at first.
pub kept_exact : (m : ℕ) (keys kinds : List ℕ) (t : Rows) (c : List ℕ) (b : Rows) {u : Rows} {d : List ℕ} {fits : Bool} (ns : List Node)
    → length b.keys ≡ length t.keys → length b.kinds ≡ length t.kinds → length b.places ≡ length t.places
    → (fits ≡ false) × (u ≡ filled b 0 (map node_row (gathered node_entries_of ns))) → NodesKept m keys kinds t c u d fits ns
kept_exact m keys kinds t c b ns k i p e =
    record { base = b; keys_sized = k; kinds_sized = i; places_sized = p; rows = e.1; names = λ f. clash (sym e.0 ∙ f) refl }

module _ (limit : ℕ) (s : List ℕ) (at m : ℕ) (keys kinds : List ℕ) (t : Rows) (c : List ℕ) {u : Rows} {d : List ℕ} {p : SectionPass} (q : SectionPassed limit s (take m keys) (take m kinds) at t c u d p) where
  -- By the pass.
  pub kept_passed : Holds m (length keys) (length kinds) → {r : SectionPass} → NodesRead.Section p ≡ NodesRead.Section r → (ns : List Node) (end : ℕ) → nodes_at limit s true at ≡ done ns end → NodesKept m keys kinds t c u d r.fits ns
  kept_passed h {r} e ns end w =
      let z : q.nodes ≡ ns = (same_done (sym q.read) w).0 in
      let o : p ≡ r = one_section e in
      subst (λ x. NodesKept m keys kinds t c u d x.fits ns) o
      (subst (NodesKept m keys kinds t c u d p.fits) z
      (record {
        base = q.base.rows;
        keys_sized = q.base.keys_sized;
        kinds_sized = q.base.kinds_sized;
        places_sized = q.base.places_sized;
        rows = q.rows;
        names = λ f. record { keys_in = h.keys_in; kinds_in = h.kinds_in; column = q.base.column; column_sized = q.base.column_sized; entries_are = q.children_are; fit = q.fit f };
      }))

  pub parsed_passed : ◌≡◌ {A = Parsed Section} (done (record { elements = p.nodes; instances = p.total }) p.next) (making node_section (nodes_at limit s true at))
  parsed_passed = sym (making_in node_section (nodes_at limit s true at) q.read (rw (← q.listed, ← q.counted)))
