use mathlib.Core.Path.{refl}
use native.Mathlib.Omega.{arith}
use Rattle.limits.specs.Limits.{limits_of}
use Rattle.format.specs.Lookup.{node_entries}
use Rattle.reader.proofs.NameLaws.{entries_again, children-of, names_roots, no_faults, clean_judged}
use Rattle.reader.proofs.faults.name_faults.Goals as goal

pub returns-then-entries-eq0 : goal.returns-then-entries-eq0
returns-then-entries-eq0 c = record {
  result_value = (λ of chip end file roots tables entries j k. c.exact_faults.ensures.result_value of chip end file roots tables j k);
  linked = λ of chip end next r file tables entries j k. record { base = _; sized = refl; children_are = c.exact_faults.ensures.child_after of chip end next r file tables j k };
}

pub returns-then-link_children : goal.returns-then-link_children
returns-then-link_children c = record {
  result_value = (λ of chip end file roots tables entries j k.
      let z = c.link_children.ensures k c.if-link_children.true (node_entries chip) (entries_again (limits_of of) _ file) (entries.entries_are (omega (arith, c.if-entries-eq0.false))) in
      names_roots (limits_of of) _ (λ i. (c.type_inv.s i).fits) _ _ _ _ _ chip end file tables (clean_judged _ (no_faults _ _ _ (node_entries chip) (entries.fit (omega (arith, c.if-entries-eq0.false))) z.0)) refl _ c.root_faults.ensures roots);
  linked = λ of chip end next r file tables entries j k.
      let z = c.link_children.ensures k c.if-link_children.true (node_entries chip) (entries_again (limits_of of) _ file) (entries.entries_are (omega (arith, c.if-entries-eq0.false))) in
      record { base = _; sized = refl; children_are = children-of chip _ _ tables.nodes_are z.1 };
}

pub returns : goal.returns
returns c = record {
  result_value = (λ of chip end file roots tables entries j k. c.exact_faults-2.ensures.result_value of chip end file roots tables j k);
  linked = λ of chip end next r file tables entries j k. record { base = _; sized = c.child-2-1.given; children_are = c.exact_faults-2.ensures.child_after of chip end next r file tables j k };
}
