use Prim.Native.Nat.{ℕ}
use mathlib.Core.Path.{◌≡◌, ap}
use native.Mathlib.Omega.{arith}
use Rattle.limits.specs.Limits.{limits_of}
use Rattle.format.specs.Lookup.{node_entries}
use Rattle.fields.specs.Views.{next_parsed}
use Rattle.reader.proofs.NameLaws.{entries_again, children-of, names_refused, names_roots}
use Rattle.reader.proofs.faults.exact_faults.Goals as goal

pub returns-in-Next : goal.returns-in-Next
returns-in-Next c = record {
  result_value = λ of chip end file roots tables j k. names_roots (limits_of of) _ (λ i. (c.type_inv.s i).fits) _ _ _ _ _ chip end file tables
      (c.node_faults-f.ensures.result_value j k (node_entries chip) (entries_again (limits_of of) _ file) tables.places_are tables.wanted_are) (ap next_parsed c.in-Next.is) _ c.root_faults.ensures roots;
  child_after = λ of chip end next r file tables j k. children-of chip _ _ tables.nodes_are (c.node_faults-f.ensures.by_index _ c.in-Next.is j k (node_entries chip) (entries_again (limits_of of) _ file) tables.places_are tables.wanted_are);
}

pub returns-in-Refused : goal.returns-in-Refused
returns-in-Refused c = record {
  result_value = λ of chip end file roots tables j k. names_refused (limits_of of) _ (λ i. (c.type_inv.s i).fits) _ _ _ _ _ chip end file tables
      (c.node_faults-f.ensures.result_value j k (node_entries chip) (entries_again (limits_of of) _ file) tables.places_are tables.wanted_are) (ap next_parsed c.in-Refused.is);
  child_after = λ of chip end next r file tables j k. let z : ◌≡◌ {A = ℕ} 0 1 = cc in absurd (omega arith);
}
