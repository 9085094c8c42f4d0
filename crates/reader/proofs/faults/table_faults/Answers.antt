use Prim.Native.Nat.{ℕ}
use mathlib.Core.Path.{◌≡◌, ap}
use native.Mathlib.Omega.{arith}
use Rattle.fields.specs.Views.{next_parsed}
use Rattle.reader.proofs.FaultsLaws.{all_refused, all_cycles}
use Rattle.reader.proofs.NameLaws.{few_nodes}
use Rattle.reader.proofs.faults.table_faults.Goals as goal

pub returns-in-Next : goal.returns-in-Next
returns-in-Next c = record {
  result_value = (λ of chip end file roots tables entries a room.
      let b = c.enter_all.ensures (few_nodes of _ (λ i. (c.type_inv.s i).fits) file _ tables.nodes_are) in
      let l = c.name_faults-f.ensures.linked of chip end _ c.in-Next.is file tables entries a b in
      all_cycles chip end (c.name_faults-f.ensures.result_value of chip end file roots tables entries a b) (ap next_parsed c.in-Next.is)
      (λ clean. c.cycle_fault.ensures of _ chip end l.base (λ i. (c.type_inv.s i).fits) file clean tables.places_are (omega (arith, room, l.sized)) l.children_are));
  linked = λ of chip end next r file tables entries a. c.name_faults-f.ensures.linked of chip end _ c.in-Next.is file tables entries a (c.enter_all.ensures (few_nodes of _ (λ i. (c.type_inv.s i).fits) file _ tables.nodes_are));
}

pub returns-in-Refused : goal.returns-in-Refused
returns-in-Refused c = record {
  result_value = (λ of chip end file roots tables entries a room. all_refused chip end (c.name_faults-f.ensures.result_value of chip end file roots tables entries a (c.enter_all.ensures (few_nodes of _ (λ i. (c.type_inv.s i).fits) file _ tables.nodes_are))) (ap next_parsed c.in-Refused.is));
  linked = λ of chip end next r file tables entries a. let z : ◌≡◌ {A = ℕ} 0 1 = cc in absurd (omega arith);
}
