use mathlib.Core.Path.{refl, sym, ◌∙◌, ap}
use native.Mathlib.Omega.{arith}
use Rattle.format.proofs.GatheredLaws.{gathered_each}
use Rattle.fields.specs.Views.{byte_parsed}
use Rattle.fields.proofs.RowLaws.{row_begin, row_next, row_last, row_refused}
use Rattle.nodes.specs.Nodes.{node_number}
use Rattle.nodes.proofs.NodeLaws.{instance-room}
use Rattle.index.specs.Rows.{filled}
use Rattle.index.proofs.Again.{unmade, node_instance_is}
use Rattle.index.proofs.FillingLaws.{sized_put, filling_begin, filling_next, filling_end, instance_put}
use Rattle.index.proofs.node_rows.instances_at.Goals as goal

pub loop-left-init : goal.loop-left-init
loop-left-init c = (row_begin _ _ _ _ _, record { keys = refl; kinds = refl; places = refl }, filling_begin _ _ _ _ _ _ _ tt)

pub bounds-seen-number : goal.bounds-seen-number
bounds-seen-number c = omega arith

pub shape_of-keys-in-Refused : goal.shape_of-keys-in-Refused
shape_of-keys-in-Refused c = c.loop-left.invariant.1.keys

pub shape_of-kinds-in-Refused : goal.shape_of-kinds-in-Refused
shape_of-kinds-in-Refused c = c.loop-left.invariant.1.kinds

pub shape_of-places-in-Refused : goal.shape_of-places-in-Refused
shape_of-places-in-Refused c = c.loop-left.invariant.1.places

pub returns-in-Refused : goal.returns-in-Refused
returns-in-Refused c =
    let e = row_refused _ _ c.loop-left.invariant.0 (sym (ap byte_parsed c.in-Refused.is) ∙ c.node_instance_at-i.ensures _ _ c.loop-left.invariant.0.marks c.loop-left.invariant.0.counted) c.loop-left-test.true in
    record {
      result_value = e;
      fact = λ is m d. unmade _ e d;
    }

pub overflow_add-begun : goal.overflow_add-begun
overflow_add-begun c =
    let h = instance-room _ node_number _ _ c.loop-left.invariant.0.before _ (sym (ap byte_parsed c.in-Byte.is) ∙ c.node_instance_at-i.ensures _ _ c.loop-left.invariant.0.marks c.loop-left.invariant.0.counted) in
    omega (arith, h, c.loop-left.invariant.0.counted)

pub loop-left-preserved : goal.loop-left-preserved
loop-left-preserved c =
    let z = sym (ap byte_parsed c.in-Byte.is) ∙ c.node_instance_at-i.ensures _ _ c.loop-left.invariant.0.marks c.loop-left.invariant.0.counted in (
      row_next _ _ c.loop-left.invariant.0 z c.loop-left-test.true (omega arith),
      sized_put _ _ _ _ c.loop-left.invariant.1 c.put_row.ensures,
      filling_next _ _ _ c.loop-left.invariant.2 c.loop-left-test.true (λ before a m g q. instance_put _ _ _ _ a.number a.place (node_instance_is _ _ _ _ _ z before q) c.key.ensures c.put_row.ensures),
    )

pub shape_of-keys : goal.shape_of-keys
shape_of-keys c = c.loop-left.invariant.1.keys

pub shape_of-kinds : goal.shape_of-kinds
shape_of-kinds c = c.loop-left.invariant.1.kinds

pub shape_of-places : goal.shape_of-places
shape_of-places c = c.loop-left.invariant.1.places

pub returns : goal.returns
returns c = record {
  result_value = row_last _ _ c.loop-left.invariant.0 c.loop-left-test.false;
  fact = λ is m e. (filling_end _ _ _ c.loop-left.invariant.2 c.loop-left-test.false is m e).1 ∙ ap (filled _ _) (gathered_each _ is);
}
