use Prim.Native.Nat.{ℕ, ◌+◌, ◌≤◌, ◌<◌}
use mathlib.Core.Path.{refl, sym, ◌∙◌, ap}
use native.Mathlib.Omega.{arith}
use lib.ListN.{length, set, length-set, length-replicate}
use lib.Seq.{length-take-le}
use Rattle.tables.specs.Indexed.{places_for}
use Rattle.limits.specs.Limits.{library_limits}
use Rattle.format.specs.Lookup.{node_entries_of}
use Rattle.format.specs.NodeLayout.{node_total}
use Rattle.format.proofs.GatheredLaws.{map-gathered}
use Rattle.format.proofs.NodesAccepted.{nodes_none, nodes_more}
use Rattle.fields.specs.Views.{element_parsed}
use Rattle.fields.proofs.RowLaws.{elements_begin, elements_told, elements_next, elements_last, elements_refused}
use Rattle.nodes.proofs.NodeLaws.{node_size}
use Rattle.index.specs.Rows.{filled, node_row}
use Rattle.index.proofs.Again.{unmade}
use Rattle.index.proofs.ElementLaws.{node_next}
use Rattle.index.proofs.FillingLaws.{filling_begin, filling_next, filling_end}
use Rattle.index.proofs.node_rows.rows_at.Goals as goal

pub loop-left-init : goal.loop-left-init
loop-left-init c = (
  length-replicate {A = ℕ} library_limits.node_instances 0,
  length-replicate {A = ℕ} (places_for library_limits.node_instances) 0,
  omega arith,
  omega arith,
  elements_begin _ _ _ _ nodes_none nodes_more _ _ _ _,
  record { keys = refl; kinds = refl; places = refl },
  filling_begin _ _ _ _ _ _ _ (sym nodes_none),
  c.requires,
)

pub slice_bounds-ids-end : goal.slice_bounds-ids-end
slice_bounds-ids-end c = omega arith

pub slice_bounds-node_at-end : goal.slice_bounds-node_at-end
slice_bounds-node_at-end c =
    let h : c.loop-left.known ≤ length c.loop-left.ids = omega (arith, c.loop-left.invariant.0, c.loop-left.invariant.2, c.loop-left.invariant.3) in
    sym (length-take-le _ _ h)

pub slice_bounds-node_at-end-in-loop-left : goal.slice_bounds-node_at-end-in-loop-left
slice_bounds-node_at-end-in-loop-left c = sym c.loop-left.invariant.1

pub offset_bounds-ids-known : goal.offset_bounds-ids-known
offset_bounds-ids-known c = omega arith

pub bounds-ids-known : goal.bounds-ids-known
bounds-ids-known c =
    let h = node_size _ _ c.loop-left.invariant.4.before _ (sym (ap element_parsed c.in-Element.is) ∙ c.node_at-e.ensures.result_value c.loop-left.invariant.4.indexed c.loop-left.invariant.4.before (elements_told _ _ _ _ nodes_none nodes_more c.loop-left.invariant.4) c.loop-left.invariant.4.counting.counted) in
    omega (arith, h.0, h.1, c.loop-left.invariant.4.counting.counted, c.loop-left.invariant.7)

pub overflow_add-ids : goal.overflow_add-ids
overflow_add-ids c = omega arith

pub slice_bounds-ids-end-in-Element : goal.slice_bounds-ids-end-in-Element
slice_bounds-ids-end-in-Element c =
    let h = node_size _ _ c.loop-left.invariant.4.before _ (sym (ap element_parsed c.in-Element.is) ∙ c.node_at-e.ensures.result_value c.loop-left.invariant.4.indexed c.loop-left.invariant.4.before (elements_told _ _ _ _ nodes_none nodes_more c.loop-left.invariant.4) c.loop-left.invariant.4.counting.counted) in
    let b : c.loop-left.known < length c.loop-left.ids = omega (arith, h.0, h.1, c.loop-left.invariant.4.counting.counted, c.loop-left.invariant.7) in
    omega (arith, b, length-set c.loop-left.ids c.loop-left.known c.in-Element.id)

pub slice_bounds-enter_ids-end : goal.slice_bounds-enter_ids-end
slice_bounds-enter_ids-end c =
    let h = node_size _ _ c.loop-left.invariant.4.before _ (sym (ap element_parsed c.in-Element.is) ∙ c.node_at-e.ensures.result_value c.loop-left.invariant.4.indexed c.loop-left.invariant.4.before (elements_told _ _ _ _ nodes_none nodes_more c.loop-left.invariant.4) c.loop-left.invariant.4.counting.counted) in
    let b : c.loop-left.known < length c.loop-left.ids = omega (arith, h.0, h.1, c.loop-left.invariant.4.counting.counted, c.loop-left.invariant.7) in
    let w : c.loop-left.known + 1 ≤ length (set c.loop-left.ids c.loop-left.known c.in-Element.id) = omega (arith, b, length-set c.loop-left.ids c.loop-left.known c.in-Element.id) in
    sym (length-take-le _ _ w)

pub slice_bounds-enter_ids-end-in-Element : goal.slice_bounds-enter_ids-end-in-Element
slice_bounds-enter_ids-end-in-Element c = sym c.loop-left.invariant.1

pub overflow_add-total : goal.overflow_add-total
overflow_add-total c = omega arith

pub shape_of-keys-in-Refused : goal.shape_of-keys-in-Refused
shape_of-keys-in-Refused c = c.keys-1.given ∙ c.loop-left.invariant.5.keys

pub shape_of-kinds-in-Refused : goal.shape_of-kinds-in-Refused
shape_of-kinds-in-Refused c = c.kinds-1.given ∙ c.loop-left.invariant.5.kinds

pub shape_of-places-in-Refused : goal.shape_of-places-in-Refused
shape_of-places-in-Refused c = c.places-1.given ∙ c.loop-left.invariant.5.places

pub returns-in-Refused : goal.returns-in-Refused
returns-in-Refused c =
    let e = elements_refused _ _ _ _ nodes_none nodes_more c.loop-left.invariant.4 (sym (ap element_parsed c.in-Refused.is) ∙ c.node_at-e.ensures.result_value c.loop-left.invariant.4.indexed c.loop-left.invariant.4.before (elements_told _ _ _ _ nodes_none nodes_more c.loop-left.invariant.4) c.loop-left.invariant.4.counting.counted) c.loop-left-test.true in
    record {
      result_value = e;
      fact = λ ns m d. unmade node_total e d;
    }

pub overflow_add-known : goal.overflow_add-known
overflow_add-known c = omega arith

pub loop-left-preserved : goal.loop-left-preserved
loop-left-preserved c =
    let k = elements_told _ _ _ _ nodes_none nodes_more c.loop-left.invariant.4 in
    let z = sym (ap element_parsed c.in-Element.is) ∙ c.node_at-e.ensures.result_value c.loop-left.invariant.4.indexed c.loop-left.invariant.4.before k c.loop-left.invariant.4.counting.counted in
    let h = node_size _ _ c.loop-left.invariant.4.before _ z in
    let b : c.loop-left.known < length c.loop-left.ids = omega (arith, h.0, h.1, c.loop-left.invariant.4.counting.counted, c.loop-left.invariant.7) in (
      length-set c.loop-left.ids c.loop-left.known c.in-Element.id ∙ c.loop-left.invariant.0,
      c.index-in-Element-2-1.given,
      omega (arith, h.0),
      omega (arith, h.1, c.loop-left.invariant.4.counting.counted, c.loop-left.invariant.7),
      elements_next _ _ _ _ nodes_none nodes_more c.loop-left.invariant.4 z c.loop-left-test.true (omega (arith, b, c.loop-left.invariant.0)) (omega (arith, c.loop-left.invariant.0)) c.enter_ids-entered.ensures c.larger-largest.ensures,
      record { keys = c.keys-1.given ∙ c.loop-left.invariant.5.keys; kinds = c.kinds-1.given ∙ c.loop-left.invariant.5.kinds; places = c.places-1.given ∙ c.loop-left.invariant.5.places },
      filling_next _ _ _ c.loop-left.invariant.6 c.loop-left-test.true (node_next _ _ _ _ _ c.loop-left.invariant.4.before c.loop-left.invariant.4.counting.counted z (c.node_at-e.ensures.fact c.loop-left.invariant.4.indexed c.loop-left.invariant.4.before k c.loop-left.invariant.4.counting.counted)),
      c.loop-left.invariant.7,
    )

pub shape_of-keys : goal.shape_of-keys
shape_of-keys c = c.loop-left.invariant.5.keys

pub shape_of-kinds : goal.shape_of-kinds
shape_of-kinds c = c.loop-left.invariant.5.kinds

pub shape_of-places : goal.shape_of-places
shape_of-places c = c.loop-left.invariant.5.places

pub returns : goal.returns
returns c = record {
  result_value = elements_last _ _ _ _ nodes_none nodes_more c.loop-left.invariant.4 c.loop-left-test.false;
  fact = λ ns m e. (filling_end _ _ _ c.loop-left.invariant.6 c.loop-left-test.false ns m e).1 ∙ ap (filled _ 0) (sym (map-gathered node_row node_entries_of ns));
}
