use Prim.Native.Nat.{◌+◌, ◌≤◌, ◌<◌}
use mathlib.Core.Path.{refl, sym, ◌∙◌, ap}
use native.Mathlib.Omega.{arith}
use lib.ListN.{length, set, length-set}
use lib.Seq.{length-take-le}
use Rattle.format.specs.RegisterLayout.{register_total}
use Rattle.format.proofs.RegistersAccepted.{registers_none, registers_more}
use Rattle.fields.specs.Views.{element_parsed}
use Rattle.fields.proofs.RowLaws.{elements_begin, elements_told, elements_next, elements_last, elements_refused}
use Rattle.registers.proofs.RegisterLaws.{register_size}
use Rattle.index.specs.Rows.{filled}
use Rattle.index.proofs.Again.{unmade}
use Rattle.index.proofs.FillingLaws.{filling_begin, filling_next, filling_end}
use Rattle.register_rows.proofs.SectionLaws.{register_next, rows_of}
use Rattle.register_rows.proofs.indexed_rows_at.Goals as goal

pub loop-left-init : goal.loop-left-init
loop-left-init c = (
  refl,
  refl,
  omega arith,
  omega arith,
  omega arith,
  elements_begin _ _ _ _ registers_none registers_more _ _ _ _,
  record { keys = refl; kinds = refl; places = refl },
  filling_begin _ _ _ _ _ _ _ (sym registers_none),
)

pub slice_bounds-register_at-end : goal.slice_bounds-register_at-end
slice_bounds-register_at-end c =
    omega (arith, c.loop-left.invariant.0, c.loop-left.invariant.2, c.loop-left.invariant.3, c.loop-left.invariant.4, c.requires.1)

pub slice_bounds-register_at-end-in-loop-left : goal.slice_bounds-register_at-end-in-loop-left
slice_bounds-register_at-end-in-loop-left c =
    let w : c.loop-left.known ≤ length c.loop-left.ids = omega (arith, c.loop-left.invariant.0, c.loop-left.invariant.2, c.loop-left.invariant.3, c.loop-left.invariant.4, c.requires.1) in
    sym (length-take-le _ _ w)

pub offset_bounds-ids-known : goal.offset_bounds-ids-known
offset_bounds-ids-known c = omega arith

pub bounds-ids-known : goal.bounds-ids-known
bounds-ids-known c =
    let h = register_size _ _ c.loop-left.invariant.5.before _ (sym (ap element_parsed c.in-Element.is) ∙ c.register_at-e.ensures.result_value c.loop-left.invariant.5.indexed c.loop-left.invariant.5.before (elements_told _ _ _ _ registers_none registers_more c.loop-left.invariant.5) c.loop-left.invariant.5.counting.counted) in
    omega (arith, h.0, h.1, c.loop-left.invariant.5.counting.counted, c.loop-left.invariant.0, c.loop-left.invariant.2, c.loop-left.invariant.4, c.loop-left-test.true, c.requires.1)

pub overflow_add-known : goal.overflow_add-known
overflow_add-known c =
    let h = register_size _ _ c.loop-left.invariant.5.before _ (sym (ap element_parsed c.in-Element.is) ∙ c.register_at-e.ensures.result_value c.loop-left.invariant.5.indexed c.loop-left.invariant.5.before (elements_told _ _ _ _ registers_none registers_more c.loop-left.invariant.5) c.loop-left.invariant.5.counting.counted) in
    let b : c.loop-left.known < length c.loop-left.ids = omega (arith, h.0, h.1, c.loop-left.invariant.5.counting.counted, c.loop-left.invariant.0, c.loop-left.invariant.2, c.loop-left.invariant.4, c.loop-left-test.true, c.requires.1) in
    omega (arith, b, c.requires.2, c.loop-left.invariant.0)

pub slice_bounds-enter_ids-end : goal.slice_bounds-enter_ids-end
slice_bounds-enter_ids-end c =
    let h = register_size _ _ c.loop-left.invariant.5.before _ (sym (ap element_parsed c.in-Element.is) ∙ c.register_at-e.ensures.result_value c.loop-left.invariant.5.indexed c.loop-left.invariant.5.before (elements_told _ _ _ _ registers_none registers_more c.loop-left.invariant.5) c.loop-left.invariant.5.counting.counted) in
    let b : c.loop-left.known < length c.loop-left.ids = omega (arith, h.0, h.1, c.loop-left.invariant.5.counting.counted, c.loop-left.invariant.0, c.loop-left.invariant.2, c.loop-left.invariant.4, c.loop-left-test.true, c.requires.1) in
    omega (arith, b, length-set c.loop-left.ids c.loop-left.known c.in-Element.id)

pub slice_bounds-enter_ids-end-in-Element : goal.slice_bounds-enter_ids-end-in-Element
slice_bounds-enter_ids-end-in-Element c =
    let h = register_size _ _ c.loop-left.invariant.5.before _ (sym (ap element_parsed c.in-Element.is) ∙ c.register_at-e.ensures.result_value c.loop-left.invariant.5.indexed c.loop-left.invariant.5.before (elements_told _ _ _ _ registers_none registers_more c.loop-left.invariant.5) c.loop-left.invariant.5.counting.counted) in
    let b : c.loop-left.known < length c.loop-left.ids = omega (arith, h.0, h.1, c.loop-left.invariant.5.counting.counted, c.loop-left.invariant.0, c.loop-left.invariant.2, c.loop-left.invariant.4, c.loop-left-test.true, c.requires.1) in
    let w : c.loop-left.known + 1 ≤ length (set c.loop-left.ids c.loop-left.known c.in-Element.id) = omega (arith, b, length-set c.loop-left.ids c.loop-left.known c.in-Element.id) in
    sym (length-take-le _ _ w)

pub overflow_add-total : goal.overflow_add-total
overflow_add-total c =
    omega (arith, c.loop-left.invariant.3, c.requires.0)

pub shape_of-ids-in-Refused : goal.shape_of-ids-in-Refused
shape_of-ids-in-Refused c = c.loop-left.invariant.0

pub shape_of-index-in-Refused : goal.shape_of-index-in-Refused
shape_of-index-in-Refused c = c.loop-left.invariant.1

pub shape_of-keys-in-Refused : goal.shape_of-keys-in-Refused
shape_of-keys-in-Refused c = c.keys-1.given ∙ c.loop-left.invariant.6.keys

pub shape_of-kinds-in-Refused : goal.shape_of-kinds-in-Refused
shape_of-kinds-in-Refused c = c.kinds-1.given ∙ c.loop-left.invariant.6.kinds

pub returns-in-Refused : goal.returns-in-Refused
returns-in-Refused c =
    let e = elements_refused _ _ _ _ registers_none registers_more c.loop-left.invariant.5 (sym (ap element_parsed c.in-Refused.is) ∙ c.register_at-e.ensures.result_value c.loop-left.invariant.5.indexed c.loop-left.invariant.5.before (elements_told _ _ _ _ registers_none registers_more c.loop-left.invariant.5) c.loop-left.invariant.5.counting.counted) c.loop-left-test.true in
    record {
      result_value = e;
      kinds_after = λ rs m d. unmade register_total e d;
    }

pub overflow_add-known-in-loop-left : goal.overflow_add-known-in-loop-left
overflow_add-known-in-loop-left c = omega (arith, c.loop-left.invariant.2, c.loop-left.invariant.3, c.requires.0)

pub loop-left-preserved : goal.loop-left-preserved
loop-left-preserved c =
    let k = elements_told _ _ _ _ registers_none registers_more c.loop-left.invariant.5 in
    let z = sym (ap element_parsed c.in-Element.is) ∙ c.register_at-e.ensures.result_value c.loop-left.invariant.5.indexed c.loop-left.invariant.5.before k c.loop-left.invariant.5.counting.counted in
    let h = register_size _ _ c.loop-left.invariant.5.before _ z in
    let b : c.loop-left.known < length c.loop-left.ids = omega (arith, h.0, h.1, c.loop-left.invariant.5.counting.counted, c.loop-left.invariant.0, c.loop-left.invariant.2, c.loop-left.invariant.4, c.loop-left-test.true, c.requires.1) in (
      length-set c.loop-left.ids c.loop-left.known c.in-Element.id ∙ c.loop-left.invariant.0,
      c.index-1.given ∙ c.loop-left.invariant.1,
      omega (arith, h.0, c.loop-left.invariant.2),
      omega (arith, h.1, c.loop-left.invariant.5.counting.counted),
      omega (arith, c.loop-left.invariant.4, c.loop-left-test.true),
      elements_next _ _ _ _ registers_none registers_more c.loop-left.invariant.5 z c.loop-left-test.true b (omega (arith, c.loop-left.invariant.0, c.requires.2)) c.enter_ids-entered.ensures c.larger-largest.ensures,
      record { keys = c.keys-1.given ∙ c.loop-left.invariant.6.keys; kinds = c.kinds-1.given ∙ c.loop-left.invariant.6.kinds; places = refl },
      filling_next _ _ _ c.loop-left.invariant.7 c.loop-left-test.true (register_next _ _ _ _ _ c.loop-left.invariant.5.before c.loop-left.invariant.5.counting.counted z (c.register_at-e.ensures.kinds_after c.loop-left.invariant.5.indexed c.loop-left.invariant.5.before k c.loop-left.invariant.5.counting.counted)),
    )

pub shape_of-ids : goal.shape_of-ids
shape_of-ids c = c.loop-left.invariant.0

pub shape_of-index : goal.shape_of-index
shape_of-index c = c.loop-left.invariant.1

pub shape_of-keys : goal.shape_of-keys
shape_of-keys c = c.loop-left.invariant.6.keys

pub shape_of-kinds : goal.shape_of-kinds
shape_of-kinds c = c.loop-left.invariant.6.kinds

pub returns : goal.returns
returns c = record {
  result_value = elements_last _ _ _ _ registers_none registers_more c.loop-left.invariant.5 c.loop-left-test.false;
  kinds_after = λ rs m e. (filling_end _ _ _ c.loop-left.invariant.7 c.loop-left-test.false rs m e).1 ∙ ap (filled _ 0) (sym (rows_of rs));
}
