use mathlib.Core.Path.{refl, sym, ◌∙◌, ap}
use native.Mathlib.Omega.{arith}
use Rattle.format.specs.RegisterLayout.{register_total}
use Rattle.index.specs.Rows.{filled}
use Rattle.index.proofs.Again.{unmade}
use Rattle.index.proofs.RisingLaws.{rows_begin, rows_room, rows_next, rows_last, rows_filled, rows_refused, rows_falls}
use Rattle.register_rows.proofs.SectionLaws.{registers_reader, rows_of}
use Rattle.register_rows.proofs.rising_rows_at.Goals as goal

pub loop-left-init : goal.loop-left-init
loop-left-init c = rows_begin (registers_reader _ _) _ _ _

pub overflow_add-bound : goal.overflow_add-bound
overflow_add-bound c =
    omega (arith, (rows_room (registers_reader _ _) c.loop-left.invariant c.rising_register_at-e.ensures.element_told c.in-Element.is).0)

pub overflow_add-total : goal.overflow_add-total
overflow_add-total c =
    omega (arith, (rows_room (registers_reader _ _) c.loop-left.invariant c.rising_register_at-e.ensures.element_told c.in-Element.is).1)

pub shape_of-keys-in-Refused : goal.shape_of-keys-in-Refused
shape_of-keys-in-Refused c = c.keys-1.given ∙ c.loop-left.invariant.lengths.keys

pub shape_of-kinds-in-Refused : goal.shape_of-kinds-in-Refused
shape_of-kinds-in-Refused c = c.kinds-1.given ∙ c.loop-left.invariant.lengths.kinds

pub returns-in-Refused : goal.returns-in-Refused
returns-in-Refused c =
    let e = rows_refused (registers_reader _ _) c.loop-left.invariant c.rising_register_at-e.ensures.element_told c.in-Refused.is c.loop-left-test.true in
    record {
      count_told = e;
      count_unless = λ rs m d. unmade register_total e d;
    }

pub shape_of-keys-in-Falls : goal.shape_of-keys-in-Falls
shape_of-keys-in-Falls c = c.keys-1.given ∙ c.loop-left.invariant.lengths.keys

pub shape_of-kinds-in-Falls : goal.shape_of-kinds-in-Falls
shape_of-kinds-in-Falls c = c.kinds-1.given ∙ c.loop-left.invariant.lengths.kinds

pub returns-in-Falls : goal.returns-in-Falls
returns-in-Falls c = record {
  count_told = tt;
  count_unless = λ rs m d. ap (filled _ 0) (rows_of rs) ∙ rows_falls (registers_reader _ _) c.loop-left.invariant _ c.rising_register_at-e.ensures.element_unless c.in-Falls.is rs m d ∙ ap (filled _ 0) (sym (rows_of rs));
}

pub loop-left-preserved : goal.loop-left-preserved
loop-left-preserved c =
    rows_next (registers_reader _ _) c.loop-left.invariant c.rising_register_at-e.ensures.element_told _ c.rising_register_at-e.ensures.element_unless c.in-Element.is
    c.loop-left-test.true
    (record { keys = c.keys-1.given; kinds = c.kinds-1.given; places = refl })

pub shape_of-keys : goal.shape_of-keys
shape_of-keys c = c.loop-left.invariant.lengths.keys

pub shape_of-kinds : goal.shape_of-kinds
shape_of-kinds c = c.loop-left.invariant.lengths.kinds

pub returns : goal.returns
returns c = record {
  count_told = rows_last (registers_reader _ _) c.loop-left.invariant c.loop-left-test.false;
  count_unless = λ rs m d. rows_filled (registers_reader _ _) c.loop-left.invariant c.loop-left-test.false rs m d ∙ ap (filled _ 0) (sym (rows_of rs));
}
