use Rattle.std.proofs.Common.{arith, refl, ap}
use Rattle.packing.proofs.MeasureLaws.{all_records, measure_next, measure_end, sizes_bound}
use Rattle.packing.specs.Writing.{sizes}
use Rattle.packing.proofs.measure.Goals as goal

pub loop-i-init : goal.loop-i-init
loop-i-init c = omega (arith, ap (sizes 0) (all_records c.args.part.now))

pub overflow_add-size : goal.overflow_add-size
overflow_add-size c =
    omega (
      arith,
      c.loop-i.invariant,
      sizes_bound c.args.part.now,
      measure_next _ _ (omega arith) c.record_at-r.ensures c.element_of-e.ensures c.loop-i.form c.address_size.ensures c.own_size-size.ensures refl,
    )

pub loop-i-preserved : goal.loop-i-preserved
loop-i-preserved c =
    omega (
      arith,
      c.loop-i.invariant,
      measure_next _ _ (omega arith) c.record_at-r.ensures c.element_of-e.ensures c.loop-i.form c.address_size.ensures c.own_size-size.ensures c.form_with-form.ensures,
    )

pub returns : goal.returns
returns c = omega (arith, c.loop-i.invariant, measure_end c.args.part.now c.loop-i.i (omega arith) c.loop-i.form)
