use Rattle.std.proofs.Common.{arith, ap, ◌≡◌, ℕ, length-take}
use Rattle.packing.proofs.MeasureLaws.{all_records, count_next, count_end, in_whole, registers_cut, others_cut, roots_cut}
use Rattle.packing.specs.Packing.{of_registers, of_roots, count_by}
use Rattle.packing.proofs.split.Goals as goal

pub loop-i-init : goal.loop-i-init
loop-i-init c = record {
  registers = omega (arith, ap (count_by of_registers) (all_records c.args.records.now));
  roots = omega (arith, ap (count_by of_roots) (all_records c.args.records.now));
}

pub overflow_add-registers : goal.overflow_add-registers
overflow_add-registers c =
    omega (
      arith,
      c.from-registers.ensures,
      c.loop-i.invariant.registers,
      in_whole c.args.records.now,
      count_next _ _ (omega arith) c.record_at-r.ensures c.element_of-e.ensures of_registers c.is_of_registers.ensures,
    )

pub overflow_add-roots : goal.overflow_add-roots
overflow_add-roots c =
    omega (
      arith,
      c.from-roots.ensures,
      c.loop-i.invariant.roots,
      in_whole c.args.records.now,
      count_next _ _ (omega arith) c.record_at-r.ensures c.element_of-e.ensures of_roots c.is_of_roots.ensures,
    )

pub loop-i-preserved : goal.loop-i-preserved
loop-i-preserved c = record {
  registers =
      omega (
        arith,
        c.from-registers.ensures,
        c.loop-i.invariant.registers,
        count_next _ _ (omega arith) c.record_at-r.ensures c.element_of-e.ensures of_registers c.is_of_registers.ensures,
      );
  roots =
      omega (
        arith,
        c.from-roots.ensures,
        c.loop-i.invariant.roots,
        count_next _ _ (omega arith) c.record_at-r.ensures c.element_of-e.ensures of_roots c.is_of_roots.ensures,
      );
}

pub slice_bounds-result-end : goal.slice_bounds-result-end
slice_bounds-result-end c = omega (arith, c.loop-i.invariant.registers, c.loop-i.invariant.roots, in_whole c.args.records.now, length-take {A = ℕ})

pub returns : goal.returns
returns c =
    let a : c.loop-i.registers ≡ count_by of_registers _ = omega (arith, c.loop-i.invariant.registers, count_end c.args.records.now c.loop-i.i (omega arith) of_registers) in
    let b : c.loop-i.roots ≡ count_by of_roots _ = omega (arith, c.loop-i.invariant.roots, count_end c.args.records.now c.loop-i.i (omega arith) of_roots) in
    record { registers = registers_cut c.args.records.now a b; others = others_cut c.args.records.now a b; roots = roots_cut c.args.records.now a b }
