use Rattle.std.proofs.Common.{◌≡◌, ◌+◌}
use Rattle.records.specs.Record.{records_in}
use Rattle.packing.specs.Packing.{of_registers, of_roots, count_by}
use Rattle.packing.proofs.MeasureLaws.{records_on}
use Rattle.packing.proofs.split.Given as goal

abbrev pub invariant-loop-i : goal.invariant-loop-i
invariant-loop-i l = record {
  registers : l.registers + count_by of_registers (records_on l.records l.i) ≡ count_by of_registers (records_in l.records);
  roots : l.roots + count_by of_roots (records_on l.records l.i) ≡ count_by of_roots (records_in l.records);
}
