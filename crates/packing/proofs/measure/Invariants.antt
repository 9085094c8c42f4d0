use Rattle.std.proofs.Common.{◌≡◌, ◌+◌}
use Rattle.records.specs.Record.{records_in}
use Rattle.packing.specs.Writing.{sizes}
use Rattle.packing.proofs.MeasureLaws.{records_on}
use Rattle.packing.proofs.measure.Given as goal

abbrev pub invariant-loop-i : goal.invariant-loop-i
invariant-loop-i l = l.size + sizes l.form (records_on l.part l.i) ≡ sizes 0 (records_in l.part)
