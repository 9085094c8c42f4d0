-- The invariant: the lines of the first i records have been put.
use Prim.Native.Nat.{◌-◌, ◌≤◌}
use Rattle.report.specs.Text.{Put, record_lines}
use Rattle.report.proofs.put_records.Given as goal

abbrev pub invariant-loop-i : goal.invariant-loop-i
invariant-loop-i l = (l.i ≤ l.records) × Put l.initial.text 0 (record_lines l.i l.list) l.text l.at

abbrev pub decreases-loop-i : goal.decreases-loop-i
decreases-loop-i l = l.records - l.i
