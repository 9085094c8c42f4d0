use Rattle.std.proofs.Common.{◌≡◌, ◌+◌, ◌*◌, ◌-◌, ◌/◌, ◌≤◌, length}
use Rattle.format.specs.Parsed.{making}
use Rattle.records.specs.Record.{records_from}
use Rattle.records.specs.Grammar.{grammar}
use Rattle.records.specs.Judging.{rest}
use Rattle.records.proofs.grammar.judge.Given as goal

abbrev pub invariant-loop-i : goal.invariant-loop-i
invariant-loop-i l = record {
  still : making (λ _. tt) (grammar l.s) ≡ rest l.s l.b (16 * l.i) (records_from l.s (length l.s / 16 - l.i) (16 * l.i));
  owed : l.b.owed ≤ length l.s / 16 - l.i + 1;
}
