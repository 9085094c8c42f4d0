-- The invariant: those before have no fault, so that those to come decide.
use mathlib.Core.Bool.{true}
use mathlib.Core.List.{[]}
use Rattle.format.specs.NodeLayout.{rule_at}
use Rattle.format.specs.Parsed.{row_at}
use Rattle.tables.specs.Indexed.{IndexOf}
use Rattle.tables.specs.Faults.{rule_faults_in}
use Rattle.references.proofs.JudgingLaws.{Judging}
use Rattle.references.proofs.rule_faults.Given as goal

abbrev pub invariant-loop-left : goal.invariant-loop-left
invariant-loop-left l = IndexOf l.index l.keys → Judging (rule_at l.s true) (rule_faults_in l.keys l.kinds l.kind) (row_at (rule_at l.s true) l.n [] l.at) l.left l.place

abbrev pub decreases-loop-left : goal.decreases-loop-left
decreases-loop-left l = l.left
