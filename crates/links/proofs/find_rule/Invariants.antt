-- The invariant: no rule before is for the type, so that it is sought among those to come.
use mathlib.Core.Bool.{true}
use mathlib.Core.List.{[]}
use Rattle.format.specs.NodeLayout.{rule_at}
use Rattle.format.specs.Parsed.{row_at}
use Rattle.links.specs.Links.{rule_place}
use Rattle.links.proofs.RowLaws.{Going}
use Rattle.links.proofs.find_rule.Given as goal

abbrev pub invariant-loop-left : goal.invariant-loop-left
invariant-loop-left l = Going (rule_at l.s true) (rule_place l.attention) (row_at (rule_at l.s true) l.n [] l.at) (rule_place l.attention) l.left l.place

abbrev pub decreases-loop-left : goal.decreases-loop-left
decreases-loop-left l = l.left
