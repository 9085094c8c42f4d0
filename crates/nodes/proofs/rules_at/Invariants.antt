-- The invariant: the marks tell the attention types of the rules so far, and those that are left decide.
use Prim.Native.Nat.{ℕ}
use mathlib.Core.Bool.{true}
use mathlib.Core.List.{[]}
use Rattle.format.specs.Parsed.{row_at}
use Rattle.format.specs.NodeLayout.{rule_at}
use Rattle.nodes.specs.Nodes.{rule_attention}
use Rattle.fields.proofs.RowLaws.{RowIn}
use Rattle.nodes.proofs.rules_at.Given as goal

abbrev pub invariant-loop-left : goal.invariant-loop-left
invariant-loop-left l =
    (begun : ℕ) × RowIn 6 (rule_at l.s true) rule_attention (row_at (rule_at l.s true) l.n [] l.at) 0 begun l.seen l.left l.place

abbrev pub decreases-loop-left : goal.decreases-loop-left
decreases-loop-left l = l.left
