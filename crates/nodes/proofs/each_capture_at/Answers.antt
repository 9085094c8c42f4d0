use mathlib.Core.Path.{refl, ap}
use Rattle.fields.specs.Views.{forget}
use Rattle.expressions.proofs.HeadLaws.{down_none, down_no, down_more}
use Rattle.nodes.proofs.NodeLaws.{captures_blind}
use Rattle.nodes.proofs.each_capture_at.Goals as goal

pub loop-left-init : goal.loop-left-init
loop-left-init c = ap forget (captures_blind _ _ _)

pub returns-in-Refused : goal.returns-in-Refused
returns-in-Refused c = down_no _ _ _ c.loop-left.invariant c.capture_at-c.ensures c.in-Refused.is c.loop-left-test.true refl

pub loop-left-preserved : goal.loop-left-preserved
loop-left-preserved c = down_more _ _ _ c.loop-left.invariant c.capture_at-c.ensures c.in-Next.is c.loop-left-test.true

pub returns : goal.returns
returns c = down_none _ _ _ c.loop-left.invariant c.loop-left-test.false refl
