use native.Mathlib.Omega.{arith}
use mathlib.Core.Path.{◌∙◌, ap}
use Rattle.walk.specs.Marks.{state_of}
use Rattle.walk.proofs.Step.{same_state}
use Rattle.walk.proofs.WalkLaws.{started_made, started_none}
use Rattle.walk.proofs.WordsLaws.{word_count, words_none, words_touched}
use Rattle.walk.proofs.Walk.start.Goals as goal

pub returns-then-root-lt-NODE_INSTANCES : goal.returns-then-root-lt-NODE_INSTANCES
returns-then-root-lt-NODE_INSTANCES c =
    same_state (words_touched _ _ (omega arith) (words_none word_count) _ (omega arith) c.with_bit-x.ensures) ∙ ap state_of (started_made _ c.if-root-lt-NODE_INSTANCES.true)

pub returns : goal.returns
returns c = same_state (words_none word_count) ∙ ap state_of (started_none _ c.if-root-lt-NODE_INSTANCES.false)
