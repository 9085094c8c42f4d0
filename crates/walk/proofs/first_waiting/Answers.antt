use Rattle.std.proofs.Common.{◌≡◌, length, arith}
use Rattle.walk.proofs.WordsLaws.{first_word, first_nowhere}
use Rattle.walk.proofs.first_waiting.Goals as goal

pub returns-then-word-ne0 : goal.returns-then-word-ne0
returns-then-word-ne0 c = λ m s e. first_word m _ s e _ c.loop-j.invariant (omega arith) c.if-word-ne0.true c.next_bit.ensures

pub returns : goal.returns
returns c = λ m s e. let all : c.loop-j.j ≡ length c.args.words.now = omega arith in omega (arith, first_nowhere m _ s e _ c.loop-j.invariant all)
