use mathlib.Core.Path.{refl}
use Rattle.fields.specs.Seen.{unmarked}
use Rattle.fields.proofs.SeenLaws.{unmarked_beyond}
use Rattle.fields.proofs.seen.is_marked.Goals as goal

pub returns-then-i-seen : goal.returns-then-i-seen
unfolding unmarked
returns-then-i-seen c = refl

pub returns : goal.returns
returns c = unmarked_beyond _ _ c.if-i-seen.false
