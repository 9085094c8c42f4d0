use mathlib.Core.Path.{refl}
use Rattle.index.proofs.SizeLaws.{size_four, size_eight, instances_after}
use Rattle.index.proofs.addresses.after_instances.Goals as goal

pub returns-then-h-eq1 : goal.returns-then-h-eq1
returns-then-h-eq1 c = λ limit total is m. instances_after limit _ total _ (size_four _ c.if-h-eq1.true) _ _ refl c.place_after.ensures.value c.place_after.ensures.value_2

pub returns : goal.returns
returns c = λ limit total is m. instances_after limit _ total _ (size_eight _ c.if-h-eq1.false) _ _ refl c.place_after-2.ensures.value c.place_after-2.ensures.value_2
