use mathlib.Core.Path.{◌∙◌}
use Rattle.index.proofs.SoughtLaws.{register_same, register_other}
use Rattle.index.proofs.addresses.register_address.Goals as goal

pub returns-then-h-id : goal.returns-then-h-id
returns-then-h-id c = λ limit total flags is m e. register_same _ _ c.if-h-id.true (c.instance_address.ensures limit total flags is m e)

pub returns : goal.returns
returns c = λ limit total flags is m e. c.absent.ensures ∙ register_other _ _ _ _ flags is c.if-h-id.false
