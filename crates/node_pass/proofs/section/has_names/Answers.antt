use Rattle.node_pass.proofs.SectionLaws.{no_keys, no-kinds, few_names}
use Rattle.node_pass.proofs.section.has_names.Goals as goal

pub returns-then-keys-m : goal.returns-then-keys-m
returns-then-keys-m c = no_keys _ _ _ c.if-keys-m.true

pub returns-then-kinds-m : goal.returns-then-kinds-m
returns-then-kinds-m c = no-kinds _ _ _ c.if-keys-m.false c.if-kinds-m.true

pub returns : goal.returns
returns c = few_names _ _ _ c.if-keys-m.false c.if-kinds-m.false
