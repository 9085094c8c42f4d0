use Rattle.isolation.proofs.ClassesLaws.{short_keys, short_nodes, short_places, short_active, unread_room}
use Rattle.isolation.proofs.answer.has_room.Goals as goal

pub returns-then-keys-m : goal.returns-then-keys-m
returns-then-keys-m c = short_keys _ _ _ _ _ _ _ c.if-keys-m.true

pub returns-then-nodes-n : goal.returns-then-nodes-n
returns-then-nodes-n c = short_nodes _ _ _ _ _ _ _ c.if-keys-m.false c.if-nodes-n.true

pub returns-then-places-n : goal.returns-then-places-n
returns-then-places-n c = short_places _ _ _ _ _ _ _ c.if-keys-m.false c.if-nodes-n.false c.if-places-n.true

pub returns-then-active-n : goal.returns-then-active-n
returns-then-active-n c = short_active _ _ _ _ _ _ _ c.if-keys-m.false c.if-nodes-n.false c.if-places-n.false c.if-active-n.true

pub returns : goal.returns
returns c = unread_room _ _ _ _ _ _ _ c.if-keys-m.false c.if-nodes-n.false c.if-places-n.false c.if-active-n.false
