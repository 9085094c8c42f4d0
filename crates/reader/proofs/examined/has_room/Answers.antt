use Rattle.reader.proofs.ExaminedLaws.{room_keys, room-kinds, room_names, room_wanted, room_places, room_child}
use Rattle.reader.proofs.examined.has_room.Goals as goal

pub returns-then-keys-m : goal.returns-then-keys-m
returns-then-keys-m c = room_keys _ _ _ c.if-keys-m.true

pub returns-then-kinds-m : goal.returns-then-kinds-m
returns-then-kinds-m c = room-kinds _ _ _ c.if-keys-m.false c.if-kinds-m.true

pub returns-then-names-n : goal.returns-then-names-n
returns-then-names-n c = room_names _ _ _ c.if-keys-m.false c.if-kinds-m.false c.if-names-n.true

pub returns-then-wanted-n : goal.returns-then-wanted-n
returns-then-wanted-n c = room_wanted _ _ _ c.if-keys-m.false c.if-kinds-m.false c.if-names-n.false c.if-wanted-n.true

pub returns-then-places-n : goal.returns-then-places-n
returns-then-places-n c = room_places _ _ _ c.if-keys-m.false c.if-kinds-m.false c.if-names-n.false c.if-wanted-n.false c.if-places-n.true

pub returns : goal.returns
returns c = room_child _ _ _ c.if-keys-m.false c.if-kinds-m.false c.if-names-n.false c.if-wanted-n.false c.if-places-n.false
