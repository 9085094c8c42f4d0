use Rattle.packing.proofs.OutputLaws.{file-size, no_room, has-room}
use Rattle.packing.proofs.pack_file.Goals as goal

pub returns-then-out-size : goal.returns-then-out-size
returns-then-out-size c = record {
  size = file-size _ _ c.split-p.ensures c.measured-size.ensures;
  output = no_room _ _ c.split-p.ensures c.measured-size.ensures _ c.if-out-size.true;
}

pub returns : goal.returns
returns c = record {
  size = file-size _ _ c.split-p.ensures c.measured-size.ensures;
  output = has-room _ _ c.split-p.ensures c.measured-size.ensures c.if-out-size.false c.put_file.ensures;
}
