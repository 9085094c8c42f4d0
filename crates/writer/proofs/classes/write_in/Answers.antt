use mathlib.Core.Path.{sym}
use lib.Seq.{length-take-le}
use Rattle.writer.proofs.BuildingLaws.{too_large, packed_short, packed_answer}
use Rattle.writer.proofs.classes.write_in.Goals as goal

pub returns-then-buffer-n : goal.returns-then-buffer-n
returns-then-buffer-n c = too_large _ _ _ _ (packed_short _ _ _ c.pack_file-n.ensures.size c.pack_file-n.ensures.output c.if-buffer-n.true)

pub slice_bounds-put_checked-end-2 : goal.slice_bounds-put_checked-end-2
slice_bounds-put_checked-end-2 c = sym (length-take-le _ _ c.if-buffer-n.false)

pub returns : goal.returns
returns c = packed_answer _ _ _ _ _ c.pack_file-n.ensures.size c.pack_file-n.ensures.output c.if-buffer-n.false c.put_checked.ensures
