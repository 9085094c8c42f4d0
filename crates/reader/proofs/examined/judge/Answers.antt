use mathlib.Core.Path.{sym}
use lib.ListN.{length}
use lib.Seq.{length-take-le}
use Rattle.reader.proofs.ExaminedLaws.{usable_out, entries_part}
use Rattle.reader.proofs.examined.judge.Goals as goal

pub slice_bounds-table_faults-end : goal.slice_bounds-table_faults-end
slice_bounds-table_faults-end c = sym (length-take-le _ _ c.requires.0)

pub slice_bounds-table_faults-end-2 : goal.slice_bounds-table_faults-end-2
slice_bounds-table_faults-end-2 c = sym (length-take-le _ _ c.requires.1)

pub slice_bounds-table_faults-end-3 : goal.slice_bounds-table_faults-end-3
slice_bounds-table_faults-end-3 c = sym (length-take-le _ _ c.requires.2)

pub slice_bounds-table_faults-end-4 : goal.slice_bounds-table_faults-end-4
slice_bounds-table_faults-end-4 c = sym (length-take-le _ _ c.requires.3)

pub slice_bounds-table_faults-end-5 : goal.slice_bounds-table_faults-end-5
slice_bounds-table_faults-end-5 c = sym (length-take-le _ _ c.requires.4)

pub slice_bounds-table_faults-end-6 : goal.slice_bounds-table_faults-end-6
slice_bounds-table_faults-end-6 c = sym (length-take-le _ _ (usable_out c.args.l.fits c.args.l.node_instances (length c.args.entries.now) c.usable-k.ensures).0)

pub returns : goal.returns
returns c = record {
  result_value = (λ of chip file roots tables entries index room. c.table_faults.ensures.result_value of chip _ file roots tables (entries_part chip c.args.l c.args.keys.now c.args.kinds.now c.args.entries.now entries _ c.usable-k.ensures) index room);
  linked = λ of chip next e file tables entries index. c.table_faults.ensures.linked of chip _ next e file tables (entries_part chip c.args.l c.args.keys.now c.args.kinds.now c.args.entries.now entries _ c.usable-k.ensures) index;
}
