-- The invariant: the first k rows have the listed bits of the first i node instances.
use Rattle.std.proofs.Common.{◌≤◌}
use Rattle.walk.specs.TableGraph.{table_graph}
use Rattle.listing.specs.Rows.{first_rows, RowsKept}
use Rattle.listing.proofs.keep_rows.Given as goal

abbrev pub invariant-loop-i : goal.invariant-loop-i
invariant-loop-i l =
    record {
      few : l.k ≤ l.i;
      rows : RowsKept l.model l.slot l.keys (table_graph l.graph.active.now l.graph.children.now) l.marks l.i (first_rows l.k l.heads l.words);
    }
