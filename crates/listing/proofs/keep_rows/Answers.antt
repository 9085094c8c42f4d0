use Rattle.std.proofs.Common.{arith}
use Rattle.listing.proofs.KeptLaws.{kept_none, kept_next, head_keyed}
use Rattle.listing.proofs.keep_rows.Goals as goal

pub loop-i-init : goal.loop-i-init
loop-i-init c = record { few = omega arith; rows = kept_none _ _ _ _ _ _ _ }

pub loop-i-preserved : goal.loop-i-preserved
loop-i-preserved c = record {
  few = omega arith;
  rows = kept_next _ _ _ _ _ _ c.loop-i.invariant.rows c.row_word.ensures (head_keyed _ _ c.args.keys.now c.loop-i.i c.entry.ensures c.head_of-head.ensures) c.keep_row-k.ensures.words_after;
}
