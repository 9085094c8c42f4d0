use Rattle.std.proofs.Common.{arith}
use Rattle.listing.proofs.KeptLaws.{most_rows}
use Rattle.listing.proofs.WriteLaws.{room_yes, room_no, list_written, list_kept}
use Rattle.listing.proofs.write_list.Goals as goal

pub returns-then-rows-gt-BOARD_NODE_INSTANCES : goal.returns-then-rows-gt-BOARD_NODE_INSTANCES
returns-then-rows-gt-BOARD_NODE_INSTANCES c = λ few. absurd (omega (arith, most_rows))

pub count_bits-records-requires : goal.count_bits-records-requires
count_bits-records-requires c = omega (arith, most_rows)

pub returns-then-list-records : goal.returns-then-list-records
returns-then-list-records c =
    λ few. (room_no _ _ _ _ c.new-rows.ensures.rows c.count_bits-records.ensures _ c.if-list-records.true, list_kept _ _ _ _ c.new-rows.ensures.rows c.count_bits-records.ensures _ _ c.if-list-records.true)

pub returns : goal.returns
returns c =
    λ few. (room_yes _ _ _ _ c.new-rows.ensures.rows c.count_bits-records.ensures _ c.if-list-records.false, list_written _ _ _ _ c.new-rows.ensures.rows c.count_bits-records.ensures _ c.if-list-records.false c.put.ensures)
