use mathlib.Core.List.{◌++◌}
use mathlib.Core.Path.{◌≡◌, sym, ◌∙◌}
use lib.ListN.{length, drop}
use lib.Seq.{length-take-le}
use borrow.Author.Rules.{rules}
use Rattle.isolation.proofs.ClassesLaws.{has-room, answer_is, answer_short, cut_tabled}
use Rattle.isolation.proofs.FoundLaws.{cut_found, cut_within}
use Rattle.isolation.proofs.answer.find_by.Goals as goal

pub slice_bounds-by_tables-end : goal.slice_bounds-by_tables-end
slice_bounds-by_tables-end c = let r = has-room _ _ _ _ _ _ _ c.has_room.ensures c.if-has_room.true in sym (length-take-le _ _ r.keys_in)

pub slice_bounds-by_tables-end-then-has_room : goal.slice_bounds-by_tables-end-then-has_room
slice_bounds-by_tables-end-then-has_room c = let r = has-room _ _ _ _ _ _ _ c.has_room.ensures c.if-has_room.true in sym (length-take-le _ _ r.nodes-in)

pub slice_bounds-by_tables-end-then-has_room-2 : goal.slice_bounds-by_tables-end-then-has_room-2
slice_bounds-by_tables-end-then-has_room-2 c = let r = has-room _ _ _ _ _ _ _ c.has_room.ensures c.if-has_room.true in r.places_in

pub slice_bounds-by_tables-end-then-has_room-3 : goal.slice_bounds-by_tables-end-then-has_room-3
slice_bounds-by_tables-end-then-has_room-3 c = let r = has-room _ _ _ _ _ _ _ c.has_room.ensures c.if-has_room.true in sym (length-take-le _ _ r.places_in)

pub slice_bounds-by_tables-end-then-has_room-4 : goal.slice_bounds-by_tables-end-then-has_room-4
slice_bounds-by_tables-end-then-has_room-4 c = let r = has-room _ _ _ _ _ _ _ c.has_room.ensures c.if-has_room.true in r.active_in

pub slice_bounds-by_tables-end-then-has_room-5 : goal.slice_bounds-by_tables-end-then-has_room-5
slice_bounds-by_tables-end-then-has_room-5 c = let r = has-room _ _ _ _ _ _ _ c.has_room.ensures c.if-has_room.true in sym (length-take-le _ _ r.active_in)

pub slice_bounds-by_tables-end-then-has_room-6 : goal.slice_bounds-by_tables-end-then-has_room-6
slice_bounds-by_tables-end-then-has_room-6 c = let r = has-room _ _ _ _ _ _ _ c.has_room.ensures c.if-has_room.true in r.unread-in

pub slice_bounds-by_tables-end-then-has_room-7 : goal.slice_bounds-by_tables-end-then-has_room-7
slice_bounds-by_tables-end-then-has_room-7 c = let r = has-room _ _ _ _ _ _ _ c.has_room.ensures c.if-has_room.true in sym (length-take-le _ _ r.unread-in)

pub by_tables-requires : goal.by_tables-requires
by_tables-requires c =
    let r = has-room _ _ _ _ _ _ _ c.has_room.ensures c.if-has_room.true in
    (length-take-le _ _ r.active_in ∙ sym (length-take-le _ _ r.places_in), length-take-le _ _ r.unread-in ∙ sym (length-take-le _ _ r.places_in))

pub returns-then-has_room : goal.returns-then-has_room
returns-then-has_room c =
    let r = has-room _ _ _ _ _ _ _ c.has_room.ensures c.if-has_room.true in
    let h : length (c.by_tables.new.places ++ drop c.args.l.node_instances c.args.places.now) ≡ length c.args.places.now = search rules in
    let g : length (c.by_tables.new.unread ++ drop c.args.l.node_instances c.args.unread.now) ≡ length c.args.unread.now = search rules in record {
      unread_after = λ of x.
          answer_is _ _ _ _ _ _ _ r _ _
          (cut_found c.by_tables.result c.args.places.now c.args.unread.now c.args.l.node_instances r.places_in r.unread-in c.by_tables.ensures.rows_within c.args.attention c.by_tables.new.places c.by_tables.new.unread h g
          (c.by_tables.ensures.unread_after of (cut_tabled of _ _ _ _ _ _ _ x) x.model x.roots));
      rows_within = cut_within c.by_tables.result c.args.places.now c.args.unread.now c.args.l.node_instances r.places_in r.unread-in c.by_tables.ensures.rows_within;
    }

pub returns : goal.returns
returns c = record {
  unread_after = λ of x. answer_short _ _ _ _ _ _ _ x.registers-in x.nodes-in x.places_in c.has_room.ensures c.if-has_room.false _ _;
  rows_within = tt;
}
