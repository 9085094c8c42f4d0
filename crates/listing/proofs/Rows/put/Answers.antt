use Rattle.std.proofs.Common.{length, length-append, refl, arith}
use Rattle.std.proofs.lemmas.Slice.Zip.{zip_turn, zip_end}
use Rattle.listing.proofs.KeptLaws.{rows_all}
use Rattle.listing.proofs.WriteLaws.{kept_started, kept_wrote, kept_room}
use Rattle.listing.proofs.Rows.put.Goals as goal

pub loop-head-init : goal.loop-head-init
loop-head-init c = kept_started _ _ _

pub put_bits-place-requires : goal.put_bits-place-requires
put_bits-place-requires c =
    let turn = zip_turn c.args.self.now.heads.now c.args.self.now.words.now _ _ _ c.next.new.self _ (cc) (cc) c.loop-head.yielded_by (c.in-Some.head, c.in-Some.word) refl c.in-Some.ensures.steps in
    kept_room _ _ _ _ turn.0 turn.1 (turn.2 0) (turn.3 0) c.args.self.now.same_length c.requires c.loop-head.invariant

pub loop-head-preserved : goal.loop-head-preserved
loop-head-preserved c =
    let turn = zip_turn c.args.self.now.heads.now c.args.self.now.words.now _ _ _ c.next.new.self _ (cc) (cc) c.loop-head.yielded_by (c.in-Some.head, c.in-Some.word) refl c.in-Some.ensures.steps in
    simp length-append (kept_wrote _ _ _ _ turn.0 turn.1 (turn.2 0) (turn.3 0) c.args.self.now.same_length c.requires c.loop-head.invariant c.put_bits-place.ensures)

pub returns : goal.returns
returns c =
    let count = zip_end c.args.self.now.heads.now c.args.self.now.words.now _ _ _ c.next.new.self _ (cc) (cc) c.loop-head.yielded_by refl c.in-None.ensures.steps in
    rw (← rows_all _ _ c.args.self.now.same_length (length c.loop-head.yielded) (omega (arith, count, c.args.self.now.same_length))) c.loop-head.invariant
