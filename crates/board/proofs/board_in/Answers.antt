use mathlib.Core.Path.{refl, sym}
use native.Mathlib.Omega.{arith}
use lib.Seq.{length-take-le}
use Rattle.numbers.proofs.Bools.{clash}
use Rattle.board.specs.Board.{board_of}
use Rattle.board.proofs.SumsLaws.{fitting}
use Rattle.board.proofs.SlotsLaws.{gathered_rows}
use Rattle.board.proofs.BoardLaws.{most_slots, few_rows, enough_rows, rows_answered, slot_answered, written_exact, gathered_is, stopped_is, stopped_enough}
use Rattle.board.proofs.board_in.Goals as goal

pub find_slots-g-requires : goal.find_slots-g-requires
find_slots-g-requires c =
    let f = fitting _ c.requires in
    record {
      file_lengths_value = (f.files, f.words, f.read);
      word_lengths_len = (f.word-list, f.read-list, omega (arith, f.most, most_slots));
    }

pub slice_bounds-write_rows-end : goal.slice_bounds-write_rows-end
slice_bounds-write_rows-end c =
    let g = gathered_rows _ c.args.heads.now c.args.rows.now c.in-Rows.is c.find_slots-g.ensures.within in
    omega (arith, g.1, c.heads-1.given)

pub slice_bounds-write_rows-end-in-Rows : goal.slice_bounds-write_rows-end-in-Rows
slice_bounds-write_rows-end-in-Rows c =
    let g = gathered_rows _ c.args.heads.now c.args.rows.now c.in-Rows.is c.find_slots-g.ensures.within in
    sym (length-take-le _ _ (omega (arith, g.1, c.heads-1.given)))

pub slice_bounds-write_rows-end-in-Rows-2 : goal.slice_bounds-write_rows-end-in-Rows-2
slice_bounds-write_rows-end-in-Rows-2 c =
    let g = gathered_rows _ c.args.heads.now c.args.rows.now c.in-Rows.is c.find_slots-g.ensures.within in
    omega (arith, g.2, c.rows-1.given)

pub slice_bounds-write_rows-end-in-Rows-3 : goal.slice_bounds-write_rows-end-in-Rows-3
slice_bounds-write_rows-end-in-Rows-3 c =
    let g = gathered_rows _ c.args.heads.now c.args.rows.now c.in-Rows.is c.find_slots-g.ensures.within in
    sym (length-take-le _ _ (omega (arith, g.2, c.rows-1.given)))

pub returns-in-Rows : goal.returns-in-Rows
returns-in-Rows c =
    let b = board_of c.args.files.now c.args.file_lengths.now c.args.words.now c.args.word_lengths.now c.args.read.now c.args.read_lengths.now in
    let f = fitting b c.requires in
    let g = gathered_rows _ c.args.heads.now c.args.rows.now c.in-Rows.is c.find_slots-g.ensures.within in
    let w = c.write_rows-answer.ensures (few_rows b f _ _ g.0 (omega (arith, g.1, c.heads-1.given))) in
    let x = written_exact _ _ _ _ _ _ w in record {
      exact = λ h. rows_answered _ c.in-Rows.k _ _ _ (gathered_is _ b _ _ _ c.find_slots-g.ensures.exact c.in-Rows.k c.in-Rows.is) w;
      kept = λ h. clash x h;
      enough = λ p q. x;
    }

pub returns-in-Refused : goal.returns-in-Refused
returns-in-Refused c =
    let b = board_of c.args.files.now c.args.file_lengths.now c.args.words.now c.args.word_lengths.now c.args.read.now c.args.read_lengths.now in
    let f = fitting b c.requires in
    record {
      exact = λ h. slot_answered c.args.attention c.in-Refused.r c.in-Refused.slot c.find_slots-g.new.heads c.find_slots-g.new.rows _ (stopped_is c.args.attention b c.find_slots-g.result c.find_slots-g.new.heads c.find_slots-g.new.rows c.find_slots-g.ensures.exact c.in-Refused.r c.in-Refused.slot c.in-Refused.is h);
      kept = λ h. refl;
      enough = λ p q. stopped_enough c.args.attention b c.find_slots-g.result c.find_slots-g.new.heads c.find_slots-g.new.rows c.find_slots-g.ensures.exact c.in-Refused.r c.in-Refused.slot c.in-Refused.is (c.find_slots-g.ensures.enough (enough_rows b f p) (enough_rows b f q));
    }
