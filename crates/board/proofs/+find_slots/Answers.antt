use Prim.Native.Nat.{◌-◌}
use mathlib.Core.Path.{refl, sym, ◌∙◌}
use native.Mathlib.Omega.{arith}
use borrow.Rule.Slice.PartMut.{mid_of}
use lib.ListN.{length}
use lib.Seq.{length-take-le}
use Rattle.isolation.proofs.WrittenLaws.{within_rows}
use Rattle.board.specs.Rows.{is_gathered}
use Rattle.board.proofs.BoardLaws.{most_slots}
use Rattle.board.proofs.SlotsLaws.{mid_rest, mid-length, first_within, others_total, others-length, at_least_one, no_slots, rest_is, slot_stopped, first_steps, later_stopped, later_joined, gathered_rows, put_joined, stopped_found, stopped-gathered}
use Rattle.board.proofs.+find_slots.Goals as goal

pub returns-then-file_lengths-eq0 : goal.returns-then-file_lengths-eq0
unfolding is_gathered
returns-then-file_lengths-eq0 t c = record {
  exact = λ h. no_slots _ _ _ _ _ _ _ _ _ _ c.if-file_lengths-eq0.true;
  enough = λ p q. refl;
  within = (omega arith, omega arith, omega arith, omega arith);
}

pub bounds-file_lengths-0 : goal.bounds-file_lengths-0
bounds-file_lengths-0 t c = omega (arith, at_least_one c.args.file_lengths.now c.args.file_lengths.now c.if-file_lengths-eq0.false refl)

pub bounds-word_lengths-0 : goal.bounds-word_lengths-0
bounds-word_lengths-0 t c = omega (arith, at_least_one c.args.file_lengths.now c.args.word_lengths.now c.if-file_lengths-eq0.false c.requires.word_lengths_len.0)

pub bounds-read_lengths-0 : goal.bounds-read_lengths-0
bounds-read_lengths-0 t c = omega (arith, at_least_one c.args.file_lengths.now c.args.read_lengths.now c.if-file_lengths-eq0.false c.requires.word_lengths_len.1)

pub slice_bounds-find-end : goal.slice_bounds-find-end
slice_bounds-find-end t c = sym (length-take-le _ _ (first_within c.args.file_lengths.now c.args.file_lengths.now c.args.files.now c.if-file_lengths-eq0.false refl c.requires.file_lengths_value.0))

pub overflow_cast-slot : goal.overflow_cast-slot
overflow_cast-slot t c = omega (arith, at_least_one c.args.file_lengths.now c.args.file_lengths.now c.if-file_lengths-eq0.false refl, c.requires.word_lengths_len.2, most_slots)

pub slice_bounds-find-end-2 : goal.slice_bounds-find-end-2
slice_bounds-find-end-2 t c = sym (length-take-le _ _ (first_within c.args.file_lengths.now c.args.word_lengths.now c.args.words.now c.if-file_lengths-eq0.false c.requires.word_lengths_len.0 c.requires.file_lengths_value.1))

pub slice_bounds-find-end-3 : goal.slice_bounds-find-end-3
slice_bounds-find-end-3 t c = sym (length-take-le _ _ (first_within c.args.file_lengths.now c.args.read_lengths.now c.args.read.now c.if-file_lengths-eq0.false c.requires.word_lengths_len.1 c.requires.file_lengths_value.2))

pub slice_bounds-find_slots-count : goal.slice_bounds-find_slots-count
slice_bounds-find_slots-count t c = omega (arith, first_within c.args.file_lengths.now c.args.file_lengths.now c.args.files.now c.if-file_lengths-eq0.false refl c.requires.file_lengths_value.0)

pub slice_bounds-find_slots-start : goal.slice_bounds-find_slots-start
slice_bounds-find_slots-start t c = omega (arith, first_within c.args.file_lengths.now c.args.file_lengths.now c.args.files.now c.if-file_lengths-eq0.false refl c.requires.file_lengths_value.0)

pub slice_bounds-find_slots-end : goal.slice_bounds-find_slots-end
slice_bounds-find_slots-end t c = omega (arith, first_within c.args.file_lengths.now c.args.file_lengths.now c.args.files.now c.if-file_lengths-eq0.false refl c.requires.file_lengths_value.0)

pub slice_bounds-find_slots-count-in-Ok : goal.slice_bounds-find_slots-count-in-Ok
slice_bounds-find_slots-count-in-Ok t c = omega (arith, at_least_one c.args.file_lengths.now c.args.file_lengths.now c.if-file_lengths-eq0.false refl)

pub slice_bounds-find_slots-start-in-Ok : goal.slice_bounds-find_slots-start-in-Ok
slice_bounds-find_slots-start-in-Ok t c = omega (arith, at_least_one c.args.file_lengths.now c.args.file_lengths.now c.if-file_lengths-eq0.false refl)

pub slice_bounds-find_slots-end-in-Ok : goal.slice_bounds-find_slots-end-in-Ok
slice_bounds-find_slots-end-in-Ok t c = omega (arith, at_least_one c.args.file_lengths.now c.args.file_lengths.now c.if-file_lengths-eq0.false refl)

pub offset_bounds-words-b : goal.offset_bounds-words-b
offset_bounds-words-b t c =
    let in_words_lem = first_within c.args.file_lengths.now c.args.word_lengths.now c.args.words.now c.if-file_lengths-eq0.false c.requires.word_lengths_len.0 c.requires.file_lengths_value.1 in
    omega (arith, in_words_lem, c.well_formed.1.1.1.0.1)

pub slice_bounds-find_slots-count-in-Ok-2 : goal.slice_bounds-find_slots-count-in-Ok-2
slice_bounds-find_slots-count-in-Ok-2 t c = omega (arith, first_within c.args.file_lengths.now c.args.word_lengths.now c.args.words.now c.if-file_lengths-eq0.false c.requires.word_lengths_len.0 c.requires.file_lengths_value.1)

pub slice_bounds-find_slots-start-in-Ok-2 : goal.slice_bounds-find_slots-start-in-Ok-2
slice_bounds-find_slots-start-in-Ok-2 t c = omega (arith, first_within c.args.file_lengths.now c.args.word_lengths.now c.args.words.now c.if-file_lengths-eq0.false c.requires.word_lengths_len.0 c.requires.file_lengths_value.1)

pub slice_bounds-find_slots-end-in-Ok-2 : goal.slice_bounds-find_slots-end-in-Ok-2
slice_bounds-find_slots-end-in-Ok-2 t c = omega (arith, first_within c.args.file_lengths.now c.args.word_lengths.now c.args.words.now c.if-file_lengths-eq0.false c.requires.word_lengths_len.0 c.requires.file_lengths_value.1)

pub slice_bounds-find_slots-count-in-Ok-3 : goal.slice_bounds-find_slots-count-in-Ok-3
slice_bounds-find_slots-count-in-Ok-3 t c = omega (arith, at_least_one c.args.file_lengths.now c.args.word_lengths.now c.if-file_lengths-eq0.false c.requires.word_lengths_len.0)

pub slice_bounds-find_slots-start-in-Ok-3 : goal.slice_bounds-find_slots-start-in-Ok-3
slice_bounds-find_slots-start-in-Ok-3 t c = omega (arith, at_least_one c.args.file_lengths.now c.args.word_lengths.now c.if-file_lengths-eq0.false c.requires.word_lengths_len.0)

pub slice_bounds-find_slots-end-in-Ok-3 : goal.slice_bounds-find_slots-end-in-Ok-3
slice_bounds-find_slots-end-in-Ok-3 t c = omega (arith, at_least_one c.args.file_lengths.now c.args.word_lengths.now c.if-file_lengths-eq0.false c.requires.word_lengths_len.0)

pub slice_bounds-find_slots-count-in-Ok-4 : goal.slice_bounds-find_slots-count-in-Ok-4
slice_bounds-find_slots-count-in-Ok-4 t c = omega (arith, first_within c.args.file_lengths.now c.args.read_lengths.now c.args.read.now c.if-file_lengths-eq0.false c.requires.word_lengths_len.1 c.requires.file_lengths_value.2)

pub slice_bounds-find_slots-start-in-Ok-4 : goal.slice_bounds-find_slots-start-in-Ok-4
slice_bounds-find_slots-start-in-Ok-4 t c = omega (arith, first_within c.args.file_lengths.now c.args.read_lengths.now c.args.read.now c.if-file_lengths-eq0.false c.requires.word_lengths_len.1 c.requires.file_lengths_value.2)

pub slice_bounds-find_slots-end-in-Ok-4 : goal.slice_bounds-find_slots-end-in-Ok-4
slice_bounds-find_slots-end-in-Ok-4 t c = omega (arith, first_within c.args.file_lengths.now c.args.read_lengths.now c.args.read.now c.if-file_lengths-eq0.false c.requires.word_lengths_len.1 c.requires.file_lengths_value.2)

pub slice_bounds-find_slots-count-in-Ok-5 : goal.slice_bounds-find_slots-count-in-Ok-5
slice_bounds-find_slots-count-in-Ok-5 t c = omega (arith, at_least_one c.args.file_lengths.now c.args.read_lengths.now c.if-file_lengths-eq0.false c.requires.word_lengths_len.1)

pub slice_bounds-find_slots-start-in-Ok-5 : goal.slice_bounds-find_slots-start-in-Ok-5
slice_bounds-find_slots-start-in-Ok-5 t c = omega (arith, at_least_one c.args.file_lengths.now c.args.read_lengths.now c.if-file_lengths-eq0.false c.requires.word_lengths_len.1)

pub slice_bounds-find_slots-end-in-Ok-5 : goal.slice_bounds-find_slots-end-in-Ok-5
slice_bounds-find_slots-end-in-Ok-5 t c = omega (arith, at_least_one c.args.file_lengths.now c.args.read_lengths.now c.if-file_lengths-eq0.false c.requires.word_lengths_len.1)

pub overflow_add-slot : goal.overflow_add-slot
overflow_add-slot t c = omega (arith, at_least_one c.args.file_lengths.now c.args.file_lengths.now c.if-file_lengths-eq0.false refl, c.requires.word_lengths_len.2, most_slots)

pub offset_bounds-heads-n : goal.offset_bounds-heads-n
offset_bounds-heads-n t c =
    let w = within_rows c.args.heads.now c.args.rows.now c.in-Ok.is c.find-s.ensures.within in
    omega (arith, w.0)

pub slice_bounds-find_slots-count-in-Ok-6 : goal.slice_bounds-find_slots-count-in-Ok-6
slice_bounds-find_slots-count-in-Ok-6 t c =
    let w = within_rows c.args.heads.now c.args.rows.now c.in-Ok.is c.find-s.ensures.within in
    omega (arith, w.1, c.heads-1.given)

pub slice_bounds-find_slots-start-in-Ok-6 : goal.slice_bounds-find_slots-start-in-Ok-6
slice_bounds-find_slots-start-in-Ok-6 t c =
    let w = within_rows c.args.heads.now c.args.rows.now c.in-Ok.is c.find-s.ensures.within in
    omega (arith, w.1, c.heads-1.given)

pub slice_bounds-find_slots-end-in-Ok-6 : goal.slice_bounds-find_slots-end-in-Ok-6
slice_bounds-find_slots-end-in-Ok-6 t c =
    let w = within_rows c.args.heads.now c.args.rows.now c.in-Ok.is c.find-s.ensures.within in
    omega (arith, w.1, c.heads-1.given)

pub offset_bounds-rows-n : goal.offset_bounds-rows-n
offset_bounds-rows-n t c =
    let w = within_rows c.args.heads.now c.args.rows.now c.in-Ok.is c.find-s.ensures.within in
    omega (arith, w.0)

pub slice_bounds-find_slots-count-in-Ok-7 : goal.slice_bounds-find_slots-count-in-Ok-7
slice_bounds-find_slots-count-in-Ok-7 t c =
    let w = within_rows c.args.heads.now c.args.rows.now c.in-Ok.is c.find-s.ensures.within in
    omega (arith, w.2, c.rows-1.given)

pub slice_bounds-find_slots-start-in-Ok-7 : goal.slice_bounds-find_slots-start-in-Ok-7
slice_bounds-find_slots-start-in-Ok-7 t c =
    let w = within_rows c.args.heads.now c.args.rows.now c.in-Ok.is c.find-s.ensures.within in
    omega (arith, w.2, c.rows-1.given)

pub slice_bounds-find_slots-end-in-Ok-7 : goal.slice_bounds-find_slots-end-in-Ok-7
slice_bounds-find_slots-end-in-Ok-7 t c =
    let w = within_rows c.args.heads.now c.args.rows.now c.in-Ok.is c.find-s.ensures.within in
    omega (arith, w.2, c.rows-1.given)

pub find_slots-t-requires : goal.find_slots-t-requires
find_slots-t-requires t c =
    let others = others-length c.args.file_lengths.now c.args.file_lengths.now c.if-file_lengths-eq0.false refl in (
      omega (arith, others, c.requires.file_lengths_value),
      (
        (others_total c.args.file_lengths.now c.args.file_lengths.now c.args.files.now c.if-file_lengths-eq0.false refl c.requires.file_lengths_value.0, others_total c.args.file_lengths.now c.args.word_lengths.now c.args.words.now c.if-file_lengths-eq0.false c.requires.word_lengths_len.0 c.requires.file_lengths_value.1, others_total c.args.file_lengths.now c.args.read_lengths.now c.args.read.now c.if-file_lengths-eq0.false c.requires.word_lengths_len.1 c.requires.file_lengths_value.2),
        (omega (arith, others, others-length c.args.file_lengths.now c.args.word_lengths.now c.if-file_lengths-eq0.false c.requires.word_lengths_len.0), omega (arith, others, others-length c.args.file_lengths.now c.args.read_lengths.now c.if-file_lengths-eq0.false c.requires.word_lengths_len.1), omega (arith, others, c.requires.word_lengths_len.2)),
      ),
    )

pub overflow_add-result : goal.overflow_add-result
overflow_add-result t c =
    let others = others-length c.args.file_lengths.now c.args.file_lengths.now c.if-file_lengths-eq0.false refl in
    let w = within_rows c.args.heads.now c.args.rows.now c.in-Ok.is c.find-s.ensures.within in
    let g = gathered_rows (length (mid_of 1 (length c.args.file_lengths.now - 1) c.args.file_lengths.now)) _ _ c.in-Rows.is c.find_slots-t.ensures.within in
    omega (arith, w.0, g.0, others, c.requires.word_lengths_len.2, most_slots)

pub overflow_add-result-in-Rows : goal.overflow_add-result-in-Rows
overflow_add-result-in-Rows t c =
    let one = at_least_one c.args.file_lengths.now c.args.file_lengths.now c.if-file_lengths-eq0.false refl in
    let others = others-length c.args.file_lengths.now c.args.file_lengths.now c.if-file_lengths-eq0.false refl in
    let g = gathered_rows (length (mid_of 1 (length c.args.file_lengths.now - 1) c.args.file_lengths.now)) _ _ c.in-Rows.is c.find_slots-t.ensures.within in
    omega (arith, first_steps c.args.attention c.args.slot c.args.file_lengths.now c.args.word_lengths.now c.args.read_lengths.now c.args.files.now c.args.words.now c.args.read.now one c.requires.word_lengths_len.0 c.requires.word_lengths_len.1 c.find-s.new.heads c.find-s.new.rows c.in-Ok.is c.find-s.ensures.exact (λ i. (c.type_inv.files i).fits), g.3, others, c.requires.word_lengths_len.2, most_slots)

pub shape_of-heads-in-Rows : goal.shape_of-heads-in-Rows
shape_of-heads-in-Rows t c =
    c.heads-in-Ok-1.given.1 ∙ c.heads-1.given

pub shape_of-rows-in-Rows : goal.shape_of-rows-in-Rows
shape_of-rows-in-Rows t c =
    c.rows-in-Ok-1.given.1 ∙ c.rows-1.given

pub returns-in-Rows : goal.returns-in-Rows
unfolding is_gathered
returns-in-Rows t c =
    let one = at_least_one c.args.file_lengths.now c.args.file_lengths.now c.if-file_lengths-eq0.false refl in
    let one-w = at_least_one c.args.file_lengths.now c.args.word_lengths.now c.if-file_lengths-eq0.false c.requires.word_lengths_len.0 in
    let one-r = at_least_one c.args.file_lengths.now c.args.read_lengths.now c.if-file_lengths-eq0.false c.requires.word_lengths_len.1 in
    let in-files = first_within c.args.file_lengths.now c.args.file_lengths.now c.args.files.now c.if-file_lengths-eq0.false refl c.requires.file_lengths_value.0 in
    let in_words_lem = first_within c.args.file_lengths.now c.args.word_lengths.now c.args.words.now c.if-file_lengths-eq0.false c.requires.word_lengths_len.0 c.requires.file_lengths_value.1 in
    let in-read = first_within c.args.file_lengths.now c.args.read_lengths.now c.args.read.now c.if-file_lengths-eq0.false c.requires.word_lengths_len.1 c.requires.file_lengths_value.2 in
    let others = others-length c.args.file_lengths.now c.args.file_lengths.now c.if-file_lengths-eq0.false refl in
    let w = within_rows c.args.heads.now c.args.rows.now c.in-Ok.is c.find-s.ensures.within in
    let g = gathered_rows (length (mid_of 1 (length c.args.file_lengths.now - 1) c.args.file_lengths.now)) _ _ c.in-Rows.is c.find_slots-t.ensures.within in record {
      exact = λ h.
          put_joined c.args.attention _ c.find-s.new.heads c.find-s.new.rows c.find_slots-t.new.heads c.find_slots-t.new.rows c.in-Ok.x.rows (omega (arith, w.1, c.heads-1.given)) (omega (arith, w.2, c.rows-1.given))
          (later_joined c.args.attention c.args.slot c.args.file_lengths.now c.args.word_lengths.now c.args.read_lengths.now c.args.files.now c.args.words.now c.args.read.now one c.requires.word_lengths_len.0 c.requires.word_lengths_len.1 c.find-s.new.heads c.find-s.new.rows c.in-Ok.is c.find-s.ensures.exact c.find_slots-t.new.heads c.find_slots-t.new.rows (omega (arith, w.1, c.heads-1.given)) (omega (arith, w.2, c.rows-1.given)) c.in-Rows.is
          (λ h. c.find_slots-t.ensures.exact h ∙ rest_is c.args.attention c.args.slot c.args.file_lengths.now c.args.word_lengths.now c.args.read_lengths.now c.args.files.now c.args.words.now c.args.read.now one c.requires.word_lengths_len.0 c.requires.word_lengths_len.1 (mid_rest c.args.file_lengths.now 1 one) (mid_rest c.args.word_lengths.now 1 one-w) (mid_rest c.args.read_lengths.now 1 one-r) (mid_rest c.args.files.now _ in-files) (mid_rest c.args.words.now _ in_words_lem) (mid_rest c.args.read.now _ in-read)));
      enough = λ p q. refl;
      within = (
        omega (arith, w.0, g.0, others),
        omega (arith, w.1, g.1, mid-length c.find-s.new.heads c.in-Ok.x.rows (omega (arith, w.1, c.heads-1.given)), c.heads-1.given),
        omega (arith, w.2, g.2, mid-length c.find-s.new.rows c.in-Ok.x.rows (omega (arith, w.2, c.rows-1.given)), c.rows-1.given),
        omega (arith, first_steps c.args.attention c.args.slot c.args.file_lengths.now c.args.word_lengths.now c.args.read_lengths.now c.args.files.now c.args.words.now c.args.read.now one c.requires.word_lengths_len.0 c.requires.word_lengths_len.1 c.find-s.new.heads c.find-s.new.rows c.in-Ok.is c.find-s.ensures.exact (λ i. (c.type_inv.files i).fits), g.3, others),
      );
    }

pub shape_of-heads-in-Refused : goal.shape_of-heads-in-Refused
shape_of-heads-in-Refused t c =
    c.heads-in-Ok-1.given.1 ∙ c.heads-1.given

pub shape_of-rows-in-Refused : goal.shape_of-rows-in-Refused
shape_of-rows-in-Refused t c =
    c.rows-in-Ok-1.given.1 ∙ c.rows-1.given

pub returns-in-Refused : goal.returns-in-Refused
returns-in-Refused t c =
    let one = at_least_one c.args.file_lengths.now c.args.file_lengths.now c.if-file_lengths-eq0.false refl in
    let one-w = at_least_one c.args.file_lengths.now c.args.word_lengths.now c.if-file_lengths-eq0.false c.requires.word_lengths_len.0 in
    let one-r = at_least_one c.args.file_lengths.now c.args.read_lengths.now c.if-file_lengths-eq0.false c.requires.word_lengths_len.1 in
    let in-files = first_within c.args.file_lengths.now c.args.file_lengths.now c.args.files.now c.if-file_lengths-eq0.false refl c.requires.file_lengths_value.0 in
    let in_words_lem = first_within c.args.file_lengths.now c.args.word_lengths.now c.args.words.now c.if-file_lengths-eq0.false c.requires.word_lengths_len.0 c.requires.file_lengths_value.1 in
    let in-read = first_within c.args.file_lengths.now c.args.read_lengths.now c.args.read.now c.if-file_lengths-eq0.false c.requires.word_lengths_len.1 c.requires.file_lengths_value.2 in
    let others = others-length c.args.file_lengths.now c.args.file_lengths.now c.if-file_lengths-eq0.false refl in
    let w = within_rows c.args.heads.now c.args.rows.now c.in-Ok.is c.find-s.ensures.within in
    record {
      exact = λ h. later_stopped c.args.attention c.args.slot c.args.file_lengths.now c.args.word_lengths.now c.args.read_lengths.now c.args.files.now c.args.words.now c.args.read.now one c.requires.word_lengths_len.0 c.requires.word_lengths_len.1 c.find-s.new.heads c.find-s.new.rows c.in-Ok.is c.find-s.ensures.exact c.find_slots-t.new.heads c.find_slots-t.new.rows c.find_slots-t.new.heads c.find_slots-t.new.rows c.in-Refused.is (λ h. c.find_slots-t.ensures.exact h ∙ rest_is c.args.attention c.args.slot c.args.file_lengths.now c.args.word_lengths.now c.args.read_lengths.now c.args.files.now c.args.words.now c.args.read.now one c.requires.word_lengths_len.0 c.requires.word_lengths_len.1 (mid_rest c.args.file_lengths.now 1 one) (mid_rest c.args.word_lengths.now 1 one-w) (mid_rest c.args.read_lengths.now 1 one-r) (mid_rest c.args.files.now _ in-files) (mid_rest c.args.words.now _ in_words_lem) (mid_rest c.args.read.now _ in-read)) h;
      enough = λ p q.
          stopped-gathered _ c.in-Refused.is
          (c.find_slots-t.ensures.enough (omega (arith, p, w.0, w.1, c.heads-1.given, mid-length c.find-s.new.heads c.in-Ok.x.rows (omega (arith, w.1, c.heads-1.given)), others)) (omega (arith, q, w.0, w.2, c.rows-1.given, mid-length c.find-s.new.rows c.in-Ok.x.rows (omega (arith, w.2, c.rows-1.given)), others)));
      within = tt;
    }

pub shape_of-heads-in-Err : goal.shape_of-heads-in-Err
shape_of-heads-in-Err t c = c.heads-1.given

pub shape_of-rows-in-Err : goal.shape_of-rows-in-Err
shape_of-rows-in-Err t c = c.rows-1.given

pub returns-in-Err : goal.returns-in-Err
returns-in-Err t c =
    let one = at_least_one c.args.file_lengths.now c.args.file_lengths.now c.if-file_lengths-eq0.false refl in
    record {
      exact = λ h. slot_stopped c.args.attention c.args.slot c.args.file_lengths.now c.args.word_lengths.now c.args.read_lengths.now c.args.files.now c.args.words.now c.args.read.now one c.requires.word_lengths_len.0 c.requires.word_lengths_len.1 c.find-s.new.heads c.find-s.new.rows c.in-Err.is c.find-s.ensures.exact h;
      enough = λ p q. stopped_found _ c.in-Err.is (c.find-s.ensures.enough (omega (arith, p, one)) (omega (arith, q, one)));
      within = tt;
    }
