-- What document 02 (vi) says of a board's answer holds, and demand 1 of the minutes.
use Prim.Native.Nat.{ℕ, ◌+◌, ◌*◌, ◌/◌, ◌≤◌, ◌<◌}
use mathlib.Core.Bool.{true}
use mathlib.Core.List.{List, [], ◌∷◌, ◌++◌, map, append-nil}
use mathlib.Core.Logic.{◌⊎◌, inl, inr, ⊎_elim}
use mathlib.Core.Path.{◌≡◌, refl, sym, ◌∙◌, ap}
use native.Mathlib.Omega.{arith}
use lib.Dec.{ltb, leb}
use lib.ListN.{length, get_or, drop, replicate, length-map, length-append, length-replicate, drop_of_length-le}
use lib.Seq.{take-length}
use borrow.Author.Tests.{ltb-true, ltb-false, leb-true, leb-false, le-leb, lt-leb, eq-eqb}
use Rattle.limits.specs.Limits.{Limits, slots}
use Rattle.numbers.proofs.Bools.{either, same?, and_both}
use Rattle.graph.specs.Chains.{below}
use Rattle.format.specs.Lookup.{gathered}
use Rattle.format.specs.Rules.{Every}
use Rattle.format.proofs.EveryLaws.{every_map, every-list_in, every-gathered_in}
use Rattle.format.proofs.GatheredLaws.{gathered-gathered, gathered_same}
use Rattle.listing.specs.Records.{record_size}
use Rattle.isolation.specs.Outcome.{refused_outcome, done_outcome, Findings, stopped, found, find, written, in_list, isolate}
use Rattle.isolation.proofs.GraphsLaws.{every_below}
use Rattle.isolation.proofs.OutcomeLaws.{stopped_number, found-not_stopped, finds_in, find_cases}
use Rattle.board.specs.Board.{Board, total, board_fits, slots_from, slots_of, joined, before, join_one, join, board_outcome, in_board_list, board}
use Rattle.board.proofs.JoinLaws.{IsFound, count_in, steps_in, FirstStops, AllFound, join_cases}
use Rattle.board.proofs.JoinLaws as joins
use Rattle.board.proofs.SumsLaws.{fitting}
use Rattle.board.proofs.BoardLaws.{written_number, board_unfit}
use Rattle.demands.specs.Boards.{slot_count, Fits, part, records_in, with_slot, of_slot, listed_for, single, slot_answer, RefusedSlot, FirstRefused, NoneRefused, needed, steps_in_all, records_for, joined_lists, BoardRefused, Unfit, FirstDecides, Joins, Succeeded, Boards, SameSlot, Independent, one_chip, OneSlot}
use Rattle.demands.specs.Demand1.{RefusedCall, RefusedBoardCall}
use Rattle.demands.proofs.Demand1.{refusal, list_length}
use Rattle.demands.proofs.SlotLaws.{Whole, records_rows, rows-length, records_count, records_whole, slot_whole, slot-byte, of_none, of_slots, reslot, find_slot, found_whole, slot_at, map_every, slots_are}

-- Tests

order : (i j : ℕ) → (i < j) ⊎ ((i ≡ j) ⊎ (j < i))
order i j =
    ⊎_elim (λ e. inl (ltb-true i j e)) (λ e. inr (⊎_elim (λ q. inl q) (λ d. inr (omega (arith, d, ltb-false i j e))) (same? i j))) (either (ltb i j))

gathered-length : {A B : Type 0} (f : A → List B) (xs : List A) → length (gathered f xs) ≡ total (map (λ x. length (f x)) xs)
unfolding gathered total
gathered-length f [] = refl
gathered-length f (x ∷ xs) = length-append (f x) (gathered f xs) ∙ ap (λ n. length (f x) + n) (gathered-length f xs)

-- Findings

stopped_place : {n p m q : ℕ} → stopped n p ≡ stopped m q → p ≡ q
stopped_place e = cc

not_both : {A : Type 0} {n p c s : ℕ} {rs : List ℕ} → stopped n p ≡ found c rs s → A
not_both e = absurd (found-not_stopped (sym e))

-- What is written: with room for all, or refused by 19.
written_room : (c : ℕ) (rs : List ℕ) (s : ℕ) (list : List ℕ) → c ≤ length list / 16 → written c rs s list ≡ done_outcome c s (rs ++ drop (c * 16) list)
unfolding written record_size
written_room c rs s list h = rw (le-leb c (length list / 16) h)

written_full : (c : ℕ) (rs : List ℕ) (s : ℕ) (list : List ℕ) → length list / 16 < c → written c rs s list ≡ refused_outcome 19 c list
unfolding written record_size
written_full c rs s list h = rw (lt-leb c (length list / 16) h)

room-or_full : (c : ℕ) (list : List ℕ) → (c ≤ length list / 16) ⊎ (length list / 16 < c)
room-or_full c list = ⊎_elim (λ e. inl (leb-true _ _ e)) (λ e. inr (leb-false _ _ e)) (either (leb c (length list / 16)))

-- An empty list tells how many are needed.
written_place : (c : ℕ) (rs : List ℕ) (s : ℕ) → (written c rs s []).place ≡ c
written_place c rs s =
    ⊎_elim (λ h. ap (λ o. o.place) (written_room c rs s [] h) ∙ omega (arith, h)) (λ h. ap (λ o. o.place) (written_full c rs s [] h)) (room-or_full c [])

-- What a board fits

fits_in : (b : Board) → Fits b → board_fits b ≡ true
unfolding board_fits slots
fits_in b f =
    and_both (le-leb _ _ f.least) (and_both (le-leb _ _ f.most)
    (and_both (eq-eqb _ _ f.word_lists) (and_both (eq-eqb _ _ f.read_lists)
    (and_both (eq-eqb _ _ f.files) (and_both (eq-eqb _ _ f.words) (eq-eqb _ _ f.reads))))))

fits_out : (b : Board) → board_fits b ≡ true → Fits b
fits_out b e =
    let f = fitting b e in
    record { least = f.least; most = f.most; word_lists = f.word-list; read_lists = f.read-list; files = f.files; words = f.words; reads = f.read }

module _ (limits : Limits) (attention : ℕ) (b : Board) where
  -- What the single call finds in slot k.
  abbrev alone : ℕ → Findings
  alone k = find limits 0 (part k b.file_lengths b.files) attention (part k b.word_lengths b.words) (part k b.read_lengths b.read)

  abbrev find_at : ℕ → Findings
  find_at = joins.find_at limits attention (slot_at b)

  single_is : (k : ℕ) (list : List ℕ) → single limits attention b k list ≡ in_list list (alone k)
  unfolding single isolate
  single_is k list = refl

  single_stopped : (k n p : ℕ) (list : List ℕ) → alone k ≡ stopped n p → single limits attention b k list ≡ refused_outcome n p list
  unfolding in_list
  single_stopped k n p list e = single_is k list ∙ ap (in_list list) e

  single_found : (k c : ℕ) (rs : List ℕ) (s : ℕ) (list : List ℕ) → alone k ≡ found c rs s → single limits attention b k list ≡ written c rs s list
  unfolding in_list
  single_found k c rs s list e = single_is k list ∙ ap (in_list list) e

  -- The slot's answer is what was found.
  answer_found : (k c : ℕ) (rs : List ℕ) (s : ℕ) → alone k ≡ found c rs s → slot_answer limits attention b k ≡ done_outcome c s rs
  unfolding slot_answer
  answer_found k c rs s e =
      let n : (single limits attention b k []).place ≡ c = ap (λ o. o.place) (single_found k c rs s [] e) ∙ written_place c rs s in
      let z : List ℕ = replicate (c * 16) 0 in
      let l : length z ≡ c * 16 = length-replicate (c * 16) 0 in
      let d : drop (c * 16) z ≡ [] = drop_of_length-le z {i = c * 16} (omega (arith, l)) in
      ap (λ m. single limits attention b k (replicate (m * 16) 0)) n
      ∙ single_found k c rs s z e
      ∙ written_room c rs s z (omega (arith, l))
      ∙ ap (λ r. done_outcome c s (rs ++ r)) d
      ∙ ap (done_outcome c s) (append-nil rs)

  stops_bounds : (k n p : ℕ) → alone k ≡ stopped n p → (1 ≤ n) × (n ≤ 18)
  stops_bounds k n p e =
      let file = part k b.file_lengths b.files in
      let words = part k b.word_lengths b.words in
      let read = part k b.read_lengths b.read in
      ⊎_elim
      (λ z. let q : n ≡ z.number = stopped_number (sym e ∙ z.is) in (omega (arith, q, z.low), omega (arith, q, z.high)))
      (λ z. not_both (sym e ∙ finds_in limits file attention words read 0 z))
      (find_cases limits file attention words read 0)

  refused_in : (k n p : ℕ) → k < slot_count b → alone k ≡ stopped n p → RefusedSlot limits attention b k n p
  refused_in k n p h e =
      let t = stops_bounds k n p e in
      record {
        inside = h;
        least = t.0;
        most = t.1;
        number = λ list. ap (λ o. o.number) (single_stopped k n p list e);
        place = λ list. ap (λ o. o.place) (single_stopped k n p list e);
      }

  -- A single call's number from 1 to 18 means that isolation was stopped by it.
  number_stopped : (k n : ℕ) (list : List ℕ) → 1 ≤ n → n ≤ 18 → (single limits attention b k list).number ≡ n
      → alone k ≡ stopped n (single limits attention b k list).place
  number_stopped k n list l h e = go (alone k) refl
    where
      go : (f : Findings) → alone k ≡ f → f ≡ stopped n (single limits attention b k list).place
      go (stopped m q) d =
          let i = single_stopped k m q list d in
          let x : m ≡ n = sym (ap (λ o. o.number) i) ∙ e in
          let y : q ≡ (single limits attention b k list).place = sym (ap (λ o. o.place) i) in
          ap (λ z. stopped z q) x ∙ ap (stopped n) y
      go (found c rs s) d =
          let x : (written c rs s list).number ≡ n = sym (ap (λ o. o.number) (single_found k c rs s list d)) ∙ e in
          ⊎_elim (λ z. absurd (omega (arith, x, z, l))) (λ z. absurd (omega (arith, x, z, h))) (written_number c rs s list)

  refused_out : (k n p : ℕ) → RefusedSlot limits attention b k n p → alone k ≡ stopped n p
  refused_out k n p r = number_stopped k n [] r.least r.most (r.number []) ∙ ap (stopped n) (r.place [])

  -- The first slot is the only first slot.
  first_one : (k n p j m q : ℕ) → FirstRefused limits attention b k n p → FirstRefused limits attention b j m q → (k ≡ j) × (n ≡ m) × (p ≡ q)
  first_one k n p j m q f g =
      ⊎_elim (λ l. absurd (g.first k n p l f.refused))
      (λ r. ⊎_elim
      (λ e. let i : stopped n p ≡ stopped m q = sym (refused_out k n p f.refused) ∙ ap alone e ∙ refused_out j m q g.refused in
      (e, stopped_number i, stopped_place i))
      (λ l. absurd (f.first j m q l g.refused)) r)
      (order k j)

  module _ (fits : Fits b) where
    -- A slot's number is below 16.
    small : (k : ℕ) → k < slot_count b → k < 256
    small k h = omega (arith, h, fits.most)

    at_slot : (k : ℕ) → k < slot_count b → find_at k ≡ reslot k (alone k)
    at_slot k h = find_slot k (small k h) attention (part k b.word_lengths b.words) (part k b.read_lengths b.read) limits (part k b.file_lengths b.files)

    stopped_in : (k n p : ℕ) → k < slot_count b → alone k ≡ stopped n p → find_at k ≡ stopped n p
    unfolding reslot
    stopped_in k n p h e = at_slot k h ∙ ap (reslot k) e

    stopped_out : (k n p : ℕ) → k < slot_count b → find_at k ≡ stopped n p → alone k ≡ stopped n p
    unfolding reslot
    stopped_out k n p h e = go (alone k) refl
      where
        go : (f : Findings) → alone k ≡ f → f ≡ stopped n p
        go (stopped m q) d = sym (stopped_in k m q h d) ∙ e
        go (found c rs s) d = not_both (sym e ∙ at_slot k h ∙ ap (reslot k) d)

    not_refused : (k n p : ℕ) → k < slot_count b → IsFound (find_at k) → RefusedSlot limits attention b k n p → ⊥
    not_refused k n p h i r = not_both (sym (stopped_in k n p h (refused_out k n p r)) ∙ i)

    first_refused : (s : FirstStops limits attention (slot_at b) (slot_count b)) → FirstRefused limits attention b s.at s.number s.place
    first_refused s =
        record {
          refused = refused_in s.at s.number s.place s.inside (stopped_out s.at s.number s.place s.inside s.is);
          first = λ j m q l r. not_refused j m q r.inside (s.earlier j l) r;
        }

    none_refused : AllFound limits attention (slot_at b) (slot_count b) → NoneRefused limits attention b
    none_refused a k n p r = not_refused k n p r.inside (a.each k r.inside) r

    -- What a slot that is not stopped finds.
    pub record Known (k : ℕ) : Type 0 where
      pub count : ℕ
      pub records : List ℕ
      pub steps : ℕ
      pub is : alone k ≡ found count records steps
      pub answer : slot_answer limits attention b k ≡ done_outcome count steps records
      pub whole : length records ≡ count * 16

    known : (k : ℕ) → k < slot_count b → NoneRefused limits attention b → Known k
    known k h none = go (alone k) refl
      where
        go : (f : Findings) → alone k ≡ f → Known k
        go (stopped n p) e = absurd (none k n p (refused_in k n p h e))
        go (found c rs s) e =
            record {
              count = c;
              records = rs;
              steps = s;
              is = e;
              answer = answer_found k c rs s e;
              whole = found_whole limits (part k b.file_lengths b.files) attention (part k b.word_lengths b.words) (part k b.read_lengths b.read) e;
            }

    known_at : (k : ℕ) → k < slot_count b → (d : Known k)
        → find_at k ≡ found (slot_answer limits attention b k).records (gathered (λ r. r) (records_for limits attention b k)) (slot_answer limits attention b k).steps
    unfolding records_for reslot
    known_at k h d =
        at_slot k h ∙ ap (reslot k) d.is
        ∙ ap (λ o. found o.records (gathered (λ r. r) (map (with_slot k) (records_in o.records o.list))) o.steps) (sym d.answer)

    -- The answer

    board_joins : (list : List ℕ) → board limits attention b list ≡ in_board_list list (joins.join_to limits attention (slot_at b) (slot_count b))
    unfolding board
    board_joins list = rw (fits_in b fits, slots_are b fits.word_lists fits.read_lists)

    board_stops : (list : List ℕ) (s : FirstStops limits attention (slot_at b) (slot_count b))
        → board limits attention b list ≡ board_outcome s.at (refused_outcome s.number s.place list)
    unfolding in_board_list
    board_stops list s = board_joins list ∙ ap (in_board_list list) s.joins

    board_found : (list : List ℕ) → AllFound limits attention (slot_at b) (slot_count b)
        → board limits attention b list ≡ board_outcome 0 (written (needed limits attention b) (joined_lists limits attention b) (steps_in_all limits attention b) list)
    unfolding in_board_list needed steps_in_all joined_lists
    board_found list a =
        let n = slot_count b in
        let at : (k : ℕ) → k < n → find_at k ≡ found (slot_answer limits attention b k).records (gathered (λ r. r) (records_for limits attention b k)) (slot_answer limits attention b k).steps =
        λ k h. known_at k h (known k h (none_refused a)) in
        let counts : map (λ k. count_in (find_at k)) (below n) ≡ map (λ k. (slot_answer limits attention b k).records) (below n) =
        map_every _ _ (below n) (every_below _ n (λ k h. ap count_in (at k h))) in
        let steps : map (λ k. steps_in (find_at k)) (below n) ≡ map (λ k. (slot_answer limits attention b k).steps) (below n) =
        map_every _ _ (below n) (every_below _ n (λ k h. ap steps_in (at k h))) in
        let records : gathered (λ k. joins.bytes_in (find_at k)) (below n) ≡ gathered (λ k. gathered (λ r. r) (records_for limits attention b k)) (below n) =
        gathered_same _ _ (below n) (every_below _ n (λ k h. ap joins.bytes_in (at k h))) in
        board_joins list ∙ ap (in_board_list list) a.joins ∙ rw (counts, steps, records)

    -- Its number is 0 or 19 where no slot is refused.
    board_number : (list : List ℕ) → AllFound limits attention (slot_at b) (slot_count b)
        → ((board limits attention b list).answer.number ≡ 0) ⊎ ((board limits attention b list).answer.number ≡ 19)
    board_number list a =
        let e = ap (λ o. o.answer.number) (board_found list a) in
        ⊎_elim (λ z. inl (e ∙ z)) (λ z. inr (e ∙ z)) (written_number (needed limits attention b) (joined_lists limits attention b) (steps_in_all limits attention b) list)

    module _ (list : List ℕ) where
      keeps : (k n p : ℕ) → FirstRefused limits attention b k n p → board limits attention b list ≡ board_outcome k (refused_outcome n p list)
      keeps k n p f =
          ⊎_elim
          (λ s. let e = first_one k n p s.at s.number s.place f (first_refused s) in board_stops list s ∙ rw (e.0, e.1, e.2))
          (λ a. absurd (none_refused a k n p f.refused))
          (join_cases limits attention (slot_at b) (slot_count b))

      named : (k n p : ℕ) → BoardRefused limits attention b list k n p → FirstRefused limits attention b k n p
      named k n p r =
          ⊎_elim
          (λ s. let e = board_stops list s in
          let x : s.number ≡ n = sym (ap (λ o. o.answer.number) e) ∙ r.number in
          let y : s.place ≡ p = sym (ap (λ o. o.answer.place) e) ∙ r.place in
          let z : s.at ≡ k = sym (ap (λ o. o.slot) e) ∙ r.slot in
          rw (← x, ← y, ← z) (first_refused s))
          (λ a. ⊎_elim (λ z. absurd (omega (arith, z, r.number, r.least))) (λ z. absurd (omega (arith, z, r.number, r.most))) (board_number list a))
          (join_cases limits attention (slot_at b) (slot_count b))

      decides : FirstDecides limits attention b list
      decides =
          record {
            exactly = λ k n p. (
              named k n p,
              λ f. let e = keeps k n p f in record {
                least = f.refused.least;
                most = f.refused.most;
                number = ap (λ o. o.answer.number) e;
                place = ap (λ o. o.answer.place) e;
                slot = ap (λ o. o.slot) e;
              },
            );
            keeps = keeps;
            any_list = λ k h l u. refused_in k _ _ h (number_stopped k _ list l u refl);
          }

      module _ (none : NoneRefused limits attention b) where
        all_found : AllFound limits attention (slot_at b) (slot_count b)
        all_found = ⊎_elim (λ s. absurd (none s.at s.number s.place (first_refused s).refused)) (λ a. a) (join_cases limits attention (slot_at b) (slot_count b))

        has-room : needed limits attention b ≤ length list / 16
            → board limits attention b list
            ≡ board_outcome 0 (done_outcome (needed limits attention b) (steps_in_all limits attention b) (joined_lists limits attention b ++ drop (needed limits attention b * 16) list))
        has-room h =
            board_found list all_found
            ∙ ap (board_outcome 0) (written_room (needed limits attention b) (joined_lists limits attention b) (steps_in_all limits attention b) list h)

        is_full : length list / 16 < needed limits attention b → board limits attention b list ≡ board_outcome 0 (refused_outcome 19 (needed limits attention b) list)
        is_full h =
            board_found list all_found
            ∙ ap (board_outcome 0) (written_full (needed limits attention b) (joined_lists limits attention b) (steps_in_all limits attention b) list h)

        full_out : board limits attention b list ≡ board_outcome 0 (refused_outcome 19 (needed limits attention b) list) → length list / 16 < needed limits attention b
        full_out e =
            ⊎_elim (λ h. let x : ◌≡◌ {A = ℕ} 0 19 = sym (ap (λ o. o.answer.number) (has-room h)) ∙ ap (λ o. o.answer.number) e in absurd (omega (arith, x)))
            (λ h. h) (room-or_full (needed limits attention b) list)

        alone_room : (k : ℕ) → k < slot_count b → (slot_answer limits attention b k).records ≤ length list / 16
            → single limits attention b k list
            ≡ done_outcome (slot_answer limits attention b k).records (slot_answer limits attention b k).steps ((slot_answer limits attention b k).list ++ drop ((slot_answer limits attention b k).records * 16) list)
        alone_room k h l =
            let d = known k h none in
            let c : (slot_answer limits attention b k).records ≡ d.count = ap (λ o. o.records) d.answer in
            single_found k d.count d.records d.steps list d.is
            ∙ written_room d.count d.records d.steps list (omega (arith, c, l))
            ∙ ap (λ o. done_outcome o.records o.steps (o.list ++ drop (o.records * 16) list)) (sym d.answer)

        joins_all : Joins limits attention b list
        joins_all = record { full = (full_out, is_full); room = has-room; alone = alone_room }

        -- The records of a slot

        for_whole : (k : ℕ) → k < slot_count b → Every Whole (records_in (slot_answer limits attention b k).records (slot_answer limits attention b k).list)
        for_whole k h =
            let d = known k h none in
            let c : (slot_answer limits attention b k).records ≡ d.count = ap (λ o. o.records) d.answer in
            let l : length (slot_answer limits attention b k).list ≡ length d.records = ap (λ o. length o.list) d.answer in
            records_whole _ _ (omega (arith, c, l, d.whole))

        slots_whole : Every Whole (gathered (records_for limits attention b) (below (slot_count b)))
        unfolding records_for
        slots_whole =
            every-gathered_in Whole (records_for limits attention b) (below (slot_count b))
            (every_below _ (slot_count b) (λ k h. every-list_in Whole (with_slot k) _ (every_map Whole _ (slot_whole k) _ (for_whole k h))))

        slots_bytes : (k : ℕ) → k < slot_count b → Every (λ r. get_or r 9 0 ≡ k) (records_for limits attention b k)
        unfolding records_for
        slots_bytes k h = every-list_in (λ r. get_or r 9 0 ≡ k) (with_slot k) _ (every_map Whole _ (slot-byte k) _ (for_whole k h))

        for_count : (k : ℕ) → length (records_for limits attention b k) ≡ (slot_answer limits attention b k).records
        unfolding records_for
        for_count k = length-map (records_in (slot_answer limits attention b k).records (slot_answer limits attention b k).list) (with_slot k) ∙ records_count _ _

        all_count : length (gathered (records_for limits attention b) (below (slot_count b))) ≡ needed limits attention b
        unfolding needed
        all_count = gathered-length (records_for limits attention b) (below (slot_count b)) ∙ ap total (map_every _ _ (below (slot_count b)) (every_below _ (slot_count b) (λ k h. for_count k)))

        joined_records : (rest : List ℕ) → records_in (needed limits attention b) (joined_lists limits attention b ++ rest) ≡ gathered (records_for limits attention b) (below (slot_count b))
        unfolding joined_lists
        joined_records rest =
            let rs = gathered (records_for limits attention b) (below (slot_count b)) in
            rw (← all_count, ← gathered-gathered (λ r. r) (records_for limits attention b) (below (slot_count b))) (records_rows rs rest slots_whole)

        joined_length : length (joined_lists limits attention b) ≡ needed limits attention b * 16
        unfolding joined_lists
        joined_length =
            ap length (sym (gathered-gathered (λ r. r) (records_for limits attention b) (below (slot_count b))))
            ∙ rows-length (gathered (records_for limits attention b) (below (slot_count b))) slots_whole ∙ ap (λ n. n * 16) all_count

        listed_records : (k : ℕ) → needed limits attention b ≤ length list / 16
            → listed_for k (board limits attention b list).answer ≡ of_slot k (gathered (records_for limits attention b) (below (slot_count b)))
        unfolding listed_for
        listed_records k l =
            ap (λ o. of_slot k (records_in o.answer.records o.answer.list)) (has-room l)
            ∙ ap (of_slot k) (joined_records (drop (needed limits attention b * 16) list))

        own_records : (k : ℕ) → k < slot_count b → needed limits attention b ≤ length list / 16 → listed_for k (board limits attention b list).answer ≡ records_for limits attention b k
        own_records k h l = listed_records k l ∙ of_slots (records_for limits attention b) k (slot_count b) slots_bytes h

        no_records : (k : ℕ) → slot_count b ≤ k → needed limits attention b ≤ length list / 16 → listed_for k (board limits attention b list).answer ≡ []
        no_records k h l = listed_records k l ∙ of_none (records_for limits attention b) k (slot_count b) slots_bytes h

  module _ (list : List ℕ) where
    -- It fits, no slot is refused, and the list has room for all records.
    pub record AllRoom : Type 0 where
      pub fits : Fits b
      pub none : NoneRefused limits attention b
      pub room : needed limits attention b ≤ length list / 16

    with_room : (s : AllRoom)
        → board limits attention b list
        ≡ board_outcome 0 (done_outcome (needed limits attention b) (steps_in_all limits attention b) (joined_lists limits attention b ++ drop (needed limits attention b * 16) list))
    with_room s = has-room s.fits list s.none s.room

    room_number : AllRoom → (board limits attention b list).answer.number ≡ 0
    room_number s = ap (λ o. o.answer.number) (with_room s)

    refused_call : (k n p : ℕ) → 1 ≤ n → n ≤ 19 → board limits attention b list ≡ board_outcome k (refused_outcome n p list) → RefusedCall list (board limits attention b list).answer
    refused_call k n p l h e =
        let a : (board limits attention b list).answer ≡ refused_outcome n p list = ap (λ o. o.answer) e in
        let m : (board limits attention b list).answer.number ≡ n = ap (λ o. o.number) a in
        record { refusal = refusal n p list _ l a; most = omega (arith, m, h) }

    -- A board that fits is refused by 1 to 19 or succeeds.
    fit_cases : Fits b → RefusedCall list (board limits attention b list).answer ⊎ AllRoom
    fit_cases f =
        ⊎_elim
        (λ s. let r = (first_refused f s).refused in inl (refused_call s.at s.number s.place r.least (omega (arith, r.most)) (board_stops f list s)))
        (λ a. let none = none_refused f a in
        ⊎_elim (λ h. inr (record { fits = f; none = none; room = h }))
        (λ h. inl (refused_call 0 19 (needed limits attention b) (omega arith) (omega arith) (is_full f list none h)))
        (room-or_full (needed limits attention b) list))
        (join_cases limits attention (slot_at b) (slot_count b))

    -- Every board is refused by 1 to 20 or succeeds.
    cases : RefusedBoardCall list (board limits attention b list).answer ⊎ AllRoom
    cases =
        ⊎_elim
        (λ t. ⊎_elim (λ r. inl (record { refusal = r.refusal; most = omega (arith, r.most) })) (λ s. inr s) (fit_cases (fits_out b t)))
        (λ u. let a : (board limits attention b list).answer ≡ refused_outcome 20 0 list = sym (ap (λ o. o.answer) (board_unfit limits attention b list u)) in
        let m : (board limits attention b list).answer.number ≡ 20 = ap (λ o. o.number) a in
        inl (record { refusal = refusal 20 0 list _ (omega arith) a; most = omega (arith, m) }))
        (either (board_fits b))

    ends : ((board limits attention b list).answer.number ≡ 0) ⊎ RefusedBoardCall list (board limits attention b list).answer
    ends = ⊎_elim (λ r. inr r) (λ s. inl (room_number s)) cases

    sized : length (board limits attention b list).answer.list ≡ length list
    sized =
        ⊎_elim (λ r. ap length r.refusal.keeps)
        (λ s. ap (λ o. length o.answer.list) (with_room s)
        ∙ list_length (needed limits attention b) (joined_lists limits attention b) list (joined_length s.fits list s.none) s.room)
        cases

    unfit : Unfit limits attention b list
    unfit =
        record {
          refused = λ n. ⊎_elim (λ e. absurd (n (fits_out b e))) (λ u. sym (board_unfit limits attention b list u)) (either (board_fits b));
          only = λ e f. ⊎_elim (λ r. absurd (omega (arith, e, r.most))) (λ s. absurd (omega (arith, e, room_number s))) (fit_cases f);
        }

    succeeded : (board limits attention b list).answer.number ≡ 0 → Succeeded limits attention b list
    succeeded e =
        ⊎_elim (λ r. absurd (omega (arith, e, r.refusal.least)))
        (λ s. record {
          fits = s.fits;
          none = s.none;
          own = λ k h. own_records s.fits list s.none k h s.room;
          no_other = λ k h. no_records s.fits list s.none k h s.room;
        })
        cases

    pub boards : Boards limits attention b list
    boards = record { ends = ends; sized = sized; unfit = unfit; decides = λ f. decides f list; otherwise = λ f. joins_all f list; succeeded = succeeded }

-- The records of a slot come from its number, its file, its readings and the type.
module _ (limits : Limits) (attention : ℕ) where
  same_single : (b b' : Board) (k : ℕ) → SameSlot b b' k → (list : List ℕ) → single limits attention b k list ≡ single limits attention b' k list
  unfolding single
  same_single b b' k s list =
      ap (λ x. isolate limits x attention (part k b.word_lengths b.words) (part k b.read_lengths b.read) list) s.file
      ∙ ap (λ x. isolate limits (part k b'.file_lengths b'.files) attention x (part k b.read_lengths b.read) list) s.words
      ∙ ap (λ x. isolate limits (part k b'.file_lengths b'.files) attention (part k b'.word_lengths b'.words) x list) s.read

  same_answer : (b b' : Board) (k : ℕ) → SameSlot b b' k → slot_answer limits attention b k ≡ slot_answer limits attention b' k
  unfolding slot_answer
  same_answer b b' k s =
      ap (λ o. single limits attention b k (replicate (o.place * 16) 0)) (same_single b b' k s [])
      ∙ same_single b b' k s (replicate ((single limits attention b' k []).place * 16) 0)

  same_records : (b b' : Board) (k : ℕ) → SameSlot b b' k → records_for limits attention b k ≡ records_for limits attention b' k
  unfolding records_for
  same_records b b' k s = ap (λ o. map (with_slot k) (records_in o.records o.list)) (same_answer b b' k s)

  pub independent : Independent limits attention
  independent b b' list list' k s e e' =
      (succeeded limits attention b list e).own k s.inside ∙ same_records b b' k s
      ∙ sym ((succeeded limits attention b' list' e').own k s.inside')

  -- A board with one slot

  one_fits : (file words read : List ℕ) → Fits (one_chip file words read)
  unfolding total
  one_fits file words read =
      record { least = omega arith; most = omega arith; word_lists = refl; read_lists = refl; files = omega arith; words = omega arith; reads = omega arith }

  one_written : (c : ℕ) (rs : List ℕ) (s : ℕ) (list : List ℕ) → written (c + 0) (rs ++ []) (s + 0) list ≡ written c rs s list
  one_written c rs s list =
      let e : c + 0 ≡ c = omega arith in
      let d : s + 0 ≡ s = omega arith in
      rw (e, d, append-nil rs)

  one_joined : (list : List ℕ) (f : Findings) → in_board_list list (join_one 0 f (joined 0 [] 0)) ≡ board_outcome 0 (in_list list f)
  unfolding in_board_list join_one before in_list
  one_joined list (stopped n p) = refl
  one_joined list (found c rs s) = ap (board_outcome 0) (one_written c rs s list)

  pub one_slot : OneSlot limits attention
  unfolding board slots_of slots_from join isolate
  one_slot file words read list =
      rw (fits_in (one_chip file words read) (one_fits file words read), take-length file, take-length words, take-length read)
      (one_joined list (find limits 0 file attention words read))
