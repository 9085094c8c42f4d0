-- A board's answer by the rows of its slots and a list.
use Rattle.std.specs.Prelude.{Result, Ok, Err}
use Prim.Native.Nat.{ℕ, ◌*◌, ◌/◌, ◌≤◌}
use mathlib.Core.Bool.{Bool, true, false, cond, not}
use mathlib.Core.List.{List, ◌++◌}
use mathlib.Core.Logic.{◌⊎◌, inl, inr, ⊎_elim}
use mathlib.Core.Path.{◌≡◌, refl, sym, ap, ◌∙◌}
use native.Mathlib.Omega.{arith}
use lib.ListN.{length, take, drop, replicate, length-replicate}
use lib.Dec.{leb}
use borrow.Author.Tests.{ne_eqb}
use lib.Seq.{length-take-le}
use Rattle.limits.specs.Limits.{Limits, library_limits, slots, board_node_instances}
use Rattle.format.specs.declared.Refusal.{Refusal}
use Rattle.listing.specs.Records.{record_size}
use Rattle.listing.specs.Rows.{rows_of, first_rows, kept_count, kept_records}
use Rattle.listing.proofs.KeptLaws.{most_rows}
use Rattle.isolation.specs.declared.Isolation.{Isolation}
use Rattle.isolation.specs.declared.Kept.{Kept}
use Rattle.isolation.specs.Outcome.{Outcome, done_outcome, refused_outcome, outcome_of, written, is_exact}
use Rattle.board.specs.declared.Gathered.{Gathered}
use Rattle.board.specs.Board.{Board, board_fits, Together, slots_from, slots_of, join, BoardOutcome, board_outcome, in_board_list, board}
use Rattle.board.specs.Rows.{gathered_of, is_gathered}
use Rattle.board.proofs.SumsLaws.{Fitting}

pub most_slots : slots ≡ 16
unfolding slots
most_slots = refl

-- Rows of all slots.
pub few_rows : (b : Board) → Fitting b → (heads : List ℕ) (n : ℕ) → n ≤ length b.file_lengths * library_limits.node_instances → n ≤ length heads → length (take n heads) ≤ board_node_instances
few_rows b f heads n h l = omega (arith, most_rows, f.most, length-take-le n heads l)

pub enough_rows : (b : Board) → Fitting b → {m : ℕ} → board_node_instances ≤ m → length b.file_lengths * library_limits.node_instances ≤ m
enough_rows b f h = omega (arith, most_rows, f.most)

-- The answer by them.
pub rows_answered : (attention : ℕ) (k : Kept) (heads rows list : List ℕ) {t : Together} {o : Outcome} → gathered_of attention (Gathered.Rows k) heads rows ≡ t
    → o ≡ written (kept_count (rows_of (take k.rows heads) (take k.rows rows))) (kept_records attention (rows_of (take k.rows heads) (take k.rows rows))) k.steps list
    → board_outcome 0 o ≡ in_board_list list t
unfolding first_rows in_board_list
rows_answered attention k heads rows list e d = ap (board_outcome 0) d ∙ ap (in_board_list list) e

pub slot_answered : (attention : ℕ) (r : Refusal) (k : ℕ) (heads rows list : List ℕ) {t : Together} → gathered_of attention (Gathered.Refused r k) heads rows ≡ t
    → board_outcome k (outcome_of (Err r) list) ≡ in_board_list list t
unfolding in_board_list
slot_answered attention r k heads rows list e = ap (in_board_list list) e

pub slots_are : (b : Board) → slots_from 0 b.file_lengths b.word_lengths b.read_lengths b.files b.words b.read ≡ slots_of b
unfolding slots_of
slots_are b = refl

pub refused_exact : (r : Refusal) (k : ℕ) → is_exact (Err r) ≡ true → is_gathered (Gathered.Refused r k) ≡ true
unfolding is_exact is_gathered
refused_exact r k h = h

pub exact_refused : (r : Refusal) (k : ℕ) → is_gathered (Gathered.Refused r k) ≡ true → is_exact (Err r) ≡ true
unfolding is_exact is_gathered
exact_refused r k h = h

pub rows-gathered : (k : Kept) → is_gathered (Gathered.Rows k) ≡ true
unfolding is_gathered
rows-gathered k = refl

-- An answer by a list has number 0 or 19.
pub written_number : (count : ℕ) (records : List ℕ) (steps : ℕ) (list : List ℕ) → ((written count records steps list).number ≡ 0) ⊎ ((written count records steps list).number ≡ 19)
unfolding written
written_number count records steps list = go (leb count (length list / record_size))
  where
    go : (t : Bool)
        → ((cond t (done_outcome count steps (records ++ drop (count * record_size) list)) (refused_outcome 19 count list)).number ≡ 0)
        ⊎ ((cond t (done_outcome count steps (records ++ drop (count * record_size) list)) (refused_outcome 19 count list)).number ≡ 19)
    go true = inl refl
    go false = inr refl

pub written_exact : (a : Result Isolation Refusal) (new : List ℕ) (count : ℕ) (records : List ℕ) (steps : ℕ) (list : List ℕ) → outcome_of a new ≡ written count records steps list → is_exact a ≡ true
unfolding is_exact
written_exact (Ok i) new count records steps list e = refl
written_exact (Err r) new count records steps list e =
    ap not
    (ne_eqb _ 43 (λ z.
    let n : (written count records steps list).number ≡ 43 = sym (ap (λ o. o.number) e) ∙ z in
    ⊎_elim (λ a. absurd (omega (arith, n, a))) (λ b. absurd (omega (arith, n, b))) (written_number count records steps list)))

-- What was gathered of all slots.
module _ (attention : ℕ) (b : Board) (g : Gathered) (heads rows : List ℕ)
    (exact : is_gathered g ≡ true → gathered_of attention g heads rows ≡ join library_limits attention (slots_from 0 b.file_lengths b.word_lengths b.read_lengths b.files b.words b.read)) where
  pub gathered_is : (k : Kept) → g ≡ Gathered.Rows k → gathered_of attention (Gathered.Rows k) heads rows ≡ join library_limits attention (slots_of b)
  gathered_is k e = sym (ap (λ z. gathered_of attention z heads rows) e) ∙ exact (ap is_gathered e ∙ rows-gathered k) ∙ ap (join library_limits attention) (slots_are b)

  pub stopped_is : (r : Refusal) (q : ℕ) → g ≡ Gathered.Refused r q → is_exact (Err r) ≡ true → gathered_of attention (Gathered.Refused r q) heads rows ≡ join library_limits attention (slots_of b)
  stopped_is r q e h = sym (ap (λ z. gathered_of attention z heads rows) e) ∙ exact (ap is_gathered e ∙ refused_exact r q h) ∙ ap (join library_limits attention) (slots_are b)

  pub stopped_enough : (r : Refusal) (q : ℕ) → g ≡ Gathered.Refused r q → is_gathered g ≡ true → is_exact (Err r) ≡ true
  stopped_enough r q e h = exact_refused r q (sym (ap is_gathered e) ∙ h)

-- The largest tables.
pub full_tables : board_node_instances ≤ length (replicate {A = ℕ} 16384 0)
full_tables = omega (arith, most_rows, length-replicate {A = ℕ} 16384 0)

-- The whole answer.
module _ (limits : Limits) (attention : ℕ) (b : Board) (list : List ℕ) where
  pub board_fitting : board_fits b ≡ true → {o : BoardOutcome} → o ≡ in_board_list list (join limits attention (slots_of b)) → o ≡ board limits attention b list
  unfolding board
  board_fitting h e = rw h e

  pub board_unfit : board_fits b ≡ false → board_outcome 0 (refused_outcome 20 0 list) ≡ board limits attention b list
  unfolding board
  board_unfit h = rw h
