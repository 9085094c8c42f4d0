-- The laws of answers as lists.
use Rattle.std.specs.Prelude.{Result}
use Rattle.format.specs.declared.Refusal.{Refusal}
use Prim.Native.Nat.{ℕ, ◌≤◌, ◌<◌}
use mathlib.Core.List.{List, [], ◌∷◌}
use mathlib.Core.Path.{◌≡◌, sym, ◌∙◌, ap}
use lib.ListN.{length}
use borrow.Author.Tests.{le-leb, lt-leb}
use Rattle.tables.specs.Tables.{written}
use Rattle.tables.proofs.TablesLaws.{written_front}
use Rattle.isolation.specs.declared.Isolation.{Isolation}
use Rattle.isolation.specs.Outcome.{Outcome, outcome_of}
use Rattle.board.specs.Board.{BoardOutcome, board_outcome}
use Rattle.writer.specs.Writing.{Answer, answer_of}
use Rattle.abi.specs.Values.{answered}

pub answered_short : (xs out : List ℕ) → length out < length xs → out ≡ answered xs out
unfolding answered
answered_short xs out h = rw (lt-leb _ _ h)

pub answered_long : (xs out : List ℕ) → length xs ≤ length out → written out 0 xs ≡ answered xs out
unfolding answered
answered_long xs out h = rw (le-leb _ _ h) (written_front out xs h)

-- A refusal's number.
pub refused_eight : (p : ℕ) (out : List ℕ) {n m : ℕ} → n ≡ m → answered (n ∷ p ∷ 0 ∷ 0 ∷ 0 ∷ 0 ∷ 0 ∷ 0 ∷ []) out ≡ answered (m ∷ p ∷ 0 ∷ 0 ∷ 0 ∷ 0 ∷ 0 ∷ 0 ∷ []) out
refused_eight p out e = rw e

pub refused_four : (p : ℕ) (out : List ℕ) {n m : ℕ} → n ≡ m → answered (n ∷ p ∷ 0 ∷ 0 ∷ []) out ≡ answered (m ∷ p ∷ 0 ∷ 0 ∷ []) out
refused_four p out e = rw e

pub refused_five : (p k : ℕ) (out : List ℕ) {n m : ℕ} → n ≡ m → answered (n ∷ p ∷ 0 ∷ 0 ∷ k ∷ []) out ≡ answered (m ∷ p ∷ 0 ∷ 0 ∷ k ∷ []) out
refused_five p k out e = rw e

pub refused_three : (p : ℕ) (out : List ℕ) {n m : ℕ} → n ≡ m → answered (n ∷ p ∷ 0 ∷ []) out ≡ answered (m ∷ p ∷ 0 ∷ []) out
refused_three p out e = rw e

pub answered_as : {A : Type 0} (f : A → List ℕ) (out : List ℕ) {v w : A} {y : List ℕ} → v ≡ w → y ≡ answered (f v) out → y ≡ answered (f w) out
answered_as f out e d = d ∙ ap (λ x. answered (f x) out) e

-- The outcome of an answer whose case is known.
pub outcome_as : (l : List ℕ) {r s : Result Isolation Refusal} {o : Outcome} → r ≡ s → outcome_of r l ≡ o → outcome_of s l ≡ o
outcome_as l e d = sym (ap (λ x. outcome_of x l) e) ∙ d

pub board_outcome_as : (l : List ℕ) {k : ℕ} {r s : Result Isolation Refusal} {o : BoardOutcome} → r ≡ s → board_outcome k (outcome_of r l) ≡ o → board_outcome k (outcome_of s l) ≡ o
board_outcome_as l {k} e d = sym (ap (λ x. board_outcome k (outcome_of x l)) e) ∙ d

pub answer_as : (l : List ℕ) {r s : Result ℕ Refusal} {a : Answer} → r ≡ s → answer_of r l ≡ a → answer_of s l ≡ a
answer_as l e d = sym (ap (λ x. answer_of x l) e) ∙ d
