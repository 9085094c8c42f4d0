-- Answers: those that follow the checker's, what they leave of the lent output, and what was accepted.
use Prim.Native.Nat.{ℕ, zero, suc, ◌≤◌, ◌<◌}
use mathlib.Core.List.{List, ◌++◌}
use mathlib.Core.Logic.{◌⊎◌, inl, inr, ⊎_elim}
use mathlib.Core.Path.{◌≡◌, refl, sym, ◌∙◌, ap, subst}
use native.Mathlib.Omega.{arith}
use lib.Dec.{leb}
use lib.ListN.{length, drop, length-append, length-drop}
use lib.Seq.{take-append_seam}
use borrow.Author.Tests.{leb-true, leb-false, le-leb, lt-leb}
use Rattle.limits.specs.Limits.{Limits}
use Rattle.numbers.specs.BigEndian.{Bytes}
use Rattle.numbers.proofs.Bools.{either, same?}
use Rattle.format.specs.Parsed.{Parsed, done, refused, making}
use Rattle.format.specs.Refusals.{refused_with}
use Rattle.format.specs.Tree.{Chip}
use Rattle.format.specs.Verdict.{verdict, counts_of, check_of, check}
use Rattle.format.proofs.Acceptance.{acceptance, read_to_end}
use Rattle.format.proofs.NumberedLaws.{verdict_numbered}
use Rattle.writer.specs.Writing.{Answer, refused_answer, written_answer, in_output}
use Rattle.writer.specs.RoundTrips.{Lent, bytes_in, Gives, Accepted, CheckedFirst}

-- Bytes in an output

pub gives : (bytes out : List ℕ) (end : ℕ) → Gives bytes out (in_output out (done bytes end))
unfolding in_output
gives bytes out end =
    record { room = λ h. rw (le-leb (length bytes) (length out) h); short = λ h. rw (lt-leb (length bytes) (length out) h) }

pub room-or_short : (bytes out : List ℕ) → (length bytes ≤ length out) ⊎ (length out < length bytes)
room-or_short bytes out =
    ⊎_elim (λ e. inl (leb-true _ _ e)) (λ e. inr (leb-false (length bytes) (length out) e)) (either (leb (length bytes) (length out)))

pub bytes_written : (bytes out : List ℕ) → bytes_in (written_answer bytes out) ≡ bytes
bytes_written bytes out = take-append_seam bytes (drop (length bytes) out)

-- What an answer leaves of the lent output

pub lent_refused : (out : List ℕ) (a : Answer) (n p : ℕ) → 0 < n → a ≡ refused_answer n p out → Lent out a
lent_refused out a n p h e =
    let k : a.number ≡ n = ap (λ x. x.number) e in
    let q : a.place ≡ p = ap (λ x. x.place) e in
    record {
      refusal = λ _. e ∙ ap (λ x. refused_answer x p out) (sym k) ∙ ap (λ x. refused_answer a.number x out) (sym q);
      success = λ z. absurd (omega arith);
      sized = ap (λ x. length x.output) e;
    }

pub lent_written : (out : List ℕ) (a : Answer) (bytes : List ℕ) → length bytes ≤ length out → a ≡ written_answer bytes out → Lent out a
lent_written out a bytes h e =
    record {
      refusal = λ f. absurd (f (ap (λ x. x.number) e));
      success = λ _. (bytes, h, e);
      sized = ap (λ x. length x.output) e
          ∙ (let w : length (bytes ++ drop (length bytes) out) ≡ length out =
          omega (arith, length-append bytes (drop (length bytes) out), length-drop (length bytes) out) in w);
    }

-- The checker's answer

module _ (limits : Limits) (file : List ℕ) where
  pub check_done : {c : Chip} {end : ℕ} → verdict limits file ≡ done c end → check limits file ≡ counts_of c
  unfolding check check_of
  check_done v = rw v

  pub check_refused : {n p : ℕ} → verdict limits file ≡ refused n p → check limits file ≡ refused_with n p
  unfolding check check_of
  check_refused v = rw v

  pub check_most : (check limits file).number ≤ 14
  check_most = go (verdict limits file) refl
    where
      go : (q : Parsed Chip) → verdict limits file ≡ q → (check limits file).number ≤ 14
      go (done c end) v = omega (arith, ap (λ x. x.number) (check_done v))
      go (refused n p) v = omega (arith, ap (λ x. x.number) (check_refused v), (verdict_numbered limits file v).1)

  pub accepted_verdict : (check limits file).number ≡ 0 → (c : Chip) × (end : ℕ) × (verdict limits file ≡ done c end)
  accepted_verdict z = go (verdict limits file) refl
    where
      go : (q : Parsed Chip) → verdict limits file ≡ q → (c : Chip) × (end : ℕ) × (verdict limits file ≡ done c end)
      go (done c end) v = (c, end, v)
      go (refused n p) v = absurd (omega (arith, ap (λ x. x.number) (check_refused v), (verdict_numbered limits file v).0))

  module _ (bytes : Bytes file) where
    pub accepted_out : {c : Chip} {end : ℕ} → verdict limits file ≡ done c end → Accepted limits file c
    accepted_out {c} {end} v =
        let a = (acceptance limits file bytes c).0 (v ∙ ap (done c) (read_to_end limits file bytes v)) in
        record { encoded = a.0; placed = a.1; meets = a.2 }

    pub accepted_in : {c : Chip} → Accepted limits file c → verdict limits file ≡ done c (length file)
    accepted_in {c} a = (acceptance limits file bytes c).1 (a.encoded, a.placed, a.meets)

    pub accepted_number : {c : Chip} → Accepted limits file c → (check limits file).number ≡ 0
    accepted_number a = ap (λ x. x.number) (check_done (accepted_in a))

    pub accepted_some : (check limits file).number ≡ 0 → (c : Chip) × Accepted limits file c
    accepted_some z = let v = accepted_verdict z in (v.0, accepted_out v.2)

-- What follows the checker's answer

module _ (limits : Limits) (file bytes out : List ℕ) (f : Chip → List ℕ) where
  at_done : (c : Chip) (end : ℕ) → f c ≡ bytes → verdict limits file ≡ done c end → CheckedFirst limits file bytes out (in_output out (making f (done c end)))
  unfolding making
  at_done c end h v =
      record {
        refused = λ n. absurd (n (ap (λ x. x.number) (check_done limits file v)));
        accepted = λ _. subst (λ x. Gives bytes out (in_output out (done x end))) (sym h) (gives bytes out end);
      }

  at_refused : (n p : ℕ) → verdict limits file ≡ refused n p → CheckedFirst limits file bytes out (in_output out (making f (refused n p)))
  unfolding making in_output
  at_refused n p v =
      let e = check_refused limits file v in
      let k : (check limits file).number ≡ n = ap (λ x. x.number) e in
      let q : (check limits file).place ≡ p = ap (λ x. x.place) e in
      record { refused = λ _. rw (k, q); accepted = λ z. absurd (omega (arith, (verdict_numbered limits file v).0)) }

pub making_first : (limits : Limits) (file bytes out : List ℕ) (f : Chip → List ℕ)
    → ((c : Chip) (end : ℕ) → verdict limits file ≡ done c end → f c ≡ bytes)
    → CheckedFirst limits file bytes out (in_output out (making f (verdict limits file)))
making_first limits file bytes out f h = go (verdict limits file) refl
  where
    go : (q : Parsed Chip) → verdict limits file ≡ q → CheckedFirst limits file bytes out (in_output out (making f q))
    go (done c end) v = at_done limits file bytes out f c end (h c end v) v
    go (refused n p) v = at_refused limits file bytes out f n p v

module _ (limits : Limits) (file bytes out : List ℕ) (a : Answer) (f : CheckedFirst limits file bytes out a) where
  pub first-zero : a.number ≡ 0 → ((check limits file).number ≡ 0) × (length bytes ≤ length out) × (a ≡ written_answer bytes out)
  first-zero z = go (same? (check limits file).number 0) (room-or_short bytes out)
    where
      go : ((check limits file).number ≡ 0) ⊎ ((check limits file).number ≡ 0 → ⊥) → (length bytes ≤ length out) ⊎ (length out < length bytes)
          → ((check limits file).number ≡ 0) × (length bytes ≤ length out) × (a ≡ written_answer bytes out)
      go (inl y) (inl r) = (y, r, (f.accepted y).room r)
      go (inl y) (inr r) = absurd (omega (arith, z, ap (λ x. x.number) ((f.accepted y).short r)))
      go (inr n) r = absurd (n (sym (ap (λ x. x.number) (f.refused n)) ∙ z))

  pub first-not_wrong : a.number ≡ 40 → ⊥
  first-not_wrong z = go (same? (check limits file).number 0) (room-or_short bytes out)
    where
      go : ((check limits file).number ≡ 0) ⊎ ((check limits file).number ≡ 0 → ⊥) → (length bytes ≤ length out) ⊎ (length out < length bytes) → ⊥
      go (inl y) (inl r) = omega (arith, z, ap (λ x. x.number) ((f.accepted y).room r))
      go (inl y) (inr r) = omega (arith, z, ap (λ x. x.number) ((f.accepted y).short r))
      go (inr n) r = omega (arith, z, ap (λ x. x.number) (f.refused n), check_most limits file)

  pub first_lent : Lent out a
  first_lent = go (same? (check limits file).number 0) (room-or_short bytes out)
    where
      positive : (k : ℕ) → (k ≡ 0 → ⊥) → 0 < k
      positive zero n = absurd (n refl)
      positive (suc k) n = omega arith

      go : ((check limits file).number ≡ 0) ⊎ ((check limits file).number ≡ 0 → ⊥) → (length bytes ≤ length out) ⊎ (length out < length bytes) → Lent out a
      go (inl y) (inl r) = lent_written out a bytes r ((f.accepted y).room r)
      go (inl y) (inr r) = lent_refused out a 41 (length bytes) (omega arith) ((f.accepted y).short r)
      go (inr n) r = lent_refused out a (check limits file).number (check limits file).place (positive (check limits file).number n) (f.refused n)
