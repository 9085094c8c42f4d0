-- Demand 2 holds of the definition of the checker's answer, and of what the checker answers.
use Prim.Native.Nat.{ℕ}
use mathlib.Core.List.{List}
use mathlib.Core.Path.{◌≡◌, refl, sym, ◌∙◌, ap, subst}
use native.Mathlib.Omega.{arith}
use lib.ListN.{length}
use Rattle.limits.specs.declared.LimitSet.{LimitSet}
use Rattle.limits.specs.Limits.{limits_of}
use Rattle.numbers.specs.BigEndian.{Bytes}
use Rattle.std.specs.Prelude.{Result, Ok, Err}
use Rattle.format.specs.declared.Refusal.{Refusal}
use Rattle.format.specs.declared.Summary.{Summary}
use Rattle.format.specs.Parsed.{Parsed, done, refused}
use Rattle.format.specs.Refusals.{checked_values}
use Rattle.format.specs.Tree.{Chip}
use Rattle.format.specs.Verdict.{verdict, counts_of, check_of, check}
use Rattle.format.proofs.Acceptance.{acceptance, read_to_end}
use Rattle.format.proofs.NumberedLaws.{kind_some, verdict_numbered}
use Rattle.demands.specs.Demand2.{Accepted, FirstRefusal, Demand2, Checks}

-- Accepted

pub accepted_out : (of : LimitSet) (file : List ℕ) → Bytes file → {c : Chip} {end : ℕ} → verdict (limits_of of) file ≡ done c end → Accepted of file c
accepted_out of file bytes {c} {end} e =
    let a = (acceptance (limits_of of) file bytes c).0 (e ∙ ap (done c) (read_to_end (limits_of of) file bytes e)) in
    record { encoded = a.0; placed = a.1; meets = a.2 }

pub accepted_in : (of : LimitSet) (file : List ℕ) → Bytes file → {c : Chip} → Accepted of file c → verdict (limits_of of) file ≡ done c (length file)
accepted_in of file bytes {c} a = (acceptance (limits_of of) file bytes c).1 (a.encoded, a.placed, a.meets)

-- The demand

module _ (of : LimitSet) (file : List ℕ) (bytes : Bytes file) where
  check_done : {c : Chip} {end : ℕ} → verdict (limits_of of) file ≡ done c end → check (limits_of of) file ≡ counts_of c
  unfolding check check_of
  check_done v = rw v

  check_refused : {n p : ℕ} → verdict (limits_of of) file ≡ refused n p → FirstRefusal of file (check (limits_of of) file)
  unfolding check check_of
  check_refused {n} {p} v =
      let k = verdict_numbered (limits_of of) file v in
      record { number = n; place = p; first = v; least = k.0; most = k.1; is = rw v }

  accepts_out : (q : Parsed Chip) → verdict (limits_of of) file ≡ q → (check (limits_of of) file).number ≡ 0 → (c : Chip) × Accepted of file c
  accepts_out (done c end) v e = (c, accepted_out of file bytes v)
  accepts_out (refused n p) v e = let f = check_refused v in absurd (omega (arith, ap (λ x. x.number) f.is, f.least))

  accepts_in : (c : Chip) → Accepted of file c → check (limits_of of) file ≡ counts_of c
  accepts_in c a = check_done (accepted_in of file bytes a)

  refuses_in : (q : Parsed Chip) → verdict (limits_of of) file ≡ q → ((c : Chip) → Accepted of file c → ⊥) → FirstRefusal of file (check (limits_of of) file)
  refuses_in (done c end) v h = absurd (h c (accepted_out of file bytes v))
  refuses_in (refused n p) v h = check_refused v

  pub demand2 : Demand2 of file
  demand2 =
      record {
        accepts = (accepts_out (verdict (limits_of of) file) refl, λ a. ap (λ x. x.number) (accepts_in a.0 a.1));
        summary = accepts_in;
        refuses = refuses_in (verdict (limits_of of) file) refl;
      }

  -- What the contract of `reader::check` allows keeps to it.
  module _ (r : Result Summary Refusal) (promised : checked_values r ≡ check (limits_of of) file) where
    accepted_case : (r : Result Summary Refusal) → (checked_values r).number ≡ 0 → (s : Summary) × (r ≡ Ok s)
    accepted_case (Ok s) e = (s, refl)
    accepted_case (Err x) e = absurd (omega (arith, e, kind_some x.kind))

    case_accepted : (s : Summary) → r ≡ Ok s → (check (limits_of of) file).number ≡ 0
    case_accepted s e = sym (ap (λ x. x.number) promised) ∙ ap (λ x. (checked_values x).number) e

    pub checks : Checks of file r
    checks =
        record {
          accepts = (λ d. demand2.accepts.0 (case_accepted d.0 d.1), λ a. accepted_case r (ap (λ x. x.number) promised ∙ demand2.accepts.1 a));
          summary = λ c a. promised ∙ accepts_in c a;
          refuses = λ h. subst (FirstRefusal of file) (sym promised) (demand2.refuses h);
        }
