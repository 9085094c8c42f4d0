-- The laws of the way back to the last register.
use Prim.Native.Nat.{ℕ, suc, ◌+◌, ◌-◌, ◌*◌, ◌≤◌, ◌<◌}
use mathlib.Core.List.{List}
use mathlib.Core.Path.{◌≡◌, sym, ◌∙◌, ap}
use mathlib.Core.Logic.{⊎_elim}
use native.Mathlib.Omega.{arith}
use borrow.Author.Tests.{eq-eqb, ne_eqb}
use lib.ListN.{length}
use Rattle.numbers.proofs.Bools.{same?}
use Rattle.records.specs.declared.Record.{Record}
use Rattle.records.specs.Record.{record_at, record_within, records_from}
use Rattle.records.proofs.JudgingLaws.{record_there}
use Rattle.packing.specs.declared.Nearest.{Nearest}
use Rattle.packing.specs.Packing.{type_with}
use Rattle.packing.specs.Writing.{type_after, Known, Near}
use Rattle.packing.proofs.SizeLaws.{from_last, type_last, type_register, type_other}

-- Among the records from the place `left` to the place n of a part there is no register.
pub record Gone (s : List ℕ) (start n left : ℕ) : Type 0 where
  pub below : left ≤ n
  pub same : (i : ℕ) → left ≤ i → i ≤ n → type_after 0 (records_from s i start) ≡ type_after 0 (records_from s left start)

pub gone_none : (s : List ℕ) (start n : ℕ) → Gone s start n n
gone_none s start n =
    record { below = omega arith; same = λ i a b. let e : i ≡ n = omega (arith, a, b) in ap (λ j. type_after 0 (records_from s j start)) e }

module _ (s : List ℕ) (start n left : ℕ) (g : Gone s start n left) where
  pub near_none : left ≤ 0 → Near s start n (record { since = 0; form = 0 })
  unfolding type_after records_from
  near_none z =
      let e : left ≡ 0 = omega (arith, z) in
      record {
        known = record { form = λ j a b. g.same j (omega (arith, z)) (omega (arith, b)) ∙ ap (λ i. type_after 0 (records_from s i start)) e };
        here = omega arith;
      }

  module _ {r : Record} {at : ℕ} (some : 0 < left) (within : start + 16 * n ≤ length s) (place : at ≡ start + 16 * (left - 1)) (here : r ≡ record_within s at) where
    last-type : type_after 0 (records_from s left start) ≡ type_with (type_after 0 (records_from s (left - 1) start)) r
    last-type =
        let e : left ≡ suc (left - 1) = omega (arith, some) in
        let x : r ≡ record_at s (start + 16 * (left - 1)) = here ∙ ap (record_within s) place ∙ record_there s (start + 16 * (left - 1)) (omega (arith, some, within, g.below)) in
        ap (λ i. type_after 0 (records_from s i start)) e
        ∙ ap (type_after 0) (from_last s (left - 1) start)
        ∙ type_last 0 (records_from s (left - 1) start) (record_at s (start + 16 * (left - 1)))
        ∙ ap (type_with (type_after 0 (records_from s (left - 1) start))) (sym x)

    near_here : r.kind ≡ 1 → Near s start n (record { since = left; form = r.form })
    near_here k =
        record {
          known =
              record {
                form = λ j a b.
                    g.same j a (omega (arith, b)) ∙ last-type ∙ type_register (type_after 0 (records_from s (left - 1) start)) r (eq-eqb r.kind 1 k);
              };
          here = g.below;
        }

    pub near_found : r.kind ≡ 1 → {since : ℕ} → since ≡ left → Near s start n (record { since = since; form = r.form })
    near_found k e = rw e (near_here k)

    pub gone_next : (r.kind ≡ 1 → ⊥) → Gone s start n (left - 1)
    gone_next k =
        let other = type_other (type_after 0 (records_from s (left - 1) start)) r (ne_eqb r.kind 1 k) in
        record {
          below = omega (arith, g.below);
          same = λ i a b. ⊎_elim
              (λ e. ap (λ j. type_after 0 (records_from s j start)) e)
              (λ d. g.same i (omega (arith, a, neq i (left - 1) d a)) b ∙ last-type ∙ other)
              (same? i (left - 1));
        }
      where
        neq : (i k : ℕ) → (i ≡ k → ⊥) → k ≤ i → k < i
        neq i k d h = omega (arith, d, h)

-- What is known.
pub near_form : {s : List ℕ} {start n : ℕ} {k : Nearest} → Near s start n k → type_after 0 (records_from s n start) ≡ k.form
near_form {n = n} h = h.known.form n h.here (omega arith)

pub known_less : {s : List ℕ} {start n : ℕ} {k : Nearest} → Known s start (n + 1) k → Known s start n k
known_less h = record { form = λ j a b. h.form j a (omega (arith, b)) }

pub known_none : (s : List ℕ) (start n : ℕ) → Known s start n (record { since = n; form = 0 })
known_none s start n = record { form = λ j a b. absurd (omega (arith, a, b)) }
