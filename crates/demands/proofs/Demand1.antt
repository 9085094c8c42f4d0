-- Demand 1 holds of the definition of isolation.
use Rattle.std.specs.Prelude.{Result, Ok, Err}
use Rattle.format.specs.declared.Refusal.{Refusal as CodeRefusal}
use Prim.Native.Nat.{ℕ, ◌*◌, ◌/◌, ◌≤◌}
use mathlib.Core.List.{List, ◌++◌}
use mathlib.Core.Logic.{◌⊎◌, inl, inr, ⊎_elim}
use mathlib.Core.Path.{◌≡◌, refl, sym, ◌∙◌, ap, subst}
use native.Mathlib.Omega.{arith}
use lib.ListN.{length, drop, length-append, length-drop}
use borrow.Author.Tests.{leb-true}
use Rattle.limits.specs.declared.LimitSet.{LimitSet}
use Rattle.limits.specs.Limits.{limits_of}
use Rattle.format.specs.Lookup.{node_position}
use Rattle.isolation.specs.ChipGraph.{chip_graph}
use Rattle.format.proofs.NumberedLaws.{kind_some}
use Rattle.isolation.specs.declared.Isolation.{Isolation}
use Rattle.isolation.specs.Outcome.{Outcome, refused_outcome, outcome_of, isolate}
use Rattle.listing.specs.Records.{record_size, listing, records_of}
use Rattle.isolation.proofs.GraphsLaws.{listing-length}
use Rattle.isolation.proofs.OutcomeLaws.{Refused, Succeeds, succeeds_in, outcome_cases}
use Rattle.demands.specs.Demand1.{Refusal, RefusedCall, Demand1, Refuses}

pub refusal : (n p : ℕ) (list : List ℕ) (o : Outcome) → 1 ≤ n → o ≡ refused_outcome n p list → Refusal list o
refusal n p list o l e =
    let m : o.number ≡ n = ap (λ o. o.number) e in
    record { least = omega (arith, m, l); records = ap (λ o. o.records) e; steps = ap (λ o. o.steps) e; keeps = ap (λ o. o.list) e }

-- A list with room for some records is as long with them.
pub list_length : (c : ℕ) (rs list : List ℕ) → length rs ≡ c * 16 → c ≤ length list / 16 → length (rs ++ drop (c * 16) list) ≡ length list
list_length c rs list w h = length-append rs (drop (c * 16) list) ∙ omega (arith, w, h, length-drop (c * 16) list)

module _ (of : LimitSet) (file : List ℕ) (attention : ℕ) (words read list : List ℕ) where
  refused_call : Refused list (isolate (limits_of of) file attention words read list) → RefusedCall list (isolate (limits_of of) file attention words read list)
  refused_call r =
      let n : (isolate (limits_of of) file attention words read list).number ≡ r.number = ap (λ o. o.number) r.is in
      record { refusal = refusal r.number r.place list _ r.low r.is; most = omega (arith, r.high) }

  success-length : (s : Succeeds (limits_of of) file attention words read list) → length (isolate (limits_of of) file attention words read list).list ≡ length list
  unfolding record_size chip_graph
  success-length s =
      let c = s.finds.chip in
      let g = chip_graph c attention words read in
      let p = node_position c s.finds.root.id s.finds.root.number in
      let ls = listing g p in
      let rs = records_of c 0 attention ls in
      let fits : length ls ≤ length list / 16 = leb-true _ _ s.room in
      let whole : length rs ≡ length ls * 16 = listing-length c 0 attention g p refl in
      let is : (isolate (limits_of of) file attention words read list).list ≡ rs ++ drop (length ls * 16) list = ap (λ o. o.list) (succeeds_in (limits_of of) file attention words read list s) in
      ap length is ∙ list_length (length ls) rs list whole fits

  pub demand1 : Demand1 of file attention words read list
  demand1 =
      record {
        ends = ⊎_elim (λ r. inr (refused_call r)) (λ s. inl (ap (λ o. o.number) (succeeds_in (limits_of of) file attention words read list s))) (outcome_cases (limits_of of) file attention words read list);
        sized = ⊎_elim (λ r. ap (λ o. length o.list) r.is) success-length (outcome_cases (limits_of of) file attention words read list);
      }

  -- What the contract of `isolation::isolate` allows keeps to it.
  module _ (r : Result Isolation CodeRefusal) (after : List ℕ) (promised : outcome_of r after ≡ isolate (limits_of of) file attention words read list) where
    done-or_refused : (r : Result Isolation CodeRefusal) → ((outcome_of r after).number ≡ 0) ⊎ RefusedCall list (outcome_of r after)
        → ((i : Isolation) × (r ≡ Ok i)) ⊎ RefusedCall list (outcome_of r after)
    done-or_refused (Ok i) e = inl (i, refl)
    done-or_refused (Err x) e = ⊎_elim (λ z. absurd (omega (arith, z, kind_some x.kind))) (λ z. inr z) e

    list-after : (r : Result Isolation CodeRefusal) → (outcome_of r after).list ≡ after
    list-after (Ok i) = refl
    list-after (Err x) = refl

    pub refuses : Refuses of file attention words read list r after
    refuses =
        record {
          told = promised;
          ends = done-or_refused r (subst (λ o. (o.number ≡ 0) ⊎ RefusedCall list o) (sym promised) demand1.ends);
          sized = ap length (sym (list-after r)) ∙ ap (λ o. length o.list) promised ∙ demand1.sized;
        }
