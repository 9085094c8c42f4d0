-- One turn of the loop over the records.
use Prim.Native.Nat.{ℕ, zero, suc, ◌+◌, ◌-◌, ◌*◌, ◌≤◌, ◌<◌}
use mathlib.Core.Bool.{Bool, true, false}
use mathlib.Core.List.{List, ◌∷◌}
use mathlib.Core.Path.{◌≡◌, sym, ◌∙◌, ap}
use native.Mathlib.Omega.{arith}
use lib.ListN.{length, get_or}
use Rattle.numbers.specs.Field.{field}
use Rattle.numbers.proofs.FieldLaws.{present_yes, field-byte}
use Rattle.format.specs.Parsed.{refused}
use Rattle.records.specs.declared.Record.{Record}
use Rattle.records.specs.declared.Before.{Before}
use Rattle.records.specs.declared.Element.{Element}
use Rattle.records.specs.Record.{record_at, record_within, records_from}
use Rattle.records.specs.Grammar.{element_of, with_element, allowed_as, allowed, taken}
use Rattle.records.specs.Judging.{capped, finish, rest}
use Rattle.records.proofs.AgainLaws.{length_from}
use Rattle.records.proofs.OwingLaws.{rest_allowed, rest_refused, rest_end, capped_same}

-- A record that is whole.
pub record_whole : (s : List ℕ) (at : ℕ) {i v : ℕ} → at + 16 ≤ length s → i ≡ field s (at + 4) 4 → v ≡ field s (at + 8) 8
    → record {
      kind = get_or s at 0;
      form = get_or s (at + 1) 0;
      amount = get_or s (at + 2) 0;
      number = get_or s (at + 3) 0;
      id = i;
      value = v;
    }
    ≡ record_within s at
unfolding record_within record_at
record_whole s at l ei ev =
    let a : at < length s = omega arith in
    let b : at + 1 < length s = omega arith in
    let c : at + 2 < length s = omega arith in
    let d : at + 3 < length s = omega arith in
    rw (present_yes s at 16 l, field-byte s at a, field-byte s (at + 1) b, field-byte s (at + 2) c, field-byte s (at + 3) d, ei, ev)

pub record_there : (s : List ℕ) (at : ℕ) → at + 16 ≤ length s → record_within s at ≡ record_at s at
unfolding record_within
record_there s at l = rw (present_yes s at 16 l)

-- One turn of the loop: the next record is refused, or what is before the one behind it is known.

next_record : (s : List ℕ) (left at : ℕ) → 0 < left → records_from s left at ≡ record_at s at ∷ records_from s (left - 1) (at + 16)
unfolding records_from
next_record s zero at l = absurd (omega (arith, l))
next_record s (suc n) at l = let e : suc n - 1 ≡ n = omega arith in rw e

allowed_is : (b : Before) (r : Record) {e : Element} {x : Bool} → e ≡ element_of r.kind r.form → x ≡ allowed_as e b r → allowed b r ≡ x
unfolding allowed
allowed_is b r h k = rw (← h) (sym k)

taken_is : (b : Before) (r : Record) {e : Element} {n : Before} → e ≡ element_of r.kind r.form → n ≡ with_element b r e → taken b r ≡ n
unfolding taken
taken_is b r h k = rw (← h) (sym k)

module _ (s : List ℕ) (b : Before) (at left : ℕ) {r : Record} {e : Element} {x : Bool} (here : r ≡ record_within s at) (is : e ≡ element_of r.kind r.form)
    (told : x ≡ allowed_as e b r) (some : 0 < left) (within : at + left * 16 ≤ length s) where
  same : record_at s at ≡ r
  same = sym (here ∙ record_there s at (omega (arith, some, within)))

  pub judge_refuses : x ≡ false → rest s b at (records_from s left at) ≡ refused 40 at
  judge_refuses f =
      rw (next_record s left at some, same) (rest_refused s b at r (records_from s (left - 1) (at + 16)) (allowed_is b r is told ∙ f))

  pub judge_goes : x ≡ true → {n m : Before} {behind after : ℕ} → suc behind ≡ left → after ≡ at + 16 → n ≡ with_element b r e → m ≡ capped behind n
      → rest s b at (records_from s left at) ≡ rest s m after (records_from s behind after)
  judge_goes f {n} {m} {behind} {after} l a hn hm =
      let k : left - 1 ≡ behind = omega arith in
      rw (next_record s left at some, same, hm, a, k)
      (rest_allowed s b at r (records_from s behind (at + 16)) (allowed_is b r is told ∙ f)
      ∙ (ap (λ y. rest s y (at + 16) (records_from s behind (at + 16))) (taken_is b r is hn)
      ∙ sym (capped_same s n (at + 16) behind (records_from s behind (at + 16)) (length_from s behind (at + 16)))))

pub judge_ends : (s : List ℕ) (b : Before) (at left : ℕ) {end : ℕ} → left ≤ 0 → end ≡ at → rest s b at (records_from s left at) ≡ finish s b end
unfolding records_from
judge_ends s b at zero l e = rw e (rest_end s b at)
judge_ends s b at (suc n) l e = absurd (omega (arith, l))
