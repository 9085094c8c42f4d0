-- The records of some bytes have these bytes again.
use Prim.Native.Nat.{ℕ, zero, suc, ◌+◌, ◌*◌, ◌/◌, ◌≤◌}
use mathlib.Core.List.{List, ◌++◌, append_assoc}
use mathlib.Core.Path.{◌≡◌, refl, sym, ◌∙◌, ap}
use native.Mathlib.Omega.{arith}
use lib.ListN.{length, take, drop, length-take, length-drop, take-append-drop, drop_of_length-le}
use lib.Seq.{drop-drop}
use borrow.Author.Tests.{leb-true, eqb-true}
use Rattle.numbers.specs.BigEndian.{Bytes, big_endian, bytes_of}
use Rattle.numbers.specs.Field.{field}
use Rattle.numbers.proofs.BigEndianLaws.{bytes_take, bytes_drop, written_read}
use Rattle.format.specs.Parsed.{done}
use Rattle.format.specs.Lookup.{gathered}
use Rattle.format.proofs.ParsedLaws.{then_out, require_out}
use Rattle.records.specs.declared.Before.{Before}
use Rattle.records.specs.Record.{record_bytes, record_at, records_from, whole_records, records_in}
use Rattle.records.specs.Grammar.{nothing, judge, grammar}
use Rattle.records.proofs.RunLaws.{judge_run}

module _ (s : List ℕ) (bytes : Bytes s) where
  -- The bytes of a field, and what follows them.
  piece : (at n next : ℕ) → next ≡ at + n → next ≤ length s → bytes_of n (field s at n) ++ drop next s ≡ drop at s
  unfolding field
  piece at n next e h =
      let part = take n (drop at s) in
      let l : length part ≡ n = omega (arith, length-take n (drop at s), length-drop at s) in
      let w : bytes_of n (big_endian part) ≡ part =
      ap (λ k. bytes_of k (big_endian part)) (sym l) ∙ written_read part (bytes_take n (drop at s) (bytes_drop at s bytes)) in
      ap (λ x. x ++ drop next s) w ∙ ap (λ k. part ++ drop k s) e ∙ ap (λ y. part ++ y) (sym (drop-drop n at s))
      ∙ take-append-drop n (drop at s)

  record_again : (at : ℕ) → at + 16 ≤ length s → record_bytes (record_at s at) ++ drop (at + 16) s ≡ drop at s
  unfolding record_bytes record_at
  record_again at h =
      simp append_assoc (rw (
        piece (at + 8) 8 (at + 16) (omega arith) h,
        piece (at + 4) 4 (at + 8) (omega arith) (omega arith),
        piece (at + 3) 1 (at + 4) (omega arith) (omega arith),
        piece (at + 2) 1 (at + 3) (omega arith) (omega arith),
        piece (at + 1) 1 (at + 2) (omega arith) (omega arith),
        piece at 1 (at + 1) (omega arith) (omega arith),
      ))

  pub from_again : (n at : ℕ) → at + n * 16 ≡ length s → gathered record_bytes (records_from s n at) ≡ drop at s
  unfolding gathered records_from
  from_again zero at e = let h : length s ≤ at = omega arith in sym (drop_of_length-le s h)
  from_again (suc n) at e = rw (from_again n (at + 16) (omega arith)) (record_again at (omega arith))

pub length_from : (s : List ℕ) (n at : ℕ) → length (records_from s n at) ≡ n
unfolding records_from
length_from s zero at = refl
length_from s (suc n) at = ap suc (length_from s n (at + 16))

-- What the grammar takes is judged, whole records cover it, and no expression is owed at its end.
pub record Judged (s : List ℕ) (b : Before) (at : ℕ) : Type 0 where
  pub judged : judge nothing 0 (records_in s) ≡ done b at
  pub covers : length s ≤ at
  pub paid : b.owed ≡ 0

pub grammar_out : (s : List ℕ) {b : Before} {at : ℕ} → grammar s ≡ done b at → Judged s b at
unfolding grammar
grammar_out s {b} {at} e =
    let t = then_out _ _ e in
    let q = require_out _ _ _ _ t.3 in
    let p = require_out _ _ _ _ q.1 in
    let d : done t.0 t.1 ≡ done b at = p.1 in
    let x : t.0 ≡ b = cc in
    let y : t.1 ≡ at = cc in
    record {
      judged = t.2 ∙ d;
      covers = let h : length s ≤ t.1 = leb-true _ _ q.0 in omega arith;
      paid = ap (λ c. c.owed) (sym x) ∙ eqb-true _ _ p.0;
    }

pub records_again : (s : List ℕ) → Bytes s → {b : Before} {at : ℕ} → grammar s ≡ done b at → gathered record_bytes (records_in s) ≡ s
unfolding records_in whole_records
records_again s bytes {b} {at} e =
    let g = grammar_out s e in
    let p : at ≡ 0 + length (records_from s (length s / 16) 0) * 16 = (judge_run nothing 0 (records_from s (length s / 16) 0) g.judged).1 in
    from_again s bytes (length s / 16) 0 (omega (arith, p, g.covers, length_from s (length s / 16) 0))
