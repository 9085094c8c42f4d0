-- The text of an answer by a short list: while the records have room there, it is that by a longer one.
use Rattle.std.specs.Prelude.{Result, Ok, Err}
use Rattle.format.specs.declared.Refusal.{Refusal}
use Prim.Native.Nat.{ℕ, ◌*◌, ◌/◌, ◌≤◌}
use mathlib.Core.Bool.{Bool, true, false, cond}
use mathlib.Core.List.{List, [], ◌++◌}
use mathlib.Core.Path.{◌≡◌, refl, sym, ◌∙◌, ap}
use native.Mathlib.Omega.{arith}
use borrow.Author.Tests.{le-leb, leb-true, eqb-false}
use lib.Dec.{leb, eqb}
use lib.ListN.{length, drop, replicate, length-append, length-replicate, get_or-append}
use Rattle.limits.specs.declared.LimitSet.{LimitSet}
use Rattle.limits.specs.Limits.{program_limits, limits_of}
use Rattle.numbers.specs.BigEndian.{Bytes}
use Rattle.listing.specs.Records.{record_size}
use Rattle.isolation.specs.declared.Isolation.{Isolation}
use Rattle.isolation.specs.Outcome.{Outcome, done_outcome, refused_outcome, outcome_of, Findings, stopped, found, written, in_list}
use Rattle.isolation.proofs.OutcomeLaws.{found-length}
use Rattle.report.specs.Report.{find_file, isolate_file}
use Rattle.report.specs.Text.{record_lines, steps_line, text_of}
use Rattle.report.proofs.FileLaws.{some_readings}
use Rattle.report.proofs.LineLaws.{lines_same}

-- The records of an answer have room in its list.
in_room : (list : List ℕ) (o : Findings) → (in_list list o).records ≤ length list / 16
unfolding in_list written record_size
in_room list (stopped n p) = omega arith
in_room list (found count records steps) = go (leb count (length list / 16)) refl
  where
    go : (t : Bool) → leb count (length list / 16) ≡ t
        → (cond t (done_outcome count steps (records ++ drop (count * 16) list)) (refused_outcome 19 count list)).records ≤ length list / 16
    go true e = leb-true count (length list / 16) e
    go false e = omega arith

-- Where the first answer is not that the list has no room, the two have one text.
record Same (o p : Outcome) : Type 0 where
  text : (o.number ≡ 19 → ⊥) → text_of o ≡ text_of p

module _ (short long : List ℕ) (l : length short ≤ length long) where
  written_same : (n : ℕ) (records : List ℕ) (steps : ℕ) → length records ≡ n * 16 → Same (written n records steps short) (written n records steps long)
  unfolding written record_size text_of
  written_same n records steps many = go (leb n (length short / 16)) refl
    where
      lines : (a b : List ℕ) → record_lines n (records ++ a) ≡ record_lines n (records ++ b)
      lines a b =
          lines_same n (records ++ a) (records ++ b) (omega (arith, many, length-append records a)) (omega (arith, many, length-append records b))
          (λ k h. get_or-append records a 0 k (omega (arith, many)) ∙ sym (get_or-append records b 0 k (omega (arith, many))))

      go : (t : Bool) → leb n (length short / 16) ≡ t
          → Same (cond t (done_outcome n steps (records ++ drop (n * 16) short)) (refused_outcome 19 n short))
          (cond (leb n (length long / 16)) (done_outcome n steps (records ++ drop (n * 16) long)) (refused_outcome 19 n long))
      go true t =
          let k : n ≤ length long / 16 = omega (arith, l, leb-true n (length short / 16) t) in
          record { text = λ h. rw (le-leb n (length long / 16) k) (ap (λ u. u ++ steps_line steps) (lines (drop (n * 16) short) (drop (n * 16) long))) }
      go false t = record { text = λ h. absurd (h refl) }

  found_same : (o : Findings) → ((n : ℕ) (records : List ℕ) (steps : ℕ) → o ≡ found n records steps → length records ≡ n * 16) → Same (in_list short o) (in_list long o)
  unfolding in_list text_of record_lines
  found_same (stopped n p) h = record { text = λ k. refl }
  found_same (found n records steps) h = written_same n records steps (h n records steps refl)

-- Each record that is found has its whole size.
file-length : (file : List ℕ) → Bytes file → (attention : ℕ) (readings : List ℕ) (n : ℕ) (records : List ℕ) (steps : ℕ)
    → find_file program_limits file attention readings ≡ found n records steps → length records ≡ n * 16
unfolding limits_of record_size
file-length file bytes attention readings n records steps e =
    let x = some_readings program_limits file attention readings bytes in
    found-length LimitSet.Program 0 file attention x.0 x.1 (x.2 ∙ e)

-- The code's answer by a list of zeros.
module _ (file : List ℕ) (attention : ℕ) (readings : List ℕ) (n : ℕ) (a : Result Isolation Refusal) (after : List ℕ) (is : outcome_of a after ≡ isolate_file program_limits file attention readings (replicate n 0)) where
  -- Its records have room.
  pub answer_room : n ≤ 65536 → length after ≡ length (replicate {A = ℕ} n 0) → ((outcome_of a after).records ≤ 4096) × ((outcome_of a after).records * 16 ≤ length after)
  unfolding isolate_file
  answer_room h k =
      let e : (outcome_of a after).records ≡ (in_list (replicate n 0) (find_file program_limits file attention readings)).records = ap (λ o. o.records) is in
      let r = in_room (replicate n 0) (find_file program_limits file attention readings) in
      let l = length-replicate {A = ℕ} n 0 in
      (omega (arith, e, r, l), omega (arith, e, r, l, k))

  -- Where it is not that these are too many, the text is that by a longer list.
  pub answer_text : Bytes file → (m : ℕ) → n ≤ m → {b : Bool} → b ≡ eqb (outcome_of a []).number 19 → b ≡ false → text_of (outcome_of a after) ≡ text_of (isolate_file program_limits file attention readings (replicate m 0))
  unfolding isolate_file
  answer_text bytes m h e f =
      let l : length (replicate {A = ℕ} n 0) ≤ length (replicate {A = ℕ} m 0) = omega (arith, length-replicate {A = ℕ} n 0, length-replicate {A = ℕ} m 0) in
      ap text_of is
      ∙ (found_same (replicate n 0) (replicate m 0) l (find_file program_limits file attention readings) (file-length file bytes attention readings)).text
      (λ z. eqb-false (outcome_of a []).number 19 (sym e ∙ f) (number_is a ∙ ap (λ o. o.number) is ∙ z))
    where
      number_is : (a : Result Isolation Refusal) → (outcome_of a []).number ≡ (outcome_of a after).number
      number_is (Ok i) = refl
      number_is (Err r) = refl
