-- The answer about a file that is built in a buffer, by the checker's answer.
use Prim.Native.Nat.{ℕ, ◌≤◌, ◌<◌}
use mathlib.Core.Bool.{Bool, true, false, not}
use mathlib.Core.List.{List}
use mathlib.Core.Path.{◌≡◌, refl, sym, ◌∙◌, ap}
use native.Mathlib.Omega.{arith}
use lib.Dec.{leb, eqb}
use lib.ListN.{length, take}
use borrow.Author.Tests.{le-leb, lt-leb, leb-true, leb-false, eqb-true, eqb-false, not-true, not-false}
use Rattle.numbers.proofs.Bools.{clash}
use Rattle.limits.specs.Limits.{Limits}
use Rattle.std.specs.Prelude.{Result, Ok, Err}
use Rattle.format.specs.declared.Refusal.{Refusal}
use Rattle.format.specs.declared.Summary.{Summary}
use Rattle.format.specs.Refusals.{number_of, checked_values}
use Rattle.format.specs.Parsed.{Parsed, done, refused, making, require}
use Rattle.format.specs.Tree.{Chip}
use Rattle.format.specs.Verdict.{verdict, check, check_of}
use Rattle.format.proofs.NumberedLaws.{kind_some, verdict_numbered}
use Rattle.records.specs.Record.{records_in, at_front}
use Rattle.packing.specs.Packing.{file_of}
use Rattle.packing.specs.Writing.{packed_in}
use Rattle.writer.specs.Writing.{Answer, refused_answer, in_output, answer_of}
use Rattle.writer.proofs.AnswerLaws.{accepted_verdict}
use Rattle.writer.proofs.OutputLaws.{front_length, front_taken}
use Rattle.writer.specs.Building.{checked_file, built_in, is_exact}

-- The checker's answer is that of the verdict.

refused_of : (p : Parsed Chip) (r : Refusal) → checked_values (Err r) ≡ check_of p → p ≡ refused (number_of r.kind) r.place
unfolding check_of
refused_of (done c end) r e = absurd (omega (arith, kind_some r.kind, ap (λ x. x.number) e))
refused_of (refused n q) r e =
    let a : number_of r.kind ≡ n = ap (λ x. x.number) e in
    let b : r.place ≡ q = ap (λ x. x.place) e in
    rw (a, b)

pub check_refused : (limits : Limits) (s : List ℕ) (r : Refusal) → checked_values (Err r) ≡ check limits s
    → verdict limits s ≡ refused (number_of r.kind) r.place
unfolding check
check_refused limits s r e = refused_of (verdict limits s) r e

pub check_accepted : (limits : Limits) (s : List ℕ) (y : Summary) → checked_values (Ok y) ≡ check limits s
    → (c : Chip) × (end : ℕ) × (verdict limits s ≡ done c end)
check_accepted limits s y e = accepted_verdict limits s (sym (ap (λ x. x.number) e))

-- A file in a buffer

module _ (limits : Limits) (file out : List ℕ) where
  pub file_refused : (r : Refusal) → checked_values (Err r) ≡ check limits file → refused_answer (number_of r.kind) r.place out ≡ in_output out (checked_file limits file)
  unfolding checked_file in_output making
  file_refused r e = rw (check_refused limits file r e)

  pub file_accepted : {y : Summary} {a : Answer} → checked_values (Ok y) ≡ check limits file → a ≡ in_output out (done file 0) → a ≡ in_output out (checked_file limits file)
  unfolding checked_file in_output making
  file_accepted {y} e h = rw (check_accepted limits file y e).2 h

  pub built : (room : ℕ) {a : Answer} → length file ≤ room → a ≡ in_output out (checked_file limits file) → a ≡ built_in limits room file out
  unfolding built_in
  built room l e = rw (le-leb (length file) room l) e

  pub too_large : (room : ℕ) → room < length file → refused_answer 43 0 out ≡ built_in limits room file out
  unfolding built_in
  too_large room l = rw (lt-leb (length file) room l)

  pub built_out : (room : ℕ) → length file ≤ room → built_in limits room file out ≡ in_output out (checked_file limits file)
  unfolding built_in
  built_out room l = rw (le-leb (length file) room l)

  -- 1, without a buffer.
  pub too_long : limits.bytes < length file → refused_answer 1 0 out ≡ in_output out (checked_file limits file)
  unfolding checked_file in_output making verdict require
  too_long l = rw (lt-leb (length file) limits.bytes l)

-- An answer with another number than 0 leaves the output.

module _ (out bytes : List ℕ) (end : ℕ) where
  fits_number : leb (length bytes) (length out) ≡ true → (in_output out (done bytes end)).number ≡ 0
  unfolding in_output
  fits_number e = rw e

  short_output : leb (length bytes) (length out) ≡ false → (in_output out (done bytes end)).output ≡ out
  unfolding in_output
  short_output e = rw e

refused_output : (out : List ℕ) (n p : ℕ) → (in_output out (refused n p)).output ≡ out
unfolding in_output
refused_output out n p = refl

output_kept : (out : List ℕ) (p : Parsed (List ℕ)) → 0 < (in_output out p).number → (in_output out p).output ≡ out
output_kept out (done bytes end) l = go (leb (length bytes) (length out)) refl
  where
    go : (t : Bool) → leb (length bytes) (length out) ≡ t → (in_output out (done bytes end)).output ≡ out
    go true e = absurd (omega (arith, l, fits_number out bytes end e))
    go false e = short_output out bytes end e
output_kept out (refused n p) l = refused_output out n p

module _ (limits : Limits) (room : ℕ) (file out : List ℕ) where
  built_yes : leb (length file) room ≡ true → built_in limits room file out ≡ in_output out (checked_file limits file)
  unfolding built_in
  built_yes e = rw e

  built_no : leb (length file) room ≡ false → built_in limits room file out ≡ refused_answer 43 0 out
  unfolding built_in
  built_no e = rw e

  built_kept : 0 < (built_in limits room file out).number → (built_in limits room file out).output ≡ out
  built_kept l = go (leb (length file) room) refl
    where
      go : (t : Bool) → leb (length file) room ≡ t → (built_in limits room file out).output ≡ out
      go true e =
          let w = built_yes e in
          let k : 0 < (in_output out (checked_file limits file)).number = rw (← w) l in
          ap (λ x. x.output) w ∙ output_kept out (checked_file limits file) k
      go false e = ap (λ x. x.output) (built_no e)

-- Whether an answer is exact, and what it then is.

written_exact : (n : ℕ) → true ≡ is_exact (Ok n)
unfolding is_exact
written_exact n = refl

refused_exact : (r : Refusal) → not (eqb (number_of r.kind) 43) ≡ is_exact (Err r)
unfolding is_exact
refused_exact r = refl

output_of : (r : Result ℕ Refusal) (o : List ℕ) → o ≡ (answer_of r o).output
output_of (Ok n) o = refl
output_of (Err r) o = refl

exact_number : (r : Result ℕ Refusal) (o : List ℕ) → is_exact r ≡ false → (answer_of r o).number ≡ 43
exact_number (Ok n) o e = clash refl (written_exact n ∙ e)
exact_number (Err r) o e = eqb-true (number_of r.kind) 43 (not-false _ (refused_exact r ∙ e))

exact-not : (r : Result ℕ Refusal) (o : List ℕ) → is_exact r ≡ true → (answer_of r o).number ≡ 43 → ⊥
exact-not (Ok n) o e h = absurd (omega (arith, h))
exact-not (Err r) o e h = eqb-false (number_of r.kind) 43 (not-true _ (refused_exact r ∙ e)) h

module _ (limits : Limits) (room most : ℕ) (file out : List ℕ) (r : Result ℕ Refusal) (o : List ℕ) (told : answer_of r o ≡ built_in limits room file out) where
  pub class_exact : room ≤ most → is_exact r ≡ true → answer_of r o ≡ built_in limits most file out
  class_exact l e = go (leb (length file) room) refl
    where
      go : (t : Bool) → leb (length file) room ≡ t → answer_of r o ≡ built_in limits most file out
      go true h =
          let k : length file ≤ room = leb-true (length file) room h in
          told ∙ (built_yes limits room file out h ∙ sym (built_out limits file out most (omega (arith, k, l))))
      go false h = absurd (exact-not r o e (ap (λ x. x.number) (told ∙ built_no limits room file out h)))

  pub class_kept : is_exact r ≡ false → o ≡ out
  class_kept e =
      let n : (answer_of r o).number ≡ 43 = exact_number r o e in
      let k : 0 < (built_in limits room file out).number = rw (← told) (omega (arith, n)) in
      output_of r o ∙ (ap (λ x. x.output) told ∙ built_kept limits room file out k)

-- The answer about a file has never the number 43: the checker's are at most 14.

module _ (limits : Limits) (file out : List ℕ) where
  file_done : {c : Chip} {end : ℕ} → verdict limits file ≡ done c end → in_output out (checked_file limits file) ≡ in_output out (done file end)
  unfolding checked_file making
  file_done e = rw e

  file_number : {n p : ℕ} → verdict limits file ≡ refused n p → (in_output out (checked_file limits file)).number ≡ n
  unfolding checked_file making in_output
  file_number e = rw e

  short_number : (end : ℕ) → leb (length file) (length out) ≡ false → (in_output out (done file end)).number ≡ 41
  unfolding in_output
  short_number end e = rw e

  not_inexact : (in_output out (checked_file limits file)).number ≡ 43 → ⊥
  not_inexact h = go (verdict limits file) refl
    where
      go : (p : Parsed Chip) → verdict limits file ≡ p → ⊥
      go (done c end) e = room (leb (length file) (length out)) refl
        where
          room : (t : Bool) → leb (length file) (length out) ≡ t → ⊥
          room true l = absurd (omega (arith, h, ap (λ x. x.number) (file_done e), fits_number out file end l))
          room false l = absurd (omega (arith, h, ap (λ x. x.number) (file_done e), short_number end l))
      go (refused n q) e = absurd (omega (arith, h, file_number e, (verdict_numbered limits file e).1))

module _ (limits : Limits) (room : ℕ) (file out : List ℕ) (r : Result ℕ Refusal) (o : List ℕ) (told : answer_of r o ≡ built_in limits room file out) where
  pub exact_answer : is_exact r ≡ true → answer_of r o ≡ in_output out (checked_file limits file)
  exact_answer e = go (leb (length file) room) refl
    where
      go : (t : Bool) → leb (length file) room ≡ t → answer_of r o ≡ in_output out (checked_file limits file)
      go true h = told ∙ built_yes limits room file out h
      go false h = absurd (exact-not r o e (ap (λ x. x.number) (told ∙ built_no limits room file out h)))

  pub inexact_large : is_exact r ≡ false → room < length file
  inexact_large e = go (leb (length file) room) refl
    where
      go : (t : Bool) → leb (length file) room ≡ t → room < length file
      go true h =
          absurd (not_inexact limits file out (sym (ap (λ x. x.number) (told ∙ built_yes limits room file out h)) ∙ exact_number r o e))
      go false h = leb-false (length file) room h

-- The packed file in a buffer.

packed_front : (model : ℕ) (s b : List ℕ) → packed_in model s b ≡ at_front (file_of model (records_in s)) b
unfolding packed_in
packed_front model s b = refl

module _ (model : ℕ) (s b : List ℕ) {n : ℕ} {u : List ℕ} (size : n ≡ length (file_of model (records_in s))) (put : u ≡ packed_in model s b) where
  packed-length : length u ≡ length b
  packed-length = ap length (put ∙ packed_front model s b) ∙ front_length (file_of model (records_in s)) b

  pub packed_short : length u < n → length b < length (file_of model (records_in s))
  packed_short l = omega (arith, l, size, packed-length)

  pub packed_fits : n ≤ length u → length (file_of model (records_in s)) ≤ length b
  packed_fits l = omega (arith, l, size, packed-length)

  pub packed_taken : n ≤ length u → take n u ≡ file_of model (records_in s)
  packed_taken l = rw (put ∙ packed_front model s b, size) (front_taken (file_of model (records_in s)) b (packed_fits l))

pub same_room : (limits : Limits) (file out : List ℕ) {k m : ℕ} {a : Answer} → k ≡ m → a ≡ built_in limits k file out → a ≡ built_in limits m file out
same_room limits file out e h = h ∙ ap (λ x. built_in limits x file out) e

pub packed_answer : (limits : Limits) (model : ℕ) (s b out : List ℕ) {n : ℕ} {u : List ℕ} {a : Answer} → n ≡ length (file_of model (records_in s)) → u ≡ packed_in model s b
    → n ≤ length u → a ≡ in_output out (checked_file limits (take n u)) → a ≡ built_in limits (length b) (file_of model (records_in s)) out
packed_answer limits model s b out size put l h =
    built limits (file_of model (records_in s)) out (length b) (packed_fits model s b size put l)
    (h ∙ ap (λ x. in_output out (checked_file limits x)) (packed_taken model s b size put l))
