-- The two calls, by what their parts answer.
use Prim.Native.Nat.{ℕ, ◌^◌, ◌≤◌, ◌<◌}
use mathlib.Core.Bool.{true, false}
use mathlib.Core.List.{List}
use mathlib.Core.Path.{◌≡◌, sym, ◌∙◌, ap}
use native.Mathlib.Omega.{arith}
use lib.ListN.{length}
use borrow.Author.Tests.{le-leb, lt-leb}
use Rattle.limits.specs.Limits.{Limits, library_limits}
use Rattle.numbers.specs.BigEndian.{Bytes}
use Rattle.format.specs.Refusals.{number_of, checked_values}
use Rattle.std.specs.Prelude.{Result, Ok, Err}
use Rattle.format.specs.declared.Summary.{Summary}
use Rattle.format.specs.Tree.{Chip}
use Rattle.format.specs.Verdict.{verdict, check}
use Rattle.format.proofs.Acceptance.{acceptance, read_to_end, verdict_out}
use Rattle.format.specs.declared.Refusal.{Refusal}
use Rattle.format.specs.Parsed.{Parsed, done, refused, and_then, making}
use Rattle.format.proofs.ParsedLaws.{never}
use Rattle.records.specs.declared.Before.{Before}
use Rattle.records.specs.Record.{records_in, at_front}
use Rattle.records.specs.Elements.{elements, records}
use Rattle.records.specs.Grammar.{grammar}
use Rattle.records.specs.Judging.{judged_parsed}
use Rattle.records.specs.Planting.{tree_of}
use Rattle.records.proofs.AgainLaws.{grammar_out}
use Rattle.records.proofs.CompleteLaws.{meets_fits}
use Rattle.records.proofs.SoundLaws.{grammar_sound}
use Rattle.unpacking.specs.Unpacking.{unpacked_within, unpacked_bytes}
use Rattle.unpacking.proofs.UnpackingLaws.{unpacked_tree}
use Rattle.packing.specs.Packing.{file_of}
use Rattle.packing.proofs.PackingLaws.{packed_file}
use Rattle.writer.specs.Writing.{answer_of, refused_answer, in_output, file_from, written, write, read}
use Rattle.writer.specs.Building.{checked_file, built_in, is_exact}
use Rattle.writer.proofs.OutputLaws.{front_length}
use Rattle.writer.proofs.BuildingLaws.{check_refused, check_accepted, too_long, exact_answer, inexact_large, class_kept}
use Rattle.writer.proofs.WriteLaws.{file-from, tree_model}

-- Of records that the grammar takes, the packed file is the one that would result.
pub packed_from : (m : ℕ) → m < 256 ^ 4 → (s : List ℕ) {b : Before} {at : ℕ} → grammar s ≡ done b at → file_of m (records_in s) ≡ file_from m s
packed_from m h s e =
    let j = grammar_out s e in
    let t = tree_of m (records_in s) in
    let g = (grammar_sound m h (records_in s) j.judged j.paid).0 in
    ap (file_of m) (sym g) ∙ (ap (λ k. file_of k (elements t)) (sym (tree_model m s)) ∙ (packed_file t ∙ sym (file-from m s)))

-- What the grammar's view says of the grammar.

grammar_refused : (s : List ℕ) (r : Refusal) (p : Parsed Before) → judged_parsed (Err r) ≡ making (λ _. tt) p → p ≡ refused (number_of r.kind) r.place
unfolding making
grammar_refused s r (done b at) e = never e
grammar_refused s r (refused n q) e = cc

grammar_taken : (s : List ℕ) (end : ℕ) (p : Parsed Before) → judged_parsed (Ok end) ≡ making (λ _. tt) p → (b : Before) × (p ≡ done b end)
unfolding making
grammar_taken s end (done b at) e = (b, cc)
grammar_taken s end (refused n q) e = never (sym e)

module _ (limits : Limits) (m : ℕ) (s out : List ℕ) where
  pub write_wrong : (r : Refusal) → judged_parsed (Err r) ≡ making (λ _. tt) (grammar s) → refused_answer (number_of r.kind) r.place out ≡ write limits m s out
  unfolding write written and_then in_output
  write_wrong r told = rw (grammar_refused s r (grammar s) told)

  module _ {end : ℕ} (told : judged_parsed (Ok end) ≡ making (λ _. tt) (grammar s)) (model : m < 256 ^ 4) where
    write_taken : in_output out (checked_file limits (file_of m (records_in s))) ≡ write limits m s out
    unfolding write written and_then checked_file
    write_taken = let g = grammar_taken s end (grammar s) told in rw (g.1, packed_from m model s g.1)

    module _ (r : Result ℕ Refusal) (o : List ℕ) (built : answer_of r o ≡ built_in limits limits.bytes (file_of m (records_in s)) out) where
      pub write_exact : is_exact r ≡ true → answer_of r o ≡ write limits m s out
      write_exact e = exact_answer limits limits.bytes (file_of m (records_in s)) out r o built e ∙ write_taken

      pub write_long : is_exact r ≡ false → refused_answer 1 0 o ≡ write limits m s out
      write_long e =
          ap (refused_answer 1 0) (class_kept limits limits.bytes 0 (file_of m (records_in s)) out r o built e)
          ∙ (too_long limits (file_of m (records_in s)) out (inexact_large limits limits.bytes (file_of m (records_in s)) out r o built e) ∙ write_taken)

-- Reading

module _ (file : List ℕ) (bytes : Bytes file) (out : List ℕ) where
  -- Of an accepted file the unpacked bytes are its records.
  unpacked_records : {c : Chip} {end : ℕ} → verdict library_limits file ≡ done c end → unpacked_bytes file ≡ records c
  unfolding unpacked_bytes unpacked_within records
  unpacked_records {c} e =
      let a = (acceptance library_limits file bytes c).0 (e ∙ ap (done c) (read_to_end library_limits file bytes e)) in
      let u = unpacked_tree c (meets_fits library_limits c a.2) in
      let l = (verdict_out library_limits file e).short in
      rw (le-leb (length file) library_limits.bytes l, a.0, u)

  pub read_refused : (r : Refusal) → checked_values (Err r) ≡ check library_limits file → refused_answer (number_of r.kind) r.place out ≡ read library_limits file out
  unfolding read making in_output
  read_refused r e = rw (check_refused library_limits file r e)

  read_done : {c : Chip} {end : ℕ} → verdict library_limits file ≡ done c end → in_output out (done (unpacked_bytes file) end) ≡ read library_limits file out
  unfolding read making
  read_done e = rw (unpacked_records e, e)

  module _ (y : Summary) (told : checked_values (Ok y) ≡ check library_limits file) {n : ℕ} {o : List ℕ} (needed : n ≡ length (unpacked_bytes file))
      (put : o ≡ at_front (unpacked_bytes file) out) where
    kept : length o ≡ length out
    kept = ap length put ∙ front_length (unpacked_bytes file) out

    pub read_short : length o < n → refused_answer 41 n o ≡ read library_limits file out
    unfolding in_output at_front
    read_short l =
        let v = check_accepted library_limits file y told in
        let k : length out < length (unpacked_bytes file) = omega (arith, l, needed, kept) in
        let w = lt-leb (length (unpacked_bytes file)) (length out) k in
        rw (← read_done v.2, put, needed, w)

    pub read_fits : n ≤ length o → record { number = 0; place = 0; length = n; output = o } ≡ read library_limits file out
    unfolding in_output at_front
    read_fits l =
        let v = check_accepted library_limits file y told in
        let k : length (unpacked_bytes file) ≤ length out = omega (arith, l, needed, kept) in
        let w = le-leb (length (unpacked_bytes file)) (length out) k in
        rw (← read_done v.2, put, needed, w)
