-- Document 02 (ii): "Write chip data files." What a writer and a reader of records answer.
use Rattle.std.specs.Prelude.{ℕ, cond, List, ◌++◌, Result, Ok, Err, leb, length, drop}
use Rattle.limits.specs.Limits.{Limits}
use Rattle.format.specs.declared.Refusal.{Refusal}
use Rattle.format.specs.Refusals.{number_of}
use Rattle.format.specs.Parsed.{Parsed, done, refused, and_then, making}
use Rattle.format.specs.Encoding.{encode}
use Rattle.format.specs.Verdict.{verdict}
use Rattle.records.specs.Record.{records_in}
use Rattle.records.specs.Elements.{records}
use Rattle.records.specs.Grammar.{grammar}
use Rattle.records.specs.Planting.{tree_of}

-- A whole answer: the number and place of a refusal, number 0 where there is none; how many bytes were written; and what the lent output then holds.
pub record Answer : Type 0 where
  pub number : ℕ
  pub place : ℕ
  pub length : ℕ
  pub output : List ℕ

-- "Every refusal leaves the lent buffers unchanged".
abbrev pub refused_answer : ℕ → ℕ → List ℕ → Answer
refused_answer n p out = record { number = n; place = p; length = 0; output = out }

-- Success writes the bytes and no further byte.
abbrev pub written_answer : List ℕ → List ℕ → Answer
written_answer bytes out = record { number = 0; place = 0; length = length bytes; output = bytes ++ drop (length bytes) out }

-- "41, output too short (place: bytes needed)."
unfoldable pub in_output : List ℕ → Parsed (List ℕ) → Answer
in_output out (done bytes end) = cond (leb (length bytes) (length out)) (written_answer bytes out) (refused_answer 41 (length bytes) out)
in_output out (refused n p) = refused_answer n p out

-- The file of a model/level and some records.
unfoldable pub file_from : ℕ → List ℕ → List ℕ
file_from model s = encode (tree_of model (records_in s))

-- "Refusals, in this order: 40 ..; the checker's number and place for the file that would result".
unfoldable pub written : Limits → ℕ → List ℕ → Parsed (List ℕ)
written limits model s = and_then (grammar s) λ _ _. making (λ _. file_from model s) (verdict limits (file_from model s))

unfoldable pub write : Limits → ℕ → List ℕ → List ℕ → Answer
write limits model s out = in_output out (written limits model s)

-- "Reading into records has the checker's refusals, then 41."
unfoldable pub read : Limits → List ℕ → List ℕ → Answer
read limits file out = in_output out (making records (verdict limits file))

-- The values of the code's answer, how many bytes were written or a refusal, with what the output holds after the call.
abbrev pub answer_of : Result ℕ Refusal → List ℕ → Answer
answer_of (Ok n) out = record { number = 0; place = 0; length = n; output = out }
answer_of (Err r) out = refused_answer (number_of r.kind) r.place out
