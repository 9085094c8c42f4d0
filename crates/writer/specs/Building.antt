-- The file built in a buffer of the writer's own, before the output is touched.
use Rattle.std.specs.Prelude.{ℕ, Bool, true, cond, not, List, Result, Ok, Err, leb, eqb, length}
use Rattle.limits.specs.Limits.{Limits}
use Rattle.format.specs.declared.Refusal.{Refusal}
use Rattle.format.specs.Refusals.{number_of}
use Rattle.format.specs.Parsed.{Parsed, making}
use Rattle.format.specs.Verdict.{verdict}
use Rattle.writer.specs.Writing.{Answer, refused_answer, in_output}

-- A file, or the checker's refusal of it.
unfoldable pub checked_file : Limits → List ℕ → Parsed (List ℕ)
checked_file limits file = making (λ _. file) (verdict limits file)

-- The answer about a file that is built in a buffer of so many bytes; 43 at 0 where the buffer is too short.
unfoldable pub built_in : Limits → ℕ → List ℕ → List ℕ → Answer
built_in limits room file out = cond (leb (length file) room) (in_output out (checked_file limits file)) (refused_answer 43 0 out)

-- An answer that is not that the buffer was too short.
unfoldable pub is_exact : Result ℕ Refusal → Bool
is_exact (Ok n) = true
is_exact (Err r) = not (eqb (number_of r.kind) 43)
