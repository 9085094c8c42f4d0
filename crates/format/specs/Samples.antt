-- Document 01, "Bench samples": the starred samples that speak of a file or an expression alone, as one table, and three files that show document 02 (i).
use Rattle.std.specs.Prelude.{ℕ, List, [], ◌∷◌, ◌++◌, ◌≡◌, length, take, drop, set}
use Rattle.limits.specs.Limits.{library_limits, program_limits, levels}
use Rattle.format.specs.Refusals.{CheckValues, accepted_with, refused_with}
use Rattle.format.specs.Parsed.{done, making}
use Rattle.format.specs.ExpressionLayout.{expr_at}
use Rattle.format.specs.Meaning.{value_within}
use Rattle.format.specs.Verdict.{check}

-- "B1, 60 bytes".
unfoldable pub b1 : List ℕ
b1 =
    0x43 ∷ 0x48 ∷ 0x49 ∷ 0x50 ∷ 0x44 ∷ 0x41 ∷ 0x54 ∷ 0x41 ∷ 0x00 ∷ 0x00 ∷ 0x00 ∷ 0x01 ∷ 0x01 ∷
    0x52 ∷ 0x45 ∷ 0x47 ∷ 0x53 ∷ 0x00 ∷ 0x00 ∷ 0x01 ∷ 0x00 ∷ 0x00 ∷ 0x01 ∷ 0x01 ∷ 0x80 ∷ 0x01 ∷ 0x00 ∷ 0x00 ∷ 0x00 ∷ 0x10 ∷ 0x00 ∷
    0x4E ∷ 0x4F ∷ 0x44 ∷ 0x45 ∷ 0x00 ∷ 0x01 ∷ 0x00 ∷ 0x01 ∷ 0x01 ∷ 0x01 ∷ 0x00 ∷ 0x00 ∷ 0x01 ∷ 0x00 ∷ 0x03 ∷ 0x01 ∷ 0x00 ∷ 0x00 ∷ 0x01 ∷ 0x00 ∷
    0x52 ∷ 0x4F ∷ 0x4F ∷ 0x54 ∷ 0x01 ∷ 0x03 ∷ 0x00 ∷ 0x01 ∷ 0x00 ∷ []

-- "Child count 1 and `00 00 01 00` after the rule."
unfoldable pub self_child : List ℕ
self_child = set (take 51 b1) 44 1 ++ (0x00 ∷ 0x00 ∷ 0x01 ∷ 0x00 ∷ drop 51 b1)

-- B1 whose node instance captures an instance of register 1, at 45; the rule stands at 49, and its expression at 50.
unfoldable pub capturing : ℕ → List ℕ
capturing number = set (take 45 b1) 42 1 ++ (0x00 ∷ 0x00 ∷ 0x01 ∷ number ∷ drop 45 b1)

-- A row: a file and the checker's answer, by the library's limits and by the program's; or the bytes of an expression that names no register, and its value.
pub data Row : Type 0 where
  file : List ℕ → CheckValues → Row
  word : List ℕ → ℕ → Row

abbrev pub Holds : Row → Type 0
Holds (file s v) = (check library_limits s ≡ v) × (check program_limits s ≡ v)
Holds (word s v) = making (value_within levels 64 (λ id number. 0)) (expr_at s levels 0) ≡ done v (length s)

abbrev pub AllHold : List Row → Type 0
AllHold [] = Unit {0}
AllHold (r ∷ rs) = Holds r × AllHold rs

-- The table. B1 has model 1 and one of everything.
abbrev pub samples : List Row
samples =
    file b1 (accepted_with 1 1 1 1 1 1)
    ∷ file [] (refused_with 2 0)
    ∷ file (b1 ++ (0 ∷ [])) (refused_with 11 60)
    ∷ file (set b1 24 0x00) (refused_with 13 46)
    ∷ file self_child (refused_with 14 41)
    ∷ file (capturing 0) (accepted_with 1 1 1 1 1 1)
    ∷ file (set (capturing 0) 24 0x40) (refused_with 13 45)
    ∷ file (set (capturing 1) 24 0x40) (refused_with 12 45)
    ∷ word (0x12 ∷ 0x02 ∷ 0 ∷ 0 ∷ 0 ∷ 0 ∷ 0 ∷ 0 ∷ 0 ∷ 0xff ∷ []) 0xffff_ffff_ffff_ff00
    ∷ []
