-- The layout of an expression (source document 001, appendix 3; document 01, "Expressions").
use Rattle.std.specs.Prelude.{ℕ, zero, suc, cond, List, [], leb, eqb}
use Rattle.format.specs.Parsed.{Parsed, refused, and_then, making, requiring, row_at}
use Rattle.format.specs.Fields.{field_at}
use Rattle.format.specs.Tree.{Expr, reading, constant, all, any, inverse, left, right, gather}

-- What a type byte starts.
pub data Operation : Type 0 where
  is_reading is_constant is_and is_or is_not is_left is_right is_unknown : Operation

-- Source document 001 describes 14 as a left shift; document 01: "its title and its `>>` decide: right".
unfoldable pub operation_of : ℕ → Operation
operation_of b =
    cond (eqb b 0x01) is_reading
    (cond (eqb b 0x02) is_constant
    (cond (eqb b 0x10) is_and
    (cond (eqb b 0x11) is_or
    (cond (eqb b 0x12) is_not
    (cond (eqb b 0x13) is_left
    (cond (eqb b 0x14) is_right is_unknown))))))

-- A register ID and an instance; the type byte stood at `start`.
unfoldable pub reading_at : List ℕ → ℕ → ℕ → Parsed Expr
reading_at s start at = and_then (field_at s at 3) λ id a. making (reading start id) (field_at s a 1)

-- "A count is 2 or more": otherwise 9; then as many expressions.
unfoldable pub operands_at : (ℕ → Parsed Expr) → List ℕ → ℕ → Parsed (List Expr)
operands_at inner s at = and_then (requiring (leb 2) 9 at (field_at s at 1)) λ n a. row_at (λ before. inner) n [] a

-- "A shift is 1 or more": otherwise 9; then the expression that is shifted.
unfoldable pub shifted_at : (ℕ → Expr → Expr) → (ℕ → Parsed Expr) → List ℕ → ℕ → Parsed Expr
shifted_at shift inner s at = and_then (requiring (leb 1) 9 at (field_at s at 1)) λ k a. making (shift k) (inner a)

-- What follows the type byte that stood at `start`, with inner expressions read by `inner`; 6 where the type is unknown.
unfoldable pub body_at : (ℕ → Parsed Expr) → List ℕ → ℕ → ℕ → Operation → Parsed Expr
body_at inner s start at is_reading = reading_at s start at
body_at inner s start at is_constant = making constant (field_at s at 8)
body_at inner s start at is_and = making (λ es. all (gather es)) (operands_at inner s at)
body_at inner s start at is_or = making (λ es. any (gather es)) (operands_at inner s at)
body_at inner s start at is_not = making inverse (inner at)
body_at inner s start at is_left = shifted_at left inner s at
body_at inner s start at is_right = shifted_at right inner s at
body_at inner s start at is_unknown = refused 6 start

-- The expression at a place with so many levels left; 9 where none is. "Each inner reading uses up one level."
unfoldable pub expr_at : List ℕ → ℕ → ℕ → Parsed Expr
expr_at s zero at = and_then (field_at s at 1) λ b a. refused 9 at
expr_at s (suc l) at = and_then (field_at s at 1) λ b a. body_at (expr_at s l) s at a (operation_of b)
