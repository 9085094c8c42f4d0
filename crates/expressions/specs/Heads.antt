-- An expression as a head, which is what its own fields say, with its operands after it.
use Rattle.std.specs.Prelude.{ℕ, zero, suc, List, [], ◌∷◌, leb}
use Rattle.format.specs.Parsed.{Parsed, done, refused, and_then, making, requiring}
use Rattle.format.specs.Fields.{field_at}
use Rattle.format.specs.ExpressionLayout.{Operation, is_reading, is_constant, is_and, is_or, is_not, is_left, is_right, is_unknown, operation_of}
use Rattle.format.specs.Tree.{Expr, reading, constant, all, any, inverse, left, right, gather}
use Rattle.expressions.specs.declared.Head.{Head}
use Rattle.expressions.specs.declared.Head.TheVariants.{Reading, Constant, All, Any, Inverse, Left, Right}
use Rattle.expressions.specs.declared.HeadRead.{HeadRead}
use Rattle.fields.specs.Views.{refused_by}

abbrev pub head_parsed : HeadRead → Parsed Head
head_parsed (HeadRead.Head h next) = done h next
head_parsed (HeadRead.Refused r) = refused_by r

-- How many operands a head has.
abbrev pub arity_of : Head → ℕ
arity_of (Reading id n) = 0
arity_of (Constant v) = 0
arity_of (All n) = n
arity_of (Any n) = n
arity_of Inverse = 1
arity_of (Left k) = 1
arity_of (Right k) = 1

abbrev pub first_operand : List Expr → Expr
first_operand [] = constant 0
first_operand (e ∷ es) = e

-- The expression that a head and its operands make; the head stands at `start`.
abbrev pub built : ℕ → Head → List Expr → Expr
built start (Reading id n) es = reading start id n
built start (Constant v) es = constant v
built start (All n) es = all (gather es)
built start (Any n) es = any (gather es)
built start Inverse es = inverse (first_operand es)
built start (Left k) es = left k (first_operand es)
built start (Right k) es = right k (first_operand es)

-- A register ID and an instance.
unfoldable pub reading_head_at : List ℕ → ℕ → Parsed Head
reading_head_at s at = and_then (field_at s at 3) λ id a. making (λ n. Reading id n) (field_at s a 1)

-- A count of 2 or more.
unfoldable pub operand_count_at : List ℕ → ℕ → Parsed ℕ
operand_count_at s at = requiring (leb 2) 9 at (field_at s at 1)

-- A shift of 1 or more.
unfoldable pub shift_at : List ℕ → ℕ → Parsed ℕ
shift_at s at = requiring (leb 1) 9 at (field_at s at 1)

-- What follows the type byte that stood at `start`.
unfoldable pub operation_head_at : List ℕ → ℕ → ℕ → Operation → Parsed Head
operation_head_at s start at is_reading = reading_head_at s at
operation_head_at s start at is_constant = making (λ v. Constant v) (field_at s at 8)
operation_head_at s start at is_and = making (λ n. All n) (operand_count_at s at)
operation_head_at s start at is_or = making (λ n. Any n) (operand_count_at s at)
operation_head_at s start at is_not = done Inverse at
operation_head_at s start at is_left = making (λ k. Left k) (shift_at s at)
operation_head_at s start at is_right = making (λ k. Right k) (shift_at s at)
operation_head_at s start at is_unknown = refused 6 start

-- The head of the expression at a place with so many levels left.
unfoldable pub head_at : List ℕ → ℕ → ℕ → Parsed Head
head_at s zero at = and_then (field_at s at 1) λ b a. refused 9 at
head_at s (suc l) at = and_then (field_at s at 1) λ b a. operation_head_at s at a (operation_of b)
