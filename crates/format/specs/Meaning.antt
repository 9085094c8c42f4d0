-- What an expression means, bit by bit from the left, in words of w bits (document 01, "Expressions").
use Rattle.std.specs.Prelude.{ℕ, zero, suc, true, false}
use Rattle.numbers.specs.Bits.{Bits, bit_of, word_of, not_bits, and_bits, or_bits, left_bits, right_bits}
use Rattle.format.specs.Tree.{Expr, Exprs, reading, constant, all, any, inverse, left, right, none, more}

-- AND: a bit is set where every operand has it.
unfoldable pub every_operand : (Expr → Bits) → Exprs → Bits
every_operand bits none = λ i. true
every_operand bits (more e es) = and_bits (bits e) (every_operand bits es)

-- OR: a bit is set where some operand has it.
unfoldable pub some_operand : (Expr → Bits) → Exprs → Bits
some_operand bits none = λ i. false
some_operand bits (more e es) = or_bits (bits e) (some_operand bits es)

-- The bits of an expression with so many levels left: "each inner reading uses up one level". `env` gives the word of a register instance by ID and number.
-- An expression that no level is left for has no bit; none that the layout accepts is one.
unfoldable pub bits_within : ℕ → ℕ → (ℕ → ℕ → ℕ) → Expr → Bits
bits_within zero w env e = λ i. false
bits_within (suc k) w env (reading p id number) = bit_of w (env id number)
bits_within (suc k) w env (constant v) = bit_of w v
bits_within (suc k) w env (all es) = every_operand (bits_within k w env) es
bits_within (suc k) w env (any es) = some_operand (bits_within k w env) es
bits_within (suc k) w env (inverse e) = not_bits (bits_within k w env e)
bits_within (suc k) w env (left n e) = left_bits w n (bits_within k w env e)
bits_within (suc k) w env (right n e) = right_bits n (bits_within k w env e)

-- The word with these bits.
unfoldable pub value_within : ℕ → ℕ → (ℕ → ℕ → ℕ) → Expr → ℕ
value_within k w env e = word_of w (bits_within k w env e)
