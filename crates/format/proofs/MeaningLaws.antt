-- The value of an expression is settled by the words of the registers that it names.
use Prim.Native.Nat.{ℕ, zero, suc}
use mathlib.Core.Bool.{not}
use mathlib.Core.Path.{◌≡◌, refl, ap}
use Rattle.numbers.specs.Bits.{bit_of, not_bits, and_bits, or_bits, left_bits, right_bits}
use Rattle.numbers.proofs.BitsLaws.{word_ext}
use Rattle.format.specs.Meaning.{every_operand, some_operand, bits_within, value_within}
use Rattle.format.specs.References.{Named, named_by, named_by_all}
use Rattle.format.specs.Rules.{Every}
use Rattle.format.specs.Tree.{Expr, Exprs, reading, constant, all, any, inverse, left, right, none, more}
use Rattle.format.proofs.EveryLaws.{every-append_out}

module _ (w : ℕ) (env env' : ℕ → ℕ → ℕ) where
  -- Both give the register the same word.
  abbrev Same : Named → Type 0
  Same n = env n.id n.number ≡ env' n.id n.number

  -- Operands of the same bits.
  module _ (k : ℕ) (inner : (e : Expr) → Every Same (named_by e) → (i : ℕ) → bits_within k w env e i ≡ bits_within k w env' e i) where
    every_same : (es : Exprs) → Every Same (named_by_all es) → (i : ℕ) → every_operand (bits_within k w env) es i ≡ every_operand (bits_within k w env') es i
    unfolding every_operand named_by_all and_bits
    every_same none h i = refl
    every_same (more e es) h i =
        let r = every-append_out Same (named_by e) (named_by_all es) h in rw (inner e r.0 i, every_same es r.1 i)

    some_same : (es : Exprs) → Every Same (named_by_all es) → (i : ℕ) → some_operand (bits_within k w env) es i ≡ some_operand (bits_within k w env') es i
    unfolding some_operand named_by_all or_bits
    some_same none h i = refl
    some_same (more e es) h i =
        let r = every-append_out Same (named_by e) (named_by_all es) h in rw (inner e r.0 i, some_same es r.1 i)

  bits_same : (k : ℕ) (e : Expr) → Every Same (named_by e) → (i : ℕ) → bits_within k w env e i ≡ bits_within k w env' e i
  unfolding bits_within named_by Every not_bits left_bits right_bits
  bits_same zero e h i = refl
  bits_same (suc k) (reading p id n) h i = ap (λ x. bit_of w x i) h.0
  bits_same (suc k) (constant v) h i = refl
  bits_same (suc k) (all es) h i = every_same k (bits_same k) es h i
  bits_same (suc k) (any es) h i = some_same k (bits_same k) es h i
  bits_same (suc k) (inverse e) h i = ap not (bits_same k e h i)
  bits_same (suc k) (left n e) h i = rw (bits_same k e h)
  bits_same (suc k) (right n e) h i = rw (bits_same k e h)

  pub value_same : (k : ℕ) (e : Expr) → Every Same (named_by e) → value_within k w env e ≡ value_within k w env' e
  unfolding value_within
  value_same k e h = word_ext w _ _ (λ i l. bits_same k e h i)
