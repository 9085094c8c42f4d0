-- What an expression means does not depend on how many levels are left, as long as they are enough; and those of an accepted file are.
use Prim.Native.Nat.{ℕ, zero, suc, ◌≤◌}
use mathlib.Core.Bool.{false}
use mathlib.Core.Path.{◌≡◌, refl, sym, ◌∙◌, ap}
use native.Mathlib.Omega.{arith}
use Rattle.numbers.specs.Bits.{word_of, not_bits, left_bits, right_bits}
use Rattle.limits.specs.Limits.{Limits, levels}
use Rattle.format.specs.Meaning.{every_operand, some_operand, bits_within, value_within}
use Rattle.format.specs.Rules.{depth, depths, Every, all_rules, Meets}
use Rattle.format.specs.Tree.{Expr, Exprs, reading, constant, all, any, inverse, left, right, none, more, Chip}
use Rattle.format.proofs.EveryLaws.{every_map}

module _ (w : ℕ) (env : ℕ → ℕ → ℕ) where
  -- Without a level left no bit is set.
  pub no_level : (e : Expr) (i : ℕ) → bits_within zero w env e i ≡ false
  unfolding bits_within
  no_level e i = refl

  -- Enough levels for every operand.
  module _ (k j : ℕ) (same : (e : Expr) → depth e ≤ k → bits_within k w env e ≡ bits_within j w env e) where
    within_every : (es : Exprs) → depths es ≤ k → every_operand (bits_within k w env) es ≡ every_operand (bits_within j w env) es
    unfolding every_operand depths
    within_every none h = refl
    within_every (more e es) h = rw (same e (omega arith), within_every es (omega arith))

    within_some : (es : Exprs) → depths es ≤ k → some_operand (bits_within k w env) es ≡ some_operand (bits_within j w env) es
    unfolding some_operand depths
    within_some none h = refl
    within_some (more e es) h = rw (same e (omega arith), within_some es (omega arith))

  within_bits : (k j : ℕ) (e : Expr) → depth e ≤ k → k ≤ j → bits_within k w env e ≡ bits_within j w env e
  unfolding bits_within depth
  within_bits zero j (reading p id number) h l = absurd (omega arith)
  within_bits zero j (constant v) h l = absurd (omega arith)
  within_bits zero j (all es) h l = absurd (omega arith)
  within_bits zero j (any es) h l = absurd (omega arith)
  within_bits zero j (inverse e) h l = absurd (omega arith)
  within_bits zero j (left n e) h l = absurd (omega arith)
  within_bits zero j (right n e) h l = absurd (omega arith)
  within_bits (suc k) zero e h l = absurd (omega arith)
  within_bits (suc k) (suc j) (reading p id number) h l = refl
  within_bits (suc k) (suc j) (constant v) h l = refl
  within_bits (suc k) (suc j) (all es) h l = within_every k j (λ e m. within_bits k j e m (omega arith)) es (omega arith)
  within_bits (suc k) (suc j) (any es) h l = within_some k j (λ e m. within_bits k j e m (omega arith)) es (omega arith)
  within_bits (suc k) (suc j) (inverse e) h l = ap not_bits (within_bits k j e (omega arith) (omega arith))
  within_bits (suc k) (suc j) (left n e) h l = ap (left_bits w n) (within_bits k j e (omega arith) (omega arith))
  within_bits (suc k) (suc j) (right n e) h l = ap (right_bits n) (within_bits k j e (omega arith) (omega arith))

  -- With enough levels left, more of them change nothing.
  pub more_levels : (k j : ℕ) (e : Expr) → depth e ≤ k → k ≤ j → value_within k w env e ≡ value_within j w env e
  unfolding value_within
  more_levels k j e h l = ap (word_of w) (within_bits k j e h l)

  -- The rules of an accepted file have enough with 16: each means what it means with any number from its own depth on.
  pub rules_within : (limits : Limits) (c : Chip) → Meets limits c
      → Every (λ r. (k : ℕ) → depth r.expression ≤ k → value_within levels w env r.expression ≡ value_within k w env r.expression) (all_rules c)
  rules_within limits c m =
      every_map _ _
      (λ r h k l. sym (more_levels (depth r.expression) levels r.expression (omega arith) h) ∙ more_levels (depth r.expression) k r.expression (omega arith) l)
      (all_rules c) m.expressions.nested
