-- Expressions: the records of one pay exactly one that is owed; and what is owed can be paid.
use Prim.Native.Nat.{ℕ, zero, suc, ◌+◌, ◌-◌, ◌^◌, ◌<◌}
use mathlib.Core.Bool.{true}
use mathlib.Core.List.{List, [], ◌∷◌, ◌++◌}
use mathlib.Core.Path.{◌≡◌, refl, sym, subst}
use native.Mathlib.Omega.{arith}
use lib.Dec.{lit<}
use lib.ListN.{replicate}
use borrow.Author.Tests.{lt-ltb}
use Rattle.numbers.proofs.Bools.{and_both}
use Rattle.format.specs.Encoding.{operand_count}
use Rattle.format.specs.Tree.{Expr, Exprs, reading, constant, all, any, inverse, left, right, none, more}
use Rattle.format.specs.Rules.{ExprFits, ExprsFit}
use Rattle.records.specs.declared.Record.{Record}
use Rattle.records.specs.declared.Before.{Before}
use Rattle.records.specs.Elements.{record_of, expr_records, exprs_records}
use Rattle.records.specs.Grammar.{Widths, used_alone, is_owed, expression_of, element_of, allowed_as, allowed, taken}
use Rattle.records.specs.Judging.{with_owed}
use Rattle.records.proofs.RunLaws.{Run, stop, step, run-append}

-- A record whose fields are within the widths.
pub used-alone : (w : Widths) (r : Record) → r.form < 256 ^ w.form → r.amount < 256 ^ w.amount → r.number < 256 ^ w.number → r.id < 256 ^ w.id
    → r.value < 256 ^ w.value → used_alone w r ≡ true
unfolding used_alone
used-alone w r f a n i v =
    and_both (lt-ltb _ _ f) (and_both (lt-ltb _ _ a) (and_both (lt-ltb _ _ n) (and_both (lt-ltb _ _ i) (lt-ltb _ _ v))))

-- The state with so many owed.
abbrev pub owing : Before → ℕ → Before
owing b n = with_owed n b

module _ (b : Before) where
  is-owed : (k : ℕ) → is_owed (owing b (suc k)) ≡ true
  unfolding is_owed
  is-owed k = lt-ltb 0 (suc k) (omega arith)

  rest : (k : ℕ) → Run (owing b (0 + k)) [] (owing b k)
  rest k = let e : k ≡ 0 + k = omega arith in subst (λ m. Run (owing b m) [] (owing b k)) e stop

  next : (e : Expr) (k : ℕ) → Run (owing b (suc k)) (expr_records e) (owing b k) → Run (owing b (1 + k)) (expr_records e) (owing b k)
  next e k p = let n : suc k ≡ 1 + k = omega arith in subst (λ m. Run (owing b m) (expr_records e) (owing b k)) n p

  -- One is paid, and n are owed more.
  pay : (k n : ℕ) {r : Record} {rs : List Record} {c : Before} → allowed (owing b (suc k)) r ≡ true → taken (owing b (suc k)) r ≡ owing b (suc k - 1 + n)
      → Run (owing b (n + k)) rs c → Run (owing b (suc k)) (r ∷ rs) c
  pay k n {r} {rs} {c} a t p =
      let e : n + k ≡ suc k - 1 + n = omega arith in
      step a (subst (λ x. Run x rs c) (sym t) (subst (λ m. Run (owing b m) rs c) e p))

  mutual
    unfolding expr_records exprs_records ExprFits ExprsFit operand_count allowed allowed_as taken element_of expression_of

    pub expr_run : (e : Expr) (k : ℕ) → ExprFits e → Run (owing b (suc k)) (expr_records e) (owing b k)
    expr_run (reading p id number) k h =
        pay k 0 (and_both (is-owed k) (used-alone _ _ (lit< tt) (lit< tt) h.1 h.0 (lit< tt))) refl (rest k)
    expr_run (constant v) k h =
        pay k 0 (and_both (is-owed k) (used-alone _ _ (lit< tt) (lit< tt) (lit< tt) (lit< tt) h)) refl (rest k)
    expr_run (all es) k h =
        pay k (operand_count es) (and_both (is-owed k) (used-alone _ _ (lit< tt) h.0 (lit< tt) (lit< tt) (lit< tt))) refl (exprs_run es k h.1)
    expr_run (any es) k h =
        pay k (operand_count es) (and_both (is-owed k) (used-alone _ _ (lit< tt) h.0 (lit< tt) (lit< tt) (lit< tt))) refl (exprs_run es k h.1)
    expr_run (inverse e) k h =
        pay k 1 (and_both (is-owed k) (used-alone _ _ (lit< tt) (lit< tt) (lit< tt) (lit< tt) (lit< tt))) refl (next e k (expr_run e k h))
    expr_run (left n e) k h =
        pay k 1 (and_both (is-owed k) (used-alone _ _ (lit< tt) h.0 (lit< tt) (lit< tt) (lit< tt))) refl (next e k (expr_run e k h.1))
    expr_run (right n e) k h =
        pay k 1 (and_both (is-owed k) (used-alone _ _ (lit< tt) h.0 (lit< tt) (lit< tt) (lit< tt))) refl (next e k (expr_run e k h.1))

    pub exprs_run : (es : Exprs) (k : ℕ) → ExprsFit es → Run (owing b (operand_count es + k)) (exprs_records es) (owing b k)
    exprs_run none k h = rest k
    exprs_run (more e es) k h =
        let n : suc (operand_count es + k) ≡ suc (operand_count es) + k = omega arith in
        subst (λ m. Run (owing b m) (expr_records e ++ exprs_records es) (owing b k)) n
        (run-append (expr_run e (operand_count es + k) h.0) (exprs_run es k h.1))

  -- As many constants as are owed.
  pub constants_run : (k : ℕ) → Run (owing b k) (replicate k (record_of 7 0x02 0 0 0 0)) (owing b 0)
  unfolding allowed allowed_as taken element_of expression_of
  constants_run zero = stop
  constants_run (suc k) =
      let e : k ≡ 0 + k = omega arith in
      pay k 0 (and_both (is-owed k) (used-alone _ _ (lit< tt) (lit< tt) (lit< tt) (lit< tt) (lit< tt))) refl
      (subst (λ m. Run (owing b m) (replicate k (record_of 7 0x02 0 0 0 0)) (owing b 0)) e (constants_run k))
