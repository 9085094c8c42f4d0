-- An expression is read exactly where its encoding stands and it meets the rules.
use Prim.Native.Nat.{ℕ, zero, suc, ◌+◌, ◌≤◌, ◌<◌}
use mathlib.Core.Bool.{Bool, true, false, cond}
use mathlib.Core.List.{List, [], ◌∷◌, ◌++◌}
use mathlib.Core.Path.{◌≡◌, refl, sym, ◌∙◌, ap, subst}
use native.Mathlib.Omega.{arith}
use lib.Dec.{eqb, lit<}
use lib.ListN.{length}
use borrow.Author.Tests.{eqb-true, leb-true, le-leb}
use Rattle.numbers.specs.BigEndian.{bytes_of, Bytes}
use Rattle.numbers.proofs.BigEndianLaws.{length_bytes}
use Rattle.format.specs.Parsed.{done, row_at}
use Rattle.format.specs.Fields.{field_at}
use Rattle.format.specs.Lookup.{gathered}
use Rattle.format.specs.Tree.{Expr, Exprs, reading, constant, all, any, inverse, left, right, none, more, gather}
use Rattle.format.specs.ExpressionLayout.{Operation, is_reading, is_constant, is_and, is_or, is_not, is_left, is_right, is_unknown, operation_of, reading_at, operands_at, shifted_at, body_at, expr_at}
use Rattle.format.specs.Encoding.{operand_count, encode_expr, encode_exprs}
use Rattle.format.specs.Placing.{PlacedExpr, PlacedExprs}
use Rattle.format.specs.Rules.{depth, depths, Counted, CountedAll, ExprFits, ExprsFit}
use Rattle.format.proofs.ParsedLaws.{never, then_out, then_in, making_out, making_in, requiring_out, requiring_in}
use Rattle.format.proofs.Spelling.{Spell, one-more, spell_join, spell_split, field_out, field_in, Row, Reads, row_out, row_in}

-- What reading with l levels left needs of an expression at a place.
pub record ExprFine (l at : ℕ) (e : Expr) : Type 0 where
  pub placed : PlacedExpr at e
  pub fits : ExprFits e
  pub counted : Counted e
  pub nested : depth e ≤ l

pub record ExprsFine (l at : ℕ) (es : Exprs) : Type 0 where
  pub placed : PlacedExprs at es
  pub fits : ExprsFit es
  pub counted : CountedAll es
  pub nested : depths es ≤ l

depth_positive : (e : Expr) → 1 ≤ depth e
unfolding depth
depth_positive (reading p id n) = omega arith
depth_positive (constant v) = omega arith
depth_positive (all es) = omega arith
depth_positive (any es) = omega arith
depth_positive (inverse e) = omega arith
depth_positive (left k e) = omega arith
depth_positive (right k e) = omega arith

-- Operands as a list and as `Exprs`.

count_gather : (es : List Expr) → operand_count (gather es) ≡ length es
unfolding operand_count gather
count_gather [] = refl
count_gather (e ∷ es) = ap suc (count_gather es)

encode_gather : (es : List Expr) → encode_exprs (gather es) ≡ gathered encode_expr es
unfolding encode_exprs gather gathered
encode_gather [] = refl
encode_gather (e ∷ es) = ap (λ bs. encode_expr e ++ bs) (encode_gather es)

pub operands : Exprs → List Expr
operands none = []
operands (more e es) = e ∷ operands es

gather_operands : (es : Exprs) → gather (operands es) ≡ es
unfolding gather operands
gather_operands none = refl
gather_operands (more e es) = ap (more e) (gather_operands es)

abbrev Fine : ℕ → List Expr → ℕ → Expr → Type 0
Fine l before at e = ExprFine l at e

fine_out : (l at : ℕ) (before es : List Expr) → Row (Fine l) encode_expr before at es → ExprsFine l at (gather es)
unfolding Row gather PlacedExprs ExprsFit CountedAll depths
fine_out l at before [] h = record { placed = tt; fits = tt; counted = tt; nested = omega arith }
fine_out l at before (e ∷ es) h =
    let r = fine_out l (at + length (encode_expr e)) (e ∷ before) es h.1 in
    record {
      placed = (h.0.placed, r.placed);
      fits = (h.0.fits, r.fits);
      counted = (h.0.counted, r.counted);
      nested = omega (arith, h.0.nested, r.nested);
    }

fine_in : (l at : ℕ) (before es : List Expr) → ExprsFine l at (gather es) → Row (Fine l) encode_expr before at es
unfolding Row gather PlacedExprs ExprsFit CountedAll depths
fine_in l at before [] h = tt
fine_in l at before (e ∷ es) h = (
  record { placed = h.placed.0; fits = h.fits.0; counted = h.counted.0; nested = omega (arith, h.nested) },
  fine_in l (at + length (encode_expr e)) (e ∷ before) es
      (record { placed = h.placed.1; fits = h.fits.1; counted = h.counted.1; nested = omega (arith, h.nested) }),
)

-- The type byte of each operation.

abbrev Code : Operation → ℕ → Type 0
Code is_reading b = b ≡ 0x01
Code is_constant b = b ≡ 0x02
Code is_and b = b ≡ 0x10
Code is_or b = b ≡ 0x11
Code is_not b = b ≡ 0x12
Code is_left b = b ≡ 0x13
Code is_right b = b ≡ 0x14
Code is_unknown b = Unit {0}

code-cond : (t : Bool) (b : ℕ) (o r : Operation) → (t ≡ true → Code o b) → Code r b → Code (cond t o r) b
code-cond true b o r f k = f refl
code-cond false b o r f k = k

code : (b : ℕ) → Code (operation_of b) b
unfolding operation_of
code b =
    code-cond (eqb b 0x01) b is_reading _ (eqb-true b 0x01)
    (code-cond (eqb b 0x02) b is_constant _ (eqb-true b 0x02)
    (code-cond (eqb b 0x10) b is_and _ (eqb-true b 0x10)
    (code-cond (eqb b 0x11) b is_or _ (eqb-true b 0x11)
    (code-cond (eqb b 0x12) b is_not _ (eqb-true b 0x12)
    (code-cond (eqb b 0x13) b is_left _ (eqb-true b 0x13) (code-cond (eqb b 0x14) b is_right is_unknown (eqb-true b 0x14) tt))))))

module _ (s : List ℕ) (bytes : Bytes s) where
  -- The type byte, and what follows it.
  start_out : (at : ℕ) {b a c : ℕ} → field_at s at 1 ≡ done b a → b ≡ c → Spell s at a (bytes_of 1 c)
  start_out at {a = a} e h = subst (λ x. Spell s at a (bytes_of 1 x)) h (field_out s bytes at 1 e).0

  module _ (l : ℕ) (inner : Reads (Fine l) encode_expr s (λ before. expr_at s l)) where
    operands_out : (at : ℕ) {es : List Expr} {m : ℕ} → operands_at (expr_at s l) s at ≡ done es m
        → Spell s at m (bytes_of 1 (operand_count (gather es)) ++ encode_exprs (gather es))
        × (2 ≤ operand_count (gather es)) × (operand_count (gather es) < 256) × ExprsFine l (at + 1) (gather es)
    unfolding operands_at
    operands_out at {es} {m} e =
        let t = then_out _ _ e in
        let q = requiring_out _ _ _ _ t.2 in
        let f = field_out s bytes at 1 q.0 in
        let r = row_out (Fine l) encode_expr s (λ before. expr_at s l) inner t.0 [] t.1 t.3 in
        let n : operand_count (gather es) ≡ t.0 = count_gather es ∙ r.1 in
        let g : Spell s at t.1 (bytes_of 1 (operand_count (gather es))) = subst (λ x. Spell s at t.1 (bytes_of 1 x)) (sym n) f.0 in (
          spell_join s g (subst (λ bs. Spell s t.1 m bs) (sym (encode_gather es)) r.0),
          (let h : 2 ≤ t.0 = leb-true 2 t.0 q.1 in omega (arith, n)),
          omega (arith, n, f.1),
          subst (λ p. ExprsFine l p (gather es)) (one-more s _ g) (fine_out l t.1 [] es r.2),
        )

    operands_in : (at : ℕ) (es : Exprs) {m : ℕ} → Spell s at m (bytes_of 1 (operand_count es) ++ encode_exprs es)
        → 2 ≤ operand_count es → operand_count es < 256 → ExprsFine l (at + 1) es → operands_at (expr_at s l) s at ≡ done (operands es) m
    unfolding operands_at
    operands_in at es {m} a two fit fine =
        let xs = operands es in
        let g : gather xs ≡ es = gather_operands es in
        let b = spell_split s (bytes_of 1 (operand_count es)) (encode_exprs es) a in
        let n : operand_count es ≡ length xs = ap operand_count (sym g) ∙ count_gather xs in
        let p = at + length (bytes_of 1 (operand_count es)) in
        let w : at + 1 ≡ p = omega (arith, length_bytes 1 (operand_count es)) in
        let d : Spell s p m (gathered encode_expr xs) = subst (λ bs. Spell s p m bs) (ap encode_exprs (sym g) ∙ encode_gather xs) b.1 in
        let r : ExprsFine l p (gather xs) = subst (λ q. ExprsFine l q (gather xs)) w (subst (λ y. ExprsFine l (at + 1) y) (sym g) fine) in
        then_in _ _ (requiring_in _ _ _ _ (field_in s bytes at 1 (lit< tt) b.0 fit) (le-leb 2 (operand_count es) two))
        (subst (λ k. row_at (λ before. expr_at s l) k [] p ≡ done xs m) (sym n)
        (row_in (Fine l) encode_expr s (λ before. expr_at s l) inner [] p xs d (fine_in l p [] xs r)))

    shifted_out : (shift : ℕ → Expr → Expr) (at : ℕ) {e : Expr} {m : ℕ} → shifted_at shift (expr_at s l) s at ≡ done e m
        → (k : ℕ) × (x : Expr) × (shift k x ≡ e) × Spell s at m (bytes_of 1 k ++ encode_expr x) × (1 ≤ k) × (k < 256) × ExprFine l (at + 1) x
    unfolding shifted_at
    shifted_out shift at {e} {m} h =
        let t = then_out _ _ h in
        let q = requiring_out _ _ _ _ t.2 in
        let f = field_out s bytes at 1 q.0 in
        let g = making_out _ _ t.3 in
        let r = inner.sound [] t.1 g.1 in (
          t.0,
          g.0,
          g.2,
          spell_join s f.0 r.0,
          leb-true 1 t.0 q.1,
          f.1,
          subst (λ p. ExprFine l p g.0) (one-more s _ f.0) r.1,
        )

    shifted_in : (shift : ℕ → Expr → Expr) (at k : ℕ) (x : Expr) {m : ℕ} → Spell s at m (bytes_of 1 k ++ encode_expr x)
        → 1 ≤ k → k < 256 → ExprFine l (at + 1) x → shifted_at shift (expr_at s l) s at ≡ done (shift k x) m
    unfolding shifted_at
    shifted_in shift at k x a one fit fine =
        let b = spell_split s (bytes_of 1 k) (encode_expr x) a in
        then_in _ _ (requiring_in _ _ _ _ (field_in s bytes at 1 (lit< tt) b.0 fit) (le-leb 1 k one))
        (making_in _ _ (inner.complete [] _ b.1 (subst (λ p. ExprFine l p x) (let w : at + 1 ≡ at + length (bytes_of 1 k) = omega (arith, length_bytes 1 k) in w) fine)) refl)

    abbrev Found : ℕ → ℕ → Expr → Type 0
    Found at m e = Spell s at m (encode_expr e) × ExprFine (suc l) at e

    -- What the operands, or the shifted expression, of a fine expression are; they stand behind the type byte and the count or shift.
    record Many (at : ℕ) (es : Exprs) : Type 0 where
      pub two : 2 ≤ operand_count es
      pub fit : operand_count es < 256
      pub fine : ExprsFine l (at + 1 + 1) es

    record Shifted (at k : ℕ) (e : Expr) : Type 0 where
      pub one : 1 ≤ k
      pub fit : k < 256
      pub fine : ExprFine l (at + 1 + 1) e

    plus_two : (at : ℕ) → at + 1 + 1 ≡ at + 2
    plus_two at = omega arith

    module _ (at : ℕ) (es : Exprs) where
      all_fine : Many at es → ExprFine (suc l) at (all es)
      unfolding PlacedExpr ExprFits Counted depth
      all_fine m =
          record {
            placed = subst (λ p. PlacedExprs p es) (plus_two at) m.fine.placed;
            fits = (m.fit, m.fine.fits);
            counted = (m.two, m.fine.counted);
            nested = omega (arith, m.fine.nested);
          }

      any_fine : Many at es → ExprFine (suc l) at (any es)
      unfolding PlacedExpr ExprFits Counted depth
      any_fine m = let a = all_fine m in record { placed = a.placed; fits = a.fits; counted = a.counted; nested = a.nested }

      all_many : ExprFine (suc l) at (all es) → Many at es
      unfolding PlacedExpr ExprFits Counted depth
      all_many h =
          record {
            two = h.counted.0;
            fit = h.fits.0;
            fine = record {
              placed = subst (λ p. PlacedExprs p es) (sym (plus_two at)) h.placed;
              fits = h.fits.1;
              counted = h.counted.1;
              nested = omega (arith, h.nested);
            };
          }

      any_many : ExprFine (suc l) at (any es) → Many at es
      unfolding PlacedExpr ExprFits Counted depth
      any_many h = all_many (record { placed = h.placed; fits = h.fits; counted = h.counted; nested = h.nested })

    module _ (at k : ℕ) (e : Expr) where
      left_fine : Shifted at k e → ExprFine (suc l) at (left k e)
      unfolding PlacedExpr ExprFits Counted depth
      left_fine m =
          record {
            placed = subst (λ p. PlacedExpr p e) (plus_two at) m.fine.placed;
            fits = (m.fit, m.fine.fits);
            counted = (m.one, m.fine.counted);
            nested = omega (arith, m.fine.nested);
          }

      right_fine : Shifted at k e → ExprFine (suc l) at (right k e)
      unfolding PlacedExpr ExprFits Counted depth
      right_fine m = let a = left_fine m in record { placed = a.placed; fits = a.fits; counted = a.counted; nested = a.nested }

      left_shifted : ExprFine (suc l) at (left k e) → Shifted at k e
      unfolding PlacedExpr ExprFits Counted depth
      left_shifted h =
          record {
            one = h.counted.0;
            fit = h.fits.0;
            fine = record {
              placed = subst (λ p. PlacedExpr p e) (sym (plus_two at)) h.placed;
              fits = h.fits.1;
              counted = h.counted.1;
              nested = omega (arith, h.nested);
            };
          }

      right_shifted : ExprFine (suc l) at (right k e) → Shifted at k e
      unfolding PlacedExpr ExprFits Counted depth
      right_shifted h = left_shifted (record { placed = h.placed; fits = h.fits; counted = h.counted; nested = h.nested })

    many : {at a : ℕ} {es : Exprs} → a ≡ at + 1 → 2 ≤ operand_count es → operand_count es < 256 → ExprsFine l (a + 1) es → Many at es
    many {es = es} w t f h = record { two = t; fit = f; fine = subst (λ p. ExprsFine l (p + 1) es) w h }

    shifted : {at a k : ℕ} {e : Expr} → a ≡ at + 1 → 1 ≤ k → k < 256 → ExprFine l (a + 1) e → Shifted at k e
    shifted {e = e} w t f h = record { one = t; fit = f; fine = subst (λ p. ExprFine l (p + 1) e) w h }

    body_out : (at a b : ℕ) (o : Operation) {e : Expr} {m : ℕ} → field_at s at 1 ≡ done b a → Code o b
        → body_at (expr_at s l) s at a o ≡ done e m → Found at m e
    unfolding body_at reading_at encode_expr PlacedExpr ExprFits Counted depth
    body_out at a b is_reading {e} {m} f c h =
        let t = then_out _ _ h in
        let g = making_out _ _ t.3 in
        let i = field_out s bytes a 3 t.2 in
        let n = field_out s bytes t.1 1 g.1 in
        subst (Found at m) g.2 (
          spell_join s (start_out at f c) (spell_join s i.0 n.0),
          record { placed = refl; fits = (i.1, n.1); counted = tt; nested = omega arith },
        )
    body_out at a b is_constant {e} {m} f c h =
        let g = making_out _ _ h in
        let i = field_out s bytes a 8 g.1 in
        subst (Found at m) g.2
        (spell_join s (start_out at f c) i.0, record { placed = tt; fits = i.1; counted = tt; nested = omega arith })
    body_out at a b is_and {e} {m} f c h =
        let g = making_out _ _ h in
        let r = operands_out a g.1 in
        let z = start_out at f c in
        subst (Found at m) g.2 (spell_join s z r.0, all_fine at _ (many (one-more s _ z) r.1 r.2 r.3))
    body_out at a b is_or {e} {m} f c h =
        let g = making_out _ _ h in
        let r = operands_out a g.1 in
        let z = start_out at f c in
        subst (Found at m) g.2 (spell_join s z r.0, any_fine at _ (many (one-more s _ z) r.1 r.2 r.3))
    body_out at a b is_not {e} {m} f c h =
        let g = making_out _ _ h in
        let r = inner.sound [] a g.1 in
        let z = start_out at f c in
        subst (Found at m) g.2 (
          spell_join s z r.0,
          record {
            placed = subst (λ p. PlacedExpr p g.0) (one-more s _ z) r.1.placed;
            fits = r.1.fits;
            counted = r.1.counted;
            nested = omega (arith, r.1.nested);
          },
        )
    body_out at a b is_left {e} {m} f c h =
        let r = shifted_out left a h in
        let z = start_out at f c in
        subst (Found at m) r.2 (spell_join s z r.3, left_fine at _ _ (shifted (one-more s _ z) r.4 r.5 r.6))
    body_out at a b is_right {e} {m} f c h =
        let r = shifted_out right a h in
        let z = start_out at f c in
        subst (Found at m) r.2 (spell_join s z r.3, right_fine at _ _ (shifted (one-more s _ z) r.4 r.5 r.6))
    body_out at a b is_unknown f c h = never h

    -- With the type byte at `at`, the rest is read from `at + 1`.
    start_in : (at c : ℕ) (rest : List ℕ) {e : Expr} {m : ℕ} → c < 256 → Spell s at m (bytes_of 1 c ++ rest)
        → (Spell s (at + 1) m rest → body_at (expr_at s l) s at (at + 1) (operation_of c) ≡ done e m) → expr_at s (suc l) at ≡ done e m
    unfolding expr_at
    start_in at c rest {e} {m} fit a k =
        let b = spell_split s (bytes_of 1 c) rest a in
        let w : at + length (bytes_of 1 c) ≡ at + 1 = omega (arith, length_bytes 1 c) in
        then_in _ _ (field_in s bytes at 1 (lit< tt) (subst (λ p. Spell s at p (bytes_of 1 c)) w b.0) fit)
        (k (subst (λ p. Spell s p m rest) w b.1))

    body_in : (at : ℕ) (e : Expr) {m : ℕ} → Spell s at m (encode_expr e) → ExprFine (suc l) at e → expr_at s (suc l) at ≡ done e m
    unfolding body_at reading_at operation_of encode_expr PlacedExpr ExprFits Counted depth
    body_in at (reading p id n) {m} a h =
        start_in at 0x01 _ (lit< tt) a
        (λ b. let r = spell_split s (bytes_of 3 id) (bytes_of 1 n) b in
        then_in _ _ (field_in s bytes (at + 1) 3 (lit< tt) r.0 h.fits.0)
        (making_in _ _ (field_in s bytes _ 1 (lit< tt) r.1 h.fits.1) (ap (λ q. reading q id n) (sym h.placed))))
    body_in at (constant v) a h =
        start_in at 0x02 _ (lit< tt) a (λ b. making_in _ _ (field_in s bytes (at + 1) 8 (lit< tt) b h.fits) refl)
    body_in at (all es) a h =
        let n = all_many at es h in
        start_in at 0x10 _ (lit< tt) a
        (λ b. making_in _ _ (operands_in (at + 1) es b n.two n.fit n.fine) (ap all (gather_operands es)))
    body_in at (any es) a h =
        let n = any_many at es h in
        start_in at 0x11 _ (lit< tt) a
        (λ b. making_in _ _ (operands_in (at + 1) es b n.two n.fit n.fine) (ap any (gather_operands es)))
    body_in at (inverse e) a h =
        start_in at 0x12 _ (lit< tt) a
        (λ b. making_in _ _
        (inner.complete [] (at + 1) b
        (record { placed = h.placed; fits = h.fits; counted = h.counted; nested = omega (arith, h.nested) }))
        refl)
    body_in at (left k e) a h =
        let n = left_shifted at k e h in
        start_in at 0x13 _ (lit< tt) a (λ b. shifted_in left (at + 1) k e b n.one n.fit n.fine)
    body_in at (right k e) a h =
        let n = right_shifted at k e h in
        start_in at 0x14 _ (lit< tt) a (λ b. shifted_in right (at + 1) k e b n.one n.fit n.fine)

  -- An expression with l levels left.
  pub expr-reads : (l : ℕ) → Reads (Fine l) encode_expr s (λ before. expr_at s l)
  unfolding expr_at
  expr-reads zero =
      record {
        sound = λ before at e. never (then_out _ _ e).3;
        complete = λ before at {x} a h. absurd (omega (arith, h.nested, depth_positive x));
      }
  expr-reads (suc l) =
      let inner = expr-reads l in
      record {
        sound = λ before at e. let t = then_out _ _ e in body_out l inner at t.1 t.0 (operation_of t.0) t.2 (code t.0) t.3;
        complete = λ before at {x} a h. body_in l inner at x a h;
      }
