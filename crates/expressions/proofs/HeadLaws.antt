-- An expression is its head with its operands, and what the loop over the operands needs.
use Prim.Native.Nat.{ℕ, zero, suc, ◌-◌, ◌≤◌, ◌<◌}
use mathlib.Core.Path.{◌≡◌, refl, sym, ◌∙◌, ap, fun_ext}
use lib.Dec.{leb}
use mathlib.Core.List.{List, [], ◌∷◌}
use native.Mathlib.Omega.{arith}
use native.Mathlib.Numerals.{sub-one}
use Rattle.format.specs.declared.Refusal.{Refusal}
use Rattle.format.specs.Parsed.{Parsed, done, refused, and_then, making, requiring, row_at}
use Rattle.format.specs.Fields.{field_at}
use Rattle.format.specs.ExpressionLayout.{Operation, is_reading, is_constant, is_and, is_or, is_not, is_left, is_right, is_unknown, operation_of, reading_at, operands_at, shifted_at, body_at, expr_at}
use Rattle.format.specs.Tree.{Expr, reading, constant, all, any, inverse, left, right, gather}
use Rattle.expressions.specs.declared.Head.{Head}
use Rattle.expressions.specs.declared.Head.TheVariants.{Reading, Constant, All, Any, Left, Right}
use Rattle.expressions.specs.declared.HeadRead.{HeadRead}
use Rattle.fields.specs.declared.ByteRead.{ByteRead}
use Rattle.fields.specs.declared.NextRead.{NextRead}
use Rattle.expressions.specs.Heads.{arity_of, built, first_operand, reading_head_at, operand_count_at, shift_at, operation_head_at, head_at}
use Rattle.fields.specs.Views.{refused_by, byte_parsed, next_parsed, forget}
use Rattle.expressions.specs.Heads.{head_parsed}
use Rattle.fields.proofs.Steps.{byte_then, byte_stop}
use Rattle.fields.proofs.Parsing.{Found, found, missed, then_then, making_making, row_end, row_step, row_stop, row_blind}

-- The operands of a head, read by `inner`, make an expression.
abbrev pub operands_of : (ℕ → Parsed Expr) → ℕ → Head → ℕ → Parsed Expr
operands_of inner start h a = making (λ es. built start h es) (row_at (λ before. inner) (arity_of h) [] a)

one_operand : (inner : ℕ → Parsed Expr) (f : Expr → Expr) (at : ℕ) → making f (inner at) ≡ making (λ es. f (first_operand es)) (row_at (λ before. inner) 1 [] at)
unfolding row_at and_then making
one_operand inner f at = go (inner at)
  where
    go : (q : Parsed Expr) → making f q ≡ making (λ es. f (first_operand es)) (and_then q (λ a next. making (λ rest. a ∷ rest) (done [] next)))
    go (done a m) = refl
    go (refused k m) = refl

one_head : (inner : ℕ → Parsed Expr) (s : List ℕ) (start at : ℕ) (q : Parsed ℕ) (f : ℕ → Expr → Expr) (h : ℕ → Head)
    → ((k a : ℕ) → making (f k) (inner a) ≡ operands_of inner start (h k) a)
    → and_then q (λ k a. making (f k) (inner a)) ≡ and_then (making h q) (operands_of inner start)
unfolding and_then making
one_head inner s start at (done k a) f h e = e k a
one_head inner s start at (refused k m) f h e = refl

count_head : (inner : ℕ → Parsed Expr) (start : ℕ) (q : Parsed ℕ) (f : List Expr → Expr) (h : ℕ → Head)
    → ((n a : ℕ) → making f (row_at (λ before. inner) n [] a) ≡ operands_of inner start (h n) a)
    → making f (and_then q (λ n a. row_at (λ before. inner) n [] a)) ≡ and_then (making h q) (operands_of inner start)
unfolding and_then making
count_head inner start (done n a) f h e = e n a
count_head inner start (refused k m) f h e = refl

leaf_head : (inner : ℕ → Parsed Expr) (start : ℕ) (q : Parsed ℕ) (f : ℕ → Expr) (h : ℕ → Head)
    → ((v a : ℕ) → done (f v) a ≡ operands_of inner start (h v) a)
    → making f q ≡ and_then (making h q) (operands_of inner start)
unfolding and_then making
leaf_head inner start (done v a) f h e = e v a
leaf_head inner start (refused k m) f h e = refl

no_operands : (inner : ℕ → Parsed Expr) (e : Expr) (a : ℕ) → done e a ≡ making (λ es. e) (row_at (λ before. inner) 0 [] a)
unfolding row_at making
no_operands inner e a = refl

reading_heads : (inner : ℕ → Parsed Expr) (s : List ℕ) (start at : ℕ) → reading_at s start at ≡ and_then (reading_head_at s at) (operands_of inner start)
unfolding reading_at reading_head_at
reading_heads inner s start at = go (field_at s at 3) ∙ sym (then_then _ _ _)
  where
    go : (q : Parsed ℕ) → and_then q (λ id a. making (reading start id) (field_at s a 1))
        ≡ and_then q (λ id a. and_then (making (λ n. Reading id n) (field_at s a 1)) (operands_of inner start))
    go q = ap (and_then q) (fun_ext (λ id. fun_ext (λ a. leaf_head inner start (field_at s a 1) (reading start id) (λ n. Reading id n) (λ n b. no_operands inner (reading start id n) b))))

body_heads : (inner : ℕ → Parsed Expr) (s : List ℕ) (start at : ℕ) (o : Operation)
    → body_at inner s start at o ≡ and_then (operation_head_at s start at o) (operands_of inner start)
unfolding body_at operation_head_at operands_at shifted_at operand_count_at shift_at and_then
body_heads inner s start at is_reading = reading_heads inner s start at
body_heads inner s start at is_constant = leaf_head inner start (field_at s at 8) constant (λ v. Constant v) (λ v b. no_operands inner (constant v) b)
body_heads inner s start at is_and = count_head inner start (requiring (leb 2) 9 at (field_at s at 1)) (λ es. all (gather es)) (λ n. All n) (λ n a. refl)
body_heads inner s start at is_or = count_head inner start (requiring (leb 2) 9 at (field_at s at 1)) (λ es. any (gather es)) (λ n. Any n) (λ n a. refl)
body_heads inner s start at is_not = one_operand inner inverse at
body_heads inner s start at is_left = one_head inner s start at (requiring (leb 1) 9 at (field_at s at 1)) left (λ k. Left k) (λ k a. one_operand inner (left k) a)
body_heads inner s start at is_right = one_head inner s start at (requiring (leb 1) 9 at (field_at s at 1)) right (λ k. Right k) (λ k a. one_operand inner (right k) a)
body_heads inner s start at is_unknown = refl

-- An expression is its head with its operands.
pub expr_heads : (s : List ℕ) (l at : ℕ) → expr_at s (suc l) at ≡ and_then (head_at s (suc l) at) (operands_of (expr_at s l) at)
unfolding expr_at head_at
expr_heads s l at =
    ap (and_then (field_at s at 1)) (fun_ext (λ b. fun_ext (λ a. body_heads (expr_at s l) s at a (operation_of b))))
    ∙ sym (then_then (field_at s at 1) _ _)

never : {A B : Type 0} (p : Parsed A) (k m : ℕ) {h : B} {n : ℕ} → and_then p (λ b c. refused k m) ≡ done h n → ⊥
unfolding and_then
never (done a i) k m e = let z : ◌≡◌ {A = ℕ} 0 1 = cc in omega arith
never (refused j i) k m e = let z : ◌≡◌ {A = ℕ} 0 1 = cc in omega arith

no_more : {A B C : Type 0} (p : Parsed A) (k m : ℕ) {i j : ℕ} → and_then {B = B} p (λ b c. refused k m) ≡ refused i j → and_then {B = C} p (λ b c. refused k m) ≡ refused i j
unfolding and_then
no_more (done a n) k m {i} {j} e = let h : k ≡ i = cc in let g : m ≡ j = cc in rw (h, g)
no_more (refused a n) k m {i} {j} e = let h : a ≡ i = cc in let g : n ≡ j = cc in rw (h, g)

module _ (s : List ℕ) (at : ℕ) where
  pub expr_done : (l : ℕ) {h : Head} {a : ℕ} → head_at s l at ≡ done h a → (0 < l) × (expr_at s l at ≡ operands_of (expr_at s (l - 1)) at h a)
  unfolding head_at and_then
  expr_done zero e = absurd (never (field_at s at 1) 9 at e)
  expr_done (suc l) {h} {a} e = (omega arith, rw sub-one (expr_heads s l at ∙ ap (λ q. and_then q (operands_of (expr_at s l) at)) e))

  pub expr_refused : (l : ℕ) {k m : ℕ} → head_at s l at ≡ refused k m → expr_at s l at ≡ refused k m
  unfolding head_at expr_at and_then
  expr_refused zero e = no_more (field_at s at 1) 9 at e
  expr_refused (suc l) e = expr_heads s l at ∙ ap (λ q. and_then q (operands_of (expr_at s l) at)) e

-- The head from its type byte.
module _ (s : List ℕ) (l at : ℕ) {x : ByteRead} {y : Parsed Head} where
  pub head_cut : {r : Refusal} → byte_parsed x ≡ field_at s at 1 → x ≡ ByteRead.Refused r → y ≡ refused_by r → y ≡ head_at s l at
  unfolding head_at
  head_cut e g k = go l
    where
      go : (j : ℕ) → y ≡ head_at s j at
      go zero = byte_stop _ _ e g k
      go (suc j) = byte_stop _ _ e g k

  pub head_deep : {b a : ℕ} → byte_parsed x ≡ field_at s at 1 → x ≡ ByteRead.Byte b a → l ≡ 0 → y ≡ refused 9 at → y ≡ head_at s l at
  unfolding head_at
  head_deep e g z k = rw z (byte_then _ _ e g k)

  pub head_level : {b a : ℕ} → byte_parsed x ≡ field_at s at 1 → x ≡ ByteRead.Byte b a → (l ≡ 0 → ⊥) → y ≡ operation_head_at s at a (operation_of b) → y ≡ head_at s l at
  unfolding head_at
  head_level {b} {a} e g z k = go l z
    where
      go : (j : ℕ) → (j ≡ 0 → ⊥) → y ≡ head_at s j at
      go zero h = absurd (h refl)
      go (suc j) h = byte_then _ _ e g k

pub ruleset head-laws = (head_cut, head_deep, head_level)

-- In the form that `search` uses: x is the head that was read.
module _ (s : List ℕ) (l at : ℕ) {x : HeadRead} where
  pub open_level : {h : Head} {a : ℕ} → head_parsed x ≡ head_at s l at → x ≡ HeadRead.Head h a → 0 < l
  open_level e g = (expr_done s at l (sym e ∙ ap head_parsed g)).0

  pub open_row : {h : Head} {a n : ℕ} → head_parsed x ≡ head_at s l at → x ≡ HeadRead.Head h a → n ≡ arity_of h
      → forget (expr_at s l at) ≡ forget (row_at (λ before. expr_at s (l - 1)) n [] a)
  open_row {h} {a} {n} e g k = rw ((expr_done s at l (sym e ∙ ap head_parsed g)).1, k) (making_making _ _ _)

  pub open_no : {r : Refusal} {y : Parsed (Unit {0})} → head_parsed x ≡ head_at s l at → x ≡ HeadRead.Refused r → y ≡ refused_by r → y ≡ forget (expr_at s l at)
  unfolding making
  open_no e g k = rw (expr_refused s at l (sym e ∙ ap head_parsed g)) k

-- A turn of a loop that counts down over a row of elements that do not look at those before: x is what the whole is to give.
module _ {A : Type 0} (p : ℕ → Parsed A) (n at : ℕ) {x : Parsed (Unit {0})} where
  pub down_none : {y : Parsed (Unit {0})} → x ≡ forget (row_at (λ before. p) n [] at) → n ≤ 0 → y ≡ done tt at → y ≡ x
  unfolding making
  down_none h z k = k ∙ sym (rw (row_end (λ before. p) n [] at z) at h)

  module _ {w : NextRead} where
    pub down_no : {r : Refusal} {y : Parsed (Unit {0})} → x ≡ forget (row_at (λ before. p) n [] at) → next_parsed w ≡ forget (p at) → w ≡ NextRead.Refused r → 0 < n → y ≡ refused_by r → y ≡ x
    unfolding making
    down_no h e g z k = k ∙ sym (rw (row_stop (λ before. p) n [] at z (missed _ (p at) (sym (ap next_parsed g) ∙ e))) at h)

    pub down_more : {next : ℕ} → x ≡ forget (row_at (λ before. p) n [] at) → next_parsed w ≡ forget (p at) → w ≡ NextRead.Next next → 0 < n → x ≡ forget (row_at (λ before. p) (n - 1) [] next)
    down_more {next} h e g z =
        let f : Found (λ _. tt) (p at) tt next = found _ (p at) (sym (ap next_parsed g) ∙ e) in
        h ∙ ap forget (row_step (λ before. p) n [] at z f.is) ∙ making_making _ _ _ ∙ ap forget (row_blind (λ before. p) (λ b c i. refl) (n - 1) (f.value ∷ []) [] next)

pub ruleset open-laws = (open_level, open_row, open_no)
