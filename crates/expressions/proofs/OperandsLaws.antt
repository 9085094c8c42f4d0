-- An expression that is read: its head is, and so are its operands, one after another.
use Prim.Native.Nat.{ℕ, zero, suc, ◌-◌, ◌≤◌, ◌<◌}
use mathlib.Core.Path.{◌≡◌, refl, sym, ◌∙◌, ap}
use mathlib.Core.List.{List, [], ◌∷◌}
use native.Mathlib.Omega.{arith}
use native.Mathlib.Numerals.{sub-one}
use lib.ListN.{length}
use Rattle.format.specs.declared.Refusal.{Refusal}
use Rattle.format.specs.Parsed.{Parsed, done, making, row_at}
use Rattle.format.specs.ExpressionLayout.{expr_at}
use Rattle.format.specs.Tree.{Expr}
use Rattle.format.proofs.ParsedLaws.{never}
use Rattle.fields.proofs.Parsing.{Found, found, Followed, followed, row-length, row_blind, row_end}
use Rattle.expressions.specs.declared.Head.{Head}
use Rattle.expressions.specs.declared.HeadRead.{HeadRead}
use Rattle.expressions.specs.Heads.{arity_of, built, head_at, head_parsed}
use Rattle.expressions.proofs.HeadLaws.{expr_done, expr_refused}

-- So many operands are still to be read from a place on, they end at `m`, and a fact holds of them.
pub record Ahead (p : ℕ → Parsed Expr) (n at m : ℕ) (Fact : List Expr → Type 0) : Type 0 where
  pub operands : List Expr
  pub row : row_at (λ before. p) n [] at ≡ done operands m
  pub fact : Fact operands

module _ (s : List ℕ) (l at : ℕ) {x : HeadRead} {e : Expr} {m : ℕ} where
  -- Behind the head stand all operands.
  pub opened : {h : Head} {a : ℕ} → head_parsed x ≡ head_at s l at → x ≡ HeadRead.Head h a → expr_at s l at ≡ done e m
      → Ahead (expr_at s (l - 1)) (arity_of h) a m (λ es. (built at h es ≡ e) × (length es ≡ arity_of h))
  opened {h} {a} i g k =
      let f : Found (λ es. built at h es) (row_at (λ before. expr_at s (l - 1)) (arity_of h) [] a) e m =
      found _ _ (sym k ∙ (expr_done s at l (sym i ∙ ap head_parsed g)).1)
      in
      record { operands = f.value; row = f.is; fact = (f.made, row-length (λ before. expr_at s (l - 1)) (arity_of h) [] a f.is) }

  -- An expression that is read has a head.
  pub headless : {A : Type 0} {r : Refusal} → head_parsed x ≡ head_at s l at → x ≡ HeadRead.Refused r → expr_at s l at ≡ done e m → A
  headless i g k = never (sym (expr_refused s at l (sym i ∙ ap head_parsed g)) ∙ k)

-- The first of the operands ahead, and those behind it.
pub record Turn (p : ℕ → Parsed Expr) (n at m : ℕ) (es : List Expr) : Type 0 where
  pub first : Expr
  pub place : ℕ
  pub rest : List Expr
  pub read : p at ≡ done first place
  pub row : row_at (λ before. p) (n - 1) [] place ≡ done rest m
  pub is : es ≡ first ∷ rest

module _ (p : ℕ → Parsed Expr) (n at : ℕ) {m : ℕ} {es : List Expr} where
  pub turn : 0 < n → row_at (λ before. p) n [] at ≡ done es m → Turn p n at m es
  unfolding row_at
  turn h e = go n h e
    where
      go : (n : ℕ) → 0 < n → row_at (λ before. p) n [] at ≡ done es m → Turn p n at m es
      go zero h e = absurd (omega arith)
      go (suc n) h e =
          let f : Followed (p at) (λ a next. making (λ rest. a ∷ rest) (row_at (λ before. p) n (a ∷ []) next)) es m = followed (p at) _ e in
          let g : Found (λ rest. f.value ∷ rest) (row_at (λ before. p) n (f.value ∷ []) f.place) es m = found _ _ (sym f.next) in
          record {
            first = f.value;
            place = f.place;
            rest = g.value;
            read = f.is;
            row = rw sub-one (row_blind (λ before. p) (λ b c i. refl) n [] (f.value ∷ []) f.place ∙ g.is);
            is = sym g.made;
          }

  -- Where none is ahead, the last one ended here.
  pub turned : n ≤ 0 → row_at (λ before. p) n [] at ≡ done es m → (es ≡ []) × (at ≡ m)
  turned h e =
      let d : done [] at ≡ done es m = sym (row_end (λ before. p) n [] at h) ∙ e in
      (let a : es ≡ [] = cc in a, let b : at ≡ m = cc in b)
