-- The opening of an expression for each type byte, and what the loop over the operands needs of it.
use Prim.Native.Nat.{ℕ, zero, suc, ◌+◌, ◌-◌, ◌*◌, ◌/◌, ◌%◌, ◌≤◌, ◌<◌}
use mathlib.Core.Path.{◌≡◌, refl, sym, ◌∙◌, ap}
use mathlib.Core.List.{List, []}
use native.Mathlib.Omega.{arith}
use borrow.Author.Tests.{le-leb}
use lib.Dec.{leb}
use lib.ListN.{length, get_or}
use Rattle.format.specs.Parsed.{Parsed, done, and_then, require, requiring, row_at}
use Rattle.format.proofs.ParsedLaws.{then_in, making_in}
use Rattle.format.specs.Fields.{field_at}
use Rattle.format.specs.ExpressionLayout.{operation_of, expr_at}
use Rattle.fields.specs.declared.NextRead.{NextRead}
use Rattle.fields.specs.Views.{forget}
use Rattle.fields.proofs.FieldLaws.{field_there, byte_field, field_three}
use Rattle.expressions.specs.declared.Head.{Head}
use Rattle.expressions.specs.Heads.{arity_of, reading_head_at, operand_count_at, shift_at, operation_head_at, head_at}
use Rattle.expressions.specs.Names.{own_names}
use Rattle.expressions.specs.Openings.{reading_of, Opening}
use Rattle.expressions.proofs.HeadLaws.{open_level, open_row, down_more}

module _ (s : List ℕ) where
  three_there : (at : ℕ) → at + 1 + 3 ≤ length s
      → field_at s (at + 1) 3 ≡ done (get_or s (at + 1) 0 * 0x10000 + get_or s (at + 2) 0 * 0x100 + get_or s (at + 3) 0) (at + 1 + 3)
  three_there at h =
      let i : at + 2 ≡ suc (at + 1) = omega arith in
      let j : at + 3 ≡ suc (suc (at + 1)) = omega arith in
      rw (i, j, ← field_three s (at + 1) h) (field_there s (at + 1) 3 h)

  -- A byte that has to be at least so much, and is.
  enough : (at k : ℕ) → at < length s → k ≤ get_or s at 0 → requiring (leb k) 9 at (field_at s at 1) ≡ done (get_or s at 0) (at + 1)
  unfolding requiring and_then require
  enough at k h g = rw (byte_field s at h, le-leb k (get_or s at 0) g)

module _ (s : List ℕ) (l at : ℕ) (z : l ≡ 0 → ⊥) (h : at < length s) where
  -- What follows the type byte.
  typed : {b : ℕ} → get_or s at 0 ≡ b → head_at s l at ≡ operation_head_at s at (at + 1) (operation_of b)
  unfolding head_at and_then
  typed {b} e = go l z
    where
      go : (j : ℕ) → (j ≡ 0 → ⊥) → head_at s j at ≡ operation_head_at s at (at + 1) (operation_of b)
      go zero k = absurd (k refl)
      go (suc j) k = rw (byte_field s at h, e)

  pub opening_reading : get_or s at 0 ≡ 1 → 5 ≤ length s - at → Opening s l at 0x500
  unfolding operation_of operation_head_at reading_head_at
  opening_reading e k =
      let i : at + 1 + 3 ≤ length s = omega arith in
      let j : at + 1 + 3 < length s = omega arith in
      let g : at + 1 + 3 + 1 ≡ at + 5 = omega arith in
      let w : at + 1 + 3 ≡ at + 4 = omega arith in
      record {
        head = reading_of s at;
        read = typed e ∙ then_in _ _ (three_there s at i) (making_in _ _ {b = reading_of s at} (byte_field s (at + 1 + 3) j) (rw w)) ∙ ap (done (reading_of s at)) g;
        operands = refl;
        within = omega arith;
        named = λ _. refl;
        nameless = λ z. absurd (z refl);
      }

  -- An opening from a head that ends at `m` and is no reading.
  ends : (r m : ℕ) {x : Head} → head_at s l at ≡ done x m → m ≡ at + r / 256 → r % 256 ≡ arity_of x → m ≤ length s → (r ≡ 0x500 → ⊥) → own_names at x ≡ [] → Opening s l at r
  ends r m {x} e g k b z n = record { head = x; read = rw (← g) e; operands = k; within = rw (← g) b; named = λ w. absurd (z w); nameless = λ _. n }

  pub opening_constant : get_or s at 0 ≡ 2 → 9 ≤ length s - at → Opening s l at 0x900
  unfolding operation_of operation_head_at
  opening_constant e k =
      let i : at + 1 + 8 ≤ length s = omega arith in
      ends 0x900 (at + 1 + 8) (typed e ∙ making_in _ _ (field_there s (at + 1) 8 i) refl) (omega arith) refl i (λ z. omega arith) refl

  pub opening-not : get_or s at 0 ≡ 0x12 → Opening s l at 0x101
  unfolding operation_of operation_head_at
  opening-not e = ends 0x101 (at + 1) (typed e) (omega arith) refl (omega arith) (λ z. omega arith) refl

  -- A byte follows the type byte: a shift, or how many operands there are.
  module _ (b : 2 ≤ length s - at) where
    behind : at + 1 < length s
    behind = omega arith

    pub opening_left : get_or s at 0 ≡ 0x13 → 1 ≤ get_or s (at + 1) 0 → Opening s l at 0x201
    unfolding operation_of operation_head_at shift_at
    opening_left e g = ends 0x201 (at + 1 + 1) (typed e ∙ making_in _ _ (enough s (at + 1) 1 behind g) refl) (omega arith) refl (omega arith) (λ z. omega arith) refl

    pub opening_right : get_or s at 0 ≡ 0x14 → 1 ≤ get_or s (at + 1) 0 → Opening s l at 0x201
    unfolding operation_of operation_head_at shift_at
    opening_right e g = ends 0x201 (at + 1 + 1) (typed e ∙ making_in _ _ (enough s (at + 1) 1 behind g) refl) (omega arith) refl (omega arith) (λ z. omega arith) refl

    module _ (i : get_or s (at + 1) 0 < 256) (g : 2 ≤ get_or s (at + 1) 0) where
      pub opening_all : get_or s at 0 ≡ 0x10 → Opening s l at (0x200 + get_or s (at + 1) 0)
      unfolding operation_of operation_head_at operand_count_at
      opening_all e = ends _ (at + 1 + 1) (typed e ∙ making_in _ _ (enough s (at + 1) 2 behind g) refl) (omega arith) (omega arith) (omega arith) (λ z. omega arith) refl

      pub opening_any : get_or s at 0 ≡ 0x11 → Opening s l at (0x200 + get_or s (at + 1) 0)
      unfolding operation_of operation_head_at operand_count_at
      opening_any e = ends _ (at + 1 + 1) (typed e ∙ making_in _ _ (enough s (at + 1) 2 behind g) refl) (omega arith) (omega arith) (omega arith) (λ z. omega arith) refl

pub ruleset openings = (opening_reading, opening_constant, opening-not, opening_left, opening_right, opening_all, opening_any)

-- Nothing is said of 0.
pub unsaid : {A : Type 0} → (◌≡◌ {A = ℕ} 0 0 → ⊥) → A
unsaid z = absurd (z refl)

module _ (s : List ℕ) (l at : ℕ) {o : ℕ} (i : Opening s l at o) where
  -- An expression with an opening has a level left, and is read as its operands are.
  pub opening_level : 0 < l
  opening_level = open_level s l at (sym i.read) refl

  pub opening_row : forget (expr_at s l at) ≡ forget (row_at (λ before. expr_at s (l - 1)) (o % 256) [] (at + o / 256))
  opening_row = open_row s l at (sym i.read) refl i.operands

-- A turn of a loop over operands: x is what the whole is to give, and the operand at a place ends at `next`.
pub down_on : {A : Type 0} (p : ℕ → Parsed A) (n at : ℕ) {x : Parsed (Unit {0})} {next : ℕ} → x ≡ forget (row_at (λ before. p) n [] at) → done tt next ≡ forget (p at)
    → 0 < n → x ≡ forget (row_at (λ before. p) (n - 1) [] next)
down_on p n at {x} {next} h e z = down_more p n at {w = NextRead.Next next} h e refl z
