-- The laws of a node instance's rule for an attention type.
use Prim.Native.Nat.{ℕ, ◌<◌}
use mathlib.Core.Bool.{Bool, true, false, not, cond, ◌||◌}
use mathlib.Core.List.{List, [], ◌∷◌}
use mathlib.Core.Path.{◌≡◌, refl, sym, ◌∙◌}
use native.Mathlib.Omega.{arith}
use lib.Dec.{eqb}
use borrow.Author.Tests.{eq-eqb, ne_eqb}
use Rattle.format.specs.Fields.{field_at}
use Rattle.format.specs.ExpressionLayout.{expr_at}
use Rattle.limits.specs.Limits.{levels}
use Rattle.format.specs.Lookup.{some}
use Rattle.format.specs.NodeLayout.{rule_at, node_instance_at}
use Rattle.format.specs.Parsed.{done, row_at}
use Rattle.format.specs.Rules.{Every}
use Rattle.format.specs.Tree.{Rule, NodeInstance}
use Rattle.fields.proofs.FieldLaws.{field_size}
use Rattle.fields.specs.Views.{forget}
use Rattle.index.proofs.Again.{same_done}
use Rattle.index.proofs.PartsLaws.{rule_fields, instance_parts}
use Rattle.index.proofs.RowsLaws.{row_every}
use Rattle.links.specs.Links.{rule_place}
use Rattle.links.proofs.PassedLaws.{passed_over}

pub rule_none : (attention : ℕ) → 0 ≡ rule_place attention []
unfolding rule_place
rule_none attention = refl

-- A rule whose attention type t the code read, with the place a after it.
module _ (s : List ℕ) (at : ℕ) {t a : ℕ} (o : done t a ≡ field_at s at 1) (before : List Rule) (r : Rule) (m : ℕ) (e : rule_at s true before at ≡ done r m) where
  pub rule_found : (attention : ℕ) → t ≡ attention → (rs : List Rule) → a ≡ rule_place attention (r ∷ rs)
  unfolding rule_place
  rule_found attention h rs =
      let i = same_done o (rule_fields s at before e).0 in
      let q : r.attention ≡ attention = sym i.0 ∙ h in
      simp (eq-eqb _ _ q, i.1)

  pub rule_expression : expr_at s 16 a ≡ done r.expression m
  unfolding levels
  rule_expression =
      let f = rule_fields s at before e in
      let i = same_done o f.0 in
      rw i.1 f.1

  pub rule_other : (attention : ℕ) → (t ≡ attention → ⊥) → {u : Unit {0}} {next : ℕ} → done u next ≡ forget (expr_at s 16 a)
      → (next ≡ m) × ((rs : List Rule) → rule_place attention rs ≡ rule_place attention (r ∷ rs))
  unfolding rule_place
  rule_other attention h d =
      let i = same_done o (rule_fields s at before e).0 in
      (passed_over rule_expression d, λ rs. simp (ne_eqb r.attention attention (λ q. h (i.0 ∙ q))))

-- The place after a field is not the first.
field_place : (s : List ℕ) (at : ℕ) {x p : ℕ} → field_at s at 1 ≡ done x p → 0 < p
field_place s at e = omega (arith, (field_size s at 1 e).0)

-- A rule for the type is found exactly where there is one, if no rule's expression stands at 0.
found_some : (attention : ℕ) (rs : List Rule) → Every (λ r. 0 < r.place) rs → not (eqb (rule_place attention rs) 0) ≡ some (λ r. eqb r.attention attention) rs
unfolding rule_place some Every
found_some attention [] h = refl
found_some attention (r ∷ rs) h = go (eqb r.attention attention) (found_some attention rs h.1)
  where
    go : (t : Bool) → not (eqb (rule_place attention rs) 0) ≡ some (λ r. eqb r.attention attention) rs
        → not (eqb (cond t r.place (rule_place attention rs)) 0) ≡ t || some (λ r. eqb r.attention attention) rs
    go true e = rw (ne_eqb r.place 0 (λ q. absurd (omega (arith, h.0))))
    go false e = e

-- So it is for the rules that were read.
pub rule_place_some : (s : List ℕ) (attention n : ℕ) (before : List Rule) (at : ℕ) {rs : List Rule} {m : ℕ} → row_at (rule_at s true) n before at ≡ done rs m
    → not (eqb (rule_place attention rs) 0) ≡ some (λ r. eqb r.attention attention) rs
rule_place_some s attention n before at {rs} e =
    found_some attention rs
    (row_every (rule_at s true) (λ r. 0 < r.place) (λ b a r k d. field_place s a (rule_fields s a b d).0) n before at e)

-- And for the rules of a node instance that was read.
pub instance_rule_some : (s : List ℕ) (attention at limit total : ℕ) (before : List NodeInstance) {i : NodeInstance} {m : ℕ} → node_instance_at limit s true total before at ≡ done i m
    → not (eqb (rule_place attention i.rules) 0) ≡ some (λ r. eqb r.attention attention) i.rules
instance_rule_some s attention at limit total before e =
    let q = instance_parts s at limit total before e in rule_place_some s attention q.head.rules [] q.rules_at q.rules
