-- An expression in front of a forest, in the place of its operands.
use Prim.Native.Nat.{ℕ, ◌+◌, ◌-◌, ◌<◌}
use mathlib.Core.List.{List, ◌∷◌}
use mathlib.Core.Path.{◌≡◌, refl, sym, ◌∙◌}
use native.Mathlib.Omega.{arith}
use lib.ListN.{length, take, length-drop}
use lib.Seq.{length-take-le}
use Rattle.format.specs.Encoding.{operand_count}
use Rattle.format.specs.Lookup.{gathered}
use Rattle.format.specs.Rules.{Every, ExprFits}
use Rattle.format.specs.Tree.{Expr, reading, constant, all, any, inverse, left, right, gather}
use Rattle.records.specs.declared.Record.{Record}
use Rattle.records.specs.declared.Before.{Before}
use Rattle.records.specs.declared.Element.TheVariants.{Reading, Constant, All, Any, Inverse, Left, Right}
use Rattle.records.specs.Elements.{expr_records}
use Rattle.records.specs.Grammar.{paid, with_element}
use Rattle.records.specs.Planting.{Forest, operand, express, plant_as}
use Rattle.records.proofs.AllowedLaws.{Means, Allowed, owed_out, record_is}
use Rattle.records.proofs.ForestLaws.{Good}
use Rattle.records.proofs.PlantingLaws as planting
use Rattle.records.proofs.StepLaws.{Step}

both : {A : Type 0} {x y : A} {xs ys : List A} → x ≡ y → xs ≡ ys → x ∷ xs ≡ y ∷ ys
both p q = rw (p, q)

module _ (b : Before) (r : Record) (f : Forest) where
  express_step : (e : Expr) (n : ℕ) → 0 < b.owed → expr_records e ≡ r ∷ gathered expr_records (take n f.expressions) → ExprFits e
      → Good (paid b n) f → Step b r f (express e n f)
  unfolding Every
  express_step e n o h x g = (
    record {
      owed = omega (arith, length-drop n f.expressions, g.owed);
      expressions = (x, planting.every_drop n f.expressions g.expressions);
      register_instances = g.register_instances;
      registers = g.registers;
      captures = g.captures;
      rules = g.rules;
      children = g.children;
      node_instances = g.node_instances;
      nodes = g.nodes;
      roots = g.roots;
    },
    planting.express_ahead r f e n h,
  )

  pub reading_step : Means r.kind r.form Reading → Allowed Reading b r → Good (with_element b r Reading) f → Step b r f (plant_as Reading r f)
  unfolding expr_records gathered ExprFits
  reading_step m a g =
      let u = a.used in
      express_step (reading 0 r.id r.number) 0 (owed_out b a.follow)
      (both (record_is r m.0 m.1 (omega (arith, u.amount)) refl refl (omega (arith, u.value))) refl)
      (u.id, u.number) g

  pub constant_step : Means r.kind r.form Constant → Allowed Constant b r → Good (with_element b r Constant) f → Step b r f (plant_as Constant r f)
  unfolding expr_records gathered ExprFits
  constant_step m a g =
      let u = a.used in
      express_step (constant r.value) 0 (owed_out b a.follow)
      (both (record_is r m.0 m.1 (omega (arith, u.amount)) (omega (arith, u.number)) (omega (arith, u.id)) refl) refl)
      u.value g

  pub all_step : Means r.kind r.form All → Allowed All b r → Good (with_element b r All) f → Step b r f (plant_as All r f)
  unfolding expr_records ExprFits
  all_step m a g =
      let u = a.used in
      let n : ℕ = r.amount in
      let es = f.expressions in
      let l : length es ≡ b.owed - 1 + n = g.owed in
      let c : operand_count (gather (take n es)) ≡ n = planting.operand-count (take n es) ∙ length-take-le n es (omega arith) in
      express_step (all (gather (take n es))) n (owed_out b a.follow)
      (both (record_is r m.0 m.1 (sym c) (omega (arith, u.number)) (omega (arith, u.id)) (omega (arith, u.value)))
      (planting.operand_records (take n es)))
      (omega (arith, c, u.amount), planting.operands_fit (take n es) (planting.every_take n es g.expressions))
      g

  pub any_step : Means r.kind r.form Any → Allowed Any b r → Good (with_element b r Any) f → Step b r f (plant_as Any r f)
  unfolding expr_records ExprFits
  any_step m a g =
      let u = a.used in
      let n : ℕ = r.amount in
      let es = f.expressions in
      let l : length es ≡ b.owed - 1 + n = g.owed in
      let c : operand_count (gather (take n es)) ≡ n = planting.operand-count (take n es) ∙ length-take-le n es (omega arith) in
      express_step (any (gather (take n es))) n (owed_out b a.follow)
      (both (record_is r m.0 m.1 (sym c) (omega (arith, u.number)) (omega (arith, u.id)) (omega (arith, u.value)))
      (planting.operand_records (take n es)))
      (omega (arith, c, u.amount), planting.operands_fit (take n es) (planting.every_take n es g.expressions))
      g

  -- There is an operand where one is owed.
  some : length f.expressions ≡ b.owed - 1 + 1 → 0 < length f.expressions
  some e = omega arith

  pub inverse_step : Means r.kind r.form Inverse → Allowed Inverse b r → Good (with_element b r Inverse) f → Step b r f (plant_as Inverse r f)
  unfolding expr_records ExprFits
  inverse_step m a g =
      let u = a.used in
      let es = f.expressions in
      express_step (inverse (operand es)) 1 (owed_out b a.follow)
      (both
      (record_is r m.0 m.1 (omega (arith, u.amount)) (omega (arith, u.number)) (omega (arith, u.id)) (omega (arith, u.value)))
      (planting.operand_alone es (some g.owed)))
      (planting.operand_fits es (some g.owed) g.expressions) g

  pub left_step : Means r.kind r.form Left → Allowed Left b r → Good (with_element b r Left) f → Step b r f (plant_as Left r f)
  unfolding expr_records ExprFits
  left_step m a g =
      let u = a.used in
      let es = f.expressions in
      express_step (left r.amount (operand es)) 1 (owed_out b a.follow)
      (both (record_is r m.0 m.1 refl (omega (arith, u.number)) (omega (arith, u.id)) (omega (arith, u.value)))
      (planting.operand_alone es (some g.owed)))
      (u.amount, planting.operand_fits es (some g.owed) g.expressions)
      g

  pub right_step : Means r.kind r.form Right → Allowed Right b r → Good (with_element b r Right) f → Step b r f (plant_as Right r f)
  unfolding expr_records ExprFits
  right_step m a g =
      let u = a.used in
      let es = f.expressions in
      express_step (right r.amount (operand es)) 1 (owed_out b a.follow)
      (both (record_is r m.0 m.1 refl (omega (arith, u.number)) (omega (arith, u.id)) (omega (arith, u.value)))
      (planting.operand_alone es (some g.owed)))
      (u.amount, planting.operand_fits es (some g.owed) g.expressions)
      g
