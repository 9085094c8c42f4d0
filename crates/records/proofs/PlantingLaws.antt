-- The records of a forest with one record more in front.
use Prim.Native.Nat.{ℕ, zero, suc, ◌<◌}
use mathlib.Core.List.{List, [], ◌∷◌, ◌++◌, map, append_assoc, append-nil}
use mathlib.Core.Path.{◌≡◌, refl, sym, ◌∙◌, ap}
use native.Mathlib.Omega.{arith}
use lib.ListN.{length, take, drop, take-append-drop}
use Rattle.format.specs.Lookup.{gathered}
use Rattle.format.specs.Encoding.{operand_count}
use Rattle.format.specs.Rules.{Every, ExprFits, ExprsFit}
use Rattle.format.specs.Tree.{Expr, gather}
use Rattle.format.proofs.GatheredLaws.{gathered-append}
use Rattle.records.specs.declared.Record.{Record}
use Rattle.records.specs.declared.Element.TheVariants as element
use Rattle.records.specs.Elements.{record_of, expr_records, exprs_records, register_instance_record, register_records, rule_records, capture_record, child_record, node_instance_records, node_records, root_record}
use Rattle.records.specs.Planting.{Forest, operand, express, plant_as}
use Rattle.records.proofs.ForestLaws.{forest_elements, behind_instances, behind_rules, behind_registers, behind_expressions}

-- Operands as a list.

pub operand-count : (es : List Expr) → operand_count (gather es) ≡ length es
unfolding operand_count gather
operand-count [] = refl
operand-count (e ∷ es) = ap suc (operand-count es)

pub operand_records : (es : List Expr) → exprs_records (gather es) ≡ gathered expr_records es
unfolding exprs_records gather gathered
operand_records [] = refl
operand_records (e ∷ es) = ap (λ rs. expr_records e ++ rs) (operand_records es)

pub operands_fit : (es : List Expr) → Every ExprFits es → ExprsFit (gather es)
unfolding ExprsFit gather Every
operands_fit [] h = tt
operands_fit (e ∷ es) h = (h.0, operands_fit es h.1)

pub every_take : (n : ℕ) (es : List Expr) → Every ExprFits es → Every ExprFits (take n es)
unfolding Every
every_take zero es h = tt
every_take (suc n) [] h = tt
every_take (suc n) (e ∷ es) h = (h.0, every_take n es h.1)

pub every_drop : (n : ℕ) (es : List Expr) → Every ExprFits es → Every ExprFits (drop n es)
unfolding Every
every_drop zero es h = h
every_drop (suc n) [] h = tt
every_drop (suc n) (e ∷ es) h = every_drop n es h.1

-- The first of some expressions.
pub operand_fits : (es : List Expr) → 0 < length es → Every ExprFits es → ExprFits (operand es)
unfolding Every
operand_fits [] h k = absurd (omega arith)
operand_fits (e ∷ es) h k = k.0

pub operand_alone : (es : List Expr) → 0 < length es → expr_records (operand es) ≡ gathered expr_records (take 1 es)
unfolding gathered
operand_alone [] h = absurd (omega arith)
operand_alone (e ∷ es) h = sym (append-nil (expr_records e))

pub length_none : {A : Type 0} (xs : List A) → length xs ≡ 0 → xs ≡ []
length_none [] e = refl
length_none (x ∷ xs) e = absurd (omega arith)

pub length_one : (es : List Expr) → length es ≡ 1 → es ≡ operand es ∷ []
length_one [] e = absurd (omega arith)
length_one (x ∷ es) e = let h : length es ≡ 0 = omega arith in ap (λ l. x ∷ l) (length_none es h)

regroup : {A : Type 0} (a b c d e : List A) → ((a ++ (b ++ c)) ++ d) ++ e ≡ a ++ (b ++ (c ++ (d ++ e)))
regroup a b c d e = simp append_assoc

-- Each record stands in front of what was there, where the lists before its own are empty.
module _ (r : Record) (f : Forest) where
  pub register_ahead : f.expressions ≡ [] → record_of 1 r.form r.amount 0 r.id 0 ≡ r
      → forest_elements (plant_as element.Register r f) ≡ r ∷ forest_elements f
  unfolding forest_elements gathered register_records
  register_ahead e is = rw (e, is) (ap (λ l. r ∷ l)
      (append_assoc (map register_instance_record f.register_instances) (gathered register_records f.registers) (behind_registers f)))

  pub instance_ahead : f.expressions ≡ [] → record_of 2 0 0 r.number 0 r.value ≡ r
      → forest_elements (plant_as element.RegisterInstance r f) ≡ r ∷ forest_elements f
  unfolding forest_elements gathered register_instance_record
  instance_ahead e is = rw (e, is)

  pub node_ahead : f.expressions ≡ [] → f.register_instances ≡ [] → f.registers ≡ [] → f.captures ≡ [] → f.rules ≡ [] → f.children ≡ []
      → record_of 3 r.form 0 0 r.id 0 ≡ r → forest_elements (plant_as element.Node r f) ≡ r ∷ forest_elements f
  unfolding forest_elements gathered node_records
  node_ahead e i g c u k is = rw (e, i, g, c, u, k, is) (ap (λ l. r ∷ l)
      (append_assoc (gathered node_instance_records f.node_instances) (gathered node_records f.nodes) (map root_record f.roots)))

  pub node_instance_ahead : f.expressions ≡ [] → f.register_instances ≡ [] → f.registers ≡ [] → record_of 4 0 0 r.number 0 0 ≡ r
      → forest_elements (plant_as element.NodeInstance r f) ≡ r ∷ forest_elements f
  unfolding forest_elements gathered node_instance_records
  node_instance_ahead e i g is = rw (e, i, g, is) (ap (λ l. r ∷ l)
      (regroup (map capture_record f.captures) (gathered rule_records f.rules) (map child_record f.children)
      (gathered node_instance_records f.node_instances) (behind_instances f)))

  pub capture_ahead : f.expressions ≡ [] → f.register_instances ≡ [] → f.registers ≡ [] → record_of 5 0 0 r.number r.id 0 ≡ r
      → forest_elements (plant_as element.Capture r f) ≡ r ∷ forest_elements f
  unfolding forest_elements gathered capture_record
  capture_ahead e i g is = rw (e, i, g, is)

  pub child_ahead : f.expressions ≡ [] → f.register_instances ≡ [] → f.registers ≡ [] → f.captures ≡ [] → f.rules ≡ []
      → record_of 8 0 r.amount r.number r.id 0 ≡ r → forest_elements (plant_as element.Child r f) ≡ r ∷ forest_elements f
  unfolding forest_elements gathered child_record
  child_ahead e i g c u is = rw (e, i, g, c, u, is)

  pub root_ahead : f.expressions ≡ [] → f.register_instances ≡ [] → f.registers ≡ [] → f.captures ≡ [] → f.rules ≡ [] → f.children ≡ []
      → f.node_instances ≡ [] → f.nodes ≡ [] → record_of 9 r.form 0 r.number r.id 0 ≡ r
      → forest_elements (plant_as element.Root r f) ≡ r ∷ forest_elements f
  unfolding forest_elements gathered root_record
  root_ahead e i g c u k ni n is = rw (e, i, g, c, u, k, ni, n, is)

  pub rule_ahead : (e : Expr) → f.expressions ≡ e ∷ [] → f.register_instances ≡ [] → f.registers ≡ [] → f.captures ≡ []
      → record_of 6 r.form 0 0 0 0 ≡ r → forest_elements (plant_as element.Rule r f) ≡ r ∷ forest_elements f
  unfolding forest_elements gathered rule_records
  rule_ahead x e i g c is = rw (e, i, g, c, is, append-nil) (ap (λ l. r ∷ l)
      (append_assoc (expr_records x) (gathered rule_records f.rules) (behind_rules f)))

  pub express_ahead : (e : Expr) (n : ℕ) → expr_records e ≡ r ∷ gathered expr_records (take n f.expressions)
      → forest_elements (express e n f) ≡ r ∷ forest_elements f
  unfolding forest_elements gathered
  express_ahead e n h =
      let es = f.expressions in
      let w : expr_records e ++ gathered expr_records (drop n es) ≡ r ∷ gathered expr_records es =
      ap (λ l. l ++ gathered expr_records (drop n es)) h
      ∙ ap (λ l. r ∷ l) (sym (gathered-append expr_records (take n es) (drop n es)) ∙ ap (gathered expr_records) (take-append-drop n es)) in
      ap (λ l. l ++ behind_expressions f) w

-- Where nothing waits for a parent, the elements of a tree are those of its registers, nodes and roots.
pub parents_alone : (f : Forest) → f.expressions ≡ [] → f.register_instances ≡ [] → f.captures ≡ [] → f.rules ≡ [] → f.children ≡ []
    → f.node_instances ≡ []
    → forest_elements f ≡ gathered register_records f.registers ++ (gathered node_records f.nodes ++ map root_record f.roots)
unfolding forest_elements gathered
parents_alone f e i c u k n = rw (e, i, c, u, k, n)
