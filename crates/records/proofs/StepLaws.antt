-- One record more in front of a forest, no expression: what holds of the forest still holds, and its records are that one and those it had.
use Prim.Native.Nat.{ℕ, suc, ◌^◌, ◌<◌}
use mathlib.Core.List.{[], ◌∷◌}
use mathlib.Core.Path.{◌≡◌, refl}
use native.Mathlib.Omega.{arith}
use lib.ListN.{length, length-drop}
use Rattle.records.specs.declared.Record.{Record}
use Rattle.records.specs.declared.Before.{Before}
use Rattle.records.specs.declared.Element.TheVariants.{Register, RegisterInstance, Node, NodeInstance, Capture, Rule, Child, Root}
use Rattle.records.specs.Grammar.{with_element}
use Rattle.records.specs.Planting.{Forest, operand, plant_as}
use Rattle.records.proofs.AllowedLaws.{Allowed, After, after_out, more_out, record_is}
use Rattle.records.proofs.ForestLaws.{forest_elements, nobody, still, gone, ahead, Good}
use Rattle.records.proofs.PlantingLaws as planting

module _ (b : Before) (r : Record) (f : Forest) where
  abbrev pub Step : Forest → Type 0
  Step g = Good b g × (forest_elements g ≡ r ∷ forest_elements f)

  no_expressions : (least most : ℕ) → After least most b → length f.expressions ≡ b.owed → f.expressions ≡ []
  no_expressions least most s e = planting.length_none f.expressions (omega arith)

  pub register_step : r.kind ≡ 1 → Allowed Register b r → Good (with_element b r Register) f → Step (plant_as Register r f)
  register_step k a g =
      let s : After 0 2 b = after_out 0 2 b a.follow in
      let c : suc b.registers < 256 ^ 3 = more_out 3 _ a.count in
      let u = a.used in (
        record {
          owed = g.owed;
          expressions = g.expressions;
          register_instances = nobody;
          registers = ahead
              (record {
                id = u.id;
                type = u.form;
                flags = u.amount;
                count = omega (arith, g.register_instances.count);
                each = g.register_instances.each;
              })
              g.registers (omega arith) s.low s.high;
          captures = gone g.captures refl;
          rules = gone g.rules refl;
          children = gone g.children refl;
          node_instances = gone g.node_instances refl;
          nodes = still g.nodes (omega arith) (omega (arith, s.high));
          roots = still g.roots (omega arith) (omega (arith, s.high));
        },
        planting.register_ahead r f (no_expressions 0 2 s g.owed) (record_is r k refl refl (omega (arith, u.number)) refl (omega (arith, u.value))),
      )

  pub instance_step : r.kind ≡ 2 → Allowed RegisterInstance b r → Good (with_element b r RegisterInstance) f → Step (plant_as RegisterInstance r f)
  instance_step k a g =
      let s : After 1 2 b = after_out 1 2 b a.follow in
      let c : suc b.register_instances < 256 ^ 1 = more_out 1 _ a.count in
      let u = a.used in (
        record {
          owed = g.owed;
          expressions = g.expressions;
          register_instances = ahead (record { number = u.number; address = u.value }) g.register_instances (omega arith) s.low s.high;
          registers = still g.registers (omega arith) s.high;
          captures = gone g.captures refl;
          rules = gone g.rules refl;
          children = gone g.children refl;
          node_instances = gone g.node_instances refl;
          nodes = still g.nodes (omega arith) (omega (arith, s.high));
          roots = still g.roots (omega arith) (omega (arith, s.high));
        },
        planting.instance_ahead r f (no_expressions 1 2 s g.owed)
            (record_is r k (omega (arith, u.form)) (omega (arith, u.amount)) refl (omega (arith, u.id)) refl),
      )

  pub node_step : r.kind ≡ 3 → Allowed Node b r → Good (with_element b r Node) f → Step (plant_as Node r f)
  node_step k a g =
      let s : After 0 8 b = after_out 0 8 b a.follow in
      let c : suc b.nodes < 256 ^ 2 = more_out 2 _ a.count in
      let u = a.used in (
        record {
          owed = g.owed;
          expressions = g.expressions;
          register_instances = gone g.register_instances refl;
          registers = gone g.registers refl;
          captures = gone g.captures refl;
          rules = gone g.rules refl;
          children = gone g.children refl;
          node_instances = nobody;
          nodes = ahead
              (record { id = u.id; type = u.form; count = omega (arith, g.node_instances.count); each = g.node_instances.each })
              g.nodes (omega arith) s.low s.high;
          roots = still g.roots (omega arith) (omega (arith, s.high));
        },
        planting.node_ahead r f (no_expressions 0 8 s g.owed) (g.register_instances.range refl) (g.registers.range refl) (g.captures.range refl)
            (g.rules.range refl) (g.children.range refl)
            (record_is r k refl (omega (arith, u.amount)) (omega (arith, u.number)) refl (omega (arith, u.value))),
      )

  pub node_instance_step : r.kind ≡ 4 → Allowed NodeInstance b r → Good (with_element b r NodeInstance) f → Step (plant_as NodeInstance r f)
  node_instance_step k a g =
      let s : After 3 8 b = after_out 3 8 b a.follow in
      let c : suc b.node_instances < 256 ^ 1 = more_out 1 _ a.count in
      let u = a.used in (
        record {
          owed = g.owed;
          expressions = g.expressions;
          register_instances = gone g.register_instances refl;
          registers = gone g.registers refl;
          captures = nobody;
          rules = nobody;
          children = nobody;
          node_instances = ahead
              (record {
                number = u.number;
                capture_count = omega (arith, g.captures.count);
                rule_count = omega (arith, g.rules.count);
                child_count = omega (arith, g.children.count);
                captures = g.captures.each;
                rules = g.rules.each;
                children = g.children.each;
              })
              g.node_instances (omega arith) s.low s.high;
          nodes = still g.nodes (omega arith) s.high;
          roots = still g.roots (omega arith) (omega (arith, s.high));
        },
        planting.node_instance_ahead r f (no_expressions 3 8 s g.owed) (g.register_instances.range refl) (g.registers.range refl)
            (record_is r k (omega (arith, u.form)) (omega (arith, u.amount)) refl (omega (arith, u.id)) (omega (arith, u.value))),
      )

  pub capture_step : r.kind ≡ 5 → Allowed Capture b r → Good (with_element b r Capture) f → Step (plant_as Capture r f)
  capture_step k a g =
      let s : After 4 5 b = after_out 4 5 b a.follow in
      let c : suc b.captures < 256 ^ 1 = more_out 1 _ a.count in
      let u = a.used in (
        record {
          owed = g.owed;
          expressions = g.expressions;
          register_instances = gone g.register_instances refl;
          registers = gone g.registers refl;
          captures = ahead (record { id = u.id; number = u.number }) g.captures (omega arith) s.low s.high;
          rules = still g.rules s.low (omega (arith, s.high));
          children = still g.children s.low (omega (arith, s.high));
          node_instances = still g.node_instances (omega (arith, s.low)) (omega (arith, s.high));
          nodes = still g.nodes (omega arith) (omega (arith, s.high));
          roots = still g.roots (omega arith) (omega (arith, s.high));
        },
        planting.capture_ahead r f (no_expressions 4 5 s g.owed) (g.register_instances.range refl) (g.registers.range refl)
            (record_is r k (omega (arith, u.form)) (omega (arith, u.amount)) refl refl (omega (arith, u.value))),
      )

  pub rule_step : r.kind ≡ 6 → Allowed Rule b r → Good (with_element b r Rule) f → Step (plant_as Rule r f)
  rule_step k a g =
      let s : After 4 6 b = after_out 4 6 b a.follow in
      let c : suc b.rules < 256 ^ 1 = more_out 1 _ a.count in
      let one : length f.expressions ≡ 1 = g.owed in
      let u = a.used in (
        record {
          owed = omega (arith, length-drop 1 f.expressions, s.none);
          expressions = planting.every_drop 1 f.expressions g.expressions;
          register_instances = gone g.register_instances refl;
          registers = gone g.registers refl;
          captures = gone g.captures refl;
          rules = ahead
              (record { attention = u.form; expression = planting.operand_fits f.expressions (omega arith) g.expressions })
              g.rules (omega arith) s.low s.high;
          children = still g.children s.low (omega (arith, s.high));
          node_instances = still g.node_instances (omega (arith, s.low)) (omega (arith, s.high));
          nodes = still g.nodes (omega arith) (omega (arith, s.high));
          roots = still g.roots (omega arith) (omega (arith, s.high));
        },
        planting.rule_ahead r f (operand f.expressions) (planting.length_one f.expressions one) (g.register_instances.range refl)
            (g.registers.range refl) (g.captures.range refl)
            (record_is r k refl (omega (arith, u.amount)) (omega (arith, u.number)) (omega (arith, u.id)) (omega (arith, u.value))),
      )

  pub child_step : r.kind ≡ 8 → Allowed Child b r → Good (with_element b r Child) f → Step (plant_as Child r f)
  child_step k a g =
      let s : After 4 8 b = after_out 4 8 b a.follow in
      let c : suc b.children < 256 ^ 1 = more_out 1 _ a.count in
      let u = a.used in (
        record {
          owed = g.owed;
          expressions = g.expressions;
          register_instances = gone g.register_instances refl;
          registers = gone g.registers refl;
          captures = gone g.captures refl;
          rules = gone g.rules refl;
          children = ahead (record { bit = u.amount; id = u.id; number = u.number }) g.children (omega arith) s.low s.high;
          node_instances = still g.node_instances (omega (arith, s.low)) s.high;
          nodes = still g.nodes (omega arith) s.high;
          roots = still g.roots (omega arith) (omega (arith, s.high));
        },
        planting.child_ahead r f (no_expressions 4 8 s g.owed) (g.register_instances.range refl) (g.registers.range refl)
            (g.captures.range refl) (g.rules.range refl) (record_is r k (omega (arith, u.form)) refl refl refl (omega (arith, u.value))),
      )

  pub root_step : r.kind ≡ 9 → Allowed Root b r → Good (with_element b r Root) f → Step (plant_as Root r f)
  root_step k a g =
      let s : After 0 9 b = after_out 0 9 b a.follow in
      let c : suc b.roots < 256 ^ 1 = more_out 1 _ a.count in
      let u = a.used in (
        record {
          owed = g.owed;
          expressions = g.expressions;
          register_instances = gone g.register_instances refl;
          registers = gone g.registers refl;
          captures = gone g.captures refl;
          rules = gone g.rules refl;
          children = gone g.children refl;
          node_instances = gone g.node_instances refl;
          nodes = gone g.nodes refl;
          roots = ahead (record { attention = u.form; id = u.id; number = u.number }) g.roots (omega arith) s.low s.high;
        },
        planting.root_ahead r f (no_expressions 0 9 s g.owed) (g.register_instances.range refl) (g.registers.range refl) (g.captures.range refl)
            (g.rules.range refl) (g.children.range refl) (g.node_instances.range refl) (g.nodes.range refl)
            (record_is r k refl (omega (arith, u.amount)) refl refl (omega (arith, u.value))),
      )
