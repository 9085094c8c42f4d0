-- What the grammar takes are the records of a tree: of the tree that is planted from them, which fits.
use Prim.Native.Nat.{ℕ, ◌+◌, ◌^◌, ◌<◌}
use mathlib.Core.List.{List, [], ◌∷◌}
use mathlib.Core.Path.{◌≡◌, refl, sym, ◌∙◌, ap}
use native.Mathlib.Omega.{arith}
use Rattle.numbers.specs.BigEndian.{Bytes}
use Rattle.numbers.proofs.Bools.{clash}
use Rattle.format.specs.Parsed.{done}
use Rattle.format.specs.Lookup.{gathered}
use Rattle.format.proofs.ParsedLaws.{require_out}
use Rattle.records.specs.declared.Record.{Record}
use Rattle.records.specs.declared.Before.{Before}
use Rattle.records.specs.declared.Element.{Element}
use Rattle.records.specs.declared.Element.TheVariants as element
use Rattle.records.specs.Record.{record_bytes, records_in}
use Rattle.records.specs.Elements.{elements, records}
use Rattle.records.specs.Grammar.{element_of, allowed, with_element, nothing, taken, judge, grammar}
use Rattle.records.specs.Planting.{Forest, plant_as, plant, tree_of}
use Rattle.records.specs.Fits.{Fits}
use Rattle.records.proofs.AgainLaws.{grammar_out, records_again}
use Rattle.records.proofs.AllowedLaws.{Means, element_means, Allowed, allowed_out}
use Rattle.records.proofs.ForestLaws.{forest_elements, Good, good_none}
use Rattle.records.proofs.PlantingLaws.{length_none, parents_alone}
use Rattle.records.proofs.FittingLaws.{chip_fits}
use Rattle.records.proofs.StepLaws as step
use Rattle.records.proofs.ExpressionLaws as expression

-- Every record that is allowed.
stepped : (b : Before) (r : Record) (f : Forest) (e : Element) → Means r.kind r.form e → Allowed e b r → Good (with_element b r e) f
    → step.Step b r f (plant_as e r f)
stepped b r f element.Register m a g = step.register_step b r f m a g
stepped b r f element.RegisterInstance m a g = step.instance_step b r f m a g
stepped b r f element.Node m a g = step.node_step b r f m a g
stepped b r f element.NodeInstance m a g = step.node_instance_step b r f m a g
stepped b r f element.Capture m a g = step.capture_step b r f m a g
stepped b r f element.Rule m a g = step.rule_step b r f m a g
stepped b r f element.Reading m a g = expression.reading_step b r f m a g
stepped b r f element.Constant m a g = expression.constant_step b r f m a g
stepped b r f element.All m a g = expression.all_step b r f m a g
stepped b r f element.Any m a g = expression.any_step b r f m a g
stepped b r f element.Inverse m a g = expression.inverse_step b r f m a g
stepped b r f element.Left m a g = expression.left_step b r f m a g
stepped b r f element.Right m a g = expression.right_step b r f m a g
stepped b r f element.Child m a g = step.child_step b r f m a g
stepped b r f element.Root m a g = step.root_step b r f m a g
stepped b r f element.Unknown m a g = clash a.follow refl

-- The records behind some others, from the last to the first.
planted : (rs : List Record) (b : Before) (at : ℕ) {c : Before} {end : ℕ} → judge b at rs ≡ done c end → c.owed ≡ 0
    → Good b (plant rs) × (forest_elements (plant rs) ≡ rs)
unfolding judge allowed taken plant forest_elements gathered
planted [] b at {c} {end} e o =
    let d : done b at ≡ done c end = e in
    let w : b ≡ c = cc in
    (good_none b (ap (λ x. x.owed) w ∙ o), refl)
planted (r ∷ rs) b at e o =
    let q = require_out _ _ _ _ e in
    let h = planted rs (taken b r) (at + 16) q.1 o in
    let s = stepped b r (plant rs) (element_of r.kind r.form) (element_means r.kind r.form) (allowed_out _ b r q.0) h.0 in
    (s.0, s.1 ∙ ap (λ l. r ∷ l) h.1)

-- Where the grammar takes some records, they are the elements of their tree, and it fits.
pub grammar_sound : (model : ℕ) → model < 256 ^ 4 → (rs : List Record) {b : Before} {at : ℕ} → judge nothing 0 rs ≡ done b at → b.owed ≡ 0
    → (elements (tree_of model rs) ≡ rs) × Fits (tree_of model rs)
unfolding tree_of elements
grammar_sound model m rs e o =
    let p = planted rs nothing 0 e o in
    let g = p.0 in
    let f = plant rs in (
      sym (parents_alone f (length_none _ g.owed) (g.register_instances.range refl) (g.captures.range refl) (g.rules.range refl)
          (g.children.range refl) (g.node_instances.range refl))
          ∙ p.1,
      chip_fits _ (record {
        model = m;
        register_count = omega (arith, g.registers.count);
        registers = g.registers.each;
        node_count = omega (arith, g.nodes.count);
        nodes = g.nodes.each;
        root_count = omega (arith, g.roots.count);
        roots = g.roots.each;
      }),
    )

-- Where the grammar takes some bytes, they are the records of their tree, and it fits.
pub grammar_records : (model : ℕ) → model < 256 ^ 4 → (s : List ℕ) → Bytes s → {b : Before} {at : ℕ} → grammar s ≡ done b at
    → (records (tree_of model (records_in s)) ≡ s) × Fits (tree_of model (records_in s))
unfolding records
grammar_records model m s bytes e =
    let j = grammar_out s e in
    let g = grammar_sound model m (records_in s) j.judged j.paid in
    (ap (gathered record_bytes) g.0 ∙ records_again s bytes e, g.1)
