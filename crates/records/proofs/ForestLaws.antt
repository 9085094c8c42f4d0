-- What holds of the forest of some records, by what stands before them.
use Prim.Native.Nat.{ℕ, suc, ◌-◌, ◌≤◌, ◌<◌}
use mathlib.Core.Bool.{Bool, true, false, ◌&&◌}
use mathlib.Core.List.{List, [], ◌∷◌, ◌++◌, map}
use mathlib.Core.Path.{◌≡◌, refl}
use native.Mathlib.Omega.{arith}
use lib.Dec.{leb}
use lib.ListN.{length}
use borrow.Author.Tests.{le-leb}
use Rattle.numbers.proofs.Bools.{clash, and_both}
use Rattle.format.specs.Lookup.{gathered}
use Rattle.format.specs.Rules.{Every, ExprFits}
use Rattle.records.specs.declared.Record.{Record}
use Rattle.records.specs.declared.Before.{Before}
use Rattle.records.specs.Elements.{expr_records, register_instance_record, register_records, rule_records, capture_record, child_record, node_instance_records, node_records, root_record}
use Rattle.records.specs.Planting.{Forest, bare}
use Rattle.records.proofs.ElementFits.{InstanceFits, RegisterFits, CaptureFits, RuleFits, ChildFits, NodeInstanceFits, NodeFits, RootFits}

-- The records of a forest behind those of its node instances, rules, registers and expressions.
abbrev pub behind_instances : Forest → List Record
behind_instances f = gathered node_records f.nodes ++ map root_record f.roots

abbrev pub behind_rules : Forest → List Record
behind_rules f = map child_record f.children ++ (gathered node_instance_records f.node_instances ++ behind_instances f)

abbrev pub behind_registers : Forest → List Record
behind_registers f = map capture_record f.captures ++ (gathered rule_records f.rules ++ behind_rules f)

abbrev pub behind_expressions : Forest → List Record
behind_expressions f =
    map register_instance_record f.register_instances ++ (gathered register_records f.registers ++ behind_registers f)

-- The records of a forest, in their order. Expressions come first: where one is owed nothing else may follow.
unfoldable pub forest_elements : Forest → List Record
forest_elements f = gathered expr_records f.expressions ++ behind_expressions f

abbrev pub among : ℕ → ℕ → ℕ → Bool
among least most last = leb least last && leb last most

pub among_yes : (least most last : ℕ) → least ≤ last → last ≤ most → among least most last ≡ true
among_yes least most last h k = and_both (le-leb _ _ h) (le-leb _ _ k)

-- Elements that may still belong to a parent before them: there are none unless the last kind is one of these; there is room for them; and each fits.
pub record Open {A : Type 0} (P : A → Type 0) (least most room last : ℕ) (xs : List A) : Type 0 where
  pub range : among least most last ≡ false → xs ≡ []
  pub count : length xs ≤ room
  pub each : Every P xs

module _ {A : Type 0} {P : A → Type 0} {least most room : ℕ} where
  pub nobody : {last : ℕ} → Open P least most room last []
  unfolding Every
  nobody = record { range = λ e. refl; count = omega arith; each = tt }

  -- The same elements with another last kind before them: one of these, or none where they are none already.
  pub still : {last other : ℕ} {xs : List A} → Open P least most room other xs → least ≤ last → last ≤ most → Open P least most room last xs
  still {last} o h k =
      record { range = λ e. clash (among_yes least most last h k) e; count = o.count; each = o.each }

  pub gone : {last other : ℕ} {xs : List A} → Open P least most room other xs → among least most other ≡ false → Open P least most room last xs
  gone o e = record { range = λ z. o.range e; count = o.count; each = o.each }

-- One element more, in front.
pub ahead : {A : Type 0} {P : A → Type 0} {least most full n last other : ℕ} {x : A} {xs : List A} → P x → Open P least most (full - suc n) other xs
    → n < full → least ≤ last → last ≤ most → Open P least most (full - n) last (x ∷ xs)
unfolding Every
ahead {least = least} {most = most} {last = last} p o r h k =
    record { range = λ e. clash (among_yes least most last h k) e; count = omega (arith, o.count); each = (p, o.each) }

-- What holds of the forest of the records behind some others.
pub record Good (b : Before) (f : Forest) : Type 0 where
  pub owed : length f.expressions ≡ b.owed
  pub expressions : Every ExprFits f.expressions
  pub register_instances : Open (InstanceFits b.form) 1 2 (255 - b.register_instances) b.last f.register_instances
  pub registers : Open RegisterFits 0 2 (16777215 - b.registers) b.last f.registers
  pub captures : Open CaptureFits 4 5 (255 - b.captures) b.last f.captures
  pub rules : Open RuleFits 4 6 (255 - b.rules) b.last f.rules
  pub children : Open ChildFits 4 8 (255 - b.children) b.last f.children
  pub node_instances : Open NodeInstanceFits 3 8 (255 - b.node_instances) b.last f.node_instances
  pub nodes : Open NodeFits 0 8 (65535 - b.nodes) b.last f.nodes
  pub roots : Open RootFits 0 9 (255 - b.roots) b.last f.roots

pub good_none : (b : Before) → b.owed ≡ 0 → Good b bare
unfolding Every
good_none b e =
    record {
      owed = omega arith;
      expressions = tt;
      register_instances = nobody;
      registers = nobody;
      captures = nobody;
      rules = nobody;
      children = nobody;
      node_instances = nobody;
      nodes = nobody;
      roots = nobody;
    }
