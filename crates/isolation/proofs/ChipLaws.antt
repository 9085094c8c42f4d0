-- The graph of a chip whose names are present: its bits, its children and its roots.
use Prim.Native.Nat.{ℕ, ◌<◌}
use mathlib.Core.Bool.{true}
use mathlib.Core.List.{List}
use mathlib.Core.Logic.{⊎_elim}
use mathlib.Core.Option.{none}
use mathlib.Core.Option as option
use mathlib.Core.Path.{◌≡◌, sym, ◌∙◌, ap}
use native.Mathlib.Omega.{arith}
use lib.ListN.{length}
use Rattle.numbers.specs.Bits.{bit_of}
use Rattle.numbers.proofs.BitsLaws.{bit_out}
use Rattle.numbers.proofs.Bools.{clash, and_right}
use Rattle.graph.specs.Chains.{Sound}
use Rattle.format.specs.Lookup.{node_entries}
use Rattle.format.specs.Meaning.{value_within}
use Rattle.format.specs.Rules.{all_children, NamesPresent}
use Rattle.format.specs.Tree.{Rule, Chip}
use Rattle.format.proofs.EveryLaws.{every-gathered_out}
use Rattle.format.proofs.FaultsLaws.{some_none, at_none, below?}
use Rattle.format.proofs.PositionsLaws.{every_at, at_inside, position_at}
use Rattle.isolation.specs.Readings.{word_for}
use Rattle.format.specs.Finding.{child_for}
use Rattle.limits.specs.Limits.{levels}
use Rattle.format.proofs.FindingLaws.{child_inside}
use Rattle.isolation.specs.ChipGraph.{rule_unread, is_none, rule_active, entry_active, entry_child, chip_graph}

-- The graph

module _ (c : Chip) where
  rule-bit : (words read : List ℕ) (b : ℕ) (r : Rule) → rule_active c words read b r ≡ true → b < 64
  unfolding rule_active
  rule-bit words read b r e =
      let v = value_within levels 64 (word_for c words) r.expression in
      ⊎_elim (λ h. h) (λ h. clash (and_right (is_none (rule_unread c read r)) (bit_of 64 v b) e) (bit_out 64 v b h)) (below? b 64)

  module _ (present : NamesPresent c) where
    -- Active bits are bits 0 to 63 of the chip's node instances, and so is every child one of them.
    pub chip_sound : (attention : ℕ) (words read : List ℕ) → Sound (chip_graph c attention words read)
    unfolding chip_graph entry_active entry_child child_for all_children
    chip_sound attention words read =
        record {
          instances = λ i b e. ⊎_elim (λ h. h) (λ h. clash e (some_none _ (at_none i (node_entries c) h))) (below? i (length (node_entries c)));
          bits = λ i b e. let x = position_at _ _ e in let r = position_at _ _ x.2 in rule-bit words read b r.0 r.2;
          children = λ i b j e. ⊎_elim
              (λ h. let x = at_inside i (node_entries c) h in
              child_inside c b x.0.instance.children (every_at _ i (node_entries c) (every-gathered_out _ _ (node_entries c) present.children) x.1)
              (sym (ap (entry_child c b) x.1) ∙ e))
              (λ h. let w : none ≡ option.some j = sym (ap (entry_child c b) (at_none i (node_entries c) h)) ∙ e in
              let z : ◌≡◌ {A = ℕ} 0 1 = cc in
              absurd (omega arith))
              (below? i (length (node_entries c)));
        }
