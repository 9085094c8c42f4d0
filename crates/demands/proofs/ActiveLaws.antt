-- The graph of an accepted chip has the active bits and the children that the words name.
use Prim.Native.Nat.{ℕ}
use mathlib.Core.Bool.{true}
use mathlib.Core.List.{List, [], ◌∷◌}
use mathlib.Core.Logic.{◌↔◌, ⊎_elim}
use mathlib.Core.Option.{none}
use mathlib.Core.Option as option
use mathlib.Core.Path.{◌≡◌, refl, sym, ◌∙◌, ap}
use native.Mathlib.Omega.{arith}
use lib.Dec.{eqb}
use lib.ListN.{length}
use borrow.Author.Tests.{eqb-true}
use Rattle.numbers.specs.Bits.{bit_of}
use Rattle.numbers.proofs.Bools.{either, clash, and_left, and_right, and_both}
use Rattle.format.specs.Finding.{child_for, child_position}
use Rattle.limits.specs.Limits.{levels}
use Rattle.format.specs.Lookup.{some, at, NodeEntry, node_entries, node_position}
use Rattle.format.specs.Meaning.{value_within}
use Rattle.format.specs.References.{Fault}
use Rattle.format.specs.Rules.{NamesUnique}
use Rattle.format.specs.Tree.{Rule, Chip}
use Rattle.format.proofs.FaultsLaws.{at_none, below?, some_none}
use Rattle.format.proofs.PositionsLaws.{every_at, at_inside, some_one}
use Rattle.isolation.specs.ChipGraph.{rule_unread, is_none, rule_active, entry_active, entry_child, chip_graph}
use Rattle.isolation.specs.Readings.{word_for}
use Rattle.format.proofs.FindingLaws.{first_none, first_some, first_key}
use Rattle.demands.specs.Active.{ActiveBit, ChildOf}
use Rattle.demands.proofs.RowsLaws.{in_at, at_in}
use Rattle.demands.proofs.ReachedLaws.{rule_cases, rule_wanted, rule_valued, valued_rule}

none_out : (fs : List Fault) → is_none fs ≡ true → fs ≡ []
none_out [] e = refl
none_out (f ∷ fs) e = clash e refl

pub never : {A : Type 0} {j : ℕ} → none ≡ option.some j → A
never e = let z : ◌≡◌ {A = ℕ} 0 1 = cc in absurd (omega arith)

module _ (c : Chip) (words read : List ℕ) (b : ℕ) (r : Rule) where
  abbrev value : ℕ
  value = value_within levels 64 (word_for c words) r.expression

  rule_out : rule_active c words read b r ≡ true → (rule_unread c read r ≡ []) × (bit_of 64 value b ≡ true)
  unfolding rule_active
  rule_out t = (none_out (rule_unread c read r) (and_left _ _ t), and_right (is_none (rule_unread c read r)) _ t)

  rule_in : rule_unread c read r ≡ [] → bit_of 64 value b ≡ true → rule_active c words read b r ≡ true
  unfolding rule_active
  rule_in e t = and_both (ap is_none e) t

module _ (c : Chip) (u : NamesUnique c) (i b : ℕ) where
  module _ (attention : ℕ) (words read : List ℕ) where
    entry_out : (e : NodeEntry) → at i (node_entries c) ≡ e ∷ [] → entry_active c attention words read b e ≡ true → ActiveBit c attention words read i b
    unfolding entry_active
    entry_out e q t =
        ⊎_elim (λ z. clash t (some_none _ z))
        (λ z. let r = z.0 in
        let d = rule_out c words read b r (sym (some_one (rule_active c words read b) r) ∙ (rw z.1 at t)) in
        record { rule = r; own = record { entry = e; stands = q; own = z.2; wanted = z.3 }; valued = rule_valued c read r d.0; one = d.1 })
        (rule_cases attention e.instance)

    pub active_words : ((chip_graph c attention words read).active i b ≡ true) ↔ ActiveBit c attention words read i b
    unfolding chip_graph entry_active
    active_words = (out, back)
      where
        out : some (entry_active c attention words read b) (at i (node_entries c)) ≡ true → ActiveBit c attention words read i b
        out t =
            ⊎_elim
            (λ h. let x = at_inside i (node_entries c) h in
            entry_out x.0 x.1 (sym (some_one (entry_active c attention words read b) x.0) ∙ (rw x.1 at t)))
            (λ h. clash t (some_none _ (at_none i (node_entries c) h)))
            (below? i (length (node_entries c)))

        back : ActiveBit c attention words read i b → some (entry_active c attention words read b) (at i (node_entries c)) ≡ true
        back a =
            let w = a.own in
            rw w.stands
            (some_one (entry_active c attention words read b) w.entry
            ∙ rw (rule_wanted c u attention i w.stands w.own w.wanted)
            (some_one (rule_active c words read b) a.rule ∙ rule_in c words read b a.rule (valued_rule c read a.rule a.valued) a.one))

  child_out : (e : NodeEntry) (j : ℕ) → at i (node_entries c) ≡ e ∷ [] → child_position c (child_for b e.instance) ≡ option.some j → ChildOf c i b j
  unfolding child_for child_position
  child_out e j q t =
      ⊎_elim
      (λ h. let r = first_some _ e.instance.children h in
      let w : option.some (node_position c r.0.id r.0.number) ≡ option.some j = sym (ap (child_position c) r.1) ∙ t in
      record {
        entry = e;
        stands = q;
        child = r.0;
        own = at_in _ e.instance.children r.2;
        wanted = eqb-true _ _ r.3;
        means = let v : j ≡ node_position c r.0.id r.0.number = cc in v;
      })
      (λ h. never (sym (ap (child_position c) (first_none _ e.instance.children h)) ∙ t))
      (either (some (λ k. eqb k.bit b) e.instance.children))

  pub child_words : (attention : ℕ) (words read : List ℕ) (j : ℕ) → ((chip_graph c attention words read).child i b ≡ option.some j) ↔ ChildOf c i b j
  unfolding chip_graph entry_child child_for child_position
  child_words attention words read j = (out, back)
    where
      out : entry_child c b (at i (node_entries c)) ≡ option.some j → ChildOf c i b j
      out t =
          ⊎_elim (λ h. let x = at_inside i (node_entries c) h in child_out x.0 j x.1 (sym (ap (entry_child c b) x.1) ∙ t))
          (λ h. never (sym (ap (entry_child c b) (at_none i (node_entries c) h)) ∙ t))
          (below? i (length (node_entries c)))

      back : ChildOf c i b j → entry_child c b (at i (node_entries c)) ≡ option.some j
      back k =
          let p = in_at k.entry.instance.children k.own in
          let f = first_key (λ x. x.bit) k.entry.instance.children (every_at _ i (node_entries c) u.children k.stands) p.0 p.1 k.wanted in
          ap (entry_child c b) k.stands ∙ ap (child_position c) f ∙ ap option.some (sym k.means)
