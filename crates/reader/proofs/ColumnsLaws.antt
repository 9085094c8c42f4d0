-- What the code writes to the lent tables is what the tree says.
use Prim.Native.Nat.{ℕ, suc, ◌%◌, ◌≤◌, ◌<◌}
use mathlib.Core.Bool.{Bool, true, false, cond, ◌||◌}
use mathlib.Core.List.{List, [], ◌∷◌, map}
use mathlib.Core.Logic.{⊎_elim}
use mathlib.Core.Path.{◌≡◌, refl, sym, ◌∙◌, ap}
use native.Mathlib.Nat.{mod-eq_of_lt}
use native.Mathlib.Omega.{arith}
use lib.Dec.{eqb}
use lib.ListN.{length}
use lib.Seq.{ext_get_or}
use Rattle.limits.proofs.LimitsLaws.{nodes_within}
use Rattle.limits.specs.Limits.{library_limits, limits_of}
use Rattle.limits.specs.declared.LimitSet.{LimitSet}
use Rattle.numbers.proofs.Bools.{either, clash}
use Rattle.format.specs.Finding.{first_of, rule_for, root_for, child_for, child_position}
use Rattle.format.specs.Lookup.{some, position, at, gathered, NodeEntry, node_entries, node_named, node_position}
use Rattle.format.specs.Rules.{Every, Distinct, Meets}
use Rattle.format.specs.Tree.{Rule, Child, Root, NodeInstance, Chip}
use Rattle.format.proofs.EveryLaws.{every_map, every_both}
use Rattle.format.proofs.FindingLaws.{first_none, first_some}
use Rattle.format.proofs.GatheredLaws.{gathered_same}
use Rattle.format.proofs.Grouping.{layout_of}
use Rattle.format.proofs.PositionsLaws.{at_empty, at_first, at_most, at_next, every_at, inside_at}
use Rattle.tables.specs.Faults.{position_in}
use Rattle.tables.specs.Keys.{node_keys}
use Rattle.tables.proofs.KeysLaws.{node_position_in}
use Rattle.links.specs.Links.{rule_place, child_number, child_row}
use Rattle.links.proofs.ChildrenLaws.{child_row-length}
use Rattle.links.proofs.TableLaws.{for_bit, number_or, row_child}
use Rattle.references.specs.RootIn.{root_position}
use Rattle.reader.specs.Columns.{expression_place, position_or, child_places, child_column, root_place}
use Rattle.reader.proofs.ChildPlacesLaws.{row-length, row_place}
use Rattle.reader.proofs.CycleLaws.{entry-children}

-- Rules

rules_place : (attention : ℕ) (rs : List Rule) → rule_place attention rs ≡ expression_place (first_of (λ r. eqb r.attention attention) rs)
unfolding rule_place expression_place first_of position
rules_place attention [] = sym (ap expression_place (at_empty 0))
rules_place attention (r ∷ rs) = go (eqb r.attention attention) (rules_place attention rs)
  where
    go : (t : Bool) → rule_place attention rs ≡ expression_place (at (position (λ r. eqb r.attention attention) rs) rs)
        → cond t r.place (rule_place attention rs) ≡ expression_place (at (cond t 0 (suc (position (λ r. eqb r.attention attention) rs))) (r ∷ rs))
    go true e = sym (ap expression_place (at_first r rs))
    go false e = e ∙ sym (ap expression_place (at_next (position (λ r. eqb r.attention attention) rs) r rs))

pub rule-place : (attention : ℕ) (i : NodeInstance) → rule_place attention i.rules ≡ expression_place (rule_for attention i)
unfolding rule_for
rule-place attention i = rules_place attention i.rules

-- Roots

module _ (nodes : List ℕ) (attention : ℕ) where
  abbrev wanted : Root → Bool
  wanted t = eqb t.attention attention

  -- Where no root is wanted.
  position_nowhere : (ts : List Root) → some wanted ts ≡ false → root_position nodes attention ts ≡ 65535
  unfolding root_position some
  position_nowhere [] h = refl
  position_nowhere (t ∷ ts) h = go (wanted t) h (position_nowhere ts)
    where
      go : (b : Bool) → b || some wanted ts ≡ false → (some wanted ts ≡ false → root_position nodes attention ts ≡ 65535)
          → cond b (position_in nodes t.id t.number) (root_position nodes attention ts) ≡ 65535
      go true e r = clash refl e
      go false e r = r e

  -- The first wanted root's node instance.
  position_first : (ts : List Root) {x : Root} → at (position wanted ts) ts ≡ x ∷ [] → root_position nodes attention ts ≡ position_in nodes x.id x.number
  unfolding root_position position
  position_first [] {x} q = absurd (let z : 0 < 0 = inside_at 0 [] q in omega arith)
  position_first (t ∷ ts) {x} q = go (wanted t) q (position_first ts)
    where
      go : (b : Bool) → at (cond b 0 (suc (position wanted ts))) (t ∷ ts) ≡ x ∷ [] → (at (position wanted ts) ts ≡ x ∷ [] → root_position nodes attention ts ≡ position_in nodes x.id x.number)
          → cond b (position_in nodes t.id t.number) (root_position nodes attention ts) ≡ position_in nodes x.id x.number
      go true e r =
          let w : t ≡ x = let z : t ∷ [] ≡ x ∷ [] = sym (at_first t ts) ∙ e in cc in
          ap (λ (y : Root). position_in nodes y.id y.number) w
      go false e r = r (sym (at_next (position wanted ts) t ts) ∙ e)

module _ (of : LimitSet) (c : Chip) (meets : Meets (limits_of of) c) where
  few : length (node_entries c) ≤ library_limits.node_instances
  few = omega (arith, meets.within.nodes, nodes_within of)

  -- Children

  abbrev Found : Child → Type 0
  Found k = (position_in (node_keys c) k.id k.number ≡ position (node_named k.id k.number) (node_entries c)) × (position (node_named k.id k.number) (node_entries c) < length (node_entries c))

  number_same : (k : Child) → Found k → child_number (node_keys c) k ≡ node_position c k.id k.number
  unfolding child_number node_position
  number_same k f =
      let p = position (node_named k.id k.number) (node_entries c) in
      let l : p < 0x10000 = omega (arith, f.1, few) in
      ap (λ x. x % 0x10000) f.0 ∙ mod-eq_of_lt l

  none_there : (ks : List Child) → ks ≡ [] → position_or (child_position c ks) ≡ 0xFFFF
  unfolding child_position position_or
  none_there ks e = rw e

  one_there : (ks : List Child) (k : Child) → ks ≡ k ∷ [] → position_or (child_position c ks) ≡ node_position c k.id k.number
  unfolding child_position position_or
  one_there ks k e = rw e

  bit_same : (i : NodeInstance) (b : ℕ) → Every Found i.children → number_or (node_keys c) 0xFFFF (for_bit b i.children) ≡ position_or (child_position c (child_for b i))
  unfolding child_for first_of
  bit_same i b f =
      ⊎_elim
      (λ e. ap (number_or (node_keys c) 0xFFFF) e ∙ sym (none_there _ e))
      (λ r. ap (number_or (node_keys c) 0xFFFF) r.1 ∙ number_same r.0 (every_at Found _ i.children f r.1) ∙ sym (one_there _ _ r.1))
      (at_most (position (λ k. eqb k.bit b) i.children) i.children)

  row_same : (i : NodeInstance) → Distinct (map (λ k. k.bit) i.children) → Every Found i.children → child_row (node_keys c) i ≡ child_places c i
  row_same i d f =
      ext_get_or 0 (child_row (node_keys c) i) (child_places c i) (child_row-length (node_keys c) i ∙ sym (row-length c i))
      (λ b h.
      let l : b < 64 = omega (arith, child_row-length (node_keys c) i) in
      row_child (node_keys c) b i l d ∙ bit_same i b f ∙ sym (row_place c i b l))

  pub child-column : gathered (λ e. child_row (node_keys c) e.instance) (node_entries c) ≡ child_column c
  child-column =
      gathered_same _ _ (node_entries c)
      (every_map _ _ (λ (e : NodeEntry) h. row_same e.instance h.0 h.1) (node_entries c)
      (every_both _ _ (node_entries c) meets.unique.children (entry-children of c (layout_of (limits_of of) meets) meets.present)))

  -- The root

  no_root : (ts : List Root) → ts ≡ [] → root_place c ts ≡ 0xFFFF
  unfolding root_place
  no_root ts e = rw e

  one_root : (ts : List Root) (t : Root) → ts ≡ t ∷ [] → root_place c ts ≡ position (node_named t.id t.number) (node_entries c)
  unfolding root_place node_position
  one_root ts t e = rw e

  pub root_same : (attention : ℕ) → root_position (node_keys c) attention c.roots ≡ root_place c (root_for attention c)
  unfolding root_for
  root_same attention =
      ⊎_elim
      (λ h.
      let f = first_some (wanted (node_keys c) attention) c.roots h in
      let x = f.0 in
      let b = every_at _ (position (wanted (node_keys c) attention) c.roots) c.roots meets.fields.roots f.2 in
      position_first (node_keys c) attention c.roots f.2 ∙ node_position_in c meets.fields x.id x.number (omega (arith, b.0)) b.1 ∙ sym (one_root _ x f.1))
      (λ h. position_nowhere (node_keys c) attention c.roots h ∙ sym (no_root _ (first_none (wanted (node_keys c) attention) c.roots h)))
      (either (some (wanted (node_keys c) attention) c.roots))
