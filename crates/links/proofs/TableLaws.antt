-- What a table of children says of a bit of a node instance.
use Prim.Native.Nat.{ℕ, ◌+◌, ◌*◌, ◌≤◌, ◌<◌}
use mathlib.Core.Bool.{true, false}
use mathlib.Core.List.{List, [], ◌∷◌, ◌++◌, map}
use mathlib.Core.Logic.{⊎_elim}
use mathlib.Core.Option.{none, some}
use mathlib.Core.Path.{◌≡◌, sym, ◌∙◌, ap, subst}
use native.Mathlib.Omega.{arith}
use borrow.Author.Tests.{eqb-true, eqb-false, ne_eqb, lt-ltb, le-ltb}
use lib.Dec.{eqb}
use lib.ListN.{length, get_or, set, length-set, get_or-replicate}
use lib.Seq.{get_or-set_same, get_or-set_other}
use Rattle.limits.specs.Limits.{library_limits}
use Rattle.numbers.proofs.Bools.{either}
use Rattle.format.specs.Fields.{member}
use Rattle.format.specs.Lookup.{position, at, gathered, NodeEntry}
use Rattle.format.specs.Rules.{Every, Distinct}
use Rattle.format.specs.Tree.{Child, NodeInstance}
use Rattle.format.proofs.EveryLaws.{or-false_left, or-false_right}
use Rattle.format.proofs.PositionsLaws.{at_empty, at_most, at_first, at_next, every_at}
use Rattle.tables.proofs.ColumnLaws.{rows_place}
use Rattle.tables.specs.Faults.{position_in}
use Rattle.walk.specs.TableGraph.{child_at}
use Rattle.links.specs.Links.{child_number, children_put, childless, child_row, child_in, ChildrenFit}
use Rattle.links.proofs.ChildrenLaws.{childless-length, child_row-length}

-- The child of a bit.
abbrev pub for_bit : ℕ → List Child → List Child
for_bit b ks = at (position (λ k. eqb k.bit b) ks) ks

-- What a table holds for a child, if there is one.
abbrev pub number_or : List ℕ → ℕ → List Child → ℕ
number_or nodes x [] = x
number_or nodes x (k ∷ ks) = child_number nodes k

for-bit_here : (b : ℕ) (k : Child) (ks : List Child) → eqb k.bit b ≡ true → for_bit b (k ∷ ks) ≡ k ∷ []
unfolding position
for-bit_here b k ks e = rw e (at_first k ks)

for-bit_on : (b : ℕ) (k : Child) (ks : List Child) → eqb k.bit b ≡ false → for_bit b (k ∷ ks) ≡ for_bit b ks
unfolding position
for-bit_on b k ks e = rw e (at_next (position (λ k. eqb k.bit b) ks) k ks)

for-bit_none : (b : ℕ) (ks : List Child) → member b (map (λ k. k.bit) ks) ≡ false → for_bit b ks ≡ []
unfolding member
for-bit_none b [] e = at_empty _
for-bit_none b (k ∷ ks) e =
    let n : eqb b k.bit ≡ false = or-false_left _ _ e in
    for-bit_on b k ks (ne_eqb k.bit b (λ q. eqb-false b k.bit n (sym q))) ∙ for-bit_none b ks (or-false_right (eqb b k.bit) _ e)

module _ (nodes : List ℕ) (b : ℕ) where
  linked_child : (row : List ℕ) (ks : List Child) → b < length row → Distinct (map (λ k. k.bit) ks) → get_or (children_put nodes row 0 ks) b 0 ≡ number_or nodes (get_or row b 0) (for_bit b ks)
  unfolding children_put Distinct
  linked_child row [] h d = sym (ap (number_or nodes (get_or row b 0)) (at_empty _))
  linked_child row (k ∷ ks) h d =
      let x = child_number nodes k in
      let z : 0 + k.bit ≡ k.bit = omega arith in
      let r = linked_child (set row k.bit x) ks (omega (arith, length-set row k.bit x)) d.1 in
      rw z
      (r
      ∙ ⊎_elim
      (λ e.
      let q : k.bit ≡ b = eqb-true _ _ e in
      let l : k.bit < length row = omega arith in
      ap (number_or nodes (get_or (set row k.bit x) b 0)) (for-bit_none b ks (subst (λ y. member y (map (λ k. k.bit) ks) ≡ false) q d.0))
      ∙ subst (λ y. get_or (set row k.bit x) y 0 ≡ x) q (get_or-set_same row k.bit x 0 l)
      ∙ sym (ap (number_or nodes (get_or row b 0)) (for-bit_here b k ks e)))
      (λ e.
      ap (λ v. number_or nodes v (for_bit b ks)) (get_or-set_other row k.bit b x 0 (λ q. eqb-false _ _ e (sym q)))
      ∙ sym (ap (number_or nodes (get_or row b 0)) (for-bit_on b k ks e)))
      (either (eqb k.bit b)))

  childless_at : (n : ℕ) → b < n → get_or (childless n) b 0 ≡ 0xFFFF
  unfolding childless
  childless_at n h = get_or-replicate n b 0xFFFF 0 h

  pub row_child : (i : NodeInstance) → b < 64 → Distinct (map (λ k. k.bit) i.children) → get_or (child_row nodes i) b 0 ≡ number_or nodes 0xFFFF (for_bit b i.children)
  unfolding child_row
  row_child i h d =
      linked_child (childless 64) i.children (let l : b < length (childless 64) = omega (arith, childless-length 64) in l) d
      ∙ ap (λ v. number_or nodes v (for_bit b i.children)) (childless_at 64 h)

-- A place that holds a number, and what it says.
module _ (nodes : List ℕ) (size : ℕ) (few : size ≤ library_limits.node_instances) (table : List ℕ) (k : ℕ) (h : k < length table) where
  held_none : get_or table k 0 ≡ 0xFFFF → child_at size table k ≡ none
  unfolding child_at
  held_none e = let l : size ≤ get_or table k 0 = omega arith in simp (lt-ltb _ _ h, le-ltb _ _ l)

  held_some : (c : Child) → position_in nodes c.id c.number < size → get_or table k 0 ≡ child_number nodes c → child_at size table k ≡ some (position_in nodes c.id c.number)
  unfolding child_at child_number
  held_some c p e =
      let q : get_or table k 0 ≡ position_in nodes c.id c.number = omega arith in
      simp (lt-ltb _ _ h, q, lt-ltb _ _ p)

  held : (j : ℕ) (ks : List Child) → Every (λ c. position_in nodes c.id c.number < size) ks → get_or table k 0 ≡ number_or nodes 0xFFFF (at j ks)
      → child_at size table k ≡ child_in nodes (at j ks)
  unfolding child_in
  held j ks p e =
      ⊎_elim
      (λ q. held_none (e ∙ ap (number_or nodes 0xFFFF) q) ∙ sym (ap (child_in nodes) q))
      (λ r. held_some r.0 (every_at _ j ks p r.1) (e ∙ ap (number_or nodes 0xFFFF) r.1) ∙ sym (ap (child_in nodes) r.1))
      (at_most j ks)

-- A table of the children of some node instances, whatever stands behind them, says of each bit what its child entry says.
module _ (nodes : List ℕ) (es : List NodeEntry) (few : length es ≤ library_limits.node_instances) (fit : Every (λ e. ChildrenFit nodes (length es) e.instance) es)
    (i : ℕ) {e : NodeEntry} (q : at i es ≡ e ∷ []) (b : ℕ) (h : b < 64) where
  pub table_child : (rest : List ℕ)
      → child_at (length es) (gathered (λ e. child_row nodes e.instance) es ++ rest) (i * 64 + b)
      ≡ child_in nodes (at (position (λ k. eqb k.bit b) e.instance.children) e.instance.children)
  table_child rest =
      let r = rows_place (λ e. child_row nodes e.instance) (λ e. child_row-length nodes e.instance) rest es i q b h in
      let f = every_at (λ e. ChildrenFit nodes (length es) e.instance) i es fit q in
      held nodes (length es) few _ _ r.1 _ e.instance.children f.present (r.0 ∙ row_child nodes b e.instance h f.unique)
