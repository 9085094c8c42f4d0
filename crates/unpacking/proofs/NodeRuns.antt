-- A run over nodes, their instances, and the captures, rules and children of these.
use Prim.Native.Nat.{ℕ, suc, ◌+◌, ◌^◌, ◌<◌}
use mathlib.Core.List.{List, [], ◌∷◌, ◌++◌}
use mathlib.Core.Path.{◌≡◌, refl, subst}
use native.Mathlib.Omega.{arith}
use lib.Dec.{lit<, lit≤}
use lib.ListN.{length}
use Rattle.numbers.specs.BigEndian.{bytes_of}
use Rattle.numbers.proofs.BigEndianLaws.{length_bytes}
use Rattle.format.specs.Tree.{Capture, Rule, Child, NodeInstance, Node}
use Rattle.format.specs.Lookup.{gathered}
use Rattle.format.specs.Encoding.{encode_expr, encode_capture, encode_rule, encode_child, encode_node_instance, encode_node}
use Rattle.format.specs.Rules.{Every, ExprFits}
use Rattle.format.proofs.Spelling.{Spell, spell_split}
use Rattle.records.specs.declared.Element.TheVariants as element
use Rattle.records.specs.Elements.{record_of, expr_records, capture_record, rule_records, child_record, node_instance_records, node_records}
use Rattle.unpacking.specs.declared.Left.{Left}
use Rattle.unpacking.specs.Unpacking.{left_of, value_at, element_next}
use Rattle.format.proofs.GatheredLaws.{gathered_each}
use Rattle.unpacking.proofs.Steps.{some, one_less, value-in, Goes, goes_one, goes_join, goes_row}
use Rattle.unpacking.proofs.ExpressionRuns.{with_owed, goes_expr}

-- Among the nodes no register and no root is to come.
abbrev pub nodes_left : ℕ → ℕ → ℕ → ℕ → ℕ → Left
nodes_left c u k i n = left_of 0 0 c u k i n 0 0 0

-- Every number fits its field.
pub record CaptureFine (k : Capture) : Type 0 where
  pub id : k.id < 256 ^ 3
  pub number : k.number < 256

pub record RuleFine (r : Rule) : Type 0 where
  pub attention : r.attention < 256
  pub expression : ExprFits r.expression

pub record ChildFine (k : Child) : Type 0 where
  pub bit : k.bit < 256
  pub id : k.id < 256 ^ 2
  pub number : k.number < 256

pub record InstanceFine (i : NodeInstance) : Type 0 where
  pub number : i.number < 256
  pub capture_count : length i.captures < 256
  pub rule_count : length i.rules < 256
  pub child_count : length i.children < 256
  pub captures : Every CaptureFine i.captures
  pub rules : Every RuleFine i.rules
  pub children : Every ChildFine i.children

pub record NodeFine (n : Node) : Type 0 where
  pub id : n.id < 256 ^ 2
  pub type : n.type < 256
  pub count : length n.instances < 256
  pub each : Every InstanceFine n.instances

module _ (s : List ℕ) where
  module _ (u k i n : ℕ) where
    goes_capture : (x : Capture) (c at m : ℕ) → CaptureFine x → Spell s at m (encode_capture x)
        → Goes s at (nodes_left (suc c) u k i n) (capture_record x ∷ []) m (nodes_left c u k i n)
    unfolding encode_capture capture_record element_next
    goes_capture x c at m h a =
        let b = spell_split s (bytes_of 3 x.id) (bytes_of 1 x.number) a in
        let v : value_at s at 3 ≡ x.id = value-in s at 3 x.id (lit< tt) b.0 refl h.id in
        let w : value_at s (at + 3) 1 ≡ x.number = value-in s (at + 3) 1 x.number (lit< tt) b.1 (omega (arith, length_bytes 3 x.id)) h.number in
        goes_one s at (nodes_left (suc c) u k i n) element.Capture (rw some) refl (rw (v, w))
        (omega (arith, b.1.ends, length_bytes 3 x.id, length_bytes 1 x.number)) (lit≤ tt) (rw one_less)

  module _ (k i n : ℕ) where
    goes_rule : (x : Rule) (u at m : ℕ) → RuleFine x → Spell s at m (encode_rule x)
        → Goes s at (nodes_left 0 (suc u) k i n) (rule_records x) m (nodes_left 0 u k i n)
    unfolding encode_rule rule_records element_next
    goes_rule x u at m h a =
        let b = spell_split s (bytes_of 1 x.attention) (encode_expr x.expression) a in
        let v : value_at s at 1 ≡ x.attention = value-in s at 1 x.attention (lit< tt) b.0 refl h.attention in
        goes_join s (record_of 6 x.attention 0 0 0 0 ∷ []) (expr_records x.expression)
        (goes_one s at (nodes_left 0 (suc u) k i n) element.Rule {d = with_owed (nodes_left 0 u k i n) 1} (rw some) refl (rw v)
        (omega (arith, length_bytes 1 x.attention)) (lit≤ tt) (rw one_less))
        (goes_expr s (nodes_left 0 u k i n) x.expression 0 _ h.expression b.1)

  module _ (i n : ℕ) where
    goes_child : (x : Child) (k at m : ℕ) → ChildFine x → Spell s at m (encode_child x)
        → Goes s at (nodes_left 0 0 (suc k) i n) (child_record x ∷ []) m (nodes_left 0 0 k i n)
    unfolding encode_child child_record element_next
    goes_child x k at m h a =
        let b = spell_split s (bytes_of 1 x.bit) (bytes_of 2 x.id ++ bytes_of 1 x.number) a in
        let d = spell_split s (bytes_of 2 x.id) (bytes_of 1 x.number) b.1 in
        let p : at + length (bytes_of 1 x.bit) ≡ at + 1 = omega (arith, length_bytes 1 x.bit) in
        let q : at + length (bytes_of 1 x.bit) + length (bytes_of 2 x.id) ≡ at + 3 = omega (arith, p, length_bytes 2 x.id) in
        let v : value_at s at 1 ≡ x.bit = value-in s at 1 x.bit (lit< tt) b.0 refl h.bit in
        let w : value_at s (at + 1) 2 ≡ x.id = value-in s (at + 1) 2 x.id (lit< tt) d.0 p h.id in
        let y : value_at s (at + 3) 1 ≡ x.number = value-in s (at + 3) 1 x.number (lit< tt) d.1 q h.number in
        goes_one s at (nodes_left 0 0 (suc k) i n) element.Child (rw some) refl (rw (v, w, y))
        (omega (arith, d.1.ends, q, length_bytes 1 x.number)) (lit≤ tt) (rw one_less)

  module _ (n : ℕ) where
    -- The number and the counts of a node instance.
    goes_head : (x : NodeInstance) (i at : ℕ) {m : ℕ} (bs : List ℕ) → InstanceFine x
        → Spell s at m ((bytes_of 1 x.number ++ (bytes_of 1 (length x.captures) ++ (bytes_of 1 (length x.rules) ++ bytes_of 1 (length x.children)))) ++ bs)
        → Goes s at (nodes_left 0 0 0 (suc i) n) (record_of 4 0 0 x.number 0 0 ∷ []) (at + 4)
        (nodes_left (length x.captures) (length x.rules) (length x.children) i n)
        × Spell s (at + 4) m bs
    unfolding element_next
    goes_head x i at {m} bs h a =
        let ca = bytes_of 1 (length x.captures) in
        let ru = bytes_of 1 (length x.rules) in
        let ch = bytes_of 1 (length x.children) in
        let z = spell_split s (bytes_of 1 x.number ++ (ca ++ (ru ++ ch))) bs a in
        let b = spell_split s (bytes_of 1 x.number) (ca ++ (ru ++ ch)) z.0 in
        let d = spell_split s ca (ru ++ ch) b.1 in
        let e = spell_split s ru ch d.1 in
        let p : at + length (bytes_of 1 x.number) ≡ at + 1 = omega (arith, length_bytes 1 x.number) in
        let q : at + length (bytes_of 1 x.number) + length ca ≡ at + 2 = omega (arith, p, length_bytes 1 (length x.captures)) in
        let r : at + length (bytes_of 1 x.number) + length ca + length ru ≡ at + 3 = omega (arith, q, length_bytes 1 (length x.rules)) in
        let t : at + length (bytes_of 1 x.number ++ (ca ++ (ru ++ ch))) ≡ at + 4 = omega (arith, e.1.ends, r, length_bytes 1 (length x.children)) in
        let v : value_at s at 1 ≡ x.number = value-in s at 1 x.number (lit< tt) b.0 refl h.number in
        let vc : value_at s (at + 1) 1 ≡ length x.captures = value-in s (at + 1) 1 _ (lit< tt) d.0 p h.capture_count in
        let vr : value_at s (at + 2) 1 ≡ length x.rules = value-in s (at + 2) 1 _ (lit< tt) e.0 q h.rule_count in
        let vk : value_at s (at + 3) 1 ≡ length x.children = value-in s (at + 3) 1 _ (lit< tt) e.1 r h.child_count in (
          goes_one s at (nodes_left 0 0 0 (suc i) n) element.NodeInstance (rw some) refl (rw v) refl (lit≤ tt) (rw (vc, vr, vk, one_less)),
          subst (λ w. Spell s w m bs) t z.1,
        )

    goes_instance : (x : NodeInstance) (i at m : ℕ) → InstanceFine x → Spell s at m (encode_node_instance x)
        → Goes s at (nodes_left 0 0 0 (suc i) n) (node_instance_records x) m (nodes_left 0 0 0 i n)
    unfolding encode_node_instance node_instance_records
    goes_instance x i at m h a =
        let c = gathered encode_capture x.captures in
        let u = gathered encode_rule x.rules in
        let k = gathered encode_child x.children in
        let rc = gathered (λ y. capture_record y ∷ []) x.captures in
        let ru = gathered rule_records x.rules in
        let rk = gathered (λ y. child_record y ∷ []) x.children in
        let b = goes_head x i at (c ++ (u ++ k)) h a in
        let d = spell_split s c (u ++ k) b.1 in
        let e = spell_split s u k d.1 in
        let gc : Goes s (at + 4) (nodes_left (length x.captures) (length x.rules) (length x.children) i n) rc _ (nodes_left 0 (length x.rules) (length x.children) i n) =
        goes_row s CaptureFine encode_capture (λ y. capture_record y ∷ []) (λ j. nodes_left j (length x.rules) (length x.children) i n)
        (goes_capture (length x.rules) (length x.children) i n) x.captures (at + 4) h.captures d.0 in
        let gu : Goes s _ (nodes_left 0 (length x.rules) (length x.children) i n) ru _ (nodes_left 0 0 (length x.children) i n) =
        goes_row s RuleFine encode_rule rule_records (λ j. nodes_left 0 j (length x.children) i n)
        (goes_rule (length x.children) i n) x.rules _ h.rules e.0 in
        let gk : Goes s _ (nodes_left 0 0 (length x.children) i n) rk m (nodes_left 0 0 0 i n) =
        goes_row s ChildFine encode_child (λ y. child_record y ∷ []) (λ j. nodes_left 0 0 j i n) (goes_child i n) x.children _ h.children e.1 in
        rw (← gathered_each capture_record x.captures, ← gathered_each child_record x.children)
        (goes_join s (record_of 4 0 0 x.number 0 0 ∷ []) (rc ++ (ru ++ rk)) b.0 (goes_join s rc (ru ++ rk) gc (goes_join s ru rk gu gk)))

  pub goes_node : (x : Node) (n at m : ℕ) → NodeFine x → Spell s at m (encode_node x)
      → Goes s at (nodes_left 0 0 0 0 (suc n)) (node_records x) m (nodes_left 0 0 0 0 n)
  unfolding encode_node node_records element_next
  goes_node x n at m h a =
      let ty = bytes_of 1 x.type in
      let co = bytes_of 1 (length x.instances) in
      let z = spell_split s (bytes_of 2 x.id ++ (ty ++ co)) (gathered encode_node_instance x.instances) a in
      let b = spell_split s (bytes_of 2 x.id) (ty ++ co) z.0 in
      let d = spell_split s ty co b.1 in
      let p : at + length (bytes_of 2 x.id) ≡ at + 2 = omega (arith, length_bytes 2 x.id) in
      let q : at + length (bytes_of 2 x.id) + length ty ≡ at + 3 = omega (arith, p, length_bytes 1 x.type) in
      let t : at + length (bytes_of 2 x.id ++ (ty ++ co)) ≡ at + 4 = omega (arith, d.1.ends, q, length_bytes 1 (length x.instances)) in
      let v : value_at s at 2 ≡ x.id = value-in s at 2 x.id (lit< tt) b.0 refl h.id in
      let vt : value_at s (at + 2) 1 ≡ x.type = value-in s (at + 2) 1 _ (lit< tt) d.0 p h.type in
      let vc : value_at s (at + 3) 1 ≡ length x.instances = value-in s (at + 3) 1 _ (lit< tt) d.1 q h.count in
      goes_join s (record_of 3 x.type 0 0 x.id 0 ∷ []) (gathered node_instance_records x.instances)
      (goes_one s at (nodes_left 0 0 0 0 (suc n)) element.Node (rw some) refl (rw (v, vt)) t (lit≤ tt) (rw (vc, one_less)))
      (goes_row s InstanceFine encode_node_instance node_instance_records (λ j. nodes_left 0 0 0 j n) (goes_instance n) x.instances _ h.each z.1)
