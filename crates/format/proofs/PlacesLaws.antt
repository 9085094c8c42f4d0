-- The places of an accepted file: reading at a rule's place gives its expression again.
use Prim.Native.Nat.{ℕ, ◌+◌}
use mathlib.Core.List.{List, [], ◌∷◌, ◌++◌}
use mathlib.Core.Path.{◌≡◌, refl, sym, ◌∙◌, ap, subst}
use native.Mathlib.Omega.{arith}
use lib.ListN.{length, take, drop, length-append}
use lib.Seq.{take-length}
use Rattle.numbers.specs.BigEndian.{bytes_of, Bytes}
use Rattle.numbers.proofs.BigEndianLaws.{length_bytes}
use Rattle.limits.specs.Limits.{Limits, levels}
use Rattle.format.specs.Parsed.{done}
use Rattle.format.specs.Fields.{address_size}
use Rattle.format.specs.Lookup.{gathered, entries_of, register_entries, node_entries_of, node_entries}
use Rattle.format.specs.Tree.{RegisterInstance, Register, Rule, NodeInstance, Node, Chip}
use Rattle.format.specs.ExpressionLayout.{expr_at}
use Rattle.format.specs.Verdict.{verdict}
use Rattle.format.specs.Encoding.{encode_expr, encode_register_instance, encode_register, encode_capture, encode_rule, encode_node_instance, encode_node, encode_start, encode_registers, encode_nodes, encode}
use Rattle.format.specs.Keywords.{regs, node}
use Rattle.format.specs.Placing.{PlacedRow, PlacedExpr, PlacedRegisterInstance, PlacedRegister, PlacedRule, PlacedNodeInstance, PlacedNode, Placed}
use Rattle.format.specs.Rules.{Every, all_rules, Meets}
use Rattle.format.proofs.EveryLaws.{every_map, every_both, every-gathered_in, every-list_in}
use Rattle.format.proofs.Spelling.{Spell, spell_split}
use Rattle.format.proofs.ExpressionAccepted.{ExprFine, expr-reads}
use Rattle.format.proofs.Acceptance.{acceptance}

-- An element stands somewhere in the file, and its places are those.
pub record Stands {A : Type 0} (s : List ℕ) (place : ℕ → A → Type 0) (enc : A → List ℕ) (x : A) : Type 0 where
  pub start : ℕ
  pub spelled : Spell s start (start + length (enc x)) (enc x)
  pub placed : place start x

module _ {A : Type 0} (s : List ℕ) (place : ℕ → A → Type 0) (enc : A → List ℕ) where
  -- Each element of a row stands in the file.
  pub row_stands : (at : ℕ) {m : ℕ} (xs : List A) → Spell s at m (gathered enc xs) → PlacedRow place enc at xs → Every (Stands s place enc) xs
  unfolding gathered PlacedRow Every
  row_stands at [] a p = tt
  row_stands at (x ∷ xs) a p =
      let b = spell_split s (enc x) (gathered enc xs) a in
      (record { start = at; spelled = b.0; placed = p.0 }, row_stands (at + length (enc x)) xs b.1 p.1)

module _ (s : List ℕ) where
  -- The instances of a register, the instances of a node, and the rules of a node instance stand in the file where these do.
  register-instances : (r : Register) → Stands s PlacedRegister encode_register r
      → Every (Stands s PlacedRegisterInstance (encode_register_instance r.type)) r.instances
  unfolding encode_register PlacedRegister
  register-instances r t =
      let head = bytes_of 3 r.id ++ (bytes_of 1 r.type ++ (bytes_of 1 r.flags ++ bytes_of 1 (length r.instances))) in
      let six : length head ≡ 6 = simp (length-append, length_bytes) in
      let b = spell_split s head (gathered (encode_register_instance r.type) r.instances) t.spelled in
      row_stands s PlacedRegisterInstance (encode_register_instance r.type) _ r.instances b.1
      (subst (λ k. PlacedRow PlacedRegisterInstance (encode_register_instance r.type) (t.start + k) r.instances) (sym six) t.placed)

  node-instances : (n : Node) → Stands s PlacedNode encode_node n → Every (Stands s PlacedNodeInstance encode_node_instance) n.instances
  unfolding encode_node PlacedNode
  node-instances n t =
      let head = bytes_of 2 n.id ++ (bytes_of 1 n.type ++ bytes_of 1 (length n.instances)) in
      let four : length head ≡ 4 = simp (length-append, length_bytes) in
      let b = spell_split s head (gathered encode_node_instance n.instances) t.spelled in
      row_stands s PlacedNodeInstance encode_node_instance _ n.instances b.1
      (subst (λ k. PlacedRow PlacedNodeInstance encode_node_instance (t.start + k) n.instances) (sym four) t.placed)

  instance_rules : (i : NodeInstance) → Stands s PlacedNodeInstance encode_node_instance i → Every (Stands s PlacedRule encode_rule) i.rules
  unfolding encode_node_instance PlacedNodeInstance
  instance_rules i t =
      let head = bytes_of 1 i.number
      ++ (bytes_of 1 (length i.captures) ++ (bytes_of 1 (length i.rules) ++ bytes_of 1 (length i.children))) in
      let four : length head ≡ 4 = simp (length-append, length_bytes) in
      let b = spell_split s head _ t.spelled in
      let c = spell_split s (gathered encode_capture i.captures) _ b.1 in
      let d = spell_split s (gathered encode_rule i.rules) _ c.1 in
      row_stands s PlacedRule encode_rule _ i.rules d.0
      (subst (λ k. PlacedRow PlacedRule encode_rule (t.start + k + length (gathered encode_capture i.captures)) i.rules) (sym four) t.placed.2)

  -- Reading at a rule's place gives its expression.
  rule_again : Bytes s → (r : Rule) → Stands s PlacedRule encode_rule r → ((at : ℕ) → PlacedExpr at r.expression → ExprFine levels at r.expression)
      → expr_at s levels r.place ≡ done r.expression (r.place + length (encode_expr r.expression))
  unfolding encode_rule PlacedRule
  rule_again bytes r t fine =
      let b = spell_split s (bytes_of 1 r.attention) (encode_expr r.expression) t.spelled in
      let w : t.start + length (bytes_of 1 r.attention) ≡ r.place = omega (arith, length_bytes 1 r.attention, t.placed.0) in
      let v : t.start + 1 ≡ r.place = sym t.placed.0 in
      (expr-reads s bytes levels).complete [] r.place
      (record { here = subst (λ p. take (length (encode_expr r.expression)) (drop p s) ≡ encode_expr r.expression) w b.1.here; ends = refl })
      (fine r.place (subst (λ p. PlacedExpr p r.expression) v t.placed.1))

  -- The bytes at an instance's place are its address.
  address_bytes : (type : ℕ) (i : RegisterInstance) → Stands s PlacedRegisterInstance (encode_register_instance type) i
      → take (address_size type) (drop i.place s) ≡ bytes_of (address_size type) i.address
  unfolding encode_register_instance PlacedRegisterInstance
  address_bytes type i t =
      let b = spell_split s (bytes_of 1 i.number) (bytes_of (address_size type) i.address) t.spelled in
      let w : t.start + length (bytes_of 1 i.number) ≡ i.place = omega (arith, length_bytes 1 i.number, t.placed) in
      subst (λ n. take n (drop i.place s) ≡ bytes_of (address_size type) i.address) (length_bytes (address_size type) i.address)
      (subst
      (λ p. take (length (bytes_of (address_size type) i.address)) (drop p s) ≡ bytes_of (address_size type) i.address)
      w
      b.1.here)

-- All of an accepted file.
module _ (limits : Limits) (s : List ℕ) (bytes : Bytes s) (c : Chip) (accepted : verdict limits s ≡ done c (length s)) where
  whole : Spell s 0 (length s) (encode c)
  whole =
      let w = ((acceptance limits s bytes c).0 accepted).0 in
      record { here = rw (← w) (take-length s); ends = ap length w ∙ (let z : length (encode c) ≡ 0 + length (encode c) = omega arith in z) }

  placed : Placed c
  placed = ((acceptance limits s bytes c).0 accepted).1

  meets : Meets limits c
  meets = ((acceptance limits s bytes c).0 accepted).2

  pub registers_stand : Every (Stands s PlacedRegister encode_register) c.registers
  unfolding encode encode_registers regs
  registers_stand =
      let a = spell_split s (encode_start c.model) _ whole in
      let b = spell_split s (encode_registers c.registers) _ a.1 in
      let d = spell_split s regs _ b.0 in
      let e = spell_split s (bytes_of 3 (length c.registers)) _ d.1 in
      row_stands s PlacedRegister encode_register _ c.registers e.1
      (subst (λ p. PlacedRow PlacedRegister encode_register p c.registers) (omega (arith, length_bytes 3 (length c.registers))) placed.registers)

  pub nodes_stand : Every (Stands s PlacedNode encode_node) c.nodes
  unfolding encode encode_nodes node
  nodes_stand =
      let a = spell_split s (encode_start c.model) _ whole in
      let b = spell_split s (encode_registers c.registers) _ a.1 in
      let d = spell_split s (encode_nodes c.nodes) _ b.1 in
      let e = spell_split s node _ d.0 in
      let f = spell_split s (bytes_of 2 (length c.nodes)) _ e.1 in
      row_stands s PlacedNode encode_node _ c.nodes f.1
      (subst (λ p. PlacedRow PlacedNode encode_node p c.nodes) (omega (arith, length_bytes 2 (length c.nodes))) placed.nodes)

  -- Each node instance stands in the file at its place.
  pub entries_stand : Every (λ e. Stands s PlacedNodeInstance encode_node_instance e.instance) (node_entries c)
  unfolding node_entries node_entries_of
  entries_stand =
      every-gathered_in _ node_entries_of c.nodes
      (every_map _ _ (λ n t. every-list_in _ _ n.instances (node-instances s n t)) c.nodes nodes_stand)

  -- Reading at the place of each rule gives its expression again.
  pub rules_again : Every (λ r. expr_at s levels r.place ≡ done r.expression (r.place + length (encode_expr r.expression))) (all_rules c)
  unfolding all_rules
  rules_again =
      let m = meets in
      every_map _ _
      (λ r k. rule_again s bytes r k.0
      (λ at p. record { placed = p; fits = k.1.0; counted = k.1.1.0; nested = k.1.1.1 }))
      (all_rules c)
      (every_both _ _ (all_rules c) (every-gathered_in _ _ (node_entries c) (every_map _ _ (λ e t. instance_rules s e.instance t) (node_entries c) entries_stand))
      (every_both _ _ (all_rules c) m.fields.expressions
      (every_both _ _ (all_rules c) m.expressions.counted m.expressions.nested)))

  -- The bytes at the place of each register instance's address are the address.
  pub addresses_again : Every
      (λ e. take (address_size e.type) (drop e.instance.place s) ≡ bytes_of (address_size e.type) e.instance.address)
      (register_entries c)
  unfolding register_entries entries_of
  addresses_again =
      every-gathered_in _ entries_of c.registers
      (every_map _ _
      (λ r t. every-list_in _ _ r.instances (every_map _ _ (λ i k. address_bytes s r.type i k) r.instances (register-instances s r t)))
      c.registers registers_stand)
