-- The places of a tree are those that its elements have in its encoding.
use Rattle.std.specs.Prelude.{ℕ, ◌+◌, List, [], ◌∷◌, ◌≡◌, length}
use Rattle.format.specs.Lookup.{gathered}
use Rattle.format.specs.Encoding.{encode_expr, encode_register_instance, encode_register, encode_capture, encode_rule, encode_child, encode_node_instance, encode_node, encode_root, encode_start, encode_registers, encode_nodes}
use Rattle.format.specs.Tree.{Expr, Exprs, reading, constant, all, any, inverse, left, right, none, more, RegisterInstance, Register, Capture, Rule, Child, NodeInstance, Node, Root, Chip}

-- Elements one after another from a place on, each placed.
unfoldable pub PlacedRow : {A : Type 0} → (ℕ → A → Type 0) → (A → List ℕ) → ℕ → List A → Type 0
PlacedRow placed enc at [] = Unit {0}
PlacedRow placed enc at (x ∷ xs) = placed at x × PlacedRow placed enc (at + length (enc x)) xs

-- Each of these is said of an element whose first byte stands at `at`.
unfoldable mutual
  pub PlacedExpr : ℕ → Expr → Type 0
  PlacedExpr at (reading p id number) = p ≡ at
  PlacedExpr at (constant v) = Unit {0}
  PlacedExpr at (all es) = PlacedExprs (at + 2) es
  PlacedExpr at (any es) = PlacedExprs (at + 2) es
  PlacedExpr at (inverse e) = PlacedExpr (at + 1) e
  PlacedExpr at (left k e) = PlacedExpr (at + 2) e
  PlacedExpr at (right k e) = PlacedExpr (at + 2) e

  pub PlacedExprs : ℕ → Exprs → Type 0
  PlacedExprs at none = Unit {0}
  PlacedExprs at (more e es) = PlacedExpr at e × PlacedExprs (at + length (encode_expr e)) es

unfoldable pub PlacedRegisterInstance : ℕ → RegisterInstance → Type 0
PlacedRegisterInstance at i = i.place ≡ at + 1

unfoldable pub PlacedRegister : ℕ → Register → Type 0
PlacedRegister at r = PlacedRow PlacedRegisterInstance (encode_register_instance r.type) (at + 6) r.instances

unfoldable pub PlacedCapture : ℕ → Capture → Type 0
PlacedCapture at k = k.place ≡ at

unfoldable pub PlacedRule : ℕ → Rule → Type 0
PlacedRule at r = (r.place ≡ at + 1) × PlacedExpr (at + 1) r.expression

unfoldable pub PlacedChild : ℕ → Child → Type 0
PlacedChild at k = k.place ≡ at

unfoldable pub PlacedNodeInstance : ℕ → NodeInstance → Type 0
PlacedNodeInstance at i =
    (i.place ≡ at)
    × PlacedRow PlacedCapture encode_capture (at + 4) i.captures
    × PlacedRow PlacedRule encode_rule (at + 4 + length (gathered encode_capture i.captures)) i.rules
    × PlacedRow PlacedChild encode_child (at + 4 + length (gathered encode_capture i.captures) + length (gathered encode_rule i.rules)) i.children

unfoldable pub PlacedNode : ℕ → Node → Type 0
PlacedNode at n = PlacedRow PlacedNodeInstance encode_node_instance (at + 4) n.instances

unfoldable pub PlacedRoot : ℕ → Root → Type 0
PlacedRoot at t = t.place ≡ at

-- The three sections start behind each other; their elements stand behind keyword and count.
pub record Placed (c : Chip) : Type 0 where
  pub registers : PlacedRow PlacedRegister encode_register (length (encode_start c.model) + 7) c.registers
  pub nodes : PlacedRow PlacedNode encode_node (length (encode_start c.model) + length (encode_registers c.registers) + 6) c.nodes
  pub roots : PlacedRow PlacedRoot encode_root
      (length (encode_start c.model) + length (encode_registers c.registers) + length (encode_nodes c.nodes) + 5)
      c.roots
