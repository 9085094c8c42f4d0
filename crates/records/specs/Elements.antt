-- The records of a chip: "one for each register, instance, node, node instance, capture, rule, expression, child and root, in the file's order" (document 02 (ii)). Places are not in them.
use Rattle.std.specs.Prelude.{ℕ, List, [], ◌∷◌, ◌++◌, map}
use Rattle.format.specs.Encoding.{operand_count}
use Rattle.format.specs.Lookup.{gathered}
use Rattle.format.specs.Tree.{Expr, Exprs, reading, constant, all, any, inverse, left, right, none, more, RegisterInstance, Register, Capture, Rule, Child, NodeInstance, Node, Root, Chip}
use Rattle.records.specs.declared.Record.{Record}
use Rattle.records.specs.Record.{record_bytes}

-- A record by its fields: kind, type, amount, number, ID, value.
abbrev pub record_of : ℕ → ℕ → ℕ → ℕ → ℕ → ℕ → Record
record_of k f a n i v = record { kind = k; form = f; amount = a; number = n; id = i; value = v }

-- An expression, followed by its operands.
unfoldable mutual
  pub expr_records : Expr → List Record
  expr_records (reading p id number) = record_of 7 0x01 0 number id 0 ∷ []
  expr_records (constant v) = record_of 7 0x02 0 0 0 v ∷ []
  expr_records (all es) = record_of 7 0x10 (operand_count es) 0 0 0 ∷ exprs_records es
  expr_records (any es) = record_of 7 0x11 (operand_count es) 0 0 0 ∷ exprs_records es
  expr_records (inverse e) = record_of 7 0x12 0 0 0 0 ∷ expr_records e
  expr_records (left k e) = record_of 7 0x13 k 0 0 0 ∷ expr_records e
  expr_records (right k e) = record_of 7 0x14 k 0 0 0 ∷ expr_records e

  pub exprs_records : Exprs → List Record
  exprs_records none = []
  exprs_records (more e es) = expr_records e ++ exprs_records es

-- A register, followed by its instances.
unfoldable pub register_instance_record : RegisterInstance → Record
register_instance_record i = record_of 2 0 0 i.number 0 i.address

unfoldable pub register_records : Register → List Record
register_records r = record_of 1 r.type r.flags 0 r.id 0 ∷ map register_instance_record r.instances

-- A rule, followed by its expression.
unfoldable pub rule_records : Rule → List Record
rule_records r = record_of 6 r.attention 0 0 0 0 ∷ expr_records r.expression

unfoldable pub capture_record : Capture → Record
capture_record k = record_of 5 0 0 k.number k.id 0

unfoldable pub child_record : Child → Record
child_record k = record_of 8 0 k.bit k.number k.id 0

-- A node instance, followed by its captures, rules and children.
unfoldable pub node_instance_records : NodeInstance → List Record
node_instance_records i =
    record_of 4 0 0 i.number 0 0 ∷ (map capture_record i.captures ++ (gathered rule_records i.rules ++ map child_record i.children))

-- A node, followed by its instances.
unfoldable pub node_records : Node → List Record
node_records n = record_of 3 n.type 0 0 n.id 0 ∷ gathered node_instance_records n.instances

unfoldable pub root_record : Root → Record
root_record t = record_of 9 t.attention 0 t.number t.id 0

-- All elements of a chip, and their bytes.
unfoldable pub elements : Chip → List Record
elements c = gathered register_records c.registers ++ (gathered node_records c.nodes ++ map root_record c.roots)

unfoldable pub records : Chip → List ℕ
records c = gathered record_bytes (elements c)
