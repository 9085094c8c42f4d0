-- A tree as bytes: source document 001, its tables read as a printer. Places are not written.
use Rattle.std.specs.Prelude.{ℕ, suc, List, [], ◌++◌, length}
use Rattle.numbers.specs.BigEndian.{bytes_of}
use Rattle.format.specs.Keywords.{chipdata, regs, node, root}
use Rattle.format.specs.Fields.{address_size}
use Rattle.format.specs.Lookup.{gathered}
use Rattle.format.specs.Tree.{Expr, Exprs, reading, constant, all, any, inverse, left, right, none, more, RegisterInstance, Register, Capture, Rule, Child, NodeInstance, Node, Root, Chip}

-- How many operands there are.
unfoldable pub operand_count : Exprs → ℕ
operand_count none = 0
operand_count (more e es) = suc (operand_count es)

-- Appendix 3: the type byte, and what follows it.
unfoldable mutual
  pub encode_expr : Expr → List ℕ
  encode_expr (reading p id number) = bytes_of 1 0x01 ++ (bytes_of 3 id ++ bytes_of 1 number)
  encode_expr (constant v) = bytes_of 1 0x02 ++ bytes_of 8 v
  encode_expr (all es) = bytes_of 1 0x10 ++ (bytes_of 1 (operand_count es) ++ encode_exprs es)
  encode_expr (any es) = bytes_of 1 0x11 ++ (bytes_of 1 (operand_count es) ++ encode_exprs es)
  encode_expr (inverse e) = bytes_of 1 0x12 ++ encode_expr e
  encode_expr (left k e) = bytes_of 1 0x13 ++ (bytes_of 1 k ++ encode_expr e)
  encode_expr (right k e) = bytes_of 1 0x14 ++ (bytes_of 1 k ++ encode_expr e)

  pub encode_exprs : Exprs → List ℕ
  encode_exprs none = []
  encode_exprs (more e es) = encode_expr e ++ encode_exprs es

-- Section 2.1: the number, and the address in as many bytes as the register's type has.
unfoldable pub encode_register_instance : ℕ → RegisterInstance → List ℕ
encode_register_instance type i = bytes_of 1 i.number ++ bytes_of (address_size type) i.address

-- Section 2: ID, type, flags, number of instances, and the instances.
unfoldable pub encode_register : Register → List ℕ
encode_register r =
    (bytes_of 3 r.id ++ (bytes_of 1 r.type ++ (bytes_of 1 r.flags ++ bytes_of 1 (length r.instances))))
    ++ gathered (encode_register_instance r.type) r.instances

-- Section 3.1.1: register ID and instance.
unfoldable pub encode_capture : Capture → List ℕ
encode_capture k = bytes_of 3 k.id ++ bytes_of 1 k.number

-- Section 3.1.2: attention type and expression.
unfoldable pub encode_rule : Rule → List ℕ
encode_rule r = bytes_of 1 r.attention ++ encode_expr r.expression

-- Section 3.1.3: bit, node ID and instance.
unfoldable pub encode_child : Child → List ℕ
encode_child k = bytes_of 1 k.bit ++ (bytes_of 2 k.id ++ bytes_of 1 k.number)

-- Section 3.1: the number and the three counts, then captures, rules and children.
unfoldable pub encode_node_instance : NodeInstance → List ℕ
encode_node_instance i =
    (bytes_of 1 i.number ++ (bytes_of 1 (length i.captures) ++ (bytes_of 1 (length i.rules) ++ bytes_of 1 (length i.children))))
    ++ (gathered encode_capture i.captures ++ (gathered encode_rule i.rules ++ gathered encode_child i.children))

-- Section 3: ID, type, number of instances, and the instances.
unfoldable pub encode_node : Node → List ℕ
encode_node n =
    (bytes_of 2 n.id ++ (bytes_of 1 n.type ++ bytes_of 1 (length n.instances))) ++ gathered encode_node_instance n.instances

-- Section 4: attention type, node ID and instance.
unfoldable pub encode_root : Root → List ℕ
encode_root r = bytes_of 1 r.attention ++ (bytes_of 2 r.id ++ bytes_of 1 r.number)

-- Section 1: the keyword, the model/level and version 1.
unfoldable pub encode_start : ℕ → List ℕ
encode_start m = chipdata ++ (bytes_of 4 m ++ bytes_of 1 1)

-- The sections, each with its keyword and its count.
unfoldable pub encode_registers : List Register → List ℕ
encode_registers rs = regs ++ (bytes_of 3 (length rs) ++ gathered encode_register rs)

unfoldable pub encode_nodes : List Node → List ℕ
encode_nodes ns = node ++ (bytes_of 2 (length ns) ++ gathered encode_node ns)

unfoldable pub encode_roots : List Root → List ℕ
encode_roots ts = root ++ (bytes_of 1 (length ts) ++ gathered encode_root ts)

-- The whole file.
unfoldable pub encode : Chip → List ℕ
encode c =
    encode_start c.model ++ (encode_registers c.registers ++ (encode_nodes c.nodes ++ encode_roots c.roots))
