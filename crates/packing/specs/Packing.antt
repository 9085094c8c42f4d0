-- The bytes of a file from its records, from the last to the first. `PackingLaws.packed_file`: of a tree's records they are the tree's encoding.
use Rattle.std.specs.Prelude.{ℕ, suc, ◌+◌, ◌-◌, Bool, true, false, cond, List, [], ◌∷◌, ◌++◌, length, take, drop}
use Rattle.numbers.specs.BigEndian.{bytes_of}
use Rattle.format.specs.Keywords.{regs, node, root}
use Rattle.format.specs.Encoding.{encode_start}
use Rattle.format.specs.Fields.{address_size}
use Rattle.records.specs.declared.Record.{Record}
use Rattle.records.specs.declared.Element.{Element}
use Rattle.records.specs.declared.Element.TheVariants.{Register, RegisterInstance, Node, NodeInstance, Capture, Rule, Reading, Constant, All, Any, Inverse, Left, Right, Child, Root, Unknown}
use Rattle.records.specs.Grammar.{element}
use Rattle.packing.specs.declared.Counts.{Counts}

-- The bytes of an element itself, with the counts of what stands behind it; the size is that of an address.
abbrev pub own_bytes : ℕ → Counts → Element → Record → List ℕ
own_bytes size c Register r = bytes_of 3 r.id ++ (bytes_of 1 r.form ++ (bytes_of 1 r.amount ++ bytes_of 1 c.register_instances))
own_bytes size c RegisterInstance r = bytes_of 1 r.number ++ bytes_of size r.value
own_bytes size c Node r = bytes_of 2 r.id ++ (bytes_of 1 r.form ++ bytes_of 1 c.node_instances)
own_bytes size c NodeInstance r = bytes_of 1 r.number ++ (bytes_of 1 c.captures ++ (bytes_of 1 c.rules ++ bytes_of 1 c.children))
own_bytes size c Capture r = bytes_of 3 r.id ++ bytes_of 1 r.number
own_bytes size c Rule r = bytes_of 1 r.form
own_bytes size c Reading r = bytes_of 1 r.form ++ (bytes_of 3 r.id ++ bytes_of 1 r.number)
own_bytes size c Constant r = bytes_of 1 r.form ++ bytes_of 8 r.value
own_bytes size c All r = bytes_of 1 r.form ++ bytes_of 1 r.amount
own_bytes size c Any r = bytes_of 1 r.form ++ bytes_of 1 r.amount
own_bytes size c Inverse r = bytes_of 1 r.form
own_bytes size c Left r = bytes_of 1 r.form ++ bytes_of 1 r.amount
own_bytes size c Right r = bytes_of 1 r.form ++ bytes_of 1 r.amount
own_bytes size c Child r = bytes_of 1 r.amount ++ (bytes_of 2 r.id ++ bytes_of 1 r.number)
own_bytes size c Root r = bytes_of 1 r.form ++ (bytes_of 2 r.id ++ bytes_of 1 r.number)
own_bytes size c Unknown r = []

abbrev pub counts_of : ℕ → ℕ → ℕ → ℕ → ℕ → ℕ → ℕ → ℕ → Counts
counts_of ri r c u k ni n t =
    record { register_instances = ri; registers = r; captures = c; rules = u; children = k; node_instances = ni; nodes = n; roots = t }

-- The counts with an element more; what it holds itself is no longer open.
abbrev pub counting : Counts → Element → Counts
counting c Register = counts_of 0 (c.registers + 1) c.captures c.rules c.children c.node_instances c.nodes c.roots
counting c RegisterInstance =
    counts_of (c.register_instances + 1) c.registers c.captures c.rules c.children c.node_instances c.nodes c.roots
counting c Node = counts_of c.register_instances c.registers c.captures c.rules c.children 0 (c.nodes + 1) c.roots
counting c NodeInstance = counts_of c.register_instances c.registers 0 0 0 (c.node_instances + 1) c.nodes c.roots
counting c Capture =
    counts_of c.register_instances c.registers (c.captures + 1) c.rules c.children c.node_instances c.nodes c.roots
counting c Rule =
    counts_of c.register_instances c.registers c.captures (c.rules + 1) c.children c.node_instances c.nodes c.roots
counting c Reading = c
counting c Constant = c
counting c All = c
counting c Any = c
counting c Inverse = c
counting c Left = c
counting c Right = c
counting c Child =
    counts_of c.register_instances c.registers c.captures c.rules (c.children + 1) c.node_instances c.nodes c.roots
counting c Root =
    counts_of c.register_instances c.registers c.captures c.rules c.children c.node_instances c.nodes (c.roots + 1)
counting c Unknown = c

-- Some bytes, and the counts of the elements in them whose parents stand before.
pub record Packed : Type 0 where
  pub counts : Counts
  pub bytes : List ℕ

abbrev pub packed_of : Counts → List ℕ → Packed
packed_of c bs = record { counts = c; bytes = bs }

-- The type of the last register, with a record more.
abbrev pub type_as : ℕ → Record → Element → ℕ
type_as t r Register = r.form
type_as t r RegisterInstance = t
type_as t r Node = t
type_as t r NodeInstance = t
type_as t r Capture = t
type_as t r Rule = t
type_as t r Reading = t
type_as t r Constant = t
type_as t r All = t
type_as t r Any = t
type_as t r Inverse = t
type_as t r Left = t
type_as t r Right = t
type_as t r Child = t
type_as t r Root = t
type_as t r Unknown = t

unfoldable pub type_with : ℕ → Record → ℕ
type_with t r = type_as t r (element r)

-- A record in front.
unfoldable pub pack_one : ℕ → Record → Packed → Packed
pack_one t r p = packed_of (counting p.counts (element r)) (own_bytes (address_size t) p.counts (element r) r ++ p.bytes)

-- Some records in front, behind a register of that type.
unfoldable pub pack : ℕ → List Record → Packed → Packed
pack t [] p = p
pack t (r ∷ rs) p = pack_one t r (pack (type_with t r) rs p)

abbrev pub none : Counts
none = counts_of 0 0 0 0 0 0 0 0

-- The sections of a file: a section's elements, with its keyword and its count before them.
unfoldable pub roots_section : List Record → List ℕ
roots_section rs = let p = pack 0 rs (packed_of none []) in root ++ (bytes_of 1 p.counts.roots ++ p.bytes)

unfoldable pub nodes_section : List Record → List ℕ → List ℕ
nodes_section rs behind = let p = pack 0 rs (packed_of none behind) in node ++ (bytes_of 2 p.counts.nodes ++ p.bytes)

unfoldable pub registers_section : List Record → List ℕ → List ℕ
registers_section rs behind = let p = pack 0 rs (packed_of none behind) in regs ++ (bytes_of 3 p.counts.registers ++ p.bytes)

-- The records of a section: a register or its instance, a root, or neither.
abbrev pub of_registers : Element → Bool
of_registers Register = true
of_registers RegisterInstance = true
of_registers Node = false
of_registers NodeInstance = false
of_registers Capture = false
of_registers Rule = false
of_registers Reading = false
of_registers Constant = false
of_registers All = false
of_registers Any = false
of_registers Inverse = false
of_registers Left = false
of_registers Right = false
of_registers Child = false
of_registers Root = false
of_registers Unknown = false

abbrev pub of_roots : Element → Bool
of_roots Register = false
of_roots RegisterInstance = false
of_roots Node = false
of_roots NodeInstance = false
of_roots Capture = false
of_roots Rule = false
of_roots Reading = false
of_roots Constant = false
of_roots All = false
of_roots Any = false
of_roots Inverse = false
of_roots Left = false
of_roots Right = false
of_roots Child = false
of_roots Root = true
of_roots Unknown = false

-- How many records there are of a section.
unfoldable pub count_by : (Element → Bool) → List Record → ℕ
count_by test [] = 0
count_by test (r ∷ rs) = cond (test (element r)) (suc (count_by test rs)) (count_by test rs)

-- The whole file. The records of registers stand first, those of roots last.
unfoldable pub file_of : ℕ → List Record → List ℕ
file_of model rs =
    let first = count_by of_registers rs in
    let last = length rs - count_by of_roots rs in
    encode_start model
    ++ registers_section (take first rs) (nodes_section (take (last - first) (drop first rs)) (roots_section (drop last rs)))
