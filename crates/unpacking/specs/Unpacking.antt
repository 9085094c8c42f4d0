-- The records of a file, element by element, by the counts that it has. `UnpackingLaws.unpacked_tree`: of a tree's encoding they are the tree's records.
use Rattle.std.specs.Prelude.{ℕ, zero, suc, ◌+◌, ◌-◌, Bool, true, false, cond, List, [], ◌∷◌, ◌++◌, leb, ltb, length}
use Rattle.limits.specs.Limits.{library_limits}
use Rattle.numbers.specs.Field.{number_at}
use Rattle.format.specs.Fields.{address_size}
use Rattle.format.specs.Lookup.{gathered}
use Rattle.records.specs.declared.Record.{Record}
use Rattle.records.specs.declared.Element.{Element}
use Rattle.records.specs.declared.Element.TheVariants as element
use Rattle.records.specs.Record.{record_size, record_bytes, put_record}
use Rattle.records.specs.Elements.{record_of}
use Rattle.records.specs.Grammar.{expression_of}
use Rattle.records.specs.Sizes.{own_size}
use Rattle.unpacking.specs.declared.Left.{Left}
use Rattle.unpacking.specs.declared.Passed.{Passed}

-- The number of n bytes at a place; 0 where they are not wholly there, which is nowhere in an accepted file.
unfoldable pub value_at : List ℕ → ℕ → ℕ → ℕ
value_at s at n = (number_at s at n).value

abbrev pub left_of : ℕ → ℕ → ℕ → ℕ → ℕ → ℕ → ℕ → ℕ → ℕ → ℕ → Left
left_of f e c u k ni n ri r t =
    record { form = f; owed = e; captures = c; rules = u; children = k; node_instances = ni; nodes = n; register_instances = ri; registers = r; roots = t }

-- What comes next: what belongs to the innermost element first. Unknown where nothing is to come.
unfoldable pub element_next : List ℕ → ℕ → Left → Element
element_next s at l =
    cond (ltb 0 l.owed) (expression_of (value_at s at 1))
    (cond (ltb 0 l.captures) element.Capture
    (cond (ltb 0 l.rules) element.Rule
    (cond (ltb 0 l.children) element.Child
    (cond (ltb 0 l.node_instances) element.NodeInstance
    (cond (ltb 0 l.nodes) element.Node
    (cond (ltb 0 l.register_instances) element.RegisterInstance
    (cond (ltb 0 l.registers) element.Register
    (cond (ltb 0 l.roots) element.Root element.Unknown))))))))

-- Its record.
abbrev pub record_next : List ℕ → ℕ → Left → Element → Record
record_next s at l element.Register = record_of 1 (value_at s (at + 3) 1) (value_at s (at + 4) 1) 0 (value_at s at 3) 0
record_next s at l element.RegisterInstance = record_of 2 0 0 (value_at s at 1) 0 (value_at s (at + 1) (address_size l.form))
record_next s at l element.Node = record_of 3 (value_at s (at + 2) 1) 0 0 (value_at s at 2) 0
record_next s at l element.NodeInstance = record_of 4 0 0 (value_at s at 1) 0 0
record_next s at l element.Capture = record_of 5 0 0 (value_at s (at + 3) 1) (value_at s at 3) 0
record_next s at l element.Rule = record_of 6 (value_at s at 1) 0 0 0 0
record_next s at l element.Reading = record_of 7 0x01 0 (value_at s (at + 4) 1) (value_at s (at + 1) 3) 0
record_next s at l element.Constant = record_of 7 0x02 0 0 0 (value_at s (at + 1) 8)
record_next s at l element.All = record_of 7 0x10 (value_at s (at + 1) 1) 0 0 0
record_next s at l element.Any = record_of 7 0x11 (value_at s (at + 1) 1) 0 0 0
record_next s at l element.Inverse = record_of 7 0x12 0 0 0 0
record_next s at l element.Left = record_of 7 0x13 (value_at s (at + 1) 1) 0 0 0
record_next s at l element.Right = record_of 7 0x14 (value_at s (at + 1) 1) 0 0 0
record_next s at l element.Child = record_of 8 0 (value_at s at 1) (value_at s (at + 3) 1) (value_at s (at + 1) 2) 0
record_next s at l element.Root = record_of 9 (value_at s at 1) 0 (value_at s (at + 3) 1) (value_at s (at + 1) 2) 0
record_next s at l element.Unknown = record_of 0 0 0 0 0 0

-- After an expression with so many operands.
abbrev pub owing : Left → ℕ → Left
owing l n =
    left_of l.form (l.owed - 1 + n) l.captures l.rules l.children l.node_instances l.nodes l.register_instances l.registers l.roots

-- What is to come after it.
abbrev pub left_next : List ℕ → ℕ → Left → Element → Left
left_next s at l element.Register =
    left_of (value_at s (at + 3) 1) l.owed l.captures l.rules l.children l.node_instances l.nodes (value_at s (at + 5) 1) (l.registers - 1)
    l.roots
left_next s at l element.RegisterInstance =
    left_of l.form l.owed l.captures l.rules l.children l.node_instances l.nodes (l.register_instances - 1) l.registers l.roots
left_next s at l element.Node =
    left_of l.form l.owed l.captures l.rules l.children (value_at s (at + 3) 1) (l.nodes - 1) l.register_instances l.registers l.roots
left_next s at l element.NodeInstance =
    left_of l.form l.owed (value_at s (at + 1) 1) (value_at s (at + 2) 1) (value_at s (at + 3) 1) (l.node_instances - 1) l.nodes
    l.register_instances l.registers l.roots
left_next s at l element.Capture =
    left_of l.form l.owed (l.captures - 1) l.rules l.children l.node_instances l.nodes l.register_instances l.registers l.roots
left_next s at l element.Rule =
    left_of l.form 1 l.captures (l.rules - 1) l.children l.node_instances l.nodes l.register_instances l.registers l.roots
left_next s at l element.Reading = owing l 0
left_next s at l element.Constant = owing l 0
left_next s at l element.All = owing l (value_at s (at + 1) 1)
left_next s at l element.Any = owing l (value_at s (at + 1) 1)
left_next s at l element.Inverse = owing l 1
left_next s at l element.Left = owing l 1
left_next s at l element.Right = owing l 1
left_next s at l element.Child =
    left_of l.form l.owed l.captures l.rules (l.children - 1) l.node_instances l.nodes l.register_instances l.registers l.roots
left_next s at l element.Root =
    left_of l.form l.owed l.captures l.rules l.children l.node_instances l.nodes l.register_instances l.registers (l.roots - 1)
left_next s at l element.Unknown = l

-- There is a next element.
abbrev pub known : Element → Bool
known element.Register = true
known element.RegisterInstance = true
known element.Node = true
known element.NodeInstance = true
known element.Capture = true
known element.Rule = true
known element.Reading = true
known element.Constant = true
known element.All = true
known element.Any = true
known element.Inverse = true
known element.Left = true
known element.Right = true
known element.Child = true
known element.Root = true
known element.Unknown = false

-- Some records, and the place after their elements.
pub record Run : Type 0 where
  pub records : List Record
  pub end : ℕ

abbrev pub run_of : List Record → ℕ → Run
run_of rs at = record { records = rs; end = at }

abbrev pub in_front : Record → Run → Run
in_front r k = run_of (r ∷ k.records) k.end

-- How many records a run has, and the place after their elements.
abbrev pub passed : Run → Passed
passed k = record { count = length k.records; end = k.end }

-- The elements from a place on, at most so many of them.
unfoldable pub run : List ℕ → ℕ → ℕ → Left → Run
run s zero at l = run_of [] at
run s (suc n) at l =
    let e = element_next s at l in
    cond (known e) (in_front (record_next s at l e) (run s n (at + own_size (address_size l.form) e) (left_next s at l e))) (run_of [] at)

-- What is to come at the start of each section.
abbrev pub registers_in : List ℕ → Left
registers_in s = left_of 0 0 0 0 0 0 0 0 (value_at s 17 3) 0

abbrev pub nodes_in : List ℕ → ℕ → Left
nodes_in s at = left_of 0 0 0 0 0 0 (value_at s (at + 4) 2) 0 0 0

abbrev pub roots_in : List ℕ → ℕ → Left
roots_in s at = left_of 0 0 0 0 0 0 0 0 0 (value_at s (at + 4) 1)

-- The sections of a file. Each has its count behind its keyword, and no more elements than the file has bytes.
unfoldable pub run_registers : List ℕ → Run
run_registers s = run s (length s) 20 (registers_in s)

unfoldable pub run_nodes : List ℕ → ℕ → Run
run_nodes s at = run s (length s) (at + 6) (nodes_in s at)

unfoldable pub run_roots : List ℕ → ℕ → Run
run_roots s at = run s (length s) (at + 5) (roots_in s at)

-- All records of a file.
unfoldable pub unpacked : List ℕ → List Record
unpacked s =
    let a = run_registers s in
    let b = run_nodes s a.end in
    a.records ++ (b.records ++ (run_roots s b.end).records)

-- Those of a file that is not longer than the library's limit; of a longer one none.
unfoldable pub unpacked_within : List ℕ → List Record
unpacked_within s = cond (leb (length s) library_limits.bytes) (unpacked s) []

-- Their bytes.
unfoldable pub unpacked_bytes : List ℕ → List ℕ
unpacked_bytes s = gathered record_bytes (unpacked_within s)

-- Records one after another from a place on, each where there is room for it.
unfoldable pub put_records : List ℕ → ℕ → List Record → List ℕ
put_records out to [] = out
put_records out to (r ∷ rs) = put_records (put_record out to r) (to + record_size) rs
