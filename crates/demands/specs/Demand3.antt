-- Demand 3 of the minutes, over the definition of isolation and over the answers of the code, by either set of limits, in the words of document 01 ("The words of demand 3") and of document 02 (iii).
use Rattle.std.specs.Prelude.{Result, Ok}
use Rattle.format.specs.declared.Refusal.{Refusal}
use Rattle.std.specs.Prelude.{ℕ, ◌*◌, ◌≤◌, ◌<◌, List, ◌++◌, [], ◌∷◌, ◌⊎◌, ◌↔◌, ◌≡◌, length, get_or, drop}
use Rattle.limits.specs.declared.LimitSet.{LimitSet}
use Rattle.limits.specs.Limits.{limits_of}
use Rattle.graph.specs.Chains.{Graph, Link, ReachedByChains, Listed}
use Rattle.format.specs.Lookup.{at, register_entries, register_position, NodeEntry, node_entries, node_position}
use Rattle.format.specs.References.{Named, named_by}
use Rattle.format.specs.Rules.{Every}
use Rattle.format.specs.Tree.{Rule, Root, Chip}
use Rattle.walk.specs.declared.Walked.{Walked}
use Rattle.walk.specs.Steps.{StepCount}
use Rattle.isolation.specs.ChipGraph.{chip_graph}
use Rattle.isolation.specs.Outcome.{Outcome, outcome_of, isolate}
use Rattle.isolation.specs.declared.Isolation.{Isolation}
use Rattle.listing.specs.Records.{records_of}
use Rattle.demands.specs.Demand2.{Accepted}
use Rattle.demands.specs.Rows.{In, InOrder, Different}

-- "The type has a root in it": a root entry of the file is for the wanted type, and this is the file position of its node instance.
pub record RootAt (c : Chip) (attention position : ℕ) : Type 0 where
  pub root : Root
  pub stands : In root c.roots
  pub wanted : root.attention ≡ attention
  pub means : position ≡ node_position c root.id root.number

-- "Readings fit when both lists have one entry for each register instance and every read byte is 0 or 1."
pub record ReadingsFit (c : Chip) (words read : List ℕ) : Type 0 where
  pub values : length words ≡ length (register_entries c)
  pub marks : length read ≡ length (register_entries c)
  pub bytes : Every (λ b. b ≤ 1) read

-- The read byte of a register that a rule names.
unfoldable pub read_byte : Chip → List ℕ → Named → ℕ
read_byte c read n = get_or read (register_position c n.id n.number) 0

-- A node instance's "rule for the wanted type": one of the rules of the node instance at this file position.
pub record WantedRule (c : Chip) (attention position : ℕ) (r : Rule) : Type 0 where
  pub entry : NodeEntry
  pub stands : at position (node_entries c) ≡ entry ∷ []
  pub own : In r entry.instance.rules
  pub wanted : r.attention ≡ attention

-- "A reached rule is a reached instance's rule for the wanted type": one of a node instance that chains of the graph reach from the root.
pub record ReachedRule (c : Chip) (attention : ℕ) (g : Graph) (root : ℕ) (r : Rule) : Type 0 where
  pub position : ℕ
  pub reached : ReachedByChains g root position
  pub rule : WantedRule c attention position r

-- A register "that a reached rule names".
pub record ReachedName (c : Chip) (attention : ℕ) (g : Graph) (root : ℕ) (n : Named) : Type 0 where
  pub rule : Rule
  pub reached : ReachedRule c attention g root rule
  pub names : In n (named_by rule.expression)

-- "In file order and from bit 0 up within a node instance."
unfoldable pub Before : Link → Link → Type 0
Before l m = (l.instance < m.instance) ⊎ ((l.instance ≡ m.instance) × (l.bit < m.bit))

-- "Exactly the" bits, in the words of document 02 (iii) "active bits without a child, and those whose child shows nothing", "at the end of some unbroken chain of active bits from that root, each once, in file order and from bit 0 up within a node instance."
pub record NamedBits (g : Graph) (root : ℕ) (ls : List Link) : Type 0 where
  pub exactly : (l : Link) → In l ls ↔ Listed g root l.instance l.bit
  pub once : InOrder Different ls
  pub ordered : InOrder Before ls

module _ (of : LimitSet) (file : List ℕ) (attention : ℕ) (words read list : List ℕ) where
  -- "The file is accepted, the type has a root in it, the readings fit, every register that a reached rule names has a value, and the list has room."
  pub record Possible : Type 0 where
    pub chip : Chip
    pub accepted : Accepted of file chip
    pub root : ℕ
    pub rooted : RootAt chip attention root
    pub fit : ReadingsFit chip words read
    -- "A register has a value when its read byte is 1."
    pub valued : (n : Named) → ReachedName chip attention (chip_graph chip attention words read) root n → read_byte chip read n ≡ 1
    pub bits : List Link
    pub named : NamedBits (chip_graph chip attention words read) root bits
    -- "The list has room when it has a whole record's place for every bit that demand 3 names." Document 02 (vi): a record has 16 bytes.
    pub room : length bits * 16 ≤ length list

  -- What the answer is then.
  pub record Answer (p : Possible) (o : Outcome) : Type 0 where
    -- "It holds these bits when its first places are their records and every byte after those is as it was lent." Document 02 (vi): "The single-chip call writes slot 0."
    pub holds : o.list ≡ records_of p.chip 0 attention p.bits ++ drop (length p.bits * 16) list
    -- "The reported record count is the number of these bits."
    pub records : o.records ≡ length p.bits
    -- "The reported step count equals the number of different node instances that unbroken chains from that root reach, the root's own always counted."
    pub instances : List ℕ
    pub reached : (j : ℕ) → In j instances ↔ ReachedByChains (chip_graph p.chip attention words read) p.root j
    pub different : InOrder Different instances
    pub steps : o.steps ≡ length instances
    -- Document 01: "The step count is the number of steps from the start (root waiting, others untouched) until none waits."
    pub walk : Walked
    pub counted : StepCount (chip_graph p.chip attention words read) p.root walk
    pub walked : o.steps ≡ walk.steps
    -- "So it never exceeds the node instances in the file, however many chains there are."
    pub bounded : o.steps ≤ length (node_entries p.chip)

  -- "For every file, attention type, readings and list: isolation succeeds exactly when .." Success is number 0.
  pub record Demand3 : Type 0 where
    pub succeeds : ((isolate (limits_of of) file attention words read list).number ≡ 0) ↔ Possible
    pub answers : (p : Possible) → Answer p (isolate (limits_of of) file attention words read list)

  -- The same of an answer of `isolation::isolate` and the list after the call: it is `Ok` exactly when isolation is possible, and then it is that answer.
  pub record Isolates (r : Result Isolation Refusal) (after : List ℕ) : Type 0 where
    pub succeeds : ((i : Isolation) × (r ≡ Ok i)) ↔ Possible
    pub answers : (p : Possible) → Answer p (outcome_of r after)
