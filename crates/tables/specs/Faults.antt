-- Refusals 12 and 13 by tables: the keys of the register instances in file order, and their kinds.
use Rattle.std.specs.Prelude.{ℕ, Bool, List, [], ◌∷◌, ◌++◌, ltb, eqb, length, get_or}
use Rattle.format.specs.Lookup.{position, gathered}
use Rattle.format.specs.Parsed.{Parsed, done, refused}
use Rattle.format.specs.References.{Named, Fault, unless, named_by}
use Rattle.format.specs.Tree.{Capture, Rule, NodeInstance}
use Rattle.tables.specs.Kinds.{readable_kind}
use Rattle.tables.specs.Tables.{key_of}

-- The first fault decides; where there is none, reading goes on at a place.
unfoldable pub judged_at : List Fault → ℕ → Parsed (Unit {0})
judged_at [] next = done tt next
judged_at (f ∷ fs) next = refused f.number f.place

module _ (keys : List ℕ) where
  -- The position of a name among the keys.
  unfoldable pub position_in : ℕ → ℕ → ℕ
  position_in id number = position (λ y. eqb y (key_of id number)) keys

  -- The name is among the keys.
  unfoldable pub present : ℕ → ℕ → Bool
  present id number = ltb (position_in id number) (length keys)

  -- A register that is named at a place: 12 where it is absent, then 13 where its entry in `kinds` is not as asked.
  unfoldable pub register_faults_in : List ℕ → (ℕ → Bool) → ℕ → ℕ → ℕ → List Fault
  register_faults_in kinds asked id number place =
      unless (present id number) 12 place ++ unless (asked (get_or kinds (position_in id number) 0)) 13 place

  -- A register that a rule names, whose registers have to be of this kind.
  unfoldable pub name_faults : List ℕ → ℕ → Named → List Fault
  name_faults kinds kind n = register_faults_in kinds (λ k. eqb k kind) n.id n.number n.place

  -- A capture of a register instance that is absent, or not readable.
  unfoldable pub capture_faults_in : List ℕ → Capture → List Fault
  capture_faults_in kinds k = register_faults_in kinds readable_kind k.id k.number k.place

  -- What is wrong with the registers that a rule names.
  unfoldable pub rule_faults_in : List ℕ → ℕ → Rule → List Fault
  rule_faults_in kinds kind r = gathered (name_faults kinds kind) (named_by r.expression)

  -- What is wrong with the registers that the captures and rules of a node instance name.
  unfoldable pub register_names_in : List ℕ → ℕ → NodeInstance → List Fault
  register_names_in kinds kind i = gathered (capture_faults_in kinds) i.captures ++ gathered (rule_faults_in kinds kind) i.rules
