-- Document 01, "What a reading may change", by either set of limits.
use Rattle.std.specs.Prelude.{ℕ, ◌*◌, List, ◌≡◌, length, take}
use Rattle.limits.specs.declared.LimitSet.{LimitSet}
use Rattle.limits.specs.Limits.{limits_of}
use Rattle.format.specs.References.{Named}
use Rattle.format.specs.Tree.{Chip}
use Rattle.isolation.specs.ChipGraph.{chip_graph}
use Rattle.isolation.specs.Outcome.{Outcome, isolate}
use Rattle.isolation.specs.Readings.{word_for}
use Rattle.demands.specs.Demand2.{Accepted}
use Rattle.demands.specs.Demand3.{RootAt, ReadingsFit, read_byte, ReachedName}

-- Two sets of readings "agree, in read byte and where read in value", on a register.
pub record AgreeOn (c : Chip) (words read words' read' : List ℕ) (n : Named) : Type 0 where
  pub byte : read_byte c read n ≡ read_byte c read' n
  pub value : read_byte c read n ≡ 1 → word_for c words n.id n.number ≡ word_for c words' n.id n.number

-- "Two sets of readings that pass refusal 17 and agree .. on every register that the wanted rules of the instances reached under the first set name."
pub record Alike (c : Chip) (attention : ℕ) (words read words' read' : List ℕ) : Type 0 where
  pub first : ReadingsFit c words read
  pub second : ReadingsFit c words' read'
  pub agree : (root : ℕ) → RootAt c attention root → (n : Named) → ReachedName c attention (chip_graph c attention words read) root n
      → AgreeOn c words read words' read' n

-- "The same whole answer", with lists of other bytes: number, place, records and steps, and the records that are written.
pub record SameAnswer (o p : Outcome) : Type 0 where
  pub number : o.number ≡ p.number
  pub place : o.place ≡ p.place
  pub records : o.records ≡ p.records
  pub steps : o.steps ≡ p.steps
  pub written : take (o.records * 16) o.list ≡ take (p.records * 16) p.list

-- "Give the same whole answer with the same file, type and room": with one list all is the same, and with two of one length all that is not lent.
pub record Settled (of : LimitSet) (file : List ℕ) (attention : ℕ) (words read words' read' : List ℕ) : Type 0 where
  pub same : (list : List ℕ) → isolate (limits_of of) file attention words read list ≡ isolate (limits_of of) file attention words' read' list
  pub room : (list list' : List ℕ) → length list ≡ length list' → SameAnswer (isolate (limits_of of) file attention words read list) (isolate (limits_of of) file attention words' read' list')

-- Two sets of readings that are alike in the tree of the file, where it is accepted, settle the answer.
unfoldable pub ReadingsSettle : LimitSet → List ℕ → ℕ → List ℕ → List ℕ → List ℕ → List ℕ → Type 0
ReadingsSettle of file attention words read words' read' =
    ((c : Chip) → Accepted of file c → Alike c attention words read words' read') → Settled of file attention words read words' read'
