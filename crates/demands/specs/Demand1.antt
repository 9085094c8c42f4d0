-- Demand 1 of the minutes, as far as it speaks of isolation's answer: over the definition of isolation, and over the answers of the code, by either set of limits. Of a board's answer: `Boards`.
use Rattle.std.specs.Prelude.{Result, Ok}
use Rattle.format.specs.declared.Refusal.{Refusal as CodeRefusal}
use Rattle.std.specs.Prelude.{ℕ, ◌≤◌, List, ◌⊎◌, ◌≡◌, length}
use Rattle.limits.specs.declared.LimitSet.{LimitSet}
use Rattle.limits.specs.Limits.{limits_of}
use Rattle.isolation.specs.declared.Isolation.{Isolation}
use Rattle.isolation.specs.Outcome.{Outcome, outcome_of, isolate}

-- "A refused call gives one number and one place from the table in document 01, and the list buffer it was lent keeps every byte"; document 01: "zero records and zero steps". Which numbers, is said of each call below.
pub record Refusal (list : List ℕ) (o : Outcome) : Type 0 where
  pub least : 1 ≤ o.number
  pub records : o.records ≡ 0
  pub steps : o.steps ≡ 0
  pub keeps : o.list ≡ list

-- Isolation's numbers are 1 to 19.
pub record RefusedCall (list : List ℕ) (o : Outcome) : Type 0 where
  pub refusal : Refusal list o
  pub most : o.number ≤ 19

-- A board's are 1 to 20: document 02 (vi) adds 20 to the table, for boards only.
pub record RefusedBoardCall (list : List ℕ) (o : Outcome) : Type 0 where
  pub refusal : Refusal list o
  pub most : o.number ≤ 20

-- Isolation succeeds or is refused, and the list keeps its length.
pub record Demand1 (of : LimitSet) (file : List ℕ) (attention : ℕ) (words read list : List ℕ) : Type 0 where
  pub ends : ((isolate (limits_of of) file attention words read list).number ≡ 0) ⊎ RefusedCall list (isolate (limits_of of) file attention words read list)
  pub sized : length (isolate (limits_of of) file attention words read list).list ≡ length list

-- The same of an answer of `isolation::isolate` and the list after the call; and its number and place are those of the table, in the order of the table.
pub record Refuses (of : LimitSet) (file : List ℕ) (attention : ℕ) (words read list : List ℕ) (r : Result Isolation CodeRefusal) (after : List ℕ) : Type 0 where
  pub told : outcome_of r after ≡ isolate (limits_of of) file attention words read list
  pub ends : ((i : Isolation) × (r ≡ Ok i)) ⊎ RefusedCall list (outcome_of r after)
  pub sized : length after ≡ length list
