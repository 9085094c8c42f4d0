-- Demand 2 of the minutes, over the definition of the checker's answer and over the answers of the code, by either set of limits.
use Rattle.std.specs.Prelude.{ℕ, ◌≤◌, List, ◌↔◌, ◌≡◌}
use Rattle.limits.specs.declared.LimitSet.{LimitSet}
use Rattle.limits.specs.Limits.{limits_of}
use Rattle.std.specs.Prelude.{Result, Ok}
use Rattle.format.specs.declared.Refusal.{Refusal}
use Rattle.format.specs.declared.Summary.{Summary}
use Rattle.format.specs.Encoding.{encode}
use Rattle.format.specs.Parsed.{refused}
use Rattle.format.specs.Placing.{Placed}
use Rattle.format.specs.Refusals.{CheckValues, refused_with, checked_values}
use Rattle.format.specs.Rules.{Meets}
use Rattle.format.specs.Tree.{Chip}
use Rattle.format.specs.Verdict.{verdict, counts_of, check}

-- "Accepted is meant as in demand 2, by the rules and not by the checker's answer": the file is the encoding of a tree, with its places, that meets the rules with the limits that hold.
pub record Accepted (of : LimitSet) (file : List ℕ) (c : Chip) : Type 0 where
  pub encoded : file ≡ encode c
  pub placed : Placed c
  pub meets : Meets (limits_of of) c

-- "The refusal those rules name first": the layout's in byte order, then those of names and of cycles; its number is one of 1 to 14.
pub record FirstRefusal (of : LimitSet) (file : List ℕ) (v : CheckValues) : Type 0 where
  pub number : ℕ
  pub place : ℕ
  pub first : verdict (limits_of of) file ≡ refused number place
  pub least : 1 ≤ number
  pub most : number ≤ 14
  pub is : v ≡ refused_with number place

-- "A file is accepted exactly when it meets the published chip data layout with the house rules of document 01, and otherwise gets the refusal those rules name first."
pub record Demand2 (of : LimitSet) (file : List ℕ) : Type 0 where
  pub accepts : ((check (limits_of of) file).number ≡ 0) ↔ ((c : Chip) × Accepted of file c)
  -- Its summary holds the counts of the tree.
  pub summary : (c : Chip) → Accepted of file c → check (limits_of of) file ≡ counts_of c
  pub refuses : ((c : Chip) → Accepted of file c → ⊥) → FirstRefusal of file (check (limits_of of) file)

-- The same of an answer of `reader::check`.
pub record Checks (of : LimitSet) (file : List ℕ) (r : Result Summary Refusal) : Type 0 where
  pub accepts : ((s : Summary) × (r ≡ Ok s)) ↔ ((c : Chip) × Accepted of file c)
  pub summary : (c : Chip) → Accepted of file c → checked_values r ≡ counts_of c
  pub refuses : ((c : Chip) → Accepted of file c → ⊥) → FirstRefusal of file (checked_values r)
