-- Document 02 (i), of isolation by either set of limits: "Isolation reads the narrower set of accepted files."
use Rattle.std.specs.Prelude.{ℕ, List, ◌≡◌}
use Rattle.limits.specs.declared.LimitSet.{LimitSet}
use Rattle.limits.specs.Limits.{limits_of}
use Rattle.format.specs.Rules.{CapturesReadable}
use Rattle.format.specs.Tree.{Chip}
use Rattle.isolation.specs.Outcome.{isolate}
use Rattle.demands.specs.Demand2.{Accepted}

-- Where isolation succeeds, the file is accepted, and every register that it captures is readable.
abbrev pub ReadsNarrower : LimitSet → List ℕ → ℕ → List ℕ → List ℕ → List ℕ → Type 0
ReadsNarrower of file attention words read list = (isolate (limits_of of) file attention words read list).number ≡ 0 → (c : Chip) × Accepted of file c × CapturesReadable c
