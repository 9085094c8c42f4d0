-- The search for ranks.
use Rattle.std.specs.Prelude.{ℕ, ◌<◌}
use Rattle.cycles.specs.declared.Seen.{Seen}
use Rattle.cycles.specs.declared.Seen.TheVariants.{Unmet, Met}

-- A child to which the search has not come is one of n node instances.
abbrev pub UnmetIn : ℕ → Seen → Type 0
UnmetIn n (Unmet c) = c < n
UnmetIn n (Met least) = Unit {0}
