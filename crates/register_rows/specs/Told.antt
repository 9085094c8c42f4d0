-- A reading that may have been too much for a short list.
use Rattle.std.specs.Prelude.{ℕ, Bool, true, not, eqb}
use Rattle.format.specs.Parsed.{Parsed, done, refused}

-- An answer that is not that the list was too short.
unfoldable pub is_told : Parsed ℕ → Bool
is_told (done n next) = true
is_told (refused k place) = not (eqb k 43)
