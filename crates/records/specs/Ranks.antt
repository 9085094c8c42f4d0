-- The types of expressions without a gap between them.
use Rattle.std.specs.Prelude.{ℕ, ◌+◌, ◌≤◌, ◌<◌, ◌≡◌}

-- A type's rank: 1 and 2 of the types 0x01 and 0x02, from 3 on of those from 0x10 on, and 0 of the others.
pub data Ranked (form r : ℕ) : Type 0 where
  low : form < 3 → r ≡ form → Ranked form r
  between : 3 ≤ form → form < 0x10 → r ≡ 0 → Ranked form r
  high : 0x10 ≤ form → r + 13 ≡ form → Ranked form r
