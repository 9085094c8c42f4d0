-- What holds of an index over a table: every number that was entered is met on the way from where its search begins.
use Rattle.std.specs.Prelude.{ℕ, suc, ◌+◌, ◌*◌, ◌-◌, ◌/◌, ◌%◌, ◌≤◌, ◌<◌, cond, List, ◌⊎◌, ◌≡◌, ltb, length, get_or}
use Rattle.std.specs.Int.Bits.{bit_and}

-- The places of an index over up to n numbers: twice that, and 32 more.
abbrev pub places_for : ℕ → ℕ
places_for n = n * 2 + 32

-- The place of an index of n places at which the search for x begins.
unfoldable pub start_of : ℕ → ℕ → ℕ
start_of n x = cond (ltb n 33) 0 (bit_and (x % 0x100000000 * 0x9E3779B1 / 0x10000) (n - 33))

-- The places of an index from one on, up to another, hold positions before p.
abbrev pub TakenFrom : List ℕ → ℕ → ℕ → ℕ → Type 0
TakenFrom index from to p = (b : ℕ) → from ≤ b → b < to → b < length index → (0 < get_or index b 0) × (get_or index b 0 ≤ p)

-- The first place from one on that holds no position before p, or the end of the index.
pub record FreeFrom (index : List ℕ) (from p place : ℕ) : Type 0 where
  pub after : from ≤ place
  pub taken : TakenFrom index from place p
  pub free : place < length index → (get_or index place 0 ≡ 0) ⊎ (p < get_or index place 0)

-- Position p is met on the way from a place, after positions before it alone; or these go on to the end of the index.
pub record Entered (index : List ℕ) (from p : ℕ) : Type 0 where
  pub place : ℕ
  pub after : from ≤ place
  pub taken : TakenFrom index from place p
  pub there : place < length index → get_or index place 0 ≡ suc p

-- The first n numbers of a table are entered.
pub record Indexed (index table : List ℕ) (n : ℕ) : Type 0 where
  pub entered : (p : ℕ) → p < n → Entered index (start_of (length index) (get_or table p 0)) p

-- An index over a whole table.
abbrev pub IndexOf : List ℕ → List ℕ → Type 0
IndexOf index table = Indexed index table (length table)
