-- Document 01, "Bench samples": all starred samples as one table, three files that show document 02 (i), and one that shows (iii).
use Rattle.std.specs.Prelude.{ℕ, List, [], ◌∷◌, ◌++◌, ◌≡◌, take, drop}
use Rattle.limits.specs.Limits.{library_limits, program_limits}
use Rattle.format.specs.Samples.{b1}
use Rattle.format.specs.Samples as files
use Rattle.isolation.specs.Outcome.{Outcome, done_outcome, refused_outcome, isolate}

-- A row: a sample of a file or an expression alone; or a file, a type, words, read bytes and a list, with the whole answer, by the library's limits and by the program's.
pub data Row : Type 0 where
  checking : files.Row → Row
  isolating : List ℕ → ℕ → List ℕ → List ℕ → List ℕ → Outcome → Row

abbrev pub Holds : Row → Type 0
Holds (checking r) = files.Holds r
Holds (isolating file attention words read list o) = (isolate library_limits file attention words read list ≡ o) × (isolate program_limits file attention words read list ≡ o)

abbrev pub AllHold : List Row → Type 0
AllHold [] = Unit {0}
AllHold (r ∷ rs) = Holds r × AllHold rs

-- A list with room for one record and three bytes more, all AA hex.
unfoldable pub lent : List ℕ
lent =
    0xAA ∷ 0xAA ∷ 0xAA ∷ 0xAA ∷ 0xAA ∷ 0xAA ∷ 0xAA ∷ 0xAA ∷ 0xAA ∷ 0xAA ∷ 0xAA ∷ 0xAA ∷ 0xAA ∷ 0xAA ∷ 0xAA ∷ 0xAA ∷
    0xAA ∷ 0xAA ∷ 0xAA ∷ []

abbrev pub kept : List ℕ
kept = 0xAA ∷ 0xAA ∷ 0xAA ∷ []

-- B1 with a second node. Bit 0 of node 1 has node 2 as its child, and node 2 shows the same register shifted left by one.
unfoldable pub two_nodes : List ℕ
two_nodes =
    take 35 b1
    ++ (0x00 ∷ 0x02 ∷
    0x00 ∷ 0x01 ∷ 0x01 ∷ 0x01 ∷ 0x00 ∷ 0x00 ∷ 0x01 ∷ 0x01 ∷ 0x03 ∷ 0x01 ∷ 0x00 ∷ 0x00 ∷ 0x01 ∷ 0x00 ∷ 0x00 ∷ 0x00 ∷ 0x02 ∷ 0x00 ∷
    0x00 ∷ 0x02 ∷ 0x01 ∷ 0x01 ∷ 0x00 ∷ 0x00 ∷ 0x01 ∷ 0x00 ∷ 0x03 ∷ 0x13 ∷ 0x01 ∷ 0x01 ∷ 0x00 ∷ 0x00 ∷ 0x01 ∷ 0x00 ∷
    drop 51 b1)

-- The samples of a file or an expression alone, before other rows.
abbrev pub checked : List files.Row → List Row → List Row
checked [] rest = rest
checked (r ∷ rs) rest = checking r ∷ checked rs rest

-- B1: "reading 8000000000000000 hex, type 3", "Reading 1", "Reading 0", "Type 1", "Register unread", "No room". Then (iii): bit 0 of node 1 is active and its child shows nothing, so that bit is listed, in 2 steps; with bit 1 active too, node 2 shows bit 0, and bit 1 of node 1 and bit 0 of node 2 are listed.
abbrev pub samples : List Row
samples =
    checked files.samples
    (isolating b1 3 (0x8000_0000_0000_0000 ∷ []) (1 ∷ []) lent
    (done_outcome 1 1
    (0x00 ∷ 0x00 ∷ 0x00 ∷ 0x01 ∷ 0x03 ∷ 0x00 ∷ 0x00 ∷ 0x01 ∷ 0x00 ∷ 0x00 ∷ 0x00 ∷ 0x00 ∷ 0x00 ∷ 0x00 ∷ 0x00 ∷ 0x00 ∷ kept))
    ∷ isolating b1 3 (1 ∷ []) (1 ∷ []) lent
    (done_outcome 1 1
    (0x00 ∷ 0x00 ∷ 0x00 ∷ 0x01 ∷ 0x03 ∷ 0x3F ∷ 0x00 ∷ 0x01 ∷ 0x00 ∷ 0x00 ∷ 0x00 ∷ 0x00 ∷ 0x00 ∷ 0x00 ∷ 0x00 ∷ 0x00 ∷ kept))
    ∷ isolating b1 3 (0 ∷ []) (1 ∷ []) lent (done_outcome 0 1 lent)
    ∷ isolating b1 1 (0 ∷ []) (1 ∷ []) lent (refused_outcome 16 0 lent)
    ∷ isolating b1 3 (0 ∷ []) (0 ∷ []) lent (refused_outcome 18 46 lent)
    ∷ isolating b1 3 (0x8000_0000_0000_0000 ∷ []) (1 ∷ []) (0xAA ∷ []) (refused_outcome 19 1 (0xAA ∷ []))
    ∷ isolating two_nodes 3 (0x8000_0000_0000_0000 ∷ []) (1 ∷ []) lent
    (done_outcome 1 2
    (0x00 ∷ 0x00 ∷ 0x00 ∷ 0x01 ∷ 0x03 ∷ 0x00 ∷ 0x00 ∷ 0x01 ∷ 0x00 ∷ 0x00 ∷ 0x00 ∷ 0x00 ∷ 0x00 ∷ 0x00 ∷ 0x00 ∷ 0x00 ∷ kept))
    ∷ isolating two_nodes 3 (0xC000_0000_0000_0000 ∷ []) (1 ∷ []) (lent ++ lent)
    (done_outcome 2 2
    (0x00 ∷ 0x00 ∷ 0x00 ∷ 0x01 ∷ 0x03 ∷ 0x01 ∷ 0x00 ∷ 0x01 ∷ 0x00 ∷ 0x00 ∷ 0x00 ∷ 0x00 ∷ 0x00 ∷ 0x00 ∷ 0x00 ∷ 0x00 ∷
    0x00 ∷ 0x00 ∷ 0x00 ∷ 0x01 ∷ 0x03 ∷ 0x00 ∷ 0x00 ∷ 0x02 ∷ 0x00 ∷ 0x00 ∷ 0x00 ∷ 0x00 ∷ 0x00 ∷ 0x00 ∷ 0x00 ∷ 0x00 ∷ kept ++ kept))
    ∷ [])
