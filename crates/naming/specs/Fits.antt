-- Registers that fit: the one that a reading names, those of captures, and those of rules.
use Rattle.std.specs.Prelude.{ℕ, ◌+◌, ◌*◌, ◌<◌, true, List, [], ◌≡◌, eqb, length, get_or}
use Rattle.format.specs.Lookup.{position, gathered}
use Rattle.format.specs.NodeLayout.{capture_at, rule_at}
use Rattle.format.specs.Parsed.{done, row_at}
use Rattle.format.specs.Tree.{Capture, Rule}
use Rattle.tables.specs.Faults.{capture_faults_in, rule_faults_in}
use Rattle.tables.specs.Tables.{key_of}

-- What a register is kept as whose name stands at a place: an ID of three bytes, and a number of one.
abbrev pub key_in : List ℕ → ℕ → ℕ
key_in s at = key_of (get_or s at 0 * 0x10000 + get_or s (at + 1) 0 * 0x100 + get_or s (at + 2) 0) (get_or s (at + 3) 0)

-- The register that is kept as x is there, and its entry in `kinds` is the kind.
pub record KeyFits (keys kinds : List ℕ) (kind x : ℕ) : Type 0 where
  pub there : position (λ y. eqb y x) keys < length keys
  pub fits : get_or kinds (position (λ y. eqb y x) keys) 0 ≡ kind

-- So many captures are read at a place, and each names a register that is there and readable.
pub record CapturesFit (s keys kinds : List ℕ) (n at : ℕ) : Type 0 where
  pub captures : List Capture
  pub read : row_at (capture_at s) n [] at ≡ done captures (at + n * 4)
  pub fit : gathered (capture_faults_in keys kinds) captures ≡ []

-- So many rules are read at a place, up to another, and each register that they name is there and has the kind.
pub record RulesFit (s keys kinds : List ℕ) (kind n at end : ℕ) : Type 0 where
  pub rules : List Rule
  pub read : row_at (rule_at s true) n [] at ≡ done rules end
  pub fit : gathered (rule_faults_in keys kinds kind) rules ≡ []
