-- The opening of an expression: how many bytes its head has and how many operands follow, in one number.
use Rattle.std.specs.Prelude.{ℕ, ◌+◌, ◌*◌, ◌/◌, ◌%◌, ◌≤◌, List, [], ◌≡◌, length, get_or}
use Rattle.format.specs.Parsed.{done}
use Rattle.expressions.specs.declared.Head.{Head}
use Rattle.expressions.specs.declared.Head.TheVariants.{Reading}
use Rattle.expressions.specs.Heads.{arity_of, head_at}
use Rattle.expressions.specs.Names.{own_names}

-- The ID that a reading names whose type byte stands at a place: the three bytes after it.
abbrev pub id_in : List ℕ → ℕ → ℕ
id_in s at = get_or s (at + 1) 0 * 0x10000 + get_or s (at + 2) 0 * 0x100 + get_or s (at + 3) 0

-- The head of that reading: the ID, and a number of one byte.
abbrev pub reading_of : List ℕ → ℕ → Head
reading_of s at = Reading (id_in s at) (get_or s (at + 4) 0)

-- The head at a place has r / 256 bytes, all of them there, and r % 256 operands. Only a reading has five bytes, and only a reading names a register.
pub record Opening (s : List ℕ) (levels at r : ℕ) : Type 0 where
  pub head : Head
  pub read : head_at s levels at ≡ done head (at + r / 256)
  pub operands : r % 256 ≡ arity_of head
  pub within : at + r / 256 ≤ length s
  pub named : r ≡ 0x500 → head ≡ reading_of s at
  pub nameless : (r ≡ 0x500 → ⊥) → own_names at head ≡ []
