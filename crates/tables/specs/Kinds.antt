-- What tables keep of a register beside its name.
use Rattle.std.specs.Prelude.{ℕ, ◌+◌, ◌*◌, ◌/◌, ◌%◌, Bool, eqb}

-- A register's type, and whether it is readable, in one number.
unfoldable pub kind_of : ℕ → ℕ → ℕ
kind_of type flags = type * 2 + flags / 128

-- The kind of the registers that the rules of a node of this type may name: readable, and of the type.
unfoldable pub wanted_kind : ℕ → ℕ
wanted_kind type = type * 2 + 1

-- The kind is that of a readable register, of any type.
unfoldable pub readable_kind : ℕ → Bool
readable_kind kind = eqb (kind % 2) 1
