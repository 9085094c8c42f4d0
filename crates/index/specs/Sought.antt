-- What the address query answers by some register instances.
use Rattle.std.specs.Prelude.{ℕ, List}
use Rattle.format.specs.Lookup.{position, at, RegisterEntry, register_named}
use Rattle.format.specs.Refusals.{AddressValues}
use Rattle.format.specs.Tree.{RegisterInstance, Register}
use Rattle.format.specs.Verdict.{address_in}

-- The address of the first of them that has that ID and number, or that there is none.
unfoldable pub address_among : ℕ → ℕ → List RegisterEntry → AddressValues
address_among id number es = address_in (at (position (register_named id number) es) es)

-- A register by its parts.
abbrev pub register_of : ℕ → ℕ → ℕ → List RegisterInstance → Register
register_of id type flags is = record { id = id; type = type; flags = flags; instances = is }
