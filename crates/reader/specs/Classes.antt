-- Tables by the length of a file.
use Rattle.std.specs.Prelude.{◌*◌, Bool, true, not, eqb}
use Rattle.limits.specs.Classes.{Class}
use Rattle.format.specs.Refusals.{number_of}
use Rattle.reader.specs.declared.LayoutRead.{LayoutRead}
use Rattle.reader.specs.Examined.{Lengths}

-- The lengths of the tables of a class.
unfoldable pub class_room : Class → Lengths
class_room k = record { keys = k.registers; kinds = k.registers; names = k.nodes; wanted = k.nodes; places = k.nodes; child = k.nodes * 64 }

-- An answer that is not that a table was too short.
unfoldable pub is_exact : LayoutRead → Bool
is_exact (LayoutRead.Done l) = true
is_exact (LayoutRead.Refused r) = not (eqb (number_of r.kind) 43)
