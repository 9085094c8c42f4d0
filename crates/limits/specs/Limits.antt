-- The limits of a chip data file: refusals 1, 8 and 9 of document 01's table, and what document 02 (x) raises.
use Rattle.std.specs.Prelude.{ℕ, ◌*◌}
use Rattle.limits.specs.declared.LimitSet.{LimitSet}

-- The most bytes, register instances and node instances of a file.
pub record Limits : Type 0 where
  pub bytes : ℕ
  pub register_instances : ℕ
  pub node_instances : ℕ

-- "Raise the limits to 1,048,576 bytes, 8,192 register instances and 1,024 node instances."
abbrev pub library_limits : Limits
library_limits = record { bytes = 1048576; register_instances = 8192; node_instances = 1024 }

-- "The program keeps 01's limits for bytes and instances": "file longer than 65,536 bytes", "register instance 1,025 or node instance 257 begins".
abbrev pub program_limits : Limits
program_limits = record { bytes = 65536; register_instances = 1024; node_instances = 256 }

-- Whose limits hold: "only the library takes more".
unfoldable pub limits_of : LimitSet → Limits
limits_of LimitSet.Library = library_limits
limits_of LimitSet.Program = program_limits

-- The levels of an expression: "an expression may nest to level 16".
unfoldable pub levels : ℕ
levels = 16

-- The most slots of a board (document 02 (vi)): "A board call takes 1 to 16 slots".
unfoldable pub slots : ℕ
slots = 16

-- The node instances that the files of a board may have in all.
unfoldable pub board_node_instances : ℕ
board_node_instances = slots * library_limits.node_instances
