-- Classes of tables: for how many register instances and node instances the tables of each have room.
use Rattle.std.specs.Prelude.{ℕ}
use Rattle.limits.specs.Limits.{library_limits, program_limits}

pub record Class : Type 0 where
  pub registers : ℕ
  pub nodes : ℕ

abbrev pub small : Class
small = record { registers = 32; nodes = 8 }

abbrev pub middle : Class
middle = record { registers = 256; nodes = 64 }

-- Room for every file of the program.
abbrev pub large : Class
large = record { registers = program_limits.register_instances; nodes = program_limits.node_instances }

-- Room for every file of the library.
abbrev pub full : Class
full = record { registers = library_limits.register_instances; nodes = library_limits.node_instances }
