-- Neither set of limits is above the library's.
use Prim.Native.Nat.{◌≤◌}
use native.Mathlib.Omega.{arith}
use Rattle.limits.specs.declared.LimitSet.{LimitSet}
use Rattle.limits.specs.Limits.{library_limits, limits_of}

pub bytes_within : (of : LimitSet) → (limits_of of).bytes ≤ library_limits.bytes
unfolding limits_of
bytes_within LimitSet.Library = omega arith
bytes_within LimitSet.Program = omega arith

pub registers_within : (of : LimitSet) → (limits_of of).register_instances ≤ library_limits.register_instances
unfolding limits_of
registers_within LimitSet.Library = omega arith
registers_within LimitSet.Program = omega arith

pub nodes_within : (of : LimitSet) → (limits_of of).node_instances ≤ library_limits.node_instances
unfolding limits_of
nodes_within LimitSet.Library = omega arith
nodes_within LimitSet.Program = omega arith
