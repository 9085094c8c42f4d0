use Prim.Native.Nat.{◌*◌, ◌-◌, ◌≤◌}
use native.Mathlib.Omega.{arith}
use lib.ListN.{length}
use Rattle.nodes.proofs.NodeLaws.{captures_there}
use Rattle.nodes.proofs.captures_at.Goals as goal

pub returns-then-size-s : goal.returns-then-size-s
returns-then-size-s c =
    let h : c.args.at ≤ length c.args.s.now = c.if-at-s.true in
    let k : c.args.n * 4 ≤ length c.args.s.now - c.args.at = c.if-size-s.true in
    captures_there _ _ _ _ (omega arith) (omega arith)
