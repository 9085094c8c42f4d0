use Prim.Native.Nat.{◌+◌, ◌-◌}
use mathlib.Core.Path.{◌≡◌, sym, ◌∙◌, ap}
use native.Mathlib.Omega.{arith}
use lib.ListN.{length}
use Rattle.tables.specs.Tables.{written}
use Rattle.tables.proofs.WritingLaws.{written_beyond}
use Rattle.links.specs.Links.{childless}
use Rattle.links.proofs.ChildrenLaws.{cleared_part, cleared_most}
use Rattle.links.proofs.clear.Goals as goal

pub returns-then-child-k : goal.returns-then-child-k
returns-then-child-k c = sym (written_beyond _ _ _ c.if-child-k.true)

pub returns-then-room-count : goal.returns-then-room-count
returns-then-room-count c =
    let room = length c.args.child.now - c.args.k in
    cleared_part c.args.child.now c.args.k room (omega arith) c.fill.ensures
    ∙ cleared_most c.args.child.now c.args.k room c.args.n (omega arith) (omega arith)

pub returns : goal.returns
returns c =
    let e : c.args.k + c.args.n - c.args.k ≡ c.args.n = omega arith in
    cleared_part c.args.child.now c.args.k (c.args.k + c.args.n - c.args.k) (omega arith) c.fill-2.ensures ∙ ap (λ x. written c.args.child.now c.args.k (childless x)) e
