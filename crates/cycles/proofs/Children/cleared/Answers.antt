use Rattle.std.proofs.Common.{sym, ◌∙◌, arith}
use Rattle.cycles.proofs.OrderLaws.{forward_acyclic, backward_acyclic}
use Rattle.cycles.proofs.RankLaws.{ranks_clear}
use Rattle.cycles.proofs.Children.cleared.Goals as goal
use Rattle.cycles.proofs.Children.cleared.Goals.{then-in_order-via-then-in_order, then-in_order-via-else-in_order+then-in_order-2}

pub returns-then-in_order : goal.returns-then-in_order
returns-then-in_order c =
    elim c.then-in_order.branch [
      | then-in_order-via-then-in_order w ↦ (omega arith, forward_acyclic _ _ (sym c.in_order.ensures ∙ w.if-in_order.true))
      | then-in_order-via-else-in_order+then-in_order-2 w ↦ (omega arith, backward_acyclic _ _ (sym w.in_order-else-in_order.ensures ∙ w.if-in_order-2.true))
    ]

pub returns-then-none_above : goal.returns-then-none_above
returns-then-none_above c = ranks_clear _ _ _ c.first_not_below-k.ensures (c.none_above.ensures c.if-none_above.true)
