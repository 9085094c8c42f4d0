use Rattle.std.proofs.Common.{arith, sym, ◌∙◌}
use Rattle.unpacking.proofs.LoopLaws.{address_size-le, own_size-le, going_start, going_next, going_stop, going_end}
use Rattle.unpacking.proofs.put_run.Goals as goal

pub loop-count-init : goal.loop-count-init
loop-count-init c = going_start _ _ _ _ _

pub returns-then-not-is_known : goal.returns-then-not-is_known
returns-then-not-is_known c =
    let done = going_stop _ _ _ _ _ c.loop-count.invariant c.behind-rest.ensures c.element_next-e.ensures (sym c.is_known.ensures ∙ c.if-not-is_known.true) in
    record { is_passed = done.is_passed; output = done.output }

pub overflow_add-place : goal.overflow_add-place
overflow_add-place c =
    omega (
      arith,
      c.loop-count.invariant.near,
      c.own_size-size.ensures,
      own_size-le c.address_size.result c.element_next-e.result (omega (arith, c.address_size.ensures, address_size-le c.loop-count.left.form)),
    )

pub loop-count-preserved : goal.loop-count-preserved
loop-count-preserved c =
    going_next _ _ _ _ _ (λ i. omega (arith, c.type_inv.s i)) c.loop-count.invariant (omega arith) c.behind-rest.ensures c.element_next-e.ensures
    (sym c.is_known.ensures ∙ c.if-not-is_known.false) c.put_next.ensures c.address_size.ensures c.own_size-size.ensures c.left_next-left.ensures

pub returns : goal.returns
returns c = let done = going_end _ _ _ _ _ c.loop-count.invariant (omega arith) in record { is_passed = done.is_passed; output = done.output }
