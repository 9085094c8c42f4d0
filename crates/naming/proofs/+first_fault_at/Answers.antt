use native.Mathlib.Omega.{arith}
use Rattle.expressions.proofs.HeadLaws.{open_level}
use Rattle.expressions.proofs.OperandsLaws.{headless}
use Rattle.naming.proofs.JudgedLaws.{judged_head, judged_head_no, judged_no, judged_more, judged_end}
use Rattle.naming.proofs.+first_fault_at.Goals as goal

pub loop-left-init : goal.loop-left-init
loop-left-init t c = (
  open_level _ _ _ c.head_at-top.ensures c.in-Head.is,
  λ i e m h. judged_head _ _ _ _ c.head_at-top.ensures c.in-Head.is c.arity-left.ensures (c.own_fault-own.ensures i) c.in-Next.is h,
)

pub first_fault_at-e-requires : goal.first_fault_at-e-requires
first_fault_at-e-requires t c = (omega arith, tt)

pub returns-in-Refused-e : goal.returns-in-Refused-e
returns-in-Refused-e t c = λ i e m h. judged_no _ _ _ _ e (c.loop-left.invariant.1 i e m h) c.loop-left-test.true (c.first_fault_at-e.ensures i) c.in-Refused-e.is

pub loop-left-preserved : goal.loop-left-preserved
loop-left-preserved t c = (c.loop-left.invariant.0, λ i e m h. judged_more _ _ _ _ e (c.loop-left.invariant.1 i e m h) c.loop-left-test.true (c.first_fault_at-e.ensures i) c.in-Next-e.is)

pub returns-after-loop-left : goal.returns-after-loop-left
returns-after-loop-left t c = λ i e m h. judged_end _ _ _ _ e (c.loop-left.invariant.1 i e m h) c.loop-left-test.false

pub returns-in-Refused-own : goal.returns-in-Refused-own
returns-in-Refused-own t c =
    λ i e m h. judged_head_no _ _ _ _ c.head_at-top.ensures c.in-Head.is (c.own_fault-own.ensures i) c.in-Refused-own.is h

pub returns-in-Refused : goal.returns-in-Refused
returns-in-Refused t c = λ i e m h. headless _ _ _ c.head_at-top.ensures c.in-Refused.is h
