use borrow.Author.Tests.{ne_eqb}
use Rattle.format.specs.ExpressionLayout.{operation_of}
use Rattle.expressions.specs.Heads.{operation_head_at}
use Rattle.expressions.proofs.operation_head_at.Goals as goal

pub returns-in-1 : goal.returns-in-1
unfolding operation_of operation_head_at
returns-in-1 c = rw c.in-1.is c.reading_head_at.ensures

pub returns-in-2 : goal.returns-in-2
unfolding operation_of operation_head_at
returns-in-2 c = rw c.in-2.is c.constant_head_at.ensures

pub returns-in-16 : goal.returns-in-16
unfolding operation_of operation_head_at
returns-in-16 c = rw c.in-16.is c.all_head_at.ensures

pub returns-in-17 : goal.returns-in-17
unfolding operation_of operation_head_at
returns-in-17 c = rw c.in-17.is c.any_head_at.ensures

pub returns-in-18 : goal.returns-in-18
unfolding operation_of operation_head_at
returns-in-18 c = rw c.in-18.is

pub returns-in-19 : goal.returns-in-19
unfolding operation_of operation_head_at
returns-in-19 c = rw c.in-19.is c.left_head_at.ensures

pub returns-in-20 : goal.returns-in-20
unfolding operation_of operation_head_at
returns-in-20 c = rw c.in-20.is c.right_head_at.ensures

pub returns-in_default : goal.returns-in_default
unfolding operation_of operation_head_at
returns-in_default c =
    simp (
      ne_eqb _ _ c.in_default.in_default-own.rest.1,
      ne_eqb _ _ c.in_default.in_default-own.rest.0.1,
      ne_eqb _ _ c.in_default.in_default-own.rest.0.0.1,
      ne_eqb _ _ c.in_default.in_default-own.rest.0.0.0.1,
      ne_eqb _ _ c.in_default.in_default-own.rest.0.0.0.0.1,
      ne_eqb _ _ c.in_default.in_default-own.rest.0.0.0.0.0.1,
      ne_eqb _ _ c.in_default.in_default-own.rest.0.0.0.0.0.0.1,
    )
