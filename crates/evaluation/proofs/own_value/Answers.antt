use native.Mathlib.Omega.{arith}
use Rattle.evaluation.proofs.ValueLaws.{own_constant, own_all, own_any, own_inverse, own_left, own_right}
use Rattle.evaluation.proofs.own_value.Goals as goal

pub returns-in-Reading : goal.returns-in-Reading
returns-in-Reading c = rw c.in-Reading.is c.reading_value.ensures

pub returns-in-Constant : goal.returns-in-Constant
returns-in-Constant c = λ i. own_constant _ _ _ _ _ c.plain_value.ensures c.in-Constant.is (omega arith)

pub returns-in-All : goal.returns-in-All
returns-in-All c = λ i. search own_all

pub returns-in-Any : goal.returns-in-Any
returns-in-Any c = λ i. search own_any

pub returns-in-Inverse : goal.returns-in-Inverse
returns-in-Inverse c = λ i. search own_inverse

pub returns-in-Left : goal.returns-in-Left
returns-in-Left c = λ i. search own_left

pub returns-in-Right : goal.returns-in-Right
returns-in-Right c = λ i. search own_right
