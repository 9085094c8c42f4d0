use mathlib.Core.Path.{ap}
use Rattle.expressions.specs.Names.{own_names}
use Rattle.naming.proofs.JudgedLaws.{nameless}
use Rattle.naming.proofs.own_fault.Goals as goal

pub returns-in-Reading : goal.returns-in-Reading
returns-in-Reading c = rw c.in-Reading.is c.name_fault.ensures

pub returns-in-Constant : goal.returns-in-Constant
returns-in-Constant c = λ i. nameless _ _ _ (ap (own_names _) c.in-Constant.is)

pub returns-in-All : goal.returns-in-All
returns-in-All c = λ i. nameless _ _ _ (ap (own_names _) c.in-All.is)

pub returns-in-Any : goal.returns-in-Any
returns-in-Any c = λ i. nameless _ _ _ (ap (own_names _) c.in-Any.is)

pub returns-in-Inverse : goal.returns-in-Inverse
returns-in-Inverse c = λ i. nameless _ _ _ (ap (own_names _) c.in-Inverse.is)

pub returns-in-Left : goal.returns-in-Left
returns-in-Left c = λ i. nameless _ _ _ (ap (own_names _) c.in-Left.is)

pub returns-in-Right : goal.returns-in-Right
returns-in-Right c = λ i. nameless _ _ _ (ap (own_names _) c.in-Right.is)
