use Rattle.evaluation.proofs.combine.Goals as goal

pub returns-in-All : goal.returns-in-All
returns-in-All c = rw c.in-All.is c.and_word.ensures

pub returns-in-Any : goal.returns-in-Any
returns-in-Any c = rw c.in-Any.is c.or_word.ensures

pub returns-in-Inverse : goal.returns-in-Inverse
returns-in-Inverse c = rw c.in-Inverse.is c.not_word.ensures

pub returns-in-Left : goal.returns-in-Left
returns-in-Left c = rw c.in-Left.is c.left_word.ensures

pub returns-in-Right : goal.returns-in-Right
returns-in-Right c = rw c.in-Right.is c.right_word.ensures
