use mathlib.Core.Path.{refl}
use Rattle.node_pass.proofs.NodeLaws.{rows_passed}
use Rattle.node_pass.proofs.one_pass.rows_pass.Goals as goal

pub returns-then-p : goal.returns-then-p
returns-then-p c =
    λ i z. rows_passed _ _ _ _ _ _ _ _ _ _ c.names-1.given c.wanted-1.given c.places-1.given c.children-1.given (c.listed_pass.ensures i z)

pub returns : goal.returns
returns c = λ i z. rows_passed _ _ _ _ _ _ _ _ _ _ refl refl refl refl (c.nodes_pass-p.ensures i z)
