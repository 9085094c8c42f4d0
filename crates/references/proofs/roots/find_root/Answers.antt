use mathlib.Core.Path.{◌∙◌}
use Rattle.links.proofs.RowLaws.{going_begin, going_next, going_stop, going_end}
use Rattle.references.proofs.RootsLaws.{root_found, root_other, root_nowhere}
use Rattle.references.proofs.roots.find_root.Goals as goal

pub loop-left-init : goal.loop-left-init
loop-left-init c = going_begin _ _ _ _

pub returns-then-t-attention : goal.returns-then-t-attention
returns-then-t-attention c =
    going_stop _ _ c.loop-left.invariant c.loop-left-test.true
    (λ before t m e. root_found _ _ t m (c.root_at-t.ensures before t m e) c.if-t-attention.true c.name_position.ensures)

pub loop-left-preserved : goal.loop-left-preserved
loop-left-preserved c =
    going_next _ _ c.loop-left.invariant c.loop-left-test.true _
    (λ before t m e. root_other _ _ t m (c.root_at-t.ensures before t m e) c.if-t-attention.false)

pub returns : goal.returns
returns c = λ ts m e. root_nowhere _ _ ∙ going_end _ _ c.loop-left.invariant c.loop-left-test.false ts m e
