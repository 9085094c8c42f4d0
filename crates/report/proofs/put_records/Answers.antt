use mathlib.Core.Path.{ap, ◌∙◌}
use native.Mathlib.Omega.{arith}
use borrow.Author.Rules.{rules}
use lib.ListN.{length}
use Rattle.tables.proofs.TablesLaws.{written-length}
use Rattle.report.proofs.LineLaws.{lines_short, lines_begin, lines_next, lines_end}
use Rattle.report.proofs.put_records.Goals as goal

pub loop-i-init : goal.loop-i-init
loop-i-init c = (omega arith, lines_begin _)

pub overflow_mul-i : goal.overflow_mul-i
overflow_mul-i c = omega (arith, c.requires.0)

pub put_record-at-requires : goal.put_record-at-requires
put_record-at-requires c = (
  omega (arith, c.loop-i.invariant.1.place, lines_short c.loop-i.i c.args.list.now (λ i. (c.type_inv.list i).fits), c.requires.0),
  omega (arith, c.requires.1, c.loop-i-test.true),
)

pub loop-i-preserved : goal.loop-i-preserved
loop-i-preserved c = (search rules, lines_next _ _ c.loop-i.invariant.1 c.put_record-at.ensures)

pub shape_of-text : goal.shape_of-text
shape_of-text c = ap length c.loop-i.invariant.1.text ∙ written-length _ _ _

pub returns : goal.returns
returns c = lines_end _ _ _ c.loop-i.invariant.0 c.loop-i-test.false c.loop-i.invariant.1
