use Prim.Native.Nat.{◌+◌}
use mathlib.Core.Path.{sym, ◌∙◌, ap}
use native.Mathlib.Omega.{arith}
use Rattle.fields.specs.Views.{byte_parsed}
use Rattle.fields.proofs.RowLaws.{row_begin, row_next, row_last, row_refused}
use Rattle.reader.proofs.roots.root_rows_at.Goals as goal

pub loop-left-init : goal.loop-left-init
loop-left-init c = (0, row_begin _ _ _ _ _)

pub bounds-seen-attention : goal.bounds-seen-attention
bounds-seen-attention c = omega arith

pub returns-in-Refused : goal.returns-in-Refused
returns-in-Refused c =
    row_refused _ _ c.loop-left.invariant.1 (sym (ap byte_parsed c.in-Refused.is) ∙ c.root_at-i.ensures _ c.loop-left.invariant.1.marks) c.loop-left-test.true

pub loop-left-preserved : goal.loop-left-preserved
loop-left-preserved c =
    (c.loop-left.invariant.0 + 1, row_next _ _ c.loop-left.invariant.1 (sym (ap byte_parsed c.in-Byte.is) ∙ c.root_at-i.ensures _ c.loop-left.invariant.1.marks) c.loop-left-test.true (omega arith))

pub returns : goal.returns
returns c = row_last _ _ c.loop-left.invariant.1 c.loop-left-test.false
