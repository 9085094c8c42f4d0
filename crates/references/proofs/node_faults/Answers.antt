use mathlib.Core.Path.{refl, ◌∙◌, ap}
use native.Mathlib.Omega.{arith}
use Rattle.format.proofs.ParsedLaws.{never}
use Rattle.fields.specs.Views.{next_parsed}
use Rattle.references.proofs.ScanLaws.{scan_begin, scan_next, scan_refused, scan_end, rows_begin, rows_next, rows_full, rows_end}
use Rattle.references.proofs.node_faults.Goals as goal

pub loop-i-init : goal.loop-i-init
loop-i-init c = (omega arith, refl, λ j l. scan_begin _ _ _ _ _ _, λ j l. rows_begin _ _ _ _)

pub shape_of-child-in-Refused : goal.shape_of-child-in-Refused
shape_of-child-in-Refused c =
    c.child-1.given ∙ c.loop-i.invariant.1

pub returns-in-Refused : goal.returns-in-Refused
returns-in-Refused c = record {
  result_value = λ j l es again p w. scan_refused _ _ _ _ _ _ (c.loop-i.invariant.2 j l) c.loop-i-test.true c.entry.ensures (c.instance_faults-f.ensures.result_value j l)
      es again p w (ap next_parsed c.in-Refused.is);
  by_index = λ next e j l es again p w. never (ap next_parsed e);
}

pub loop-i-preserved-then-k-child : goal.loop-i-preserved-then-k-child
loop-i-preserved-then-k-child c = (
  omega arith,
  c.child-1.given ∙ c.loop-i.invariant.1,
  λ j l. scan_next _ _ _ _ _ _ (c.loop-i.invariant.2 j l) c.loop-i-test.true c.entry.ensures (c.instance_faults-f.ensures.result_value j l)
      (ap next_parsed c.in-Next.is),
  λ j l. rows_next _ _ _ (c.loop-i.invariant.3 j l) c.loop-i-test.true (c.instance_faults-f.ensures.by_index _ c.in-Next.is j l),
)

pub loop-i-preserved : goal.loop-i-preserved
loop-i-preserved c = (
  omega arith,
  c.child-1.given ∙ c.loop-i.invariant.1,
  λ j l. scan_next _ _ _ _ _ _ (c.loop-i.invariant.2 j l) c.loop-i-test.true c.entry.ensures (c.instance_faults-f.ensures.result_value j l)
      (ap next_parsed c.in-Next.is),
  λ j l. rows_full _ _ _ (c.loop-i.invariant.3 j l) c.loop-i-test.true (c.instance_faults-f.ensures.by_index _ c.in-Next.is j l) c.if-k-child.false,
)

pub shape_of-child : goal.shape_of-child
shape_of-child c = c.loop-i.invariant.1

pub returns : goal.returns
returns c = record {
  result_value = λ j l. scan_end _ _ _ _ _ _ (c.loop-i.invariant.2 j l) c.loop-i-test.false;
  by_index = λ next e j l es again p w. rows_end _ _ _ (c.loop-i.invariant.3 j l) c.loop-i-test.false es again p;
}
