use mathlib.Core.Path.{sym, ◌∙◌, ap}
use native.Mathlib.Omega.{arith}
use Rattle.limits.specs.Classes.{full}
use Rattle.isolation.specs.Outcome.{isolate}
use Rattle.isolation.proofs.ClassesLaws.{class_exact, class_kept, isolate_number, full_outcome}
use Rattle.isolation.proofs.classes.+isolate_with.Goals as goal

pub returns-then-larger-eq0 : goal.returns-then-larger-eq0
returns-then-larger-eq0 t c = full_outcome _ full (omega arith) (omega arith) _ (λ i. (c.type_inv.file i).fits) _ _ c.isolate_full.ensures

pub returns-then-is_exact : goal.returns-then-is_exact
returns-then-is_exact t c = class_exact _ _ _ _ _ _ _ c.isolate_large-i.ensures (sym c.is_exact.ensures ∙ c.if-is_exact.true)

pub overflow_sub-larger : goal.overflow_sub-larger
overflow_sub-larger t c = omega arith

pub isolate_with-requires : goal.isolate_with-requires
isolate_with-requires t c = (omega arith, tt)

pub returns-then-larger-eq1 : goal.returns-then-larger-eq1
returns-then-larger-eq1 t c =
    let k = class_kept _ _ _ _ _ _ _ c.isolate_large-i.ensures (isolate_number _ _ _ _ _ _) (sym c.is_exact.ensures ∙ c.if-is_exact.false) in
    c.isolate_with.ensures ∙ ap (isolate _ _ _ _ _) k

pub returns-then-is_exact-2 : goal.returns-then-is_exact-2
returns-then-is_exact-2 t c = class_exact _ _ _ _ _ _ _ c.isolate_middle-i.ensures (sym c.is_exact-then-larger-eq2.ensures ∙ c.if-is_exact-2.true)

pub overflow_sub-larger-then-larger-eq2 : goal.overflow_sub-larger-then-larger-eq2
overflow_sub-larger-then-larger-eq2 t c = omega arith

pub isolate_with-requires-then-larger-eq2 : goal.isolate_with-requires-then-larger-eq2
isolate_with-requires-then-larger-eq2 t c = (omega arith, tt)

pub returns-then-larger-eq2 : goal.returns-then-larger-eq2
returns-then-larger-eq2 t c =
    let k = class_kept _ _ _ _ _ _ _ c.isolate_middle-i.ensures (isolate_number _ _ _ _ _ _) (sym c.is_exact-then-larger-eq2.ensures ∙ c.if-is_exact-2.false) in
    c.isolate_with-then-larger-eq2.ensures ∙ ap (isolate _ _ _ _ _) k

pub returns-then-is_exact-3 : goal.returns-then-is_exact-3
returns-then-is_exact-3 t c = class_exact _ _ _ _ _ _ _ c.isolate_small-i.ensures (sym c.is_exact-2.ensures ∙ c.if-is_exact-3.true)

pub overflow_sub-larger-2 : goal.overflow_sub-larger-2
overflow_sub-larger-2 t c = omega arith

pub isolate_with-requires-2 : goal.isolate_with-requires-2
isolate_with-requires-2 t c = (omega arith, tt)

pub returns : goal.returns
returns t c =
    let k = class_kept _ _ _ _ _ _ _ c.isolate_small-i.ensures (isolate_number _ _ _ _ _ _) (sym c.is_exact-2.ensures ∙ c.if-is_exact-3.false) in
    c.isolate_with-2.ensures ∙ ap (isolate _ _ _ _ _) k
