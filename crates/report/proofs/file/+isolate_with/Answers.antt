use mathlib.Core.Bool.{false}
use mathlib.Core.Path.{◌≡◌, sym, ◌∙◌, ap}
use native.Mathlib.Omega.{arith}
use Rattle.limits.specs.Classes.{large}
use Rattle.isolation.proofs.ClassesLaws.{class_exact, class_kept, full_outcome}
use Rattle.report.specs.Report.{isolate_file}
use Rattle.report.proofs.FileLaws.{file_number}
use Rattle.report.proofs.file.+isolate_with.Goals as goal

pub returns-then-larger-lt2 : goal.returns-then-larger-lt2
returns-then-larger-lt2 t c = full_outcome _ large (omega arith) (omega arith) _ (λ i. (c.type_inv.file i).fits) _ _ c.isolate_large.ensures

pub returns-then-is_exact : goal.returns-then-is_exact
returns-then-is_exact t c = class_exact _ _ _ _ _ _ _ c.isolate_middle-i.ensures (sym c.is_exact.ensures ∙ c.if-is_exact.true)

pub overflow_sub-larger : goal.overflow_sub-larger
overflow_sub-larger t c = omega arith

pub isolate_with-requires : goal.isolate_with-requires
isolate_with-requires t c = (omega arith, tt)

pub returns-then-larger-eq2 : goal.returns-then-larger-eq2
returns-then-larger-eq2 t c =
    let short : c.is_exact.result ≡ false = cc in
    let k = class_kept _ _ _ _ _ _ _ c.isolate_middle-i.ensures (file_number _ _ _ _ _ (λ i. (c.type_inv.file i).fits)) (sym c.is_exact.ensures ∙ short) in
    c.isolate_with.ensures ∙ ap (isolate_file _ _ _ _) k

pub returns-then-is_exact-2 : goal.returns-then-is_exact-2
returns-then-is_exact-2 t c = class_exact _ _ _ _ _ _ _ c.isolate_small-i.ensures (sym c.is_exact-2.ensures ∙ c.if-is_exact-2.true)

pub overflow_sub-larger-2 : goal.overflow_sub-larger-2
overflow_sub-larger-2 t c = omega arith

pub isolate_with-requires-2 : goal.isolate_with-requires-2
isolate_with-requires-2 t c = (omega arith, tt)

pub returns : goal.returns
returns t c =
    let k = class_kept _ _ _ _ _ _ _ c.isolate_small-i.ensures (file_number _ _ _ _ _ (λ i. (c.type_inv.file i).fits)) (sym c.is_exact-2.ensures ∙ c.if-is_exact-2.false) in
    c.isolate_with-2.ensures ∙ ap (isolate_file _ _ _ _) k
