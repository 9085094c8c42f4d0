use Rattle.std.proofs.Common.{arith, sym, ◌∙◌}
use Rattle.std.proofs.lemmas.Result.{err_from_is_err_and}
use Rattle.writer.proofs.CallLaws.{write_wrong, write_exact, write_long}
use Rattle.writer.proofs.write.Goals as goal

pub returns-in_err-judge : goal.returns-in_err-judge
returns-in_err-judge c =
    let p = err_from_is_err_and c.from_residual.result c.from_residual.ensures.1 in
    rw (p.1, p.2) (write_wrong _ _ _ _ _ c.in_err-judge.ensures)

pub returns-then-is_exact : goal.returns-then-is_exact
returns-then-is_exact c =
    write_exact _ _ _ _ c.in_ok-judge.ensures (omega arith) _ _ c.write_with-w.ensures (sym c.is_exact.ensures ∙ c.if-is_exact.true)

pub returns-else-is_exact : goal.returns-else-is_exact
returns-else-is_exact c =
    write_long _ _ _ _ c.in_ok-judge.ensures (omega arith) _ _ c.write_with-w.ensures (sym c.is_exact.ensures ∙ c.if-is_exact.false)
