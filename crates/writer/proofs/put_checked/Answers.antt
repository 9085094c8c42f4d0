use Rattle.std.proofs.lemmas.Result.{err_from_is_err_and}
use Rattle.writer.proofs.BuildingLaws.{file_accepted, file_refused}
use Rattle.writer.proofs.put_checked.Goals as goal

pub returns-in_err-check : goal.returns-in_err-check
returns-in_err-check c =
    let p = err_from_is_err_and c.from_residual.result c.from_residual.ensures.1 in
    rw (p.1, p.2) (file_refused _ _ _ _ c.in_err-check.ensures)

pub returns : goal.returns
returns c = file_accepted _ _ _ c.in_ok-check.ensures c.put_output.ensures
