use Rattle.std.proofs.lemmas.Result.{err_from_is_err_and}
use Rattle.isolation.proofs.WrittenLaws.{rows_refused, rows_written}
use Rattle.isolation.proofs.written.write_rows.Goals as goal

pub returns-in_err-records : goal.returns-in_err-records
returns-in_err-records c = λ h.
    let w = c.in_err-records.ensures h in
    let p = err_from_is_err_and c.from_residual.result c.from_residual.ensures.1 in
    rw (p.1, p.2) (rows_refused _ _ _ _ w.1 _ w.0)

pub returns : goal.returns
returns c = λ h. let w = c.in_ok-records.ensures h in rows_written _ _ _ _ w.1 w.0
