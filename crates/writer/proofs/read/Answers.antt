use Rattle.std.proofs.lemmas.Result.{err_from_is_err_and}
use Rattle.writer.proofs.CallLaws.{read_refused, read_short, read_fits}
use Rattle.writer.proofs.read.Goals as goal

pub returns-in_err-check : goal.returns-in_err-check
returns-in_err-check c =
    let p = err_from_is_err_and c.from_residual.result c.from_residual.ensures.1 in
    rw (p.1, p.2) (read_refused _ (λ i. (c.type_inv.file i).fits) _ _ c.in_err-check.ensures)

pub returns-then-out-needed : goal.returns-then-out-needed
returns-then-out-needed c =
    rw (c.too_short.ensures.number, c.too_short.ensures.place)
    (read_short _ (λ i. (c.type_inv.file i).fits) _ _ c.in_ok-check.ensures c.unpack-needed.ensures.needed c.unpack-needed.ensures.output c.if-out-needed.true)

pub returns : goal.returns
returns c = read_fits _ (λ i. (c.type_inv.file i).fits) _ _ c.in_ok-check.ensures c.unpack-needed.ensures.needed c.unpack-needed.ensures.output c.if-out-needed.false
