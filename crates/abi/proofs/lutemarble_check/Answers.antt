use mathlib.Core.Path.{◌∙◌, ap}
use Rattle.abi.specs.Values.{check_list}
use Rattle.abi.proofs.ValuesLaws.{answered_as, refused_eight}
use Rattle.abi.proofs.lutemarble_check.Goals as goal

pub returns-in-Ok : goal.returns-in-Ok
returns-in-Ok c =
    let e = c.in-Ok.ensures in
    record {
      number = ap (λ x. x.number) e;
      answer = answered_as check_list _ e c.put_eight.ensures;
    }

pub returns-in-Err : goal.returns-in-Err
returns-in-Err c =
    let e = c.in-Err.ensures in
    record {
      number = c.number-n.ensures ∙ ap (λ x. x.number) e;
      answer = answered_as check_list _ e (c.put_eight-in-Err.ensures ∙ refused_eight _ _ c.number-n.ensures);
    }
