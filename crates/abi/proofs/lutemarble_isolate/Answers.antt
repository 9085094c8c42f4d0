use mathlib.Core.Path.{◌∙◌, ap}
use Rattle.abi.specs.Values.{isolate_list}
use Rattle.abi.proofs.ValuesLaws.{answered_as, refused_four}
use Rattle.abi.proofs.lutemarble_isolate.Goals as goal

pub returns-in-Ok : goal.returns-in-Ok
returns-in-Ok c =
    let e = c.in-Ok.ensures in
    record {
      number = ap (λ o. o.number) e;
      list = ap (λ o. o.list) e;
      answer = answered_as isolate_list _ e c.put_four.ensures;
    }

pub returns-in-Err : goal.returns-in-Err
returns-in-Err c =
    let e = c.in-Err.ensures in
    record {
      number = c.number-refused.ensures ∙ ap (λ o. o.number) e;
      list = ap (λ o. o.list) e;
      answer = answered_as isolate_list _ e (c.put_four-in-Err.ensures ∙ refused_four _ _ c.number-refused.ensures);
    }
