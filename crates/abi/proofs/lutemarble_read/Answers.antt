use mathlib.Core.Path.{◌∙◌, ap}
use Rattle.abi.specs.Values.{output_list}
use Rattle.abi.proofs.ValuesLaws.{answered_as, refused_three}
use Rattle.abi.proofs.lutemarble_read.Goals as goal

pub returns-in-Ok : goal.returns-in-Ok
returns-in-Ok c =
    let e = c.in-Ok.ensures in
    record {
      number = ap (λ o. o.number) e;
      records = ap (λ o. o.output) e;
      answer = answered_as output_list _ e c.put_three.ensures;
    }

pub returns-in-Err : goal.returns-in-Err
returns-in-Err c =
    let e = c.in-Err.ensures in
    record {
      number = c.number-n.ensures ∙ ap (λ o. o.number) e;
      records = ap (λ o. o.output) e;
      answer = answered_as output_list _ e (c.put_three-in-Err.ensures ∙ refused_three _ _ c.number-n.ensures);
    }
