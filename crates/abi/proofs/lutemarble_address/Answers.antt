use mathlib.Core.Path.{◌∙◌, ap}
use Rattle.abi.specs.Values.{address_list}
use Rattle.abi.proofs.ValuesLaws.{answered_as, refused_four}
use Rattle.abi.proofs.lutemarble_address.Goals as goal

pub returns-in-Ok : goal.returns-in-Ok
returns-in-Ok c =
    let e = c.in-Ok.ensures in
    record {
      number = ap (λ x. x.number) e;
      answer = answered_as address_list _ e c.put_four.ensures;
    }

pub returns-in-Err : goal.returns-in-Err
returns-in-Err c =
    let e = c.in-Err.ensures in
    record {
      number = c.number-n.ensures ∙ ap (λ x. x.number) e;
      answer = answered_as address_list _ e (c.put_four-in-Err.ensures ∙ refused_four _ _ c.number-n.ensures);
    }
