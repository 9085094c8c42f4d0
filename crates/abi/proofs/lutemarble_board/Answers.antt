use mathlib.Core.Path.{◌∙◌, ap}
use Rattle.abi.specs.Values.{board_list}
use Rattle.abi.proofs.ValuesLaws.{answered_as, refused_five, board_outcome_as}
use Rattle.abi.proofs.lutemarble_board.Goals as goal

pub returns-in-Ok : goal.returns-in-Ok
returns-in-Ok c =
    let e = board_outcome_as _ c.in-Ok.is c.board-b.ensures in
    record {
      number = ap (λ o. o.answer.number) e;
      list = ap (λ o. o.answer.list) e;
      answer = answered_as board_list _ e c.put_five.ensures;
    }

pub returns-in-Err : goal.returns-in-Err
returns-in-Err c =
    let e = board_outcome_as _ c.in-Err.is c.board-b.ensures in
    record {
      number = c.number-n.ensures ∙ ap (λ o. o.answer.number) e;
      list = ap (λ o. o.answer.list) e;
      answer = answered_as board_list _ e (c.put_five-in-Err.ensures ∙ refused_five _ _ _ c.number-n.ensures);
    }
