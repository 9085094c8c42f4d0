use mathlib.Core.Path.{refl}
use native.Mathlib.Omega.{arith}
use Rattle.report.specs.Report.{station_list, report}
use Rattle.report.proofs.ListLaws.{answer_room, answer_text}
use Rattle.report.proofs.TextLaws.{put_as, put_none}
use Rattle.report.proofs.report_short.Goals as goal

pub returns-then-lacks_room : goal.returns-then-lacks_room
returns-then-lacks_room c = record {
  put = λ h. absurd (omega arith);
  text_unchanged = λ e. refl;
  upper_bound = omega arith;
}

pub put_answer-requires : goal.put_answer-requires
put_answer-requires c = answer_room _ _ _ 2048 c.isolate_file-a.result c.isolate_file-a.new.list c.isolate_file-a.ensures (omega arith) c.list-2-1.given

pub returns : goal.returns
unfolding report station_list
returns c = record {
  put = λ h. put_as c.put_answer.ensures.put (answer_text _ _ _ 2048 c.isolate_file-a.result c.isolate_file-a.new.list c.isolate_file-a.ensures (λ i. (c.type_inv.file i).fits) 65536 (omega arith) c.lacks_room.ensures c.if-lacks_room.false);
  text_unchanged = λ e. put_none c.put_answer.ensures.put e;
  upper_bound = c.put_answer.ensures.upper_bound;
}
