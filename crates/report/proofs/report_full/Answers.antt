use mathlib.Core.Path.{ap}
use native.Mathlib.Omega.{arith}
use Rattle.report.specs.Report.{station_list, report}
use Rattle.report.specs.Text.{text_of}
use Rattle.report.proofs.ListLaws.{answer_room}
use Rattle.report.proofs.TextLaws.{put_as}
use Rattle.report.proofs.report_full.Goals as goal

pub put_answer-requires : goal.put_answer-requires
put_answer-requires c = answer_room _ _ _ 65536 c.isolate_file-a.result c.isolate_file-a.new.list c.isolate_file-a.ensures (omega arith) c.list-2-1.given

pub returns : goal.returns
unfolding report station_list
returns c = record {
  put = put_as c.put_answer.ensures.put (ap text_of c.isolate_file-a.ensures);
  upper_bound = c.put_answer.ensures.upper_bound;
}
