use Rattle.report.proofs.LineLaws.{line_at}
use Rattle.report.proofs.TextLaws.{put_as}
use Rattle.report.proofs.put_record.Goals as goal

pub returns : goal.returns
returns c = put_as c.put_line.ensures (line_at _ _ c.requires.1)
