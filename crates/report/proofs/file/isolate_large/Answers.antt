use Rattle.limits.specs.Classes.{large}
use Rattle.report.proofs.FileLaws.{class-room}
use Rattle.report.proofs.file.isolate_large.Goals as goal

pub returns : goal.returns
returns c = class-room _ large _ _ _ c.isolate_in.ensures
