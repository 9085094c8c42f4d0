use Rattle.limits.specs.Classes.{small}
use Rattle.report.proofs.FileLaws.{class-room}
use Rattle.report.proofs.file.isolate_small.Goals as goal

pub returns : goal.returns
returns c = class-room _ small _ _ _ c.isolate_in.ensures
