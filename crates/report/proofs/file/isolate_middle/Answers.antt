use Rattle.limits.specs.Classes.{middle}
use Rattle.report.proofs.FileLaws.{class-room}
use Rattle.report.proofs.file.isolate_middle.Goals as goal

pub returns : goal.returns
returns c = class-room _ middle _ _ _ c.isolate_in.ensures
