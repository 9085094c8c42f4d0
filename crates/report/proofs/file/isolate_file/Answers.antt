use Rattle.report.proofs.file.isolate_file.Goals as goal

pub returns : goal.returns
returns c = c.isolate_with.ensures
