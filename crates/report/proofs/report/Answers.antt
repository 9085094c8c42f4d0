use Rattle.report.proofs.report.Goals as goal

pub returns : goal.returns
returns c = record { put = c.report_with.ensures.put; upper_bound = c.report_with.ensures.upper_bound }
