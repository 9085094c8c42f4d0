use Rattle.std.proofs.Common.{ap}
use Rattle.cycles.proofs.TableLaws.{cycle_found}
use Rattle.cycles.proofs.Children.on_cycle.Goals as goal

pub returns : goal.returns
returns c =
    cycle_found _ _ _ c.args.self.now.few c.requires (ap (λ w. w.marks) c.run-walked.ensures.value) c.closes.ensures
