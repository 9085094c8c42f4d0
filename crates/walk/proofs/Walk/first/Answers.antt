use mathlib.Core.Path.{◌≡◌}
use native.Mathlib.Omega.{arith}
use borrow.Author.Rules.{rules}
use lib.ListN.{length}
use Rattle.walk.specs.Marks.{mark_count}
use Rattle.walk.proofs.WordsLaws.{word_count}
use Rattle.walk.proofs.Walk.first.Goals as goal

pub first_waiting-requires : goal.first_waiting-requires
first_waiting-requires c =
    let l : length c.args.self.waiting ≡ word_count = search rules in
    omega arith

pub returns : goal.returns
returns c =
    let l : length c.args.self.marks ≡ mark_count = search rules in
    let k : length c.args.self.waiting ≡ word_count = search rules in
    λ e. c.first_waiting.ensures c.args.self.marks (omega arith) e
