use Rattle.std.proofs.Common.{◌∙◌, ap, rules, arith}
use Rattle.listing.specs.Rows.{kept_count}
use Rattle.listing.proofs.KeptLaws.{most_rows, rows_all, count_none, counted_next, counted_few}
use Rattle.listing.proofs.Rows.count_bits.Goals as goal

pub loop-word-init : goal.loop-word-init
loop-word-init c = count_none _ _

pub overflow_add-count : goal.overflow_add-count
overflow_add-count c =
    omega (arith, most_rows, counted_few _ _ _ c.args.self.now.same_length c.loop-word-test.true c.loop-word.invariant (search rules))

pub loop-word-preserved : goal.loop-word-preserved
loop-word-preserved c = counted_next _ _ _ c.args.self.now.same_length c.loop-word-test.true c.loop-word.invariant (search rules)

pub returns : goal.returns
returns c = c.loop-word.invariant ∙ ap kept_count (rows_all _ _ c.args.self.now.same_length _ (omega arith))
