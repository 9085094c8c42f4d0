use Rattle.std.proofs.Common.{◌≡◌, ap, ◌∙◌}
use Rattle.walk.specs.TableGraph.{table_size}
use Rattle.listing.proofs.KeptLaws.{table_kept}
use Rattle.listing.proofs.keep_list.Goals as goal

pub returns-clause-rows : goal.returns-clause-rows
returns-clause-rows c = λ in_heads in_words.
    let known : c.new-graph.result.size ≡ table_size c.args.active.now = c.new-graph.result.known ∙ ap table_size c.new-graph.ensures.0 in
    table_kept _ _ _ _ _ _ _ known (rw (← c.new-graph.ensures.0, ← c.new-graph.ensures.1) c.keep_rows.ensures.rows_kept)
