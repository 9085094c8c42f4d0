use mathlib.Core.Path.{refl}
use Rattle.format.specs.Keywords.{root}
use Rattle.format.specs.FileLayout.{roots_at}
use Rattle.fields.proofs.Steps.{steps, next_then', byte_then', forgot_makes_no}
use Rattle.reader.proofs.RootLaws.{roots_counted}
use Rattle.reader.proofs.roots.roots_at.Goals as goal

pub returns-in-Next-rows : goal.returns-in-Next-rows
unfolding roots_at root
returns-in-Next-rows c =
    next_then' _ _ _ c.keyword_at-k.ensures c.in-Next.is
    (byte_then' _ _ _ c.byte_count_at-c.ensures c.in-Byte.is
    (roots_counted _ _ _ c.root_rows_at-rows.ensures c.in-Next-rows.is refl))

pub returns-in-Refused-rows : goal.returns-in-Refused-rows
unfolding roots_at root
returns-in-Refused-rows c =
    next_then' _ _ _ c.keyword_at-k.ensures c.in-Next.is
    (byte_then' _ _ _ c.byte_count_at-c.ensures c.in-Byte.is
    (forgot_makes_no _ _ c.root_rows_at-rows.ensures c.in-Refused-rows.is refl))

pub returns-in-Refused-c : goal.returns-in-Refused-c
unfolding roots_at root
returns-in-Refused-c c = search steps

pub returns-in-Refused : goal.returns-in-Refused
unfolding roots_at root
returns-in-Refused c = search steps
