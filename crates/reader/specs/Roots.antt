-- What is kept of a root.
use Rattle.std.specs.Prelude.{ℕ}
use Rattle.format.specs.Tree.{Root}

abbrev pub root_attention : Root → ℕ
root_attention r = r.attention
