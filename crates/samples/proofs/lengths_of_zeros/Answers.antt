-- The length of the zeros is not computed: it is by the law of their list.
use Rattle.std.proofs.Common.{ℕ, sym}
use Rattle.std.proofs.lemmas.List.{length-replicate}
use Rattle.samples.proofs.lengths_of_zeros.Goals as goal

pub slice_bounds-lengths-end : goal.slice_bounds-lengths-end
slice_bounds-lengths-end g c = sym (length-replicate {A = ℕ} 1048577 0)
