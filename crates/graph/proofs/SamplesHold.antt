-- What is listed of three node instances, and how many are reached.
use mathlib.Core.Path.{◌≡◌, refl}
use mathlib.Core.List.{[], ◌∷◌}
use Rattle.graph.specs.Below.{any, count}
use Rattle.graph.specs.Paths.{reached_in, reached}
use Rattle.graph.specs.Chains.{silent, nothing_below, linked, reached_from, listable, listed, below, kept, listed_of, reached_count}
use Rattle.graph.specs.Samples.{three}

-- Bit 0 is only followed: its child shows a bit, though that has a child. Bits 1 and 63 have no child, and the child of bit 2 is silent.
of_0 : listed_of three 0 0 ≡ 1 ∷ 2 ∷ 63 ∷ []
unfolding three listed_of kept below listed listable nothing_below silent reached_from reached reached_in linked any
of_0 = refl

-- Bit 63 has the same silent child.
of_1 : listed_of three 0 1 ≡ 63 ∷ []
unfolding three listed_of kept below listed listable nothing_below silent reached_from reached reached_in linked any
of_1 = refl

of_2 : listed_of three 0 2 ≡ []
unfolding three listed_of kept below listed listable nothing_below silent reached_from reached reached_in linked any
of_2 = refl

-- The silent child is reached, and counts once.
all_three : reached_count three 0 ≡ 3
unfolding three reached_count count reached_from reached reached_in linked any silent
all_three = refl
