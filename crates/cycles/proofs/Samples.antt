-- Small tables: a node instance that is its own child, a diamond, and a cycle whose first node instance is not the first of all.
use Rattle.std.proofs.Common.{◌≡◌, [], ◌∷◌, ◌++◌, replicate, refl}
use Rattle.graph.specs.Below.{any}
use Rattle.graph.specs.Paths.{reached_in, reached, on_cycle}
use Rattle.walk.specs.TableGraph.{child_at}
use Rattle.cycles.specs.Cycle.{looked_at, table_edge, in_cycle, first_below, first_cycle}

own_child : first_cycle (0 ∷ []) 1 ≡ 0
unfolding first_cycle looked_at first_below in_cycle on_cycle reached reached_in table_edge any child_at
own_child = refl

-- 0 has the children 1 and 2, and each of these has the child 3.
diamond : first_cycle ((1 ∷ 2 ∷ replicate 62 4) ++ ((3 ∷ replicate 63 4) ++ (3 ∷ []))) 4 ≡ 4
unfolding first_cycle looked_at first_below in_cycle on_cycle reached reached_in table_edge any child_at
diamond = refl

-- 0 has the child 1, and 1 and 2 have each other.
later : first_cycle ((1 ∷ replicate 63 3) ++ ((2 ∷ replicate 63 3) ++ (1 ∷ []))) 3 ≡ 1
unfolding first_cycle looked_at first_below in_cycle on_cycle reached reached_in table_edge any child_at
later = refl
