-- The marks as the code changes them, bit after bit.
use Rattle.std.specs.Prelude.{ℕ, zero, suc, cond, List, eqb, get_or, set}
use Rattle.std.proofs.Math.Option.{Option, none, some}
use Rattle.graph.specs.Chains.{Graph}

-- The child, or n where there is none.
abbrev pub or_else : ℕ → Option ℕ → ℕ
or_else n none = n
or_else n (some c) = c

-- The child, if there is one and it is untouched, waits.
abbrev pub touch_child : List ℕ → Option ℕ → List ℕ
touch_child m none = m
touch_child m (some c) = cond (eqb (get_or m c 0) 0) (set m c 1) m

-- The marks after bit b of k was looked at.
unfoldable pub touched : Graph → List ℕ → ℕ → ℕ → List ℕ
touched g m k b = cond (g.active k b) (touch_child m (g.child k b)) m

-- The same for the first n bits of k.
unfoldable pub touched_to : Graph → List ℕ → ℕ → ℕ → List ℕ
touched_to g m k zero = m
touched_to g m k (suc n) = touched g (touched_to g m k n) k n
