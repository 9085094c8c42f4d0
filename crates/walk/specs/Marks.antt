-- The marks of the walk (document 01): 0 untouched, 1 waiting, 2 done.
use Rattle.std.specs.Prelude.{ℕ, zero, suc, ◌+◌, ◌*◌, ◌/◌, Bool, cond, ◌&&◌, List, [], ◌∷◌, ltb, eqb, length, get_or}
use Rattle.limits.specs.Limits.{library_limits}
use Rattle.numbers.specs.Bits.{word_of}
use Rattle.graph.specs.Chains.{Graph, linked, reached_from, reached_count}
use Rattle.walk.specs.declared.Walk.{Walk}
use Rattle.walk.specs.declared.Walked.{Walked}

-- "One mark for each of 1,024 node instances" (document 01, with the number that document 02 (x) moves).
abbrev pub mark_count : ℕ
mark_count = library_limits.node_instances

-- f 0, .., f (n - 1).
unfoldable pub tabulate : ℕ → (ℕ → ℕ) → List ℕ
tabulate zero f = []
tabulate (suc n) f = f zero ∷ tabulate n (λ i. f (suc i))

-- "The first waiting instance in file order"; the number of marks where none waits.
abbrev pub first_waiting : List ℕ → ℕ
first_waiting [] = zero
first_waiting (x ∷ m) = cond (eqb x 1) zero (suc (first_waiting m))

-- One of the graph's node instances waits.
unfoldable pub waits : Graph → List ℕ → Bool
waits g m = ltb (first_waiting m) g.size

-- The mark of j after a step at k: "makes it done, and makes its untouched followed children waiting; no other mark changes".
unfoldable pub mark_after : Graph → List ℕ → ℕ → ℕ → ℕ
mark_after g m k j = cond (eqb j k) 2 (cond (linked g k j && eqb (get_or m j 0) 0) 1 (get_or m j 0))

-- Every mark after a step. "With none waiting, a step changes nothing."
unfoldable pub stepped : Graph → List ℕ → List ℕ
stepped g m = cond (waits g m) (tabulate (length m) (mark_after g m (first_waiting m))) m

-- The waiting node instances as bits: bit b of word j is set exactly where mark 64 * j + b is 1. One word for each 64 marks.
unfoldable pub waiting_words : List ℕ → List ℕ
waiting_words m = tabulate (length m / 64) (λ j. word_of 64 (λ b. eqb (get_or m (j * 64 + b) 0) 1))

-- The walk's state at some marks.
unfoldable pub state_of : List ℕ → Walk
state_of m = record { marks = m; waiting = waiting_words m }

unfoldable pub step_walk : Graph → Walk → Walk
step_walk g w = state_of (stepped g w.marks)

-- "The start (root waiting, others untouched)."
unfoldable pub started : ℕ → List ℕ
started root = tabulate mark_count (λ i. cond (eqb i root) 1 0)

-- The marks where none of the graph's node instances waits any more: done is what is reached, and nothing else is touched; and the steps until then. A root that the
-- graph does not have keeps its mark, and no step is taken.
unfoldable pub finished : Graph → ℕ → Walked
finished g root =
    record {
      marks = tabulate mark_count (λ i. cond (ltb root g.size && reached_from g root i) 2 (cond (eqb i root) 1 0));
      steps = cond (ltb root g.size) (reached_count g root) 0;
    }
