-- Cycles, by what is reached from one of their numbers.
use Rattle.std.proofs.Common.{◌≡◌, ℕ, Bool, true, ◌↔◌, refl, subst, eq-eqb, eqb-true}
use Rattle.graph.specs.Paths.{Reached, here, next, Inside, on_cycle}
use Rattle.graph.proofs.PathsLaws.{reached_law}
use Rattle.cycles.specs.Cycle.{From}

module _ (edge : ℕ → ℕ → Bool) where
  -- What i's edges lead to is reached from i.
  from_edge : {i k : ℕ} → Reached (edge i) edge k → From edge i k
  from_edge {i} (here e) = next (here (eq-eqb i i refl)) e
  from_edge (next r e) = next (from_edge r) e

  -- It has a last edge.
  edge_last : {i k : ℕ} → Reached (edge i) edge k → (j : ℕ) × From edge i j × (edge j k ≡ true)
  edge_last {i} (here e) = (i, here (eq-eqb i i refl), e)
  edge_last (next {i = j} r e) = (j, from_edge r, e)

  -- An edge more at the end.
  edge_after : {i j k : ℕ} → From edge i j → edge j k ≡ true → Reached (edge i) edge k
  edge_after {i} {j} {k} (here d) e = here (subst (λ x. edge x k ≡ true) (eqb-true j i d) e)
  edge_after (next r d) e = next (edge_after r d) e

  module _ (n : ℕ) (inside : Inside n edge) where
    cycle_reached : (i : ℕ) → (on_cycle n edge i ≡ true) ↔ Reached (edge i) edge i
    unfolding on_cycle
    cycle_reached i = reached_law n (edge i) edge inside i

    -- i lies on a cycle exactly when i, or a number reached from it, has an edge to i.
    pub cycle_closed : (i : ℕ) → (on_cycle n edge i ≡ true) ↔ ((j : ℕ) × From edge i j × (edge j i ≡ true))
    cycle_closed i = (λ e. edge_last ((cycle_reached i).0 e), λ r. (cycle_reached i).1 (edge_after r.1 r.2))
