-- What ranks show: a node instance all of whose children have lower ranks lies on no cycle, if no child at all has a higher rank than its parent.
use Rattle.std.proofs.Common.{◌≡◌, ℕ, ◌+◌, ◌*◌, ◌/◌, ◌<◌, ◌≤◌, Bool, true, false, ltb, leb, List, get_or, refl, subst, ⊎_elim, arith, ltb-false, ltb-true, eqb-true, leb-false}
use mathlib.Core.Option.{Option, none, some}
use Rattle.numbers.proofs.Bools.{either, clash}
use Rattle.graph.specs.Chains.{names}
use Rattle.graph.specs.Paths.{Path, one, more}
use Rattle.walk.specs.TableGraph.{child_at}
use Rattle.walk.specs.Fold.{or_else}
use Rattle.walk.proofs.Tables.{child-in, or_else_none, or_else_some}
use Rattle.cycles.specs.Cycle.{table_edge, in_cycle, first_below}
use Rattle.cycles.specs.Ranks.{child_passes, ranks_at}
use Rattle.cycles.proofs.FirstLaws.{first_law}
use Rattle.cycles.proofs.TableLaws.{edge_out, in_cycle_law}

-- One look at the place k.
module _ (p : ℕ → ℕ → Bool) (rank ch : List ℕ) (n k : ℕ) {x : ℕ} (found : x ≡ or_else n (child_at n ch k)) where
  pub ranks_nothing : n ≤ x → false ≡ ranks_at p rank n ch k
  unfolding ranks_at
  ranks_nothing l =
      let o : child_at n ch k ≡ none = or_else_none _ found l (child-in n ch k) in
      rw o

  pub ranks_child : {r : Bool} → x < n → r ≡ p (get_or rank (k / 64) 0) (get_or rank x 0) → r ≡ ranks_at p rank n ch k
  unfolding ranks_at
  ranks_child l e =
      let o : child_at n ch k ≡ some x = or_else_some _ found l in
      rw o e

-- A place that holds the child j, and whose ranks do not pass the test.
named-not : (p : ℕ → Bool) (j : ℕ) (o : Option ℕ) → names o j ≡ true → child_passes p o ≡ false → p j ≡ false
named-not p j none e d = clash e refl
named-not p j (some c) e d = subst (λ x. p x ≡ false) (eqb-true c j e) d

ranks-not : (p : ℕ → ℕ → Bool) (rank : List ℕ) (n : ℕ) (ch : List ℕ) (i j b : ℕ) → b < 64 → names (child_at n ch (i * 64 + b)) j ≡ true
    → ranks_at p rank n ch (i * 64 + b) ≡ false → p (get_or rank i 0) (get_or rank j 0) ≡ false
unfolding ranks_at
ranks-not p rank n ch i j b h e d =
    let s : (i * 64 + b) / 64 ≡ i = omega arith in
    named-not (λ c. p (get_or rank i 0) (get_or rank c 0)) j (child_at n ch (i * 64 + b)) e (rw s at d)

-- At the places before `first` every child's rank is below its parent's, and at the others none is above it.
module _ (rank : List ℕ) (n : ℕ) (ch : List ℕ) (first : ℕ)
    (falls : (k : ℕ) → k < first → ranks_at leb rank n ch k ≡ false)
    (level : (k : ℕ) → k < n * 64 → first ≤ k → ranks_at ltb rank n ch k ≡ false) where
  edge_falls : (i j : ℕ) → i < first / 64 → table_edge n ch i j ≡ true → get_or rank j 0 < get_or rank i 0
  edge_falls i j h e =
      let r = edge_out n ch i j e in
      let b = r.1.0 in
      let l : b < 64 = r.1.1 in
      leb-false _ _ (ranks-not leb rank n ch i j b l r.1.2 (falls (i * 64 + b) (omega arith)))

  edge_level : (i j : ℕ) → table_edge n ch i j ≡ true → get_or rank j 0 ≤ get_or rank i 0
  edge_level i j e =
      let r = edge_out n ch i j e in
      let b = r.1.0 in
      let h : i < n = r.0 in
      let l : b < 64 = r.1.1 in
      ⊎_elim
      (λ t. let s : get_or rank j 0 < get_or rank i 0 = leb-false _ _ (ranks-not leb rank n ch i j b l r.1.2 (falls (i * 64 + b) (ltb-true _ _ t))) in omega arith)
      (λ t. ltb-false _ _ (ranks-not ltb rank n ch i j b l r.1.2 (level (i * 64 + b) (omega arith) (ltb-false _ _ t))))
      (either (ltb (i * 64 + b) first))

  -- Along a path no rank rises.
  path_level : {i j : ℕ} → Path (table_edge n ch) i j → get_or rank j 0 ≤ get_or rank i 0
  path_level (one {i = i} {k = k} e) = edge_level i k e
  path_level (more {i = i} {j = j} e p) = let h = edge_level i j e in let l = path_level p in omega arith

  -- No path leads back where the first edge falls.
  path_back : {i j : ℕ} → i < first / 64 → Path (table_edge n ch) i j → get_or rank j 0 < get_or rank i 0
  path_back h (one {i = i} {k = k} e) = edge_falls i k h e
  path_back h (more {i = i} {j = j} e p) = let l = edge_falls i j h e in let m = path_level p in omega arith

  pub no_cycle : (i : ℕ) → i < first / 64 → in_cycle n ch i ≡ false
  no_cycle i h =
      ⊎_elim (λ e. let l = path_back h ((in_cycle_law n ch i).0 e) in absurd (omega arith)) (λ e. e) (either (in_cycle n ch i))

-- The same from the first place with a child whose rank is not below its parent's.
pub ranks_clear : (rank : List ℕ) (n : ℕ) (ch : List ℕ) {first : ℕ} → first ≡ first_below (n * 64) (ranks_at leb rank n ch)
    → ((k : ℕ) → k < n * 64 → first ≤ k → ranks_at ltb rank n ch k ≡ false)
    → (first / 64 ≤ n) × ((i : ℕ) → i < first / 64 → in_cycle n ch i ≡ false)
ranks_clear rank n ch {first} e level =
    let f = first_law (n * 64) (ranks_at leb rank n ch) in
    let m : first ≤ n * 64 = omega (arith, f.most) in
    (omega arith, no_cycle rank n ch first (λ k h. f.before k (omega arith)) level)
