-- The 64 places of a node instance in the table of children.
use Prim.Native.Nat.{ℕ, ◌*◌, ◌<◌}
use mathlib.Core.List.{List, [], ◌∷◌}
use mathlib.Core.Path.{◌≡◌, refl, ◌∙◌}
use native.Mathlib.Omega.{arith}
use lib.ListN.{length, get_or, length-map, length-append}
use Rattle.graph.specs.Chains.{below}
use Rattle.graph.proofs.BelowLaws.{below_length, below_at}
use Rattle.format.specs.Finding.{child_for, child_position}
use Rattle.format.specs.Lookup.{gathered, NodeEntry}
use Rattle.format.specs.Tree.{NodeInstance, Chip}
use Rattle.reader.specs.Columns.{position_or, child_places}

module _ (c : Chip) where
  pub row-length : (i : NodeInstance) → length (child_places c i) ≡ 64
  unfolding child_places
  row-length i = length-map (below 64) (λ b. position_or (child_position c (child_for b i))) ∙ below_length 64

  pub row_place : (i : NodeInstance) (b : ℕ) → b < 64 → get_or (child_places c i) b 0 ≡ position_or (child_position c (child_for b i))
  unfolding child_places
  row_place i b l = below_at (λ b. position_or (child_position c (child_for b i))) 64 b l

  pub places-length : (es : List NodeEntry) → length (gathered (λ e. child_places c e.instance) es) ≡ length es * 64
  unfolding gathered
  places-length [] = refl
  places-length (e ∷ es) =
      length-append (child_places c e.instance) _ ∙ (let a = row-length e.instance in let b = places-length es in omega arith)
