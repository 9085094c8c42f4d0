-- What stands in a list, and in which order.
use Rattle.std.specs.Prelude.{List, [], ◌∷◌, ◌⊎◌, ◌≡◌}
use Rattle.format.specs.Rules.{Every}

-- An element stands in a list.
unfoldable pub In : {A : Type 0} → A → List A → Type 0
In x [] = ⊥
In x (y ∷ ys) = (x ≡ y) ⊎ In x ys

-- Every element has a relation to all those after it.
unfoldable pub InOrder : {A : Type 0} → (A → A → Type 0) → List A → Type 0
InOrder R [] = Unit {0}
InOrder R (x ∷ xs) = Every (R x) xs × InOrder R xs

-- Two things are different.
abbrev pub Different : {A : Type 0} → A → A → Type 0
Different x y = x ≡ y → ⊥
