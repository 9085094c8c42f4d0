-- What the head of an expression names.
use Rattle.std.specs.Prelude.{ℕ, List, [], ◌∷◌}
use Rattle.format.specs.References.{Named}
use Rattle.expressions.specs.declared.Head.{Head}
use Rattle.expressions.specs.declared.Head.TheVariants.{Reading, Constant, All, Any, Inverse, Left, Right}

-- The register that a head itself names: that of a reading. The head stands at `start`.
abbrev pub own_names : ℕ → Head → List Named
own_names start (Reading id n) = record { place = start; id = id; number = n } ∷ []
own_names start (Constant v) = []
own_names start (All n) = []
own_names start (Any n) = []
own_names start Inverse = []
own_names start (Left k) = []
own_names start (Right k) = []
