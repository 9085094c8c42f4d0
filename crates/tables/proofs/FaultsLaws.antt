-- The laws of faults in a row.
use Prim.Native.Nat.{ℕ}
use mathlib.Core.List.{List, [], ◌∷◌, ◌++◌}
use mathlib.Core.Path.{◌≡◌, refl, sym}
use Rattle.format.specs.Parsed.{done, refused}
use Rattle.format.specs.References.{Fault}
use Rattle.format.proofs.ParsedLaws.{never}
use Rattle.tables.specs.Faults.{judged_at}

pub judged_none : (m : ℕ) → judged_at [] m ≡ done tt m
unfolding judged_at
judged_none m = refl

-- A fault that is there decides whatever follows.
pub judged_stop : (xs ys : List Fault) {n p : ℕ} (k m : ℕ) → judged_at xs k ≡ refused n p → judged_at (xs ++ ys) m ≡ refused n p
unfolding judged_at
judged_stop [] ys k m e = never (sym e)
judged_stop (f ∷ fs) ys k m e = e

-- Where there is none, what follows decides.
pub judged_on : (xs ys : List Fault) {k a : ℕ} {u : Unit {0}} (m : ℕ) → judged_at xs k ≡ done u a → (k ≡ a) × (judged_at (xs ++ ys) m ≡ judged_at ys m)
unfolding judged_at
judged_on [] ys {k} {a} m e = (let z : k ≡ a = cc in z, refl)
judged_on (f ∷ fs) ys m e = never e
