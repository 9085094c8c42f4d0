-- What an expression names is what its head names, and then what its operands name.
use Prim.Native.Nat.{ℕ}
use mathlib.Core.Path.{◌≡◌, refl, sym, ap}
use mathlib.Core.List.{List, [], ◌∷◌, ◌++◌, append-nil}
use native.Mathlib.Omega.{arith}
use lib.ListN.{length}
use Rattle.format.specs.Lookup.{gathered}
use Rattle.format.specs.References.{named_by, named_by_all}
use Rattle.format.specs.Tree.{Expr, gather}
use Rattle.expressions.specs.declared.Head.{Head}
use Rattle.expressions.specs.declared.Head.TheVariants.{Reading, Constant, All, Any, Inverse, Left, Right}
use Rattle.expressions.specs.Heads.{arity_of, built, first_operand}
use Rattle.expressions.specs.Names.{own_names}

named_gather : (es : List Expr) → named_by_all (gather es) ≡ gathered named_by es
unfolding named_by_all gather gathered
named_gather [] = refl
named_gather (e ∷ es) = ap (λ ns. named_by e ++ ns) (named_gather es)

named_one : (es : List Expr) → length es ≡ 1 → named_by (first_operand es) ≡ gathered named_by es
unfolding gathered
named_one [] h = absurd (omega arith)
named_one (e ∷ []) h = sym (append-nil (named_by e))
named_one (e ∷ (f ∷ es)) h = absurd (omega arith)

named_none : (es : List Expr) → length es ≡ 0 → [] ≡ gathered named_by es
unfolding gathered
named_none [] h = refl
named_none (e ∷ es) h = absurd (omega arith)

pub named_built : (start : ℕ) (h : Head) (es : List Expr) → length es ≡ arity_of h
    → named_by (built start h es) ≡ own_names start h ++ gathered named_by es
unfolding named_by
named_built start (Reading id n) es l = ap (λ ns. own_names start (Reading id n) ++ ns) (named_none es l)
named_built start (Constant v) es l = named_none es l
named_built start (All n) es l = named_gather es
named_built start (Any n) es l = named_gather es
named_built start Inverse es l = named_one es l
named_built start (Left k) es l = named_one es l
named_built start (Right k) es l = named_one es l
