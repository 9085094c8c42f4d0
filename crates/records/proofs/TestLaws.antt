-- Fields within their largest values, as the code tests them.
use Prim.Native.Nat.{ℕ, suc}
use mathlib.Core.Path.{◌≡◌, sym, ◌∙◌, ap}
use lib.Dec.{leb, ltb, leb-suc-suc}
use Rattle.records.specs.declared.Record.{Record}
use Rattle.records.specs.Grammar.{Widths, used_alone}
use Rattle.records.specs.declared.grammar.Largest.{Largest}
use Rattle.records.specs.Judging.{LargestOf, within}

-- At most n is below the next number.
pub most : (x n : ℕ) {m : ℕ} → suc n ≡ m → leb x n ≡ ltb x m
most x n e = sym (leb-suc-suc x n) ∙ ap (λ k. leb (suc x) k) e

-- Fields within their largest values use no further byte.
pub within_used : (w : Widths) (m : Largest) (r : Record) → LargestOf w m → within m.form m.amount m.number m.id m.value r ≡ used_alone w r
unfolding within used_alone
within_used w m r l =
    rw (← most r.form m.form l.form, ← most r.amount m.amount l.amount, ← most r.number m.number l.number, ← most r.id m.id l.id, ← most r.value m.value l.value)
