-- An expression whose names all fit: its head names nothing or what fits, and its operands fit, one after another.
use Prim.Native.Nat.{ℕ, ◌+◌, ◌-◌, ◌*◌, ◌/◌, ◌%◌, ◌≤◌, ◌<◌}
use mathlib.Core.Path.{◌≡◌, refl, sym, ◌∙◌}
use mathlib.Core.Bool.{true}
use mathlib.Core.List.{List, []}
use native.Mathlib.Omega.{arith}
use borrow.Author.Tests.{lt-ltb, eq-eqb, eqb-true}
use lib.Dec.{eqb}
use lib.ListN.{length, get_or}
use Rattle.format.specs.Parsed.{done, row_at}
use Rattle.format.specs.ExpressionLayout.{expr_at}
use Rattle.format.specs.Lookup.{position, gathered}
use Rattle.format.specs.References.{Named, Fault, named_by}
use Rattle.format.specs.Tree.{Expr}
use Rattle.fields.specs.declared.NextRead.{NextRead}
use Rattle.fields.specs.Views.{forget}
use Rattle.expressions.specs.declared.HeadRead.{HeadRead}
use Rattle.expressions.specs.Names.{own_names}
use Rattle.expressions.specs.Openings.{id_in, reading_of, Opening}
use Rattle.expressions.proofs.HeadLaws.{down_none}
use Rattle.expressions.proofs.OpeningLaws.{opening_row, down_on}
use Rattle.expressions.proofs.OperandsLaws.{Ahead}
use Rattle.tables.specs.Faults.{judged_at, position_in, name_faults}
use Rattle.tables.specs.Tables.{key_of}
use Rattle.naming.specs.Fits.{key_in, KeyFits}
use Rattle.naming.proofs.JudgedLaws.{register_fit, name_judged, nameless, Judged, judged_head, judged_more, judged_end}

-- The four bytes of a name are what the register is kept as.
pub key_bytes : (s : List ℕ) (at : ℕ) → ((i : ℕ) → get_or s i 0 < 256)
    → get_or s at 0 * 0x1000000 + get_or s (at + 1) 0 * 0x10000 + get_or s (at + 2) 0 * 0x100 + get_or s (at + 3) 0 ≡ key_in s at
unfolding key_of
key_bytes s at bytes = omega (arith, bytes at, bytes (at + 1), bytes (at + 2), bytes (at + 3))

-- The name that a reading has stands after its type byte.
key_behind : (s : List ℕ) (at : ℕ) → key_in s (at + 1) ≡ key_of (id_in s at) (get_or s (at + 4) 0)
key_behind s at =
    let a : at + 1 + 1 ≡ at + 2 = omega arith in
    let b : at + 1 + 2 ≡ at + 3 = omega arith in
    let c : at + 1 + 3 ≡ at + 4 = omega arith in
    rw (a, b, c)

-- A register that was found at position k has the kind.
pub key_found : (keys kinds : List ℕ) (kind x : ℕ) {k t : ℕ} → k ≡ position (λ y. eqb y x) keys → k < length keys → t ≡ get_or kinds k 0
    → eqb t kind ≡ true → KeyFits keys kinds kind x
key_found keys kinds kind x e h g i = record { there = rw (← e) h; fits = rw (← e) (sym g ∙ eqb-true _ _ i) }

-- The name of a reading that is there and has the kind is no fault.
own_fits : (s keys kinds : List ℕ) (kind at next : ℕ) → KeyFits keys kinds kind (key_of (id_in s at) (get_or s (at + 4) 0))
    → done tt next ≡ judged_at (gathered (name_faults keys kinds kind) (own_names at (reading_of s at))) next
unfolding position_in
own_fits s keys kinds kind at next f =
    name_judged keys kinds _ _ at next {k = position (λ y. eqb y (key_of (id_in s at) (get_or s (at + 4) 0))) keys} {t = kind} refl (sym f.fits) kind
    (register_fit at next (lt-ltb _ _ f.there) (eq-eqb kind kind refl))

module _ (f : Named → List Fault) (s : List ℕ) (l at : ℕ) where
  -- The expression ends at r, and no name of it is a fault.
  abbrev pub Fit : ℕ → Type 0
  Fit r =
      (done tt r ≡ forget (expr_at s l at)) × ((e : Expr) (m : ℕ) → expr_at s l at ≡ done e m → done tt r ≡ judged_at (gathered f (named_by e)) m)

  -- The expression is read, and its names are judged, as n operands from a place on are.
  abbrev pub FitAhead : ℕ → ℕ → Type 0
  FitAhead n place =
      (forget (expr_at s l at) ≡ forget (row_at (λ before. expr_at s (l - 1)) n [] place))
      × ((e : Expr) (m : ℕ) → expr_at s l at ≡ done e m → Ahead (expr_at s (l - 1)) n place m (Judged f e m))

  pub fit_end : {n place : ℕ} → FitAhead n place → n ≤ 0 → Fit place
  fit_end {n} {place} a z = (down_none _ n place a.0 z refl, λ e m h. judged_end f _ n place e (a.1 e m h) z)

  module _ {o : ℕ} (i : Opening s l at o) where
    own_none : done tt (at + o / 256) ≡ judged_at (gathered f (own_names at i.head)) (at + o / 256) → FitAhead (o % 256) (at + o / 256)
    own_none g = (
      opening_row s l at i,
      λ e m h. judged_head f s l at {x = HeadRead.Head i.head (at + o / 256)} {w = NextRead.Next (at + o / 256)} (sym i.read) refl i.operands g refl h,
    )

    -- Behind a head that names nothing.
    pub fit_opened : (o ≡ 0x500 → ⊥) → FitAhead (o % 256) (at + o / 256)
    fit_opened z = own_none (nameless f _ _ (i.nameless z))

-- An operand that fits.
pub fit_more : (f : Named → List Fault) (s : List ℕ) (l at : ℕ) {n place next : ℕ} → FitAhead f s l at n place → 0 < n → Fit f s (l - 1) place next
    → FitAhead f s l at (n - 1) next
fit_more f s l at {n} {place} {next} a z b = (
  down_on _ n place a.0 b.0 z,
  λ e m h. judged_more f _ n place e {w = NextRead.Next next} (a.1 e m h) z b.1 refl,
)

-- A reading whose register fits.
pub fit_reading : (s keys kinds : List ℕ) (l kind at : ℕ) {o x : ℕ} → Opening s l at o → o ≡ 0x500 → x ≡ key_in s (at + 1) → KeyFits keys kinds kind x
    → Fit (name_faults keys kinds kind) s l at (at + o / 256)
fit_reading s keys kinds l kind at {o} i e g k =
    fit_end (name_faults keys kinds kind) s l at (own_none _ s l at i (rw (i.named e) (own_fits s keys kinds kind at _ (rw (← key_behind s at, ← g) k)))) (omega arith)
