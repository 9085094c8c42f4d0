-- A loop over elements that are read one after another, with their rows and what is kept of their children.
use Prim.Native.Nat.{ℕ, ◌+◌, ◌-◌, ◌≤◌, ◌<◌}
use mathlib.Core.Bool.{Bool, true, ◌&&◌}
use mathlib.Core.List.{List, [], ◌∷◌, ◌++◌}
use mathlib.Core.Path.{◌≡◌, refl, sym, ◌∙◌}
use native.Mathlib.Omega.{arith}
use lib.ListN.{length, length-append}
use Rattle.numbers.proofs.Bools.{and_left, and_right}
use Rattle.format.specs.Lookup.{gathered}
use Rattle.format.specs.Parsed.{Parsed, done, row_at}
use Rattle.format.specs.References.{Fault}
use Rattle.format.proofs.ParsedLaws.{making_in}
use Rattle.fields.proofs.Parsing.{row_end, row_step}
use Rattle.tables.specs.Tables.{written}
use Rattle.tables.proofs.TablesLaws.{written-append}
use Rattle.index.specs.Rows.{Row, Rows, filled}
use Rattle.index.proofs.FillingLaws.{filled-append}

-- `whole` is a row of elements of which `left` are to come at `place`, after `before`. Each gives rows, numbers for a column, and faults. If those to come are read, so are all; with their rows and
-- numbers from k on the tables are what those at first are with those of all from k₀ on, and as many rows are written; and where `fits` is true and they have no fault, none has.
pub record Passing {A : Type 0} (p : List A → ℕ → Parsed A) (rows : A → List Row) (column : A → List ℕ) (faults : A → List Fault) (whole : Parsed (List A))
    (t₀ : Rows) (c₀ : List ℕ) (k₀ : ℕ) (t : Rows) (c : List ℕ) (k : ℕ) (fits : Bool) (before : List A) (left place : ℕ) : Type 0 where
  pub rest : (ys : List A) (m : ℕ) → row_at p left before place ≡ done ys m
      → (xs : List A) × (whole ≡ done xs m) × (filled t k (gathered rows ys) ≡ filled t₀ k₀ (gathered rows xs)) × (written c k (gathered column ys) ≡ written c₀ k₀ (gathered column xs))
      × (fits ≡ true → gathered faults ys ≡ [] → gathered faults xs ≡ []) × (k + length (gathered rows ys) ≡ k₀ + length (gathered rows xs))

module _ {A : Type 0} (p : List A → ℕ → Parsed A) (rows : A → List Row) (column : A → List ℕ) (faults : A → List Fault) where
  pub passing_begin : (n at : ℕ) (t : Rows) (c : List ℕ) (k : ℕ) → Passing p rows column faults (row_at p n [] at) t c k t c k true [] n at
  passing_begin n at t c k = record { rest = λ ys m e. (ys, e, refl, refl, (λ f g. g), refl) }

  module _ {whole : Parsed (List A)} {t₀ : Rows} {c₀ : List ℕ} {k₀ : ℕ} {t : Rows} {c : List ℕ} {k : ℕ} {fits : Bool} {before : List A} {left place : ℕ}
      (f : Passing p rows column faults whole t₀ c₀ k₀ t c k fits before left place) where
    pub passing_next : 0 < left → {a : A} {next : ℕ} → p before place ≡ done a next → {u : Rows} {d : List ℕ} {j : ℕ} {fit both : Bool}
        → u ≡ filled t k (rows a) → d ≡ written c k (column a) → j ≡ k + length (rows a) → length (column a) ≡ length (rows a) → both ≡ fits && fit → (fit ≡ true → faults a ≡ [])
        → Passing p rows column faults whole t₀ c₀ k₀ u d j both (a ∷ before) (left - 1) next
    unfolding gathered
    passing_next h {a} {next} e {u} {d} {j} {fit} {both} r w n l b g =
        record {
          rest = λ ys m y.
              let z : row_at p left before place ≡ done (a ∷ ys) m = row_step p left before place h e ∙ making_in _ _ y refl in
              let q = f.rest (a ∷ ys) m z in
              let i : j ≡ k + length (column a) = omega (arith, l) in
              let v : filled u j (gathered rows ys) ≡ filled t k (rows a ++ gathered rows ys) = rw (r, n) (sym (filled-append t k (rows a) (gathered rows ys))) in
              let x : written d j (gathered column ys) ≡ written c k (column a ++ gathered column ys) = rw (w, i) (sym (written-append c k (column a) (gathered column ys))) in (
                q.0,
                q.1,
                v ∙ q.2,
                x ∙ q.3,
                λ o y. let o₁ : fits && fit ≡ true = sym b ∙ o in q.4 (and_left fits fit o₁) (rw (g (and_right fits fit o₁)) y),
                omega (arith, q.5, n, length-append (rows a) (gathered rows ys)),
              );
        }

    pub passing_end : left ≤ 0 → (xs : List A) × (whole ≡ done xs place) × (t ≡ filled t₀ k₀ (gathered rows xs)) × (c ≡ written c₀ k₀ (gathered column xs)) × (fits ≡ true → gathered faults xs ≡ [])
        × (k ≡ k₀ + length (gathered rows xs))
    unfolding gathered filled written
    passing_end h =
        let q = f.rest [] place (row_end p left before place h) in
        (q.0, q.1, q.2, q.3, (λ o. q.4 o refl), omega (arith, q.5))
