-- Judging elements in a row, one after another.
use Prim.Native.Nat.{ℕ, ◌-◌, ◌≤◌, ◌<◌}
use mathlib.Core.List.{List, [], ◌∷◌}
use mathlib.Core.Path.{◌≡◌, refl, sym, ◌∙◌, ap}
use Rattle.format.specs.Lookup.{gathered}
use Rattle.format.specs.Parsed.{Parsed, done, refused, row_at}
use Rattle.format.specs.References.{Fault}
use Rattle.tables.specs.Faults.{judged_at}
use Rattle.tables.proofs.FaultsLaws.{judged_none, judged_stop, judged_on}
use Rattle.index.proofs.FillingLaws.{row_first, row_nothing}

-- `whole` is a row of elements of which `left` are to come at `place`; those before have no fault, so that the faults of those to come decide.
pub record Judging {A : Type 0} (p : List A → ℕ → Parsed A) (faults : A → List Fault) (whole : Parsed (List A)) (left place : ℕ) : Type 0 where
  pub rest : (xs : List A) (m : ℕ) → whole ≡ done xs m
      → (before : List A) × (ys : List A) × (row_at p left before place ≡ done ys m) × (judged_at (gathered faults xs) m ≡ judged_at (gathered faults ys) m)

module _ {A : Type 0} (p : List A → ℕ → Parsed A) (faults : A → List Fault) where
  pub judging_begin : (n at : ℕ) → Judging p faults (row_at p n [] at) n at
  judging_begin n at = record { rest = λ xs m e. ([], xs, e, refl) }

  module _ {whole : Parsed (List A)} {left place : ℕ} (f : Judging p faults whole left place) where
    pub judging_next : 0 < left → {u : Unit {0}} {next : ℕ}
        → ((before : List A) (a : A) (m : ℕ) → p before place ≡ done a m → done u next ≡ judged_at (faults a) m)
        → Judging p faults whole (left - 1) next
    unfolding gathered
    judging_next h {u} {next} read =
        record {
          rest = λ xs m e.
              let r = f.rest xs m e in
              let d = row_first p left r.0 place h r.2 in
              let q = judged_on (faults d.0) (gathered faults d.2) m (sym (read r.0 d.0 d.1 d.3)) in
              (d.0 ∷ r.0, d.2, rw (← q.0) d.4, r.3 ∙ ap (λ z. judged_at (gathered faults z) m) (sym d.5) ∙ q.1);
        }

    pub judging_refused : 0 < left → {n q : ℕ}
        → ((before : List A) (a : A) (m : ℕ) → p before place ≡ done a m → refused n q ≡ judged_at (faults a) m)
        → (xs : List A) (m : ℕ) → whole ≡ done xs m → refused n q ≡ judged_at (gathered faults xs) m
    unfolding gathered
    judging_refused h {n} {q} read xs m e =
        let r = f.rest xs m e in
        let d = row_first p left r.0 place h r.2 in
        let z = judged_stop (faults d.0) (gathered faults d.2) d.1 m (sym (read r.0 d.0 d.1 d.3)) in
        sym (r.3 ∙ ap (λ z. judged_at (gathered faults z) m) (sym d.5) ∙ z)

    pub judging_end : left ≤ 0 → (xs : List A) (m : ℕ) → whole ≡ done xs m → done tt place ≡ judged_at (gathered faults xs) m
    unfolding gathered
    judging_end h xs m e =
        let r = f.rest xs m e in
        let d = row_nothing p left r.0 place h r.2 in
        sym (r.3 ∙ ap (λ z. judged_at (gathered faults z) m) (sym d.0) ∙ judged_none m ∙ ap (done tt) (sym d.1))
