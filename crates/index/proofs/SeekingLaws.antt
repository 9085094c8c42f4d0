-- A search over elements in a row that ends at the element that is sought.
use Prim.Native.Nat.{ℕ, ◌-◌, ◌≤◌, ◌<◌}
use mathlib.Core.List.{List, [], ◌∷◌}
use mathlib.Core.Path.{◌≡◌, refl, sym, ◌∙◌, ap}
use Rattle.format.specs.Parsed.{Parsed, done, row_at}
use Rattle.format.specs.Refusals.{AddressValues}
use Rattle.index.proofs.FillingLaws.{row_first, row_nothing}

-- `whole` is a row of elements of which `left` are to come at `place`. What these answer is what all answer.
pub record Seeking {A : Type 0} (p : List A → ℕ → Parsed A) (answer : List A → AddressValues) (whole : Parsed (List A)) (left place : ℕ) : Type 0 where
  pub rest : (xs : List A) (m : ℕ) → whole ≡ done xs m → (before : List A) × (ys : List A) × (row_at p left before place ≡ done ys m) × (answer ys ≡ answer xs)

module _ {A : Type 0} (p : List A → ℕ → Parsed A) (answer : List A → AddressValues) where
  pub seeking_begin : (n at : ℕ) → Seeking p answer (row_at p n [] at) n at
  seeking_begin n at = record { rest = λ xs m e. ([], xs, e, refl) }

  module _ {whole : Parsed (List A)} {left place : ℕ} (f : Seeking p answer whole left place) where
    -- The first of those to come is passed over.
    pub seeking_next : 0 < left → {next : ℕ} → ((before : List A) (a : A) (m : ℕ) → p before place ≡ done a m → (next ≡ m) × ((ys : List A) → answer (a ∷ ys) ≡ answer ys))
        → Seeking p answer whole (left - 1) next
    seeking_next h {next} read =
        record {
          rest = λ xs m e.
              let r = f.rest xs m e in
              let d = row_first p left r.0 place h r.2 in
              let q = read r.0 d.0 d.1 d.3 in
              (d.0 ∷ r.0, d.2, rw q.0 d.4, sym (q.1 d.2) ∙ ap answer d.5 ∙ r.3);
        }

    -- The first of those to come answers.
    pub seeking_found : 0 < left → {v : AddressValues} → ((before : List A) (a : A) (m : ℕ) → p before place ≡ done a m → (ys : List A) → v ≡ answer (a ∷ ys))
        → (xs : List A) (m : ℕ) → whole ≡ done xs m → v ≡ answer xs
    seeking_found h read xs m e =
        let r = f.rest xs m e in
        let d = row_first p left r.0 place h r.2 in
        read r.0 d.0 d.1 d.3 d.2 ∙ ap answer d.5 ∙ r.3

    -- None is to come.
    pub seeking_end : left ≤ 0 → {v : AddressValues} → v ≡ answer [] → (xs : List A) (m : ℕ) → whole ≡ done xs m → v ≡ answer xs
    seeking_end h n xs m e =
        let r = f.rest xs m e in
        let d = row_nothing p left r.0 place h r.2 in
        n ∙ ap answer d.0 ∙ r.3
