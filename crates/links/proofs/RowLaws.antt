-- Going through elements in a row, one after another.
use Prim.Native.Nat.{ℕ, ◌-◌, ◌≤◌, ◌<◌}
use mathlib.Core.List.{List, [], ◌∷◌}
use mathlib.Core.Path.{◌≡◌, refl, ◌∙◌, ap}
use Rattle.format.specs.Parsed.{Parsed, done, row_at}
use Rattle.index.proofs.FillingLaws.{row_first, row_nothing}

-- `whole` is a row of elements of which `left` are to come at `place`; what is wanted of all elements is what is left to get of those to come.
pub record Going {A B : Type 0} (p : List A → ℕ → Parsed A) (want : List A → B) (whole : Parsed (List A)) (get : List A → B) (left place : ℕ) : Type 0 where
  pub rest : (xs : List A) (m : ℕ) → whole ≡ done xs m
      → (before : List A) × (ys : List A) × (row_at p left before place ≡ done ys m) × (get ys ≡ want xs)

module _ {A B : Type 0} (p : List A → ℕ → Parsed A) (want : List A → B) where
  pub going_begin : (n at : ℕ) → Going p want (row_at p n [] at) want n at
  going_begin n at = record { rest = λ xs m e. ([], xs, e, refl) }

  module _ {whole : Parsed (List A)} {get : List A → B} {left place : ℕ} (f : Going p want whole get left place) where
    pub going_next : 0 < left → (get' : List A → B) {next : ℕ}
        → ((before : List A) (a : A) (m : ℕ) → p before place ≡ done a m → (next ≡ m) × ((ys : List A) → get' ys ≡ get (a ∷ ys)))
        → Going p want whole get' (left - 1) next
    going_next h get' read =
        record {
          rest = λ xs m e.
              let r = f.rest xs m e in
              let d = row_first p left r.0 place h r.2 in
              let q = read r.0 d.0 d.1 d.3 in
              (d.0 ∷ r.0, d.2, rw q.0 d.4, q.1 d.2 ∙ ap get d.5 ∙ r.3);
        }

    pub going_stop : 0 < left → {v : B}
        → ((before : List A) (a : A) (m : ℕ) → p before place ≡ done a m → (ys : List A) → v ≡ get (a ∷ ys))
        → (xs : List A) (m : ℕ) → whole ≡ done xs m → v ≡ want xs
    going_stop h read xs m e =
        let r = f.rest xs m e in
        let d = row_first p left r.0 place h r.2 in
        read r.0 d.0 d.1 d.3 d.2 ∙ ap get d.5 ∙ r.3

    pub going_end : left ≤ 0 → (xs : List A) (m : ℕ) → whole ≡ done xs m → get [] ≡ want xs
    going_end h xs m e =
        let r = f.rest xs m e in
        let d = row_nothing p left r.0 place h r.2 in
        ap get d.0 ∙ r.3
