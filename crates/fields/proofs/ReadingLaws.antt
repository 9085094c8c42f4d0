-- A loop over a row that goes on only while the elements are read and have no fault, and elements whose bytes are all there.
use Prim.Native.Nat.{ℕ, ◌+◌, ◌-◌, ◌≤◌, ◌<◌}
use mathlib.Core.Path.{◌≡◌, refl, ◌∙◌, ap}
use mathlib.Core.List.{List, [], ◌∷◌}
use native.Mathlib.Omega.{arith}
use lib.ListN.{length}
use Rattle.numbers.specs.Field.{field}
use Rattle.format.specs.Lookup.{gathered}
use Rattle.format.specs.NodeLayout.{capture_at}
use Rattle.format.specs.Parsed.{Parsed, done, row_at}
use Rattle.format.specs.Tree.{Capture}
use Rattle.format.proofs.ParsedLaws.{then_in, making_in}
use Rattle.fields.proofs.FieldLaws.{field_there}
use Rattle.fields.proofs.Parsing.{row_end, row_step}

-- So many elements are read at a place, up to another, and none has a fault.
pub record Faultless {A F : Type 0} (p : List A → ℕ → Parsed A) (faults : A → List F) (n at end : ℕ) : Type 0 where
  pub elements : List A
  pub read : row_at p n [] at ≡ done elements end
  pub fit : gathered faults elements ≡ []

-- `left` elements are to come at `place`, after those before: where they are read and none has a fault, that holds of the whole row, of n elements from a place on.
pub record Reading {A F : Type 0} (p : List A → ℕ → Parsed A) (faults : A → List F) (n at : ℕ) (before : List A) (left place : ℕ) : Type 0 where
  pub on : (rest : List A) (end : ℕ) → row_at p left before place ≡ done rest end → gathered faults rest ≡ [] → Faultless p faults n at end

module _ {A F : Type 0} (p : List A → ℕ → Parsed A) (faults : A → List F) where
  pub reading_begin : (n at : ℕ) → Reading p faults n at [] n at
  reading_begin n at = record { on = λ rest end e g. record { elements = rest; read = e; fit = g } }

  -- One more element has no fault, and neither have those after it.
  faultless_more : (a : A) (xs : List A) → faults a ≡ [] → gathered faults xs ≡ [] → gathered faults (a ∷ xs) ≡ []
  unfolding gathered
  faultless_more a xs h g = rw (h, g)

  module _ {n at : ℕ} {before : List A} {left place : ℕ} (r : Reading p faults n at before left place) where
    pub reading_next : {a : A} {next : ℕ} → p before place ≡ done a next → faults a ≡ [] → 0 < left → Reading p faults n at (a ∷ before) (left - 1) next
    reading_next {a} e f h =
        record { on = λ rest end i g. r.on (a ∷ rest) end (row_step p left before place h e ∙ making_in _ _ i refl) (faultless_more a rest f g) }

    pub reading_end : left ≤ 0 → Faultless p faults n at place
    unfolding gathered
    reading_end h = r.on [] place (row_end p left before place h) refl

module _ (s : List ℕ) where
  -- The name of a register whose four bytes are all there, as a capture.
  abbrev pub captured : ℕ → Capture
  captured at = record { place = at; id = field s at 3; number = field s (at + 3) 1 }

  pub capture_read : (before : List Capture) (at : ℕ) → at + 4 ≤ length s → capture_at s before at ≡ done (captured at) (at + 4)
  unfolding capture_at
  capture_read before at h =
      let e : at + 3 + 1 ≡ at + 4 = omega arith in
      then_in _ _ (field_there s at 3 (omega arith)) (making_in _ _ (field_there s (at + 3) 1 (omega arith) ∙ ap (done (field s (at + 3) 1)) e) refl)
