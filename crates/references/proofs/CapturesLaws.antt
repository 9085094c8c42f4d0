-- Captures one after another: four bytes each.
use Prim.Native.Nat.{ℕ, zero, suc, ◌+◌, ◌*◌, ◌-◌, ◌≤◌, ◌<◌}
use mathlib.Core.List.{List, [], ◌∷◌}
use mathlib.Core.Logic.{◌⊎◌, inl, inr, ⊎_elim}
use mathlib.Core.Path.{◌≡◌, refl, sym, ◌∙◌, ap, subst}
use native.Mathlib.Omega.{arith}
use lib.ListN.{length}
use Rattle.format.specs.Lookup.{gathered}
use Rattle.format.specs.NodeLayout.{capture_at}
use Rattle.format.specs.Parsed.{done, row_at}
use Rattle.format.specs.References.{Fault}
use Rattle.format.specs.Tree.{Capture}
use Rattle.fields.proofs.FieldLaws.{field_size}
use Rattle.tables.specs.Faults.{judged_at}
use Rattle.tables.proofs.FaultsLaws.{judged_none, judged_on}
use Rattle.index.proofs.FillingLaws.{row_first, row_nothing}
use Rattle.index.proofs.PartsLaws.{capture_fields}

module _ (s : List ℕ) where
  capture_size : (before : List Capture) (at : ℕ) {k : Capture} {m : ℕ} → capture_at s before at ≡ done k m → (at + 4 ≡ m) × (at + 4 ≤ length s)
  capture_size before at e =
      let f = capture_fields s at before e in
      let a = field_size s at 3 f.1 in
      let b = field_size s f.0 1 f.2 in
      let i : at + 3 ≡ f.0 = a.0 in
      (omega (arith, b.0), omega (arith, b.1))

  -- Captures that were read are all there, if there is one.
  captures_room : (n : ℕ) (before : List Capture) (at : ℕ) {ks : List Capture} {m : ℕ} → row_at (capture_at s) n before at ≡ done ks m → (n ≡ 0) ⊎ (at + n * 4 ≤ length s)
  captures_room zero before at e = inl refl
  captures_room (suc n) before at {ks} {m} e =
      let d = row_first (capture_at s) (suc n) before at (omega arith) e in
      let c = capture_size before at d.3 in
      let z : suc n - 1 ≡ n = omega arith in
      let r : row_at (capture_at s) n (d.0 ∷ before) d.1 ≡ done d.2 m = subst (λ j. row_at (capture_at s) j (d.0 ∷ before) d.1 ≡ done d.2 m) z d.4 in
      inr (⊎_elim (λ (i : n ≡ 0). omega (arith, c.1)) (λ (h : d.1 + n * 4 ≤ length s). omega (arith, c.0)) (captures_room n (d.0 ∷ before) d.1 r))

  module _ (faults : Capture → List Fault) where
    -- Where there is no room for them, there is none.
    pub captures_none : (n at : ℕ) → length s < at + n * 4 → (ks : List Capture) (m : ℕ) → row_at (capture_at s) n [] at ≡ done ks m → done tt at ≡ judged_at (gathered faults ks) m
    unfolding gathered
    captures_none n at h ks m e =
        ⊎_elim
        (λ (i : n ≡ 0). let d = row_nothing (capture_at s) n [] at (omega arith) e in ap (done tt) d.1 ∙ sym (judged_none m) ∙ ap (λ l. judged_at (gathered faults l) m) d.0)
        (λ (i : at + n * 4 ≤ length s). absurd (omega arith))
        (captures_room n [] at e)

  -- The next one stands four bytes behind.
  pub capture_next : (fs : List Fault) (before : List Capture) (at : ℕ) {k : Capture} {m x : ℕ} {u : Unit {0}} → capture_at s before at ≡ done k m → done u x ≡ judged_at fs m → done tt (at + 4) ≡ judged_at fs m
  capture_next fs before at {k} {m} {x} e h =
      let c = capture_size before at e in
      let j = judged_on fs [] m (sym h) in
      let i : at + 4 ≡ x = c.0 ∙ j.0 in
      ap (done tt) i ∙ h
