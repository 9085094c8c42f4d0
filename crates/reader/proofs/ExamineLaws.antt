-- What is examined is the file's verdict.
use Prim.Native.Nat.{ℕ}
use mathlib.Core.Bool.{true}
use mathlib.Core.List.{List, [], ◌∷◌, ◌++◌}
use mathlib.Core.Path.{◌≡◌, refl, sym, ◌∙◌, ap}
use Rattle.limits.specs.Limits.{Limits}
use Rattle.format.specs.Cycles.{cycle_faults}
use Rattle.format.specs.FileLayout.{file_at}
use Rattle.format.specs.Parsed.{Parsed, done, refused, making}
use Rattle.format.specs.References.{Fault, reference_faults}
use Rattle.format.specs.Tree.{Chip}
use Rattle.format.specs.Verdict.{judged, verdict, counts_of}
use Rattle.tables.specs.Faults.{judged_at}
use Rattle.index.proofs.Again.{done_out}
use Rattle.reader.specs.Layout.{Summary, layout_at, whole_at, layout_values}
use Rattle.reader.proofs.LayoutLaws.{layout_file}
use Rattle.reader.proofs.FaultsLaws.{faultless}
use Rattle.reader.proofs.WholeLaws.{verdict_refused, Whole, whole_out}

-- The verdict on a list of faults.
judged_is : (fs : List Fault) (c : Chip) (end : ℕ) → judged fs c end ≡ making (λ _. c) (judged_at fs end)
unfolding judged judged_at making
judged_is [] c end = refl
judged_is (f ∷ fs) c end = refl

module _ (limits : Limits) (s : List ℕ) where
  -- A layout that is refused.
  pub examined_refused : {n p : ℕ} → refused n p ≡ whole_at limits s → refused n p ≡ making counts_of (verdict limits s)
  unfolding making
  examined_refused e = sym (ap (making counts_of) (verdict_refused limits s e))

  -- A layout that was read, and its faults.
  module _ {l : Summary} {end : ℕ} (w : done l end ≡ whole_at limits s) {y : Parsed (Unit {0})}
      (f : (c : Chip) → done l end ≡ layout_at limits s 0 → file_at limits s true 0 ≡ done c end → y ≡ judged_at (reference_faults c ++ cycle_faults c) end) where
    pub laid-out : done l end ≡ layout_at limits s 0
    laid-out = sym (whole_out limits s w).layout

    verdict_by : (z : Whole limits s l end) → verdict limits s ≡ making (λ _. z.parts.chip) y
    verdict_by z =
        z.verdict_is ∙ judged_is _ z.parts.chip end ∙ ap (making (λ _. z.parts.chip)) (sym (f z.parts.chip laid-out z.parts.file))

    values_are : (z : Whole limits s l end) → layout_values l ≡ counts_of z.parts.chip
    unfolding making
    values_are z =
        (done_out (ap (making layout_values) laid-out ∙ layout_file limits s 0 ∙ ap (making counts_of) z.parts.file)).0

    pub examined_faulty : {n p : ℕ} → y ≡ refused n p → refused n p ≡ making counts_of (verdict limits s)
    unfolding making
    examined_faulty e = let z = whole_out limits s w in sym (ap (making counts_of) (verdict_by z ∙ ap (making (λ _. z.parts.chip)) e))

    -- Where there is no fault, the file is accepted.
    pub clean_verdict : {u : Unit {0}} {a : ℕ} → y ≡ done u a → verdict limits s ≡ done (whole_out limits s w).parts.chip end
    unfolding making
    clean_verdict {u} {a} e =
        let z = whole_out limits s w in
        let c = z.parts.chip in
        let q : end ≡ a = (faultless _ (sym (f c laid-out z.parts.file) ∙ e)).1 in
        verdict_by z ∙ ap (making (λ _. c)) e ∙ rw (← q)

    pub examined_clean : {u : Unit {0}} {a : ℕ} → y ≡ done u a → done (layout_values l) end ≡ making counts_of (verdict limits s)
    unfolding making
    examined_clean e = let z = whole_out limits s w in sym (ap (making counts_of) (clean_verdict e) ∙ rw (← values_are z))
