-- A whole file's layout and the file's verdict.
use Prim.Native.Nat.{ℕ, ◌≤◌, ◌<◌}
use mathlib.Core.Bool.{Bool, true, false}
use mathlib.Core.List.{List, ◌++◌}
use mathlib.Core.Path.{◌≡◌, refl, sym, ◌∙◌, ap, subst}
use lib.Dec.{leb}
use lib.ListN.{length}
use borrow.Author.Tests.{le-leb, lt-leb, leb-true}
use Rattle.limits.specs.Limits.{Limits}
use Rattle.format.specs.Cycles.{cycle_faults}
use Rattle.format.specs.FileLayout.{file_at}
use Rattle.format.specs.Parsed.{Parsed, done, refused, and_then, making, require}
use Rattle.format.specs.References.{reference_faults}
use Rattle.format.specs.Tree.{Chip}
use Rattle.format.specs.Verdict.{judged, verdict, counts_of}
use Rattle.format.proofs.ParsedLaws.{never, then_out, require_out}
use Rattle.index.proofs.Again.{done_out}
use Rattle.fields.proofs.Parsing.{missed}
use Rattle.reader.specs.Layout.{Summary, layout_at, whole_at, layout_values}
use Rattle.reader.proofs.LayoutLaws.{layout_file, Sections, sections}

-- What the code does with the layout.

pub whole_long : (limits : Limits) (s : List ℕ) {most : ℕ} → most ≡ limits.bytes → {y : Parsed Summary} → most < length s → y ≡ refused 1 0 → y ≡ whole_at limits s
unfolding whole_at require
whole_long limits s is h e = rw (← is, lt-leb _ _ h) e

module _ (limits : Limits) (s : List ℕ) {most : ℕ} (is : most ≡ limits.bytes) (short : length s ≤ most) where
  within : length s ≤ limits.bytes
  within = subst (λ x. length s ≤ x) is short

  pub whole_refused : {y : Parsed Summary} {n p : ℕ} → refused n p ≡ layout_at limits s 0 → y ≡ refused n p → y ≡ whole_at limits s
  unfolding whole_at require and_then
  whole_refused d e = rw (le-leb _ _ within, ← d) e

  pub whole_more : {y : Parsed Summary} {l : Summary} {end : ℕ} → done l end ≡ layout_at limits s 0 → end < length s → y ≡ refused 11 end → y ≡ whole_at limits s
  unfolding whole_at require and_then
  whole_more d h e = rw (le-leb _ _ within, ← d, lt-leb _ _ h) e

  pub whole_done : {y : Parsed Summary} {l : Summary} {end : ℕ} → done l end ≡ layout_at limits s 0 → length s ≤ end → y ≡ done l end → y ≡ whole_at limits s
  unfolding whole_at require and_then
  whole_done d h e = rw (le-leb _ _ within, ← d, le-leb _ _ h) e

-- What that says of the verdict.

layout_refused : (limits : Limits) (s : List ℕ) {n p : ℕ} → layout_at limits s 0 ≡ refused n p → file_at limits s true 0 ≡ refused n p
unfolding making
layout_refused limits s {n} {p} e = missed counts_of (file_at limits s true 0) (sym (ap (making layout_values) e) ∙ layout_file limits s 0)

-- A refusal of one reading as that of another.
again : {A B : Type 0} {n p k m : ℕ} → ◌≡◌ {A = Parsed A} (refused n p) (refused k m) → ◌≡◌ {A = Parsed B} (refused k m) (refused n p)
again {A} {B} {n} {p} {k} {m} e = let i : n ≡ k = cc in let j : p ≡ m = cc in rw (i, j)

module _ (limits : Limits) (s : List ℕ) where
  -- The rest of the verdict, after the file's tree was read.
  abbrev after : Chip → ℕ → Parsed Chip
  after c end = require (leb (length s) end) 11 end λ _. judged (reference_faults c ++ cycle_faults c) c end

  -- The same of the layout.
  abbrev closed : Summary → ℕ → Parsed Summary
  closed l end = require (leb (length s) end) 11 end λ _. done l end

  more_refused : (l : Summary) (end : ℕ) (t : Bool) {n p : ℕ} (c : Chip) → refused n p ≡ require t 11 end (λ _. done l end)
      → require t 11 end (λ _. judged (reference_faults c ++ cycle_faults c) c end) ≡ refused n p
  unfolding require
  more_refused l end true c e = never e
  more_refused l end false c e = again e

  read_refused : (q : Parsed Summary) → layout_at limits s 0 ≡ q → {n p : ℕ} → refused n p ≡ and_then q closed → and_then (file_at limits s true 0) after ≡ refused n p
  unfolding and_then
  read_refused (done l end) g e = let z = sections limits s 0 g in ap (λ r. and_then r after) z.file ∙ more_refused l end (leb (length s) end) z.chip e
  read_refused (refused k m) g e = ap (λ r. and_then r after) (layout_refused limits s g) ∙ again e

  long_refused : (t : Bool) {n p : ℕ} → refused n p ≡ require t 1 0 (λ _. and_then (layout_at limits s 0) closed) → require t 1 0 (λ _. and_then (file_at limits s true 0) after) ≡ refused n p
  unfolding require
  long_refused true e = read_refused (layout_at limits s 0) refl e
  long_refused false e = again e

  pub verdict_refused : {n p : ℕ} → refused n p ≡ whole_at limits s → verdict limits s ≡ refused n p
  unfolding whole_at verdict
  verdict_refused e = long_refused (leb (length s) limits.bytes) e

  -- A layout that was read whole.
  pub record Whole (l : Summary) (end : ℕ) : Type 0 where
    pub parts : Sections limits s 0 l end
    pub ends : length s ≤ end
    pub layout : layout_at limits s 0 ≡ done l end
    pub verdict_is : verdict limits s ≡ judged (reference_faults parts.chip ++ cycle_faults parts.chip) parts.chip end

  accepted : (t : Bool) → t ≡ true → (q : Parsed Chip) {c : Chip} {end : ℕ} → q ≡ done c end → leb (length s) end ≡ true
      → require t 1 0 (λ _. and_then q after) ≡ judged (reference_faults c ++ cycle_faults c) c end
  unfolding require and_then
  accepted t e q g k = rw (e, g, k)

  pub whole_out : {l : Summary} {end : ℕ} → done l end ≡ whole_at limits s → Whole l end
  unfolding whole_at verdict
  whole_out {l} {end} e =
      let a = require_out _ _ _ _ (sym e) in
      let b = then_out _ _ a.1 in
      let d = require_out _ _ _ _ b.3 in
      let i : b.0 ≡ l = (done_out d.1).0 in
      let j : b.1 ≡ end = (done_out d.1).1 in
      let g : layout_at limits s 0 ≡ done l end = b.2 ∙ rw (i, j) in
      let z = sections limits s 0 g in
      let k : leb (length s) end ≡ true = rw (← j) d.0 in
      record {
        parts = z;
        ends = leb-true _ _ k;
        layout = g;
        verdict_is = accepted (leb (length s) limits.bytes) a.0 (file_at limits s true 0) z.file k;
      }
