-- Judging all node instances, one after another.
use Prim.Native.Nat.{ℕ, ◌+◌, ◌≤◌, ◌<◌}
use mathlib.Core.Bool.{true}
use mathlib.Core.List.{List, [], ◌∷◌, ◌++◌, map}
use mathlib.Core.Path.{◌≡◌, refl, sym, ◌∙◌, ap, subst}
use native.Mathlib.Omega.{arith}
use lib.ListN.{length, get_or, drop}
use Rattle.limits.specs.Limits.{library_limits}
use Rattle.format.specs.Lookup.{gathered, NodeEntry}
use Rattle.format.specs.NodeLayout.{node_instance_at}
use Rattle.format.specs.Parsed.{Parsed, done, refused}
use Rattle.format.specs.Rules.{Every}
use Rattle.format.specs.Tree.{NodeInstance}
use Rattle.format.specs.References.{Fault}
use Rattle.tables.specs.Faults.{judged_at}
use Rattle.tables.specs.Tables.{written}
use Rattle.tables.proofs.ColumnLaws.{drop_first, column_first, column_none}
use Rattle.tables.proofs.FaultsLaws.{judged_none, judged_stop, judged_on}
use Rattle.tables.proofs.WritingLaws.{written_beyond, Writing, writing_begin, writing_next, writing_end}
use Rattle.index.specs.Rows.{ReadAgain, entry_place, entry_wanted}
use Rattle.links.specs.Links.{child_row}
use Rattle.links.proofs.ChildrenLaws.{row_written}
use Rattle.references.specs.FaultsIn.{instance_faults_in, entry_faults_in}

-- Those before i have no fault, so that the faults of those from i on decide.
pub record Scanning (s places wanted : List ℕ) (faults : NodeEntry → List Fault) (i : ℕ) : Type 0 where
  pub rest : (es : List NodeEntry) → Every (ReadAgain s) es → places ≡ map entry_place es → wanted ≡ map entry_wanted es
      → (ys : List NodeEntry) × Every (ReadAgain s) ys × (drop i places ≡ map entry_place ys) × (drop i wanted ≡ map entry_wanted ys)
      × (judged_at (gathered faults es) 0 ≡ judged_at (gathered faults ys) 0)

module _ (s places wanted keys kinds nodes : List ℕ) where
  abbrev pub Scan : ℕ → Type 0
  Scan i = Scanning s places wanted (entry_faults_in keys kinds nodes) i

  -- What the code learns of the instance at a position.
  abbrev Judges : ℕ → ℕ → Parsed (Unit {0}) → Type 0
  Judges i k y =
      (limit total : ℕ) (before : List NodeInstance) (a : NodeInstance) (m : ℕ) → node_instance_at limit s true total before (get_or places i 0) ≡ done a m
      → y ≡ judged_at (instance_faults_in keys kinds nodes k a) m

  pub scan_begin : Scan 0
  scan_begin = record { rest = λ es h p w. (es, h, p, w, refl) }

  module _ {i : ℕ} (f : Scan i) (h : i < length places) {k : ℕ} (kind : k ≡ get_or wanted i 0) {y : Parsed (Unit {0})} (judges : Judges i k y)
      (es : List NodeEntry) (again : Every (ReadAgain s) es) (p : places ≡ map entry_place es) (w : wanted ≡ map entry_wanted es) where
    -- The instance at i, and what its faults say.
    first_judged : (e : NodeEntry) × (zs : List NodeEntry) × (m : ℕ) × Every (ReadAgain s) zs × (drop (i + 1) places ≡ map entry_place zs) × (drop (i + 1) wanted ≡ map entry_wanted zs)
        × (y ≡ judged_at (entry_faults_in keys kinds nodes e) m)
        × (judged_at (gathered (entry_faults_in keys kinds nodes) es) 0 ≡ judged_at (entry_faults_in keys kinds nodes e ++ gathered (entry_faults_in keys kinds nodes) zs) 0)
    unfolding gathered entry_faults_in Every
    first_judged =
        let r = f.rest es again p w in
        let d = column_first entry_place places i r.0 h r.2 in
        let e = d.0 in
        let zs = d.1 in
        let a : Every (ReadAgain s) (e ∷ zs) = subst (Every (ReadAgain s)) (sym d.2) r.1 in
        let v : drop i wanted ≡ map entry_wanted (e ∷ zs) = subst (λ z. drop i wanted ≡ map entry_wanted z) (sym d.2) r.3 in
        let g = drop_first wanted i v in
        let b : node_instance_at library_limits.node_instances s true 0 [] (get_or places i 0) ≡ done e.instance a.0.next = rw d.3 a.0.read in
        (e, zs, a.0.next, a.1, d.4, g.1, judges library_limits.node_instances 0 [] e.instance a.0.next b ∙ rw (kind, g.0), r.4 ∙ ap (λ z. judged_at (gathered (entry_faults_in keys kinds nodes) z) 0) (sym d.2))

    pub scan_refused : {n q : ℕ} → y ≡ refused n q → refused n q ≡ judged_at (gathered (entry_faults_in keys kinds nodes) es) 0
    scan_refused t = let r = first_judged in sym (r.7 ∙ judged_stop _ _ _ _ (sym r.6 ∙ t))

  module _ {i : ℕ} (f : Scan i) (h : i < length places) {k : ℕ} (kind : k ≡ get_or wanted i 0) {y : Parsed (Unit {0})} (judges : Judges i k y) where
    pub scan_next : {u : Unit {0}} {b : ℕ} → y ≡ done u b → Scan (i + 1)
    scan_next t =
        record {
          rest = λ es again p w.
              let r = first_judged f h kind judges es again p w in
              let j = judged_on (entry_faults_in keys kinds nodes r.0) (gathered (entry_faults_in keys kinds nodes) r.1) 0 (sym r.6 ∙ t) in
              (r.1, r.3, r.4, r.5, r.7 ∙ j.1);
        }

  pub scan_end : {i : ℕ} → Scan i → length places ≤ i → (es : List NodeEntry) → Every (ReadAgain s) es → places ≡ map entry_place es → wanted ≡ map entry_wanted es
      → done tt 0 ≡ judged_at (gathered (entry_faults_in keys kinds nodes) es) 0
  unfolding gathered
  scan_end {i} f h es again p w =
      let r = f.rest es again p w in
      let n = column_none entry_place places i r.0 h r.2 in
      sym (r.4 ∙ ap (λ z. judged_at (gathered (entry_faults_in keys kinds nodes) z) 0) n ∙ judged_none 0)

-- The children of all node instances, 64 places for each: with those of the instances from i on, from place k on, the table is what it is to be.
module _ (s places nodes : List ℕ) where
  abbrev pub Rows : List ℕ → List ℕ → ℕ → ℕ → Type 0
  Rows t₀ t k i = Writing (ReadAgain s) entry_place places (λ e. child_row nodes e.instance) t₀ t k i

  pub rows_begin : (t : List ℕ) → Rows t t 0 0
  rows_begin t = writing_begin _ _ _ _ t

  -- The children of the instance at i were written.
  module _ {t₀ t : List ℕ} {k i : ℕ} (f : Rows t₀ t k i) (h : i < length places) {u : List ℕ}
      (put : (limit total : ℕ) (before : List NodeInstance) (a : NodeInstance) (m : ℕ) → node_instance_at limit s true total before (get_or places i 0) ≡ done a m → u ≡ written t k (child_row nodes a)) where
    pub rows_next : Rows t₀ u (k + 64) (i + 1)
    rows_next = writing_next _ _ _ _ f h (λ e a q. row_written nodes t k e.instance (put library_limits.node_instances 0 [] e.instance a.next (rw q a.read)))

    -- A table that is full is so from the same place on.
    pub rows_full : length u ≤ k → Rows t₀ u k (i + 1)
    rows_full l =
        record {
          rest = λ es a e.
              let r = rows_next.rest es a e in
              let ys = gathered (λ e. child_row nodes e.instance) r.0 in
              (r.0, r.1, r.2, written_beyond u k ys l ∙ sym (written_beyond u (k + 64) ys (omega arith)) ∙ r.3);
        }

  pub rows_end : {t₀ t : List ℕ} {k i : ℕ} → Rows t₀ t k i → length places ≤ i → (es : List NodeEntry) → Every (ReadAgain s) es → places ≡ map entry_place es
      → t ≡ written t₀ 0 (gathered (λ e. child_row nodes e.instance) es)
  rows_end f h = writing_end _ _ _ _ f h
