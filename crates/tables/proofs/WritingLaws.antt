-- Writing what the elements of a list give, element after element.
use Prim.Native.Nat.{ℕ, suc, ◌+◌, ◌≤◌, ◌<◌}
use mathlib.Core.List.{List, [], ◌∷◌, map}
use mathlib.Core.Path.{◌≡◌, refl, sym, ◌∙◌, ap, subst}
use native.Mathlib.Omega.{arith}
use lib.ListN.{length, drop, get_or}
use lib.Seq.{set_out}
use Rattle.format.specs.Lookup.{gathered}
use Rattle.format.specs.Rules.{Every}
use Rattle.tables.specs.Tables.{written}
use Rattle.tables.proofs.ColumnLaws.{column_first, column_none}
use Rattle.tables.proofs.TablesLaws.{written-append}

-- What is written from behind the end of a table is not there.
pub written_beyond : (t : List ℕ) (k : ℕ) (xs : List ℕ) → length t ≤ k → written t k xs ≡ t
unfolding written
written_beyond t k [] h = refl
written_beyond t k (x ∷ xs) h = ap (λ u. written u (suc k) xs) (set_out t k x h) ∙ written_beyond t (suc k) xs (omega arith)

-- The elements before place i of `values` have given their numbers. With those of the elements to come from k on, the table t is what t₀ is with those of all.
pub record Writing {A : Type 0} (P : A → Type 0) (value : A → ℕ) (values : List ℕ) (row : A → List ℕ) (t₀ t : List ℕ) (k i : ℕ) : Type 0 where
  pub rest : (es : List A) → Every P es → values ≡ map value es
      → (ys : List A) × Every P ys × (drop i values ≡ map value ys) × (written t k (gathered row ys) ≡ written t₀ 0 (gathered row es))

module _ {A : Type 0} (P : A → Type 0) (value : A → ℕ) (values : List ℕ) (row : A → List ℕ) where
  pub writing_begin : (t : List ℕ) → Writing P value values row t t 0 0
  writing_begin t = record { rest = λ es a e. (es, a, e, refl) }

  module _ {t₀ t : List ℕ} {k i : ℕ} (f : Writing P value values row t₀ t k i) where
    pub writing_next : i < length values → {u : List ℕ} {j : ℕ}
        → ((e : A) → P e → get_or values i 0 ≡ value e → (u ≡ written t k (row e)) × (j ≡ k + length (row e)))
        → Writing P value values row t₀ u j (i + 1)
    unfolding gathered Every
    writing_next h {u} {j} give =
        record {
          rest = λ es a e.
              let r = f.rest es a e in
              let d = column_first value values i r.0 h r.2 in
              let b : Every P (d.0 ∷ d.1) = subst (Every P) (sym d.2) r.1 in
              let q = give d.0 b.0 d.3 in
              let w : written u j (gathered row d.1) ≡ written t k (gathered row (d.0 ∷ d.1)) = rw (q.0, q.1) (sym (written-append t k (row d.0) (gathered row d.1))) in
              (d.1, b.1, d.4, w ∙ ap (λ z. written t k (gathered row z)) d.2 ∙ r.3);
        }

    pub writing_end : length values ≤ i → (es : List A) → Every P es → values ≡ map value es → t ≡ written t₀ 0 (gathered row es)
    unfolding gathered written
    writing_end h es a e =
        let r = f.rest es a e in
        let d = column_none value values i r.0 h r.2 in
        ap (λ z. written t k (gathered row z)) (sym d) ∙ r.3
