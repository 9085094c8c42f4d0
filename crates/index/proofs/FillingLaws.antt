-- Filling the tables, element after element.
use Prim.Native.Nat.{ℕ, zero, suc, ◌+◌, ◌-◌, ◌≤◌, ◌<◌}
use mathlib.Core.List.{List, [], ◌∷◌, ◌++◌, map}
use mathlib.Core.Path.{◌≡◌, refl, sym, ◌∙◌, ap}
use native.Mathlib.Omega.{arith}
use mathlib.Core.Logic.{⊎_elim}
use lib.ListN.{length, length-set, length-append}
use lib.Seq.{set-set, set_comm}
use Rattle.numbers.proofs.Bools.{same?}
use Rattle.format.specs.Lookup.{gathered}
use Rattle.format.specs.Parsed.{Parsed, done, row_at}
use Rattle.format.proofs.ParsedLaws.{then_out, making_out}
use Rattle.tables.specs.Tables.{written}
use Rattle.tables.specs.Tables.{key_of}
use Rattle.index.specs.declared.Instance.{Instance}
use Rattle.index.specs.Rows.{Row, Rows, put_row, filled, Covered, row_of, instance_of}
use Rattle.index.proofs.Again.{done_out}

pub filled-append : (t : Rows) (k : ℕ) (xs ys : List Row) → filled t k (xs ++ ys) ≡ filled (filled t k xs) (k + length xs) ys
unfolding filled
filled-append t k [] ys = ap (λ j. filled t j ys) (let e : k ≡ k + 0 = omega arith in e)
filled-append t k (x ∷ xs) ys =
    filled-append (put_row t k x) (suc k) xs ys
    ∙ ap (λ j. filled (filled (put_row t k x) (suc k) xs) j ys) (let e : suc k + length xs ≡ k + suc (length xs) = omega arith in e)

-- Each column by itself.
pub filled_columns : (t : Rows) (k : ℕ) (rs : List Row) → filled t k rs
    ≡ record { keys = written t.keys k (map (λ r. r.key) rs); kinds = written t.kinds k (map (λ r. r.kind) rs); places = written t.places k (map (λ r. r.place) rs) }
unfolding filled put_row written
filled_columns t k [] = refl
filled_columns t k (r ∷ rs) = filled_columns (put_row t k r) (suc k) rs

-- The tables keep their lengths.
pub record Sized (t u : Rows) : Type 0 where
  pub keys : length u.keys ≡ length t.keys
  pub kinds : length u.kinds ≡ length t.kinds
  pub places : length u.places ≡ length t.places

pub sized_put : (t u : Rows) (k : ℕ) (r : Row) {v : Rows} → Sized t u → v ≡ put_row u k r → Sized t v
unfolding put_row
sized_put t u k r z e =
    rw e (record { keys = length-set u.keys k r.key ∙ z.keys; kinds = length-set u.kinds k r.kind ∙ z.kinds; places = length-set u.places k r.place ∙ z.places })

-- Rows that are written over others.
put_put : (t : Rows) (k : ℕ) (r x : Row) → put_row (put_row t k r) k x ≡ put_row t k x
unfolding put_row
put_put t k r x = rw (set-set t.keys k r.key x.key, set-set t.kinds k r.kind x.kind, set-set t.places k r.place x.place)

put_swap : (t : Rows) (j k : ℕ) (r x : Row) → (j ≡ k → ⊥) → put_row (put_row t j r) k x ≡ put_row (put_row t k x) j r
unfolding put_row
put_swap t j k r x h = rw (set_comm t.keys j k r.key x.key h, set_comm t.kinds j k r.kind x.kind h, set_comm t.places j k r.place x.place h)

put_over : (t : Rows) (j : ℕ) (r : Row) (k : ℕ) (rows : List Row) → k ≤ j → j < k + length rows → filled (put_row t j r) k rows ≡ filled t k rows
unfolding filled
put_over t j r k [] h l = absurd (omega arith)
put_over t j r k (x ∷ rows) h l =
    ⊎_elim
    (λ e. ap (λ i. filled (put_row (put_row t i r) k x) (suc k) rows) e ∙ ap (λ u. filled u (suc k) rows) (put_put t k r x))
    (λ e. ap (λ u. filled u (suc k) rows) (put_swap t j k r x e) ∙ put_over (put_row t k x) j r (suc k) rows (omega arith) (omega arith))
    (same? j k)

pub covered_none : (t : Rows) (from to : ℕ) → Covered t t from to
covered_none t from to = record { over = λ k rows h g. refl }

pub covered_put : {t u : Rows} {from to : ℕ} (r : Row) {v : Rows} → Covered t u from to → from ≤ to → v ≡ put_row u to r → Covered t v from (to + 1)
covered_put {t} {u} {from} {to} r c l e = record { over = λ k rows h g. ap (λ w. filled w k rows) e ∙ put_over u to r k rows (omega arith) (omega arith) ∙ c.over k rows h (omega arith) }

pub covered_then : {t u v : Rows} {a b d : ℕ} → a ≤ b → b ≤ d → Covered t u a b → Covered u v b d → Covered t v a d
covered_then {a = a} {b = b} {d = d} l m c e = record { over = λ k rows h g. e.over k rows (omega arith) g ∙ c.over k rows h (omega arith) }

pub covered_to : {t u : Rows} {a b d : ℕ} → b ≤ d → Covered t u a b → Covered t u a d
covered_to l c = record { over = λ k rows h g. c.over k rows h (omega arith) }

covered_rows : (t : Rows) (k : ℕ) (rows : List Row) → Covered t (filled t k rows) k (k + length rows)
unfolding filled
covered_rows t k [] = covered_none t k (k + 0)
covered_rows t k (r ∷ rows) =
    record { over = λ j ys h g. (covered_rows (put_row t k r) (suc k) rows).over j ys (omega arith) (omega arith) ∙ put_over t k r j ys h (omega arith) }

pub covered_filled : (t : Rows) (k : ℕ) (rows : List Row) {u : Rows} {n : ℕ} → u ≡ filled t k rows → n ≡ length rows → Covered t u k (k + n)
covered_filled t k rows e h = rw (e, h) (covered_rows t k rows)

-- A row that is done has a first element, or none.
module _ {A : Type 0} (p : List A → ℕ → Parsed A) where
  pub row_first : (n : ℕ) (before : List A) (at : ℕ) {xs : List A} {m : ℕ} → 0 < n → row_at p n before at ≡ done xs m
      → (a : A) × (k : ℕ) × (ys : List A) × (p before at ≡ done a k) × (row_at p (n - 1) (a ∷ before) k ≡ done ys m) × (a ∷ ys ≡ xs)
  unfolding row_at
  row_first zero before at h e = absurd (omega arith)
  row_first (suc n) before at {xs} {m} h e =
      let t = then_out _ _ e in
      let g = making_out _ _ t.3 in
      let z : suc n - 1 ≡ n = omega arith in
      (t.0, t.1, g.0, t.2, rw z g.1, g.2)

  pub row_nothing : (n : ℕ) (before : List A) (at : ℕ) {xs : List A} {m : ℕ} → n ≤ 0 → row_at p n before at ≡ done xs m → ([] ≡ xs) × (at ≡ m)
  unfolding row_at
  row_nothing zero before at h e = done_out e
  row_nothing (suc n) before at h e = absurd (omega arith)

-- `whole` is a row of elements of which `left` are to come at `place`; each gives some rows. With the rows of those to come from k on, the tables t are what
-- the tables t₀ are with the rows of all from k₀ on.
pub record Filling {A : Type 0} (p : List A → ℕ → Parsed A) (rows : A → List Row) (good : List A → ℕ → Type 0) (whole : Parsed (List A)) (t₀ : Rows) (k₀ : ℕ) (t : Rows) (k left place : ℕ) : Type 0 where
  pub rest : (xs : List A) (m : ℕ) → whole ≡ done xs m
      → (before : List A) × (ys : List A) × good before k × (row_at p left before place ≡ done ys m) × (filled t k (gathered rows ys) ≡ filled t₀ k₀ (gathered rows xs))
      × (k + length (gathered rows ys) ≡ k₀ + length (gathered rows xs))

module _ {A : Type 0} (p : List A → ℕ → Parsed A) (rows : A → List Row) (good : List A → ℕ → Type 0) where
  pub filling_begin : (n at : ℕ) (t : Rows) (k : ℕ) → good [] k → Filling p rows good (row_at p n [] at) t k t k n at
  filling_begin n at t k g = record { rest = λ xs m e. ([], xs, g, e, refl, refl) }

  module _ {whole : Parsed (List A)} {t₀ : Rows} {k₀ : ℕ} {t : Rows} {k left place : ℕ} (f : Filling p rows good whole t₀ k₀ t k left place) where
    pub filling_next : 0 < left → {u : Rows} {j next : ℕ}
        → ((before : List A) (a : A) (m : ℕ) → good before k → p before place ≡ done a m → (next ≡ m) × (u ≡ filled t k (rows a)) × (j ≡ k + length (rows a)) × good (a ∷ before) j)
        → Filling p rows good whole t₀ k₀ u j (left - 1) next
    unfolding gathered
    filling_next h {u} {j} {next} read =
        record {
          rest = λ xs m e.
              let r = f.rest xs m e in
              let d = row_first p left r.0 place h r.3 in
              let q = read r.0 d.0 d.1 r.2 d.3 in
              let w : filled u j (gathered rows d.2) ≡ filled t k (gathered rows (d.0 ∷ d.2)) = rw (q.1, q.2) (sym (filled-append t k (rows d.0) (gathered rows d.2))) in
              let n : k + length (rows d.0 ++ gathered rows d.2) ≡ k₀ + length (gathered rows xs) = ap (λ z. k + length (gathered rows z)) d.5 ∙ r.5 in
              let o : j + length (gathered rows d.2) ≡ k₀ + length (gathered rows xs) = omega (arith, q.2, length-append (rows d.0) (gathered rows d.2)) in
              (d.0 ∷ r.0, d.2, q.3, rw q.0 d.4, w ∙ ap (λ z. filled t k (gathered rows z)) d.5 ∙ r.4, o);
        }

    pub filling_end : left ≤ 0 → (xs : List A) (m : ℕ) → whole ≡ done xs m → (place ≡ m) × (t ≡ filled t₀ k₀ (gathered rows xs))
    unfolding gathered filled
    filling_end h xs m e =
        let r = f.rest xs m e in
        let d = row_nothing p left r.0 place h r.3 in
        (d.1, ap (λ z. filled t k (gathered rows z)) d.0 ∙ r.4)

    -- Where the loop ends before the row does, the rows of all are written over those that it wrote.
    pub filling_covered : Covered t₀ t k₀ k → (xs : List A) (m : ℕ) → whole ≡ done xs m → filled t k₀ (gathered rows xs) ≡ filled t₀ k₀ (gathered rows xs)
    filling_covered c xs m e = let r = f.rest xs m e in c.over k₀ (gathered rows xs) (omega arith) (omega (arith, r.5))

-- The row of an instance that was read.
pub instance_put : (t : Rows) (j id code number place : ℕ) {i : Instance} {m x : ℕ} {u : Rows} → i ≡ instance_of number place m
    → x ≡ key_of id i.number → u ≡ put_row t j (record { key = x; kind = code; place = i.place })
    → (i.next ≡ m) × (u ≡ filled t j (row_of id code number place ∷ [])) × (j + 1 ≡ j + length (row_of id code number place ∷ [])) × Unit {0}
unfolding row_of filled
instance_put t j id code number place {i} {m} {x} {u} e k h =
    let n : i.number ≡ number = ap (λ y. y.number) e in
    let p : i.place ≡ place = ap (λ y. y.place) e in
    let q : x ≡ key_of id number = k ∙ ap (key_of id) n in
    (ap (λ y. y.next) e, h ∙ rw (q, p), refl, tt)
