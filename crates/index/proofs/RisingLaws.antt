-- A loop over elements while their IDs rise, with the rows of their instances.
use Prim.Native.Nat.{ℕ, ◌+◌, ◌-◌, ◌^◌, ◌≤◌, ◌<◌}
use mathlib.Core.Bool.{true}
use mathlib.Core.List.{List, [], ◌∷◌, map}
use mathlib.Core.Path.{◌≡◌, refl, sym, ◌∙◌, ap, subst}
use native.Mathlib.Omega.{arith}
use lib.ListN.{length}
use Rattle.format.specs.declared.Refusal.{Refusal}
use Rattle.format.specs.Lookup.{gathered}
use Rattle.format.specs.Fields.{field_at, fresh}
use Rattle.format.specs.Parsed.{Parsed, done, refused, and_then, making, requiring, row_at}
use Rattle.fields.specs.declared.CountRead.{CountRead}
use Rattle.fields.specs.declared.RisingCount.{RisingCount}
use Rattle.fields.specs.declared.RisingElement.{RisingElement}
use Rattle.fields.specs.Rising.{ElementTold, ElementUnless, CountTold, CountUnless}
use Rattle.fields.specs.Seen.{Below}
use Rattle.fields.specs.Views.{Element, refused_by, count_parsed}
use Rattle.fields.proofs.Parsing.{Found, found}
use Rattle.fields.proofs.RowLaws.{Rising, rising_begin, rising_next, rising_last, rising_refused}
use Rattle.index.specs.Rows.{Row, Rows, filled, Covered}
use Rattle.index.proofs.ElementLaws.{element-next}
use Rattle.index.proofs.FillingLaws.{Sized, Filling, filling_begin, filling_next, filling_end, filling_covered, covered_none, covered_then, covered_filled}

-- What the loop rests on: a reader of elements, the rows of each, and a limit of their instances.
pub record Reader {A : Type 0} (p : List A → ℕ → Parsed A) (id size : A → ℕ) (total_of : List A → ℕ) (rows : A → List Row) (limit : ℕ) : Type 0 where
  pub nothing : total_of [] ≡ 0
  pub another : (a : A) (xs : List A) → total_of (a ∷ xs) ≡ size a + total_of xs
  pub sized : (a : A) → length (rows a) ≡ size a
  pub bounded : (before : List A) (at i k m : ℕ) → ◌≡◌ {A = Parsed Element} (done (record { id = i; instances = k }) m) (making (λ a. record { id = id a; instances = size a }) (p before at)) → total_of before + k ≤ limit
  pub same : (at : ℕ) (b before : List A) → total_of b ≡ total_of before → (x y : A) (m n : ℕ) → p b at ≡ done x m → p before at ≡ done y n → (x ≡ y) × (m ≡ n)

pub record RisingRows {A : Type 0} (p : List A → ℕ → Parsed A) (id : A → ℕ) (total_of : List A → ℕ) (rows : A → List Row) (limit : ℕ) (whole : Parsed (List A)) (t₀ t : Rows) (bound total left place : ℕ) : Type 0 where
  pub few : total ≤ limit
  pub lengths : Sized t₀ t
  pub rises : Rising p id total_of whole bound total left place
  pub filling : Filling p rows (λ before j. j ≡ total_of before) whole t₀ 0 t total left place
  pub covered : Covered t₀ t 0 total

module _ {A : Type 0} {p : List A → ℕ → Parsed A} {id size : A → ℕ} {total_of : List A → ℕ} {rows : A → List Row} {limit : ℕ} (R : Reader p id size total_of rows limit) where
  pub rows_begin : (n at : ℕ) (t : Rows) → RisingRows p id total_of rows limit (row_at p n [] at) t t 0 0 n at
  rows_begin n at t =
      record {
        few = omega arith;
        lengths = record { keys = refl; kinds = refl; places = refl };
        rises = rising_begin p id size total_of R.nothing R.another n at;
        filling = filling_begin _ _ _ n at t 0 (sym R.nothing);
        covered = covered_none t 0 0;
      }

  module _ {whole : Parsed (List A)} {t₀ t : Rows} {bound total left place : ℕ} (r : RisingRows p id total_of rows limit whole t₀ t bound total left place) where
    pub rows_last : left ≤ 0 → done total place ≡ making total_of whole
    rows_last h = rising_last p id size total_of R.nothing R.another r.rises h

    pub rows_filled : left ≤ 0 → (xs : List A) (m : ℕ) → whole ≡ done xs m → t ≡ filled t₀ 0 (gathered rows xs)
    rows_filled h xs m e = (filling_end _ _ _ r.filling h xs m e).1

    module _ {e : RisingElement}
        (told : (before : List A) → Below bound (map id before) → total ≡ total_of before → ElementTold bound e (making (λ a. record { id = id a; instances = size a }) (p before place))) where
      read : {i k m : ℕ} → e ≡ RisingElement.Element i k m
          → ◌≡◌ {A = Parsed Element} (done (record { id = i; instances = k }) m) (making (λ a. record { id = id a; instances = size a }) (p r.rises.before place)) × (bound ≤ i) × (i < 256 ^ 3)
      read g =
          subst (λ x. ElementTold bound x (making (λ a. record { id = id a; instances = size a }) (p r.rises.before place))) g
          (told r.rises.before r.rises.below r.rises.counting.counted)

      pub rows_room : {i k m : ℕ} → e ≡ RisingElement.Element i k m → (i < 16777216) × (total + k ≤ limit)
      rows_room {i} {k} {m} g =
          let h = read g in
          (h.2, omega (arith, R.bounded r.rises.before place i k m h.0, r.rises.counting.counted))

      pub rows_refused : {q : Refusal} → e ≡ RisingElement.Refused q → 0 < left → refused_by q ≡ making total_of whole
      rows_refused g h =
          rising_refused p id size total_of R.nothing R.another r.rises
          (subst (λ x. ElementTold bound x (making (λ a. record { id = id a; instances = size a }) (p r.rises.before place))) g (told r.rises.before r.rises.below r.rises.counting.counted))
          h

      pub rows_next : (u : Rows) {i k m : ℕ}
          → ((before : List A) → Below bound (map id before) → total ≡ total_of before → ElementUnless e ((a : A) (m : ℕ) → p before place ≡ done a m → u ≡ filled t total (rows a)) (u ≡ t))
          → e ≡ RisingElement.Element i k m → 0 < left → Sized t u → RisingRows p id total_of rows limit whole t₀ u (i + 1) (total + k) (left - 1) m
      rows_next u {i} {k} {m} fills g h z =
          let q = read g in
          let c = r.rises.counting.counted in
          let v = subst (λ x. ElementUnless x ((a : A) (n : ℕ) → p r.rises.before place ≡ done a n → u ≡ filled t total (rows a)) (u ≡ t)) g (fills r.rises.before r.rises.below c) in
          let f : Found {B = Element} (λ a. record { id = id a; instances = size a }) (p r.rises.before place) (record { id = i; instances = k }) m = found _ (p r.rises.before place) q.0 in
          let n : size f.value ≡ k = ap (λ x. x.instances) f.made in
          record {
            few = (rows_room g).1;
            lengths = record { keys = z.keys ∙ r.lengths.keys; kinds = z.kinds ∙ r.lengths.kinds; places = z.places ∙ r.lengths.places };
            rises = rising_next p id size total_of R.nothing R.another r.rises q.0 q.1 refl h;
            filling = filling_next _ _ _ r.filling h (element-next p id size total_of R.another rows R.sized place (R.same place) t total r.rises.before c q.0 v);
            covered = covered_then (omega arith) (omega arith) r.covered (covered_filled t total (rows f.value) (v f.value m f.is) (omega (arith, R.sized f.value)));
          }

    pub rows_falls : {e : RisingElement} (u : Rows)
        → ((before : List A) → Below bound (map id before) → total ≡ total_of before → ElementUnless e ((a : A) (m : ℕ) → p before place ≡ done a m → u ≡ filled t total (rows a)) (u ≡ t))
        → e ≡ RisingElement.Falls → (xs : List A) (m : ℕ) → whole ≡ done xs m → filled u 0 (gathered rows xs) ≡ filled t₀ 0 (gathered rows xs)
    rows_falls u fills g xs m d =
        let v = subst (λ x. ElementUnless x ((a : A) (n : ℕ) → p r.rises.before place ≡ done a n → u ≡ filled t total (rows a)) (u ≡ t)) g (fills r.rises.before r.rises.below r.rises.counting.counted) in
        ap (λ x. filled x 0 (gathered rows xs)) v ∙ filling_covered _ _ _ r.filling r.covered xs m d

-- An element is its ID and the rest: what is known of the ID after those before, and of the rest, is known of the element.
module _ {A : Type 0} (p : List A → ℕ → Parsed A) (id : A → ℕ) (total_of : List A → ℕ) (s : List ℕ) (at width : ℕ) (after : ℕ → ℕ → ℕ → Parsed A) (before : List A)
    (split : p before at ≡ and_then (requiring (fresh true (map id before)) 7 at (field_at s at width)) (after (total_of before))) {total : ℕ} (counted : total ≡ total_of before) where
  split_as : {q : Parsed ℕ} → q ≡ requiring (fresh true (map id before)) 7 at (field_at s at width) → p before at ≡ and_then q (after total)
  split_as o = rw (o, counted) split

  pub rest_done : {i a : ℕ} → done i a ≡ requiring (fresh true (map id before)) 7 at (field_at s at width) → (g : A) (m : ℕ) → p before at ≡ done g m → after total i a ≡ done g m
  unfolding and_then
  rest_done o g m d = sym (split_as o) ∙ d

  pub rest_made : {C : Type 0} (f : A → C) {i a : ℕ} {y : Parsed C} → done i a ≡ requiring (fresh true (map id before)) 7 at (field_at s at width) → y ≡ making f (after total i a) → y ≡ making f (p before at)
  unfolding and_then
  rest_made f o k = k ∙ ap (making f) (sym (split_as o))

  pub rest_cut : {C : Type 0} (f : A → C) {k m : ℕ} → refused k m ≡ requiring (fresh true (map id before)) 7 at (field_at s at width) → refused k m ≡ making f (p before at)
  unfolding and_then making
  rest_cut f o = sym (ap (making f) (split_as o))

-- What a loop that ended told, and what it told where an ID fell.
module _ {x : RisingCount} where
  pub count_read : (p : Parsed ℕ) {c : CountRead} → x ≡ RisingCount.Read c → CountTold x p → count_parsed c ≡ p
  count_read p e t = subst (λ y. CountTold y p) e t

  pub count_rose : (rose fell : Type 0) {c : CountRead} → x ≡ RisingCount.Read c → CountUnless x rose fell → rose
  count_rose rose fell e t = subst (λ y. CountUnless y rose fell) e t

  pub count_fell : (rose fell : Type 0) → x ≡ RisingCount.Falls → CountUnless x rose fell → fell
  count_fell rose fell e t = subst (λ y. CountUnless y rose fell) e t
