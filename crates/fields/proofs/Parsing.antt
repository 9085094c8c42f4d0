-- The laws of readings that follow one another, and of elements in a row.
use Prim.Native.Nat.{ℕ, zero, suc, ◌+◌, ◌-◌, ◌≤◌, ◌<◌}
use mathlib.Core.Path.{◌≡◌, refl, sym, ap}
use mathlib.Core.Bool.{Bool, true}
use mathlib.Core.List.{List, [], ◌∷◌}
use native.Mathlib.Omega.{arith}
use native.Mathlib.Numerals.{sub-one}
use lib.ListN.{length}
use Rattle.format.specs.Parsed.{Parsed, done, refused, and_then, making, requiring, row_at}
use Rattle.format.proofs.ParsedLaws.{then_out, making_out, requiring_out}

pub then_then : {A B C : Type 0} (p : Parsed A) (f : A → ℕ → Parsed B) (g : B → ℕ → Parsed C)
    → and_then (and_then p f) g ≡ and_then p (λ a n. and_then (f a n) g)
unfolding and_then
then_then (done a n) f g = refl
then_then (refused k m) f g = refl

pub making_after : {A B C : Type 0} (g : B → C) (p : Parsed A) (f : A → ℕ → Parsed B)
    → making g (and_then p f) ≡ and_then p (λ a n. making g (f a n))
unfolding and_then making
making_after g (done a n) f = refl
making_after g (refused k m) f = refl

pub making_making : {A B C : Type 0} (g : B → C) (h : A → B) (p : Parsed A) → making g (making h p) ≡ making (λ a. g (h a)) p
unfolding making
making_making g h (done a n) = refl
making_making g h (refused k m) = refl

-- A value that was made was read.
pub record Found {A B : Type 0} (g : A → B) (p : Parsed A) (b : B) (n : ℕ) : Type 0 where
  pub value : A
  pub is : p ≡ done value n
  pub made : g value ≡ b

pub found : {A B : Type 0} (g : A → B) (p : Parsed A) {b : B} {n : ℕ} → done b n ≡ making g p → Found g p b n
found g p e = let r = making_out g p (sym e) in record { value = r.0; is = r.1; made = r.2 }

pub missed : {A B : Type 0} (g : A → B) (p : Parsed A) {k m : ℕ} → refused k m ≡ making g p → p ≡ refused k m
unfolding making
missed g (done a n) e = let z : ◌≡◌ {A = ℕ} 0 1 = cc in absurd (omega arith)
missed g (refused j i) {k} {m} e = let h : j ≡ k = cc in let l : i ≡ m = cc in rw (h, l)

-- A reading that follows another and gives a value: so did the first.
pub record Followed {A B : Type 0} (p : Parsed A) (f : A → ℕ → Parsed B) (b : B) (m : ℕ) : Type 0 where
  pub value : A
  pub place : ℕ
  pub is : p ≡ done value place
  pub next : f value place ≡ done b m

pub followed : {A B : Type 0} (p : Parsed A) (f : A → ℕ → Parsed B) {b : B} {m : ℕ} → and_then p f ≡ done b m → Followed p f b m
followed p f e = let r = then_out p f e in record { value = r.0; place = r.1; is = r.2; next = r.3 }

-- A value that had to pass a test passed it.
pub passed : {A : Type 0} (test : A → Bool) (n p : ℕ) (q : Parsed A) {a : A} {m : ℕ} → requiring test n p q ≡ done a m → (test a ≡ true) × (q ≡ done a m)
passed test n p q e = let r = requiring_out test n p q e in (r.1, r.0)

-- Elements in a row.
module _ {A : Type 0} (p : List A → ℕ → Parsed A) where
  pub row_end : (n : ℕ) (before : List A) (at : ℕ) → n ≤ 0 → row_at p n before at ≡ done [] at
  unfolding row_at
  row_end zero before at h = refl
  row_end (suc n) before at h = absurd (omega arith)

  pub row_step : (n : ℕ) (before : List A) (at : ℕ) {a : A} {m : ℕ} → 0 < n → p before at ≡ done a m
      → row_at p n before at ≡ making (λ rest. a ∷ rest) (row_at p (n - 1) (a ∷ before) m)
  unfolding row_at and_then
  row_step zero before at h e = absurd (omega arith)
  row_step (suc n) before at h e = rw (sub-one, e)

  pub row_stop : (n : ℕ) (before : List A) (at : ℕ) {k m : ℕ} → 0 < n → p before at ≡ refused k m → row_at p n before at ≡ refused k m
  unfolding row_at and_then
  row_stop zero before at h e = absurd (omega arith)
  row_stop (suc n) before at h e = rw e

-- Elements whose reader does not look at those before.
module _ {A : Type 0} (p : List A → ℕ → Parsed A) (blind : (b c : List A) (at : ℕ) → p b at ≡ p c at) where
  pub row_blind : (n : ℕ) (b c : List A) (at : ℕ) → row_at p n b at ≡ row_at p n c at
  unfolding row_at and_then
  row_blind zero b c at = refl
  row_blind (suc n) b c at = rw (blind b c at) (go (p c at) (λ x y m. row_blind n x y m))
    where
      go : (q : Parsed A) → ((x y : List A) (m : ℕ) → row_at p n x m ≡ row_at p n y m)
          → and_then q (λ a next. making (λ rest. a ∷ rest) (row_at p n (a ∷ b) next)) ≡ and_then q (λ a next. making (λ rest. a ∷ rest) (row_at p n (a ∷ c) next))
      go (done a m) k = ap (λ r. making (λ rest. a ∷ rest) r) (k (a ∷ b) (a ∷ c) m)
      go (refused i m) k = refl

-- How many elements a row has, and how many there can be.
module _ {A : Type 0} (p : List A → ℕ → Parsed A) where
  pub row-length : (n : ℕ) (before : List A) (at : ℕ) {xs : List A} {m : ℕ} → row_at p n before at ≡ done xs m → length xs ≡ n
  unfolding row_at
  row-length zero before at {xs} {m} e = let h : [] ≡ xs = cc in rw (← h)
  row-length (suc n) before at {xs} {m} e =
      let f : Followed (p before at) (λ a next. making (λ rest. a ∷ rest) (row_at p n (a ∷ before) next)) xs m = followed (p before at) _ e in
      let g : Found (λ rest. f.value ∷ rest) (row_at p n (f.value ∷ before) f.place) xs m = found _ _ (sym f.next) in
      rw (← g.made) (ap suc (row-length n (f.value ∷ before) f.place g.is))

  module _ (base limit : ℕ) (room : (before : List A) (at : ℕ) (a : A) (m : ℕ) → p before at ≡ done a m → base + length before < limit) where
    pub row_bound : (n : ℕ) (before : List A) (at : ℕ) {xs : List A} {m : ℕ} → row_at p n before at ≡ done xs m → 0 < n → base + length before + n ≤ limit
    unfolding row_at
    row_bound zero before at e h = absurd (omega arith)
    row_bound (suc zero) before at {xs} {m} e h =
        let f : Followed (p before at) (λ a next. making (λ rest. a ∷ rest) (row_at p zero (a ∷ before) next)) xs m = followed (p before at) _ e in
        let k : base + length before < limit = room before at f.value f.place f.is in
        omega arith
    row_bound (suc (suc n)) before at {xs} {m} e h =
        let f : Followed (p before at) (λ a next. making (λ rest. a ∷ rest) (row_at p (suc n) (a ∷ before) next)) xs m = followed (p before at) _ e in
        let g : Found (λ rest. f.value ∷ rest) (row_at p (suc n) (f.value ∷ before) f.place) xs m = found _ _ (sym f.next) in
        let k : base + suc (length before) + suc n ≤ limit = row_bound (suc n) (f.value ∷ before) f.place g.is (omega arith) in
        omega arith
