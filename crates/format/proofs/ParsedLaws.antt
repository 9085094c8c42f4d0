-- A reading that is done: what its parts did, and back.
use Prim.Native.Nat.{ℕ}
use mathlib.Core.Bool.{Bool, true, false}
use mathlib.Core.Path.{◌≡◌, refl, sym, ◌∙◌, ap}
use native.Mathlib.Omega.{arith}
use Rattle.format.specs.Parsed.{Parsed, done, refused, and_then, making, require, requiring}

pub never : {A B : Type 0} {n p : ℕ} {a : A} {m : ℕ} → refused n p ≡ done a m → B
never e = let z : ◌≡◌ {A = ℕ} 0 1 = cc in absurd (omega arith)

module _ {A B : Type 0} where
  pub then_out : (p : Parsed A) (f : A → ℕ → Parsed B) {b : B} {m : ℕ} → and_then p f ≡ done b m
      → (a : A) × (k : ℕ) × (p ≡ done a k) × (f a k ≡ done b m)
  unfolding and_then
  then_out (done a k) f e = (a, k, refl, e)
  then_out (refused n q) f e = never e

  pub then_in : (p : Parsed A) (f : A → ℕ → Parsed B) {a : A} {k : ℕ} {b : B} {m : ℕ} → p ≡ done a k → f a k ≡ done b m
      → and_then p f ≡ done b m
  unfolding and_then
  then_in p f e h = rw e h

  pub making_out : (g : A → B) (p : Parsed A) {b : B} {m : ℕ} → making g p ≡ done b m → (a : A) × (p ≡ done a m) × (g a ≡ b)
  unfolding making
  making_out g (done a k) {b} {m} e = let h : k ≡ m = cc in (a, ap (done a) h, let i : g a ≡ b = cc in i)
  making_out g (refused n q) e = never e

  pub making_in : (g : A → B) (p : Parsed A) {a : A} {m : ℕ} {b : B} → p ≡ done a m → g a ≡ b → making g p ≡ done b m
  unfolding making
  making_in g p e h = rw (e, h)

pub require_out : {A : Type 0} (t : Bool) (n p : ℕ) (k : Unit {0} → Parsed A) {a : A} {m : ℕ} → require t n p k ≡ done a m
    → (t ≡ true) × (k tt ≡ done a m)
unfolding require
require_out true n p k e = (refl, e)
require_out false n p k e = never e

pub require_in : {A : Type 0} (t : Bool) (n p : ℕ) (k : Unit {0} → Parsed A) {a : A} {m : ℕ} → t ≡ true → k tt ≡ done a m
    → require t n p k ≡ done a m
unfolding require
require_in t n p k e h = rw e h

module _ {A : Type 0} (test : A → Bool) (n p : ℕ) where
  pub requiring_out : (r : Parsed A) {a : A} {m : ℕ} → requiring test n p r ≡ done a m → (r ≡ done a m) × (test a ≡ true)
  unfolding requiring and_then
  requiring_out (done x k) {a} {m} e =
      let h = require_out (test x) n p (λ _. done x k) e in
      let i : x ≡ a = let d : done x k ≡ done a m = h.1 in cc in
      (h.1, ap test (sym i) ∙ h.0)
  requiring_out (refused q w) e = never e

  pub requiring_in : (r : Parsed A) {a : A} {m : ℕ} → r ≡ done a m → test a ≡ true → requiring test n p r ≡ done a m
  unfolding requiring and_then
  requiring_in r e h = rw e (require_in _ _ _ _ h refl)
