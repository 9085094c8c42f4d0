-- The laws of decimal digits.
use Prim.Native.Nat.{ℕ, zero, suc, ◌+◌, ◌*◌, ◌-◌, ◌/◌, ◌%◌, ◌^◌, ◌≤◌, ◌<◌}
use mathlib.Core.Bool.{Bool, true, false, cond}
use mathlib.Core.List.{List, [], ◌∷◌, ◌++◌}
use mathlib.Core.Path.{◌≡◌, refl, ◌∙◌, ap}
use native.Mathlib.Nat.{pow-suc, one-le-pow, pow-le-pow_right}
use native.Mathlib.Omega.{arith}
use borrow.Author.Tests.{lt-ltb, le-ltb, leb-true, leb-false}
use lib.Dec.{lit<, ltb, leb}
use lib.ListN.{length, length-append}
use Rattle.io.specs.Digits.{hex_digit_ascii, last_digits, IsDigitCount}
use Rattle.report.specs.Text.{spelled, decimal}

digit : (n : ℕ) → hex_digit_ascii (n % 10) ≡ 48 + n % 10
digit n = let h : n % 10 < 10 = omega arith in rw (lt-ltb (n % 10) 10 h)

-- The fewest digits that hold a number are its decimal digits.
pub spelled_digits : (f k n : ℕ) → IsDigitCount 10 1 n k → k ≤ f → last_digits 10 k n ≡ spelled f n
unfolding spelled
spelled_digits f zero n h l = absurd (omega (arith, h.0))
spelled_digits zero (suc k) n h l = absurd (omega arith)
spelled_digits (suc f) (suc zero) n h l =
    let b : n < 10 = omega (arith, h.1) in
    let e : n % 10 ≡ n = omega arith in
    rw (digit n, e, lt-ltb n 10 b)
spelled_digits (suc f) (suc (suc k)) n h l =
    let p : ℕ = 10 ^ k in
    let e : suc (suc k) - 1 ≡ suc k = omega arith in
    let a : 10 * p ≤ n = omega (arith, rw e at (h.2 (omega arith)), pow-suc 10 k) in
    let b : n < 10 * (10 * p) = omega (arith, h.1, pow-suc 10 (suc k), pow-suc 10 k) in
    let g : 1 ≤ p = one-le-pow k 10 (lit< tt) in
    let below : 1 < suc k → 10 ^ (suc k - 1) ≤ n / 10 = λ m. (let d : suc k - 1 ≡ k = omega arith in rw d (omega (arith, a))) in
    rw (digit n, le-ltb n 10 (omega arith))
    (ap (λ u. u ++ ((48 + n % 10) ∷ [])) (spelled_digits f (suc k) (n / 10) (omega arith, omega (arith, b, pow-suc 10 k), below) (omega arith)))

-- A number below 2^64 needs at most 20 digits.
pub digits_few : (n k : ℕ) → IsDigitCount 10 1 n k → n < 2 ^ 64 → k ≤ 20
digits_few n k h b = go (leb k 20) refl
  where
    go : (t : Bool) → leb k 20 ≡ t → k ≤ 20
    go true e = leb-true k 20 e
    go false e =
        let l : 20 < k = leb-false k 20 e in
        let p : 10 ^ 20 ≤ 10 ^ (k - 1) = pow-le-pow_right (lit< tt) (let z : 20 ≤ k - 1 = omega arith in z) in
        absurd (omega (arith, p, h.2 (omega arith)))

pub digits_decimal : (n k : ℕ) {xs : List ℕ} → IsDigitCount 10 1 n k → n < 2 ^ 64 → xs ≡ last_digits 10 k n → xs ≡ decimal n
unfolding decimal
digits_decimal n k h b e = e ∙ spelled_digits 20 k n h (digits_few n k h b)

-- A number below 10^k has at most k digits.
spelled_short : (f k n : ℕ) → 1 ≤ k → n < 10 ^ k → length (spelled f n) ≤ k
unfolding spelled
spelled_short zero k n l h = omega arith
spelled_short (suc f) zero n l h = absurd (omega arith)
spelled_short (suc f) (suc zero) n l h = let b : n < 10 = omega (arith, h) in rw (lt-ltb n 10 b) (omega arith)
spelled_short (suc f) (suc (suc k)) n l h = go (ltb n 10) (spelled_short f (suc k) (n / 10) (omega arith) (omega (arith, h, pow-suc 10 (suc k))))
  where
    go : (t : Bool) → length (spelled f (n / 10)) ≤ suc k → length (cond t ((48 + n) ∷ []) (spelled f (n / 10) ++ ((48 + n % 10) ∷ []))) ≤ suc (suc k)
    go true e = omega arith
    go false e = rw (length-append (spelled f (n / 10)) ((48 + n % 10) ∷ [])) (omega (arith, e))

pub decimal_short : (k n : ℕ) → 1 ≤ k → n < 10 ^ k → length (decimal n) ≤ k
unfolding decimal
decimal_short k n l h = spelled_short 20 k n l h

spelled_few : (f n : ℕ) → length (spelled f n) ≤ f
unfolding spelled
spelled_few zero n = omega arith
spelled_few (suc f) n = go (ltb n 10) (spelled_few f (n / 10))
  where
    go : (t : Bool) → length (spelled f (n / 10)) ≤ f → length (cond t ((48 + n) ∷ []) (spelled f (n / 10) ++ ((48 + n % 10) ∷ []))) ≤ suc f
    go true e = omega arith
    go false e = rw (length-append (spelled f (n / 10)) ((48 + n % 10) ∷ [])) (omega (arith, e))

pub decimal_few : (n : ℕ) → length (decimal n) ≤ 20
unfolding decimal
decimal_few n = spelled_few 20 n
