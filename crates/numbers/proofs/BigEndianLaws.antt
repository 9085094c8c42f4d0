-- The laws of big-endian numbers, over the number of bytes.
use Prim.Native.Nat.{ℕ, zero, suc, ◌+◌, ◌*◌, ◌/◌, ◌%◌, ◌^◌, ◌≤◌, ◌<◌}
use mathlib.Core.Path.{◌≡◌, refl, sym, ◌∙◌, ap}
use mathlib.Core.List.{List, [], ◌∷◌}
use native.Mathlib.Nat.{pow-suc, pow-le-pow_right, one-le-pow, mod-lt, mod-eq_of_lt, mul-add-div_right}
use native.Mathlib.Numerals.{add-one}
use native.Mathlib.Omega.{arith}
use lib.Arith.{digits_lt, digits_div, mod-mul}
use lib.ListN.{length, take, drop, get_or, drop_of_length-le}
use lib.Seq.{drop-cons}
use lib.Dec.{lit<}
use Rattle.numbers.specs.BigEndian.{Bytes, big_endian, bytes_of}

pub bytes_take : (n : ℕ) (s : List ℕ) → Bytes s → Bytes (take n s)
bytes_take zero s h i = lit< tt
bytes_take (suc n) [] h i = lit< tt
bytes_take (suc n) (b ∷ s) h zero = h 0
bytes_take (suc n) (b ∷ s) h (suc i) = bytes_take n s (λ j. h (suc j)) i

pub bytes_drop : (n : ℕ) (s : List ℕ) → Bytes s → Bytes (drop n s)
bytes_drop zero s h = h
bytes_drop (suc n) [] h = λ i. lit< tt
bytes_drop (suc n) (b ∷ s) h = bytes_drop n s (λ j. h (suc j))

positive : (n : ℕ) → 0 < 256 ^ n
positive n = one-le-pow n 256 (lit< tt)

-- n bytes are a number below 256 ^ n.
pub big_endian-lt : (s : List ℕ) → Bytes s → big_endian s < 256 ^ length s
unfolding big_endian
big_endian-lt [] h = lit< tt
big_endian-lt (b ∷ s) h =
    let l : b * 256 ^ length s + big_endian s < 256 * 256 ^ length s = digits_lt (h 0) (big_endian-lt s (λ i. h (suc i))) in
    rw pow-suc (omega arith)

-- Writing

pub length_bytes : (n x : ℕ) → length (bytes_of n x) ≡ n
unfolding bytes_of
length_bytes zero x = refl
length_bytes (suc n) x = ap suc (length_bytes n x)

pub bytes_bytes : (n x : ℕ) → Bytes (bytes_of n x)
unfolding bytes_of
bytes_bytes zero x i = lit< tt
bytes_bytes (suc n) x zero = mod-lt (x / 256 ^ n) (lit< tt)
bytes_bytes (suc n) x (suc i) = bytes_bytes n x i

-- What n bytes keep of a number.
pub read_bytes : (n x : ℕ) → big_endian (bytes_of n x) ≡ x % 256 ^ n
unfolding big_endian bytes_of
read_bytes zero x = omega arith
read_bytes (suc n) x =
    let e : 256 ^ n * 256 ≡ 256 * 256 ^ n = omega arith in
    rw (length_bytes n x, read_bytes n x, pow-suc, e) (sym (mod-mul x (lit< tt) (positive n)))

-- Reading gives back what was written.
pub read_written : (n x : ℕ) → x < 256 ^ n → big_endian (bytes_of n x) ≡ x
read_written n x h = read_bytes n x ∙ mod-eq_of_lt h

bytes_low : (n q v : ℕ) → bytes_of n (q * 256 ^ n + v) ≡ bytes_of n v
unfolding bytes_of
bytes_low zero q v = refl
bytes_low (suc n) q v =
    let e : q * 256 ^ suc n + v ≡ q * 256 * 256 ^ n + v = rw pow-suc (omega arith) in
    let d : (q * 256 * 256 ^ n + v) / 256 ^ n ≡ q * 256 + v / 256 ^ n = mul-add-div_right (positive n) (q * 256) v in
    let m : (q * 256 + v / 256 ^ n) % 256 ≡ v / 256 ^ n % 256 = omega arith in
    rw (e, d, m, bytes_low n (q * 256) v)

-- Writing gives back what was read.
pub written_read : (s : List ℕ) → Bytes s → bytes_of (length s) (big_endian s) ≡ s
unfolding big_endian bytes_of
written_read [] h = refl
written_read (b ∷ s) h =
    let t : Bytes s = λ i. h (suc i) in
    let d : (b * 256 ^ length s + big_endian s) / 256 ^ length s ≡ b = digits_div b (big_endian-lt s t) in
    rw (d, mod-eq_of_lt (h 0), bytes_low (length s) b (big_endian s), written_read s t)

-- Reading byte after byte

-- What a value so far and the bytes that follow make.
unfoldable pub onward : ℕ → List ℕ → ℕ
onward v s = v * 256 ^ length s + big_endian s

pub onward_start : (s : List ℕ) → onward 0 s ≡ big_endian s
unfolding onward
onward_start s = omega arith

pub onward_more : (s : List ℕ) (v i : ℕ) → i < length s → onward (v * 256 + get_or s i 0) (drop (i + 1) s) ≡ onward v (drop i s)
unfolding onward big_endian
onward_more s v i h = rw (add-one, drop-cons s i 0) (rw pow-suc (omega arith))

pub onward_end : (s : List ℕ) (v i : ℕ) {x : ℕ} → onward v (drop i s) ≡ x → length s ≤ i → v ≡ x
unfolding onward big_endian
onward_end s v i e h = let k : onward v [] ≡ v = omega arith in sym k ∙ ap (onward v) (sym (drop_of_length-le s h)) ∙ e

-- One byte more has room in 64 bits while fewer than 8 were read.
pub room : (i : ℕ) → i < 8 → 256 ^ i * 256 ≤ 2 ^ 64
room i h = rw (← pow-suc 256 i) (pow-le-pow_right (lit< tt) h)

pub step_below : (v i b : ℕ) → v < 256 ^ i → b < 256 → v * 256 + b < 256 ^ (i + 1)
step_below v i b h k = rw (add-one, pow-suc) (omega arith)
