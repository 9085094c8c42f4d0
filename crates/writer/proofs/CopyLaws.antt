-- Bytes copied to the front of an output, one after another.
use Prim.Native.Nat.{ℕ, ◌+◌, ◌≤◌, ◌<◌}
use mathlib.Core.List.{List, ◌++◌}
use mathlib.Core.Path.{◌≡◌, ◌∙◌, ap}
use native.Mathlib.Omega.{arith}
use native.Mathlib.Numerals.{add-one}
use lib.ListN.{length, drop, get_or, set, drop_of_length-le}
use lib.Seq.{sets, sets-eq, drop-cons}
use borrow.Author.Tests.{le-leb, lt-leb}
use Rattle.format.specs.Parsed.{done}
use Rattle.writer.specs.Writing.{refused_answer, in_output}

pub copied_next : (xs t : List ℕ) (i : ℕ) → i < length xs → sets (set t i (get_or xs i 0)) (i + 1) (drop (i + 1) xs) ≡ sets t i (drop i xs)
copied_next xs t i h = rw (drop-cons xs i 0 h, add-one)

pub copied_end : (xs t u : List ℕ) (i : ℕ) → length xs ≤ length u → length xs ≤ i → sets t i (drop i xs) ≡ sets u 0 xs → t ≡ xs ++ drop (length xs) u
copied_end xs t u i room h e =
    let z : t ≡ sets u 0 xs = rw (drop_of_length-le xs h) at e in
    let r : 0 + length xs ≤ length u = omega (arith, room) in
    let q : 0 + length xs ≡ length xs = omega arith in
    z ∙ (sets-eq xs u 0 r ∙ ap (λ k. xs ++ drop k u) q)

pub too_short : (out xs : List ℕ) → length out < length xs → refused_answer 41 (length xs) out ≡ in_output out (done xs 0)
unfolding in_output
too_short out xs l = rw (lt-leb (length xs) (length out) l)

pub fits_in : (out xs : List ℕ) {o : List ℕ} → length xs ≤ length out → o ≡ xs ++ drop (length xs) out
    → record { number = 0; place = 0; length = length xs; output = o } ≡ in_output out (done xs 0)
unfolding in_output
fits_in out xs l e = rw (le-leb (length xs) (length out) l, e)
