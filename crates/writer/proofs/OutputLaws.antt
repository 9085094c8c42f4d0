-- Bytes at the front of an output that has room for all of them.
use Prim.Native.Nat.{ℕ, ◌≤◌}
use mathlib.Core.Bool.{Bool, true, false}
use mathlib.Core.List.{List}
use mathlib.Core.Path.{◌≡◌, refl, ap}
use native.Mathlib.Omega.{arith}
use lib.Dec.{leb}
use lib.ListN.{length, take, drop, length-append, length-drop}
use lib.Seq.{take-append_seam}
use borrow.Author.Tests.{le-leb, leb-true}
use Rattle.records.specs.Record.{at_front}

front_fits : (bytes out : List ℕ) → leb (length bytes) (length out) ≡ true → length (at_front bytes out) ≡ length out
unfolding at_front
front_fits bytes out e =
    let l : length bytes ≤ length out = leb-true (length bytes) (length out) e in
    rw e (omega (arith, l, length-append bytes (drop (length bytes) out), length-drop (length bytes) out))

front_short : (bytes out : List ℕ) → leb (length bytes) (length out) ≡ false → at_front bytes out ≡ out
unfolding at_front
front_short bytes out e = rw e

pub front_length : (bytes out : List ℕ) → length (at_front bytes out) ≡ length out
front_length bytes out = go (leb (length bytes) (length out)) refl
  where
    go : (t : Bool) → leb (length bytes) (length out) ≡ t → length (at_front bytes out) ≡ length out
    go true e = front_fits bytes out e
    go false e = ap length (front_short bytes out e)

pub front_taken : (bytes out : List ℕ) → length bytes ≤ length out → take (length bytes) (at_front bytes out) ≡ bytes
unfolding at_front
front_taken bytes out l = rw (le-leb (length bytes) (length out) l) (take-append_seam bytes (drop (length bytes) out))
