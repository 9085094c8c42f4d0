-- The laws of what a table keeps of a register's type and flags.
use Prim.Native.Nat.{ℕ, ◌+◌, ◌*◌, ◌/◌, ◌%◌, ◌<◌}
use mathlib.Core.Bool.{Bool, true, false, ◌&&◌}
use mathlib.Core.Path.{◌≡◌, refl, ap}
use native.Mathlib.Omega.{arith}
use lib.Dec.{eqb}
use borrow.Author.Tests.{eq-eqb, ne_eqb, eqb-true, eqb-false}
use Rattle.numbers.specs.Bits.{bit_of}
use Rattle.format.specs.Fields.{readable}
use Rattle.tables.specs.Kinds.{kind_of, wanted_kind, readable_kind}

-- A register's kind is a readable one exactly when the register is readable.
pub kind_readable : (t f : ℕ) → readable_kind (kind_of t f) ≡ readable f
unfolding kind_of readable_kind readable bit_of
kind_readable t f = ap (λ k. eqb k 1) (let z : (t * 2 + f / 128) % 2 ≡ f / 128 % 2 = omega arith in z)

-- A register's kind is the wanted one exactly when it is readable and of the type.
pub kind_same : (t f type : ℕ) → f < 256 → eqb (kind_of t f) (wanted_kind type) ≡ eqb t type && readable f
unfolding kind_of wanted_kind readable bit_of
kind_same t f type h = go (eqb t type) refl (eqb (f / 128 % 2) 1) refl
  where
    go : (s : Bool) → eqb t type ≡ s → (r : Bool) → eqb (f / 128 % 2) 1 ≡ r → eqb (t * 2 + f / 128) (type * 2 + 1) ≡ s && r
    go true p true q =
        let a : t ≡ type = eqb-true t type p in
        let b : f / 128 % 2 ≡ 1 = eqb-true _ 1 q in
        eq-eqb (t * 2 + f / 128) (type * 2 + 1) (omega arith)
    go true p false q =
        let a : t ≡ type = eqb-true t type p in
        ne_eqb (t * 2 + f / 128) (type * 2 + 1) (λ e. eqb-false (f / 128 % 2) 1 q (let d : t * 2 + f / 128 ≡ type * 2 + 1 = e in omega arith))
    go false p r q = ne_eqb (t * 2 + f / 128) (type * 2 + 1) (λ e. eqb-false t type p (let d : t * 2 + f / 128 ≡ type * 2 + 1 = e in omega arith))
