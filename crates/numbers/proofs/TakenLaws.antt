-- A loop that takes one bit of a word after another, the least first, takes each once and no other, at each width.
use Prim.Native.Nat.{ℕ, zero, suc, ◌+◌, ◌-◌, ◌^◌, ◌≤◌, ◌<◌}
use mathlib.Core.Bool.{true, false, not, ◌&&◌}
use mathlib.Core.Logic.{⊎_elim}
use mathlib.Core.Path.{◌≡◌, sym, ◌∙◌, ap}
use native.Mathlib.Nat.{add-zero}
use native.Mathlib.Omega.{arith}
use borrow.Author.Tests.{eq-eqb, ne_eqb, le-leb, lt-leb, leb-true, ltb-true, ltb-false}
use lib.Count.{ones}
use lib.Dec.{eqb, ltb, leb}
use Rattle.numbers.specs.Bits.{bit_of, word_of}
use Rattle.numbers.specs.NextBit.{other_bits, next_bit, without_next, Least}
use Rattle.numbers.proofs.BitsLaws.{word_lt, bit-word, zero_bit}
use Rattle.numbers.proofs.NextBitLaws.{next_law, next_in, next-ones}
use Rattle.numbers.proofs.Bools.{either, and_left, and_right, same?}

-- The bits of x below `up_to` were taken where they are set, `rest` is the word of the others, and P holds of what was done up to there.
pub record Taken (w x rest : ℕ) (P : ℕ → Type 0) : Type 0 where
  pub up_to : ℕ
  pub most : up_to ≤ w
  pub word : rest < 2 ^ w
  pub left : (i : ℕ) → i < w → bit_of w rest i ≡ (leb up_to i && bit_of w x i)
  pub done : P up_to

-- Before the first bit.
pub taken_none : (w x : ℕ) (P : ℕ → Type 0) → x < 2 ^ w → P 0 → Taken w x x P
taken_none w x P h p = record { up_to = 0; most = omega arith; word = h; left = λ i l. let z : 0 ≤ i = omega arith in simp (le-leb _ _ z); done = p }

module _ {w x rest : ℕ} {P : ℕ → Type 0} (t : Taken w x rest P) where
  module _ (some : rest ≡ 0 → ⊥) {c : ℕ} (e : c ≡ next_bit w rest) where
    least : Least w (bit_of w rest) c
    least = rw e (next_law w rest)

    -- The next bit is one of the word's.
    pub taken_in : c < w
    taken_in = rw e (next_in w rest t.word some)

    both : leb t.up_to c && bit_of w x c ≡ true
    both = sym (t.left c taken_in) ∙ least.set taken_in

    pub taken-set : bit_of w x c ≡ true
    taken-set = and_right (leb t.up_to c) (bit_of w x c) both

    from : t.up_to ≤ c
    from = leb-true t.up_to c (and_left (leb t.up_to c) (bit_of w x c) both)

    others : (i : ℕ) → i < w → not (eqb i c) && bit_of w rest i ≡ leb (c + 1) i && bit_of w x i
    others i l = ⊎_elim same other (same? i c)
      where
        same : i ≡ c → not (eqb i c) && bit_of w rest i ≡ leb (c + 1) i && bit_of w x i
        same q = let g : i < c + 1 = omega arith in simp (eq-eqb i c q, lt-leb (c + 1) i g)

        below : i < c → bit_of w rest i ≡ leb (c + 1) i && bit_of w x i
        below h = let g : i < c + 1 = omega arith in simp (least.before i h, lt-leb (c + 1) i g)

        above : c < i → bit_of w rest i ≡ leb (c + 1) i && bit_of w x i
        above h =
            let g : c + 1 ≤ i = omega arith in
            let f : t.up_to ≤ i = omega (arith, from) in
            simp (le-leb (c + 1) i g) (t.left i l ∙ simp (le-leb t.up_to i f))

        other : (i ≡ c → ⊥) → not (eqb i c) && bit_of w rest i ≡ leb (c + 1) i && bit_of w x i
        other n = simp (ne_eqb i c n) (⊎_elim (λ y. below (ltb-true i c y)) (λ y. let h = ltb-false i c y in above (omega arith)) (either (ltb i c)))

    -- Without it, the bits up to it were taken, and no other.
    pub taken_next : {r : ℕ} → r ≡ without_next w rest → {Q : ℕ → Type 0} → Q (c + 1) → Taken w x r Q
    unfolding without_next other_bits
    taken_next {r} d q =
        let k : r ≡ word_of w (other_bits c (bit_of w rest)) = rw e d in
        record {
          up_to = c + 1;
          most = let h = taken_in in omega arith;
          word = rw k (word_lt w (other_bits c (bit_of w rest)));
          left = λ i l. ap (λ y. bit_of w y i) k ∙ bit-word w (other_bits c (bit_of w rest)) i l ∙ others i l;
          done = q;
        }

  -- And one bit less is left.
  pub taken_less : (rest ≡ 0 → ⊥) → {r : ℕ} → r ≡ without_next w rest → ones r < ones rest
  taken_less some d = rw d (omega (arith, next-ones w rest t.word some))

  -- A bit that is not set leaves P as it is.
  module _ (skip : (b : ℕ) → b < w → bit_of w x b ≡ false → P b → P (b + 1)) where
    skipped : (n a : ℕ) → a + n ≤ w → ((k : ℕ) → a ≤ k → k < a + n → bit_of w x k ≡ false) → P a → P (a + n)
    skipped zero a h o p = rw add-zero p
    skipped (suc n) a h o p =
        let e : a + suc n ≡ a + n + 1 = omega arith in
        rw e (skip (a + n) (omega arith) (o (a + n) (omega arith) (omega arith)) (skipped n a (omega arith) (λ k l m. o k l (omega arith)) p))

    -- So P holds up to c where nothing is left below it.
    up-to : (c : ℕ) → t.up_to ≤ c → c ≤ w → ((k : ℕ) → k < c → bit_of w rest k ≡ false) → P c
    up-to c l m o =
        let e : t.up_to + (c - t.up_to) ≡ c = omega arith in
        rw e at (skipped (c - t.up_to) t.up_to (omega arith) (λ k g h. off k g (omega arith)) t.done)
      where
        off : (k : ℕ) → t.up_to ≤ k → k < c → bit_of w x k ≡ false
        off k g h = let q = t.left k (omega arith) in sym (simp (le-leb t.up_to k g) at q) ∙ o k h

    pub taken_up : (rest ≡ 0 → ⊥) → {c : ℕ} → c ≡ next_bit w rest → P c
    taken_up some {c} e = up-to c (from some e) (least some e).most (least some e).before

    -- After the last bit.
    pub taken_all : rest ≡ 0 → P w
    taken_all e = up-to w t.most (omega arith) (λ k h. ap (λ y. bit_of w y k) e ∙ zero_bit w k)
