-- The words of listed bits: bit after bit, how many bits they have, and that these are the listed ones.
use mathlib.Core.Path.{◌≡◌, refl, sym, ap, ◌∙◌}
use mathlib.Core.Bool.{Bool, true, false, cond, ◌&&◌, ◌||◌}
use mathlib.Core.List.{List, [], ◌∷◌, ◌++◌, map, append-nil}
use mathlib.Core.Logic.{⊎_elim}
use Prim.Native.Nat.{ℕ, zero, suc, ◌+◌, ◌*◌, ◌^◌, ◌≤◌, ◌<◌}
use native.Mathlib.Nat.{add-zero}
use native.Mathlib.Numerals.{add-one}
use native.Mathlib.Omega.{arith}
use borrow.Author.Tests.{eq-eqb, ne_eqb, lt-ltb, le-ltb, ltb-true, ltb-false}
use lib.Count.{ones, ones_in, ones_cat}
use lib.Dec.{eqb, ltb}
use lib.ListN.{length, get_or, length-append, length-map}
use Rattle.numbers.specs.Bits.{Bits, bit_of, digit, word_of}
use Rattle.numbers.specs.NextBit.{with_bit}
use Rattle.numbers.proofs.BitsLaws.{word_ext, word-zero, word_bits, bit-word, zero_bit}
use Rattle.numbers.proofs.Bools.{either, and_none, same?}
use Rattle.graph.specs.Chains.{Graph, link, listable, below, kept}
use Rattle.graph.proofs.BelowLaws.{below_length}
use Rattle.format.specs.Lookup.{gathered}
use Rattle.listing.specs.Rows.{bits_to, is_done, row_links, listed_word, row_word, set_to, head_of, bit_records, word_records, row_records}
use Rattle.listing.proofs.RowsLaws.{kept_append, kept_few}

-- Bit after bit

-- The word of those of the first b bits that pass a test.
unfoldable pub word_to : Bits → ℕ → ℕ
word_to p b = word_of 64 (λ j. ltb j b && p j)

ltb_next : (j b : ℕ) → (j ≡ b → ⊥) → ltb j b ≡ ltb j (b + 1)
ltb_next j b n =
    ⊎_elim (λ y. let l = ltb-true j b y in let m : j < b + 1 = omega arith in y ∙ sym (lt-ltb j (b + 1) m))
    (λ y. let l = ltb-false j b y in let m : b + 1 ≤ j = omega arith in y ∙ sym (le-ltb j (b + 1) m))
    (either (ltb j b))

module _ (p : Bits) where
  pub word_started : 0 ≡ word_to p 0
  unfolding word_to
  word_started = sym (word-zero 64 (λ j. ltb j 0 && p j) (λ j l. let h : 0 ≤ j = omega arith in simp (le-ltb j 0 h)))

  -- A bit that does not pass leaves the word as it is.
  pub word_skip : (b : ℕ) → p b ≡ false → word_to p b ≡ word_to p (b + 1)
  unfolding word_to
  word_skip b e = word_ext 64 (λ j. ltb j b && p j) (λ j. ltb j (b + 1) && p j) (λ j l. at j)
    where
      at : (j : ℕ) → ltb j b && p j ≡ ltb j (b + 1) && p j
      at j =
          ⊎_elim (λ q. let o : p j ≡ false = ap p q ∙ e in rw (o, and_none (ltb j b), and_none (ltb j (b + 1))))
          (λ q. ap (λ t. t && p j) (ltb_next j b q))
          (same? j b)

  -- One that passes is set.
  word-take : (b : ℕ) → p b ≡ true → with_bit 64 b (word_to p b) ≡ word_to p (b + 1)
  unfolding word_to with_bit
  word-take b e = word_ext 64 (λ j. eqb j b || bit_of 64 (word_to p b) j) (λ j. ltb j (b + 1) && p j) (λ j l. rw (bit-word 64 (λ k. ltb k b && p k) j l) (at j))
    where
      at : (j : ℕ) → eqb j b || (ltb j b && p j) ≡ ltb j (b + 1) && p j
      at j =
          ⊎_elim (λ q. let o : p j ≡ true = ap p q ∙ e in let h : j < b + 1 = omega arith in rw (eq-eqb j b q, o, lt-ltb j (b + 1) h))
          (λ q. rw (ne_eqb j b q) (ap (λ t. t && p j) (ltb_next j b q)))
          (same? j b)

  pub word_step : (b : ℕ) {x y : ℕ} → x ≡ word_to p b → y ≡ cond (p b) (with_bit 64 b x) x → y ≡ word_to p (b + 1)
  word_step b {x} {y} e = go (p b) refl
    where
      go : (t : Bool) → p b ≡ t → y ≡ cond t (with_bit 64 b x) x → y ≡ word_to p (b + 1)
      go true on d = d ∙ ap (with_bit 64 b) e ∙ word-take b on
      go false off d = d ∙ e ∙ word_skip b off

  pub word_full : word_to p 64 ≡ word_of 64 p
  unfolding word_to
  word_full = word_ext 64 (λ j. ltb j 64 && p j) p (λ j l. simp (lt-ltb j 64 l))

-- How many bits a word has

kept_last : (p : Bits) (n : ℕ) → kept p (below (n + 1)) ≡ kept p (below n) ++ kept p (n ∷ [])
unfolding below
kept_last p n = rw add-one (kept_append p (below n) (n ∷ []))

ones_kept : (n : ℕ) (p : Bits) → ones (word_of n p) ≡ length (kept p (below n))
unfolding word_of below kept ones ones_in
ones_kept zero p = refl
ones_kept (suc n) p =
    ones_last (p n)
    ∙ omega (arith, ones_kept n p, ap length (kept_append p (below n) (n ∷ [])), length-append (kept p (below n)) (kept p (n ∷ [])), one (p n))
  where
    ones_last : (t : Bool) → ones (word_of n p * 2 + digit t) ≡ ones (word_of n p) + digit t
    ones_last true = ones_cat 1 (word_of n p) 1 (omega arith)
    ones_last false = ones_cat 1 (word_of n p) 0 (omega arith)

    one : (t : Bool) → digit t ≡ length (cond t (n ∷ []) [])
    one true = refl
    one false = refl

-- The bits of a word

pub set-ones : (word : ℕ) → word < 2 ^ 64 → ones word ≡ length (set_to word 64)
unfolding set_to
set-ones word l = ap ones (sym (word_bits 64 word l)) ∙ ones_kept 64 (bit_of 64 word)

module _ (word : ℕ) where
  pub set_more : (b : ℕ) → bit_of 64 word b ≡ true → set_to word (b + 1) ≡ set_to word b ++ (b ∷ [])
  unfolding set_to kept
  set_more b e = kept_last (bit_of 64 word) b ∙ rw e

  pub set_same : (b : ℕ) → bit_of 64 word b ≡ false → set_to word (b + 1) ≡ set_to word b
  unfolding set_to kept
  set_same b e = kept_last (bit_of 64 word) b ∙ rw (e, append-nil)

  pub set_mono : (b k : ℕ) → length (set_to word b) ≤ length (set_to word (b + k))
  set_mono b zero = rw add-zero (omega arith)
  set_mono b (suc k) =
      let e : b + suc k ≡ b + k + 1 = omega arith in
      rw e (⊎_elim (λ y. omega (arith, set_mono b k, ap length (set_more (b + k) y), length-append (set_to word (b + k)) ((b + k) ∷ []))) (λ y. omega (arith, set_mono b k, ap length (set_same (b + k) y))) (either (bit_of 64 word (b + k))))

kept_same : (p q : Bits) (n : ℕ) → ((i : ℕ) → i < n → p i ≡ q i) → kept p (below n) ≡ kept q (below n)
unfolding below kept
kept_same p q zero h = refl
kept_same p q (suc n) h =
    kept_append p (below n) (n ∷ [])
    ∙ rw (kept_same p q n (λ i l. h i (omega arith)), h n (omega arith)) (sym (kept_append q (below n) (n ∷ [])))

kept_nothing : (n : ℕ) → kept (λ i. false) (below n) ≡ []
unfolding below kept
kept_nothing zero = refl
kept_nothing (suc n) = kept_append (λ i. false) (below n) (n ∷ []) ∙ rw (kept_nothing n)

pub set_none : set_to 0 64 ≡ []
unfolding set_to
set_none = kept_same (bit_of 64 0) (λ i. false) 64 (λ i l. zero_bit 64 i) ∙ kept_nothing 64

pub set_few : (word : ℕ) → length (set_to word 64) ≤ 64
unfolding set_to
set_few word = omega (arith, kept_few (bit_of 64 word) (below 64), below_length 64)

-- Those of the word of listed bits are the listed bits.
set_listed : (g : Graph) (i : ℕ) → set_to (listed_word g i) 64 ≡ bits_to g i 64
unfolding set_to listed_word bits_to
set_listed g i = kept_same (bit_of 64 (word_of 64 (listable g i))) (listable g i) 64 (λ b l. bit-word 64 (listable g i) b l)

-- The word of a node instance

no_records : (attention h : ℕ) → bit_records attention h [] ≡ []
unfolding bit_records gathered
no_records attention h = refl

pub word_none : (attention h : ℕ) → word_records attention h 0 ≡ []
unfolding word_records
word_none attention h = rw set_none (no_records attention h)

module _ (g : Graph) (marks : List ℕ) (i : ℕ) where
  pub row-set : {word : ℕ} → word ≡ row_word g marks i → length (set_to word 64) ≡ length (row_links g marks i)
  unfolding row_word row_links
  row-set e = ap (λ x. length (set_to x 64)) e ∙ go (is_done marks i)
    where
      go : (t : Bool) → length (set_to (cond t (listed_word g i) 0) 64) ≡ length (cond t (map (link i) (bits_to g i 64)) [])
      go true = rw (length-map, set_listed g i)
      go false = ap length set_none

pub row-records : (model slot attention : ℕ) (keys : List ℕ) (g : Graph) (marks : List ℕ) (i : ℕ) {word : ℕ} → word ≡ row_word g marks i
    → word_records attention (head_of model slot (get_or keys i 0)) word ≡ row_records model slot attention keys g marks i
unfolding row_word row_records word_records
row-records model slot attention keys g marks i e = ap (word_records attention (head_of model slot (get_or keys i 0))) e ∙ go (is_done marks i)
  where
    go : (t : Bool) → bit_records attention (head_of model slot (get_or keys i 0)) (set_to (cond t (listed_word g i) 0) 64)
        ≡ cond t (bit_records attention (head_of model slot (get_or keys i 0)) (bits_to g i 64)) []
    go true = rw (set_listed g i)
    go false = rw set_none (no_records attention (head_of model slot (get_or keys i 0)))
