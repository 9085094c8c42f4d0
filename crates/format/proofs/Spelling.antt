-- Bytes that stand at a place of a file, and the readings that are done with exactly these bytes.
use Prim.Native.Nat.{ℕ, zero, suc, ◌+◌, ◌^◌, ◌≤◌, ◌<◌}
use mathlib.Core.Bool.{true}
use mathlib.Core.List.{List, [], ◌∷◌, ◌++◌}
use mathlib.Core.Path.{◌≡◌, refl, sym, ◌∙◌, ap, subst}
use native.Mathlib.Omega.{arith}
use lib.Dec.{eqb}
use lib.ListN.{length, take, drop, length-append, length-take, length-drop}
use lib.Seq.{take-add, drop-drop, take_at, drop_at}
use borrow.Author.Tests.{leb-true, eqb-true, eq-eqb, ltb-true, lt-ltb}
use Rattle.numbers.specs.BigEndian.{big_endian, bytes_of, Bytes}
use Rattle.numbers.specs.Field.{present, field}
use Rattle.numbers.proofs.BigEndianLaws.{bytes_take, bytes_drop, length_bytes, read_written, written_read}
use Rattle.numbers.proofs.FieldLaws.{present_yes, field_lt}
use Rattle.numbers.proofs.Bools.{clash, and_left, and_right, and_both}
use Rattle.format.specs.Parsed.{Parsed, done, and_then, row_at}
use Rattle.format.specs.Fields.{field_at, keyword_at, count_at, same}
use Rattle.format.specs.Lookup.{gathered}
use Rattle.format.proofs.ParsedLaws.{then_out, then_in, making_out, making_in, require_out, require_in, requiring_out, requiring_in}

-- The bytes bs stand in s from a place to a place.
pub record Spell (s : List ℕ) (at next : ℕ) (bs : List ℕ) : Type 0 where
  pub here : take (length bs) (drop at s) ≡ bs
  pub ends : next ≡ at + length bs

module _ (s : List ℕ) where
  pub spell_none : (at : ℕ) → Spell s at at []
  spell_none at = record { here = refl; ends = omega arith }

  pub spell_join : {at k m : ℕ} {xs ys : List ℕ} → Spell s at k xs → Spell s k m ys → Spell s at m (xs ++ ys)
  spell_join {at} {k} {m} {xs} {ys} a b =
      let h : take (length ys) (drop (at + length xs) s) ≡ ys = subst (λ p. take (length ys) (drop p s) ≡ ys) a.ends b.here in
      record {
        here = rw (length-append, take-add, drop-drop, a.here, h);
        ends = omega (arith, length-append xs ys, a.ends, b.ends);
      }

  pub spell_split : {at m : ℕ} (xs ys : List ℕ) → Spell s at m (xs ++ ys)
      → Spell s at (at + length xs) xs × Spell s (at + length xs) m ys
  spell_split {at} {m} xs ys a =
      let front = take (length xs) (drop at s) in
      let back = take (length ys) (drop (at + length xs) s) in
      let e : front ++ back ≡ xs ++ ys = sym (rw (length-append, take-add, drop-drop)) ∙ a.here in
      let l : length front ≡ length xs =
      omega (arith, simp length-append at (ap length e), length-take (length xs) (drop at s), length-take (length ys) (drop (at + length xs) s)) in
      let x : front ≡ xs = sym (take_at front back (length xs) l) ∙ ap (take (length xs)) e ∙ take_at xs ys (length xs) refl in
      let y : back ≡ ys = sym (drop_at front back (length xs) l) ∙ ap (drop (length xs)) e ∙ drop_at xs ys (length xs) refl in
      (record { here = x; ends = refl }, record { here = y; ends = omega (arith, length-append xs ys, a.ends) })

  -- What stands here is wholly in the file.
  pub spell_within : {at m : ℕ} (bs : List ℕ) → 0 < length bs → Spell s at m bs → m ≤ length s
  spell_within {at} {m} bs h a =
      omega (arith, ap length a.here, length-take (length bs) (drop at s), length-drop at s, a.ends)

  pub one-more : (x : ℕ) {at m : ℕ} → Spell s at m (bytes_of 1 x) → m ≡ at + 1
  one-more x {at} {m} a = omega (arith, a.ends, length_bytes 1 x)

-- A field of n bytes is done exactly when the n bytes of its number stand there.
module _ (s : List ℕ) (bytes : Bytes s) where
  written : (at n : ℕ) {x : ℕ} → field s at n ≡ x → length (take n (drop at s)) ≡ n → bytes_of n x ≡ take n (drop at s)
  unfolding field
  written at n v l =
      let part = take n (drop at s) in
      sym (ap (bytes_of n) v) ∙ ap (λ k. bytes_of k (big_endian part)) (sym l) ∙ written_read part (bytes_take n (drop at s) (bytes_drop at s bytes))

  pub field_out : (at n : ℕ) {x m : ℕ} → field_at s at n ≡ done x m → Spell s at m (bytes_of n x) × (x < 256 ^ n)
  unfolding field_at present
  field_out at n {x} {m} e =
      let r = require_out _ _ _ _ e in
      let h : at + n ≤ length s = leb-true _ _ r.0 in
      let part = take n (drop at s) in
      let l : length part ≡ n = omega (arith, length-take n (drop at s), length-drop at s) in
      let v : field s at n ≡ x = let d : done (field s at n) (at + n) ≡ done x m = r.1 in cc in
      let w : at + n ≡ m = let d : done (field s at n) (at + n) ≡ done x m = r.1 in cc in
      let b : bytes_of n x ≡ part = written at n v l in
      (record { here = rw (length_bytes n x) (sym b); ends = rw (length_bytes n x) (sym w) }, subst (λ y. y < 256 ^ n) v (field_lt s at n bytes))

  pub field_in : (at n : ℕ) {x m : ℕ} → 0 < n → Spell s at m (bytes_of n x) → x < 256 ^ n → field_at s at n ≡ done x m
  unfolding field_at field
  field_in at n {x} {m} z a h =
      let t : take n (drop at s) ≡ bytes_of n x = rw (length_bytes n x) at a.here in
      let l : at + n ≤ length s = omega (arith, ap length t, length_bytes n x, length-take n (drop at s), length-drop at s) in
      let w : m ≡ at + n = rw (length_bytes n x) at a.ends in
      require_in _ _ _ _ (present_yes s at n l) (rw (t, read_written n x h, w))

-- A keyword is done exactly when its letters stand there.
same_out : (xs ys : List ℕ) → same xs ys ≡ true → xs ≡ ys
unfolding same
same_out [] [] e = refl
same_out [] (y ∷ ys) e = clash e refl
same_out (x ∷ xs) [] e = clash e refl
same_out (x ∷ xs) (y ∷ ys) e = rw (eqb-true x y (and_left _ _ e), same_out xs ys (and_right (eqb x y) _ e))

same_in : (xs : List ℕ) → same xs xs ≡ true
unfolding same
same_in [] = refl
same_in (x ∷ xs) = and_both (eq-eqb x x refl) (same_in xs)

module _ (s : List ℕ) where
  pub keyword_out : (at : ℕ) (word : List ℕ) {x : Unit {0}} {m : ℕ} → keyword_at s at word ≡ done x m → Spell s at m word
  unfolding keyword_at
  keyword_out at word {x} {m} e =
      let r = require_out _ _ _ _ (require_out _ _ _ _ e).1 in
      let d : done tt (at + length word) ≡ done x m = r.1 in
      record { here = same_out _ _ r.0; ends = let w : m ≡ at + length word = cc in w }

  pub keyword_in : (at : ℕ) (word : List ℕ) {m : ℕ} → 0 < length word → Spell s at m word → keyword_at s at word ≡ done tt m
  unfolding keyword_at
  keyword_in at word {m} h a =
      let l : at + length word ≤ length s = omega (arith, spell_within s word h a, a.ends) in
      require_in _ _ _ _ (present_yes s at (length word) l)
      (require_in _ _ _ _ (rw a.here (same_in word)) (rw a.ends))

-- Rows: what holds of one element holds of each, with those before it and its place.
module _ {A : Type 0} (ok : List A → ℕ → A → Type 0) (enc : A → List ℕ) where
  unfoldable pub Row : List A → ℕ → List A → Type 0
  Row before at [] = Unit {0}
  Row before at (x ∷ xs) = ok before at x × Row (x ∷ before) (at + length (enc x)) xs

  -- The reader p is done with an element exactly when its encoding stands there and it is as it should be.
  pub record Reads (s : List ℕ) (p : List A → ℕ → Parsed A) : Type 0 where
    pub sound : (before : List A) (at : ℕ) {x : A} {m : ℕ} → p before at ≡ done x m → Spell s at m (enc x) × ok before at x
    pub complete : (before : List A) (at : ℕ) {x : A} {m : ℕ} → Spell s at m (enc x) → ok before at x → p before at ≡ done x m

  module _ (s : List ℕ) (p : List A → ℕ → Parsed A) (reads : Reads s p) where
    pub row_out : (n : ℕ) (before : List A) (at : ℕ) {xs : List A} {m : ℕ} → row_at p n before at ≡ done xs m
        → Spell s at m (gathered enc xs) × (length xs ≡ n) × Row before at xs
    unfolding row_at gathered Row
    row_out zero before at {xs} {m} e =
        let h : [] ≡ xs = cc in
        let w : at ≡ m = cc in
        subst (λ l. Spell s at m (gathered enc l) × (length l ≡ 0) × Row before at l) h
        (subst (λ k. Spell s at k []) w (spell_none s at), refl, tt)
    row_out (suc n) before at {xs} {m} e =
        let t = then_out _ _ e in
        let k = making_out _ _ t.3 in
        let x = t.0 in
        let a = reads.sound before at t.2 in
        let b = row_out n (x ∷ before) t.1 k.1 in
        subst (λ l. Spell s at m (gathered enc l) × (length l ≡ suc n) × Row before at l) k.2
        (spell_join s a.0 b.0, ap suc b.1, (a.1, subst (λ q. Row (x ∷ before) q k.0) a.0.ends b.2))

    pub row_in : (before : List A) (at : ℕ) (xs : List A) {m : ℕ} → Spell s at m (gathered enc xs) → Row before at xs
        → row_at p (length xs) before at ≡ done xs m
    unfolding row_at gathered Row
    row_in before at [] {m} a r = ap (done []) (let w : at ≡ m = omega (arith, a.ends) in w)
    row_in before at (x ∷ xs) a r =
        let b = spell_split s (enc x) (gathered enc xs) a in
        then_in _ _ (reads.complete before at b.0 r.0) (making_in _ _ (row_in (x ∷ before) _ xs b.1 r.1) refl)

-- A section: a keyword, a count that is not zero, and as many elements.
module _ {A : Type 0} (s : List ℕ) (bytes : Bytes s) (ok : List A → ℕ → A → Type 0) (enc : A → List ℕ) (p : List A → ℕ → Parsed A) (reads : Reads ok enc s p) (word : List ℕ) (n : ℕ) where
  abbrev section_at : ℕ → Parsed (List A)
  section_at at = and_then (keyword_at s at word) λ _ a. and_then (count_at s a n) λ k b. row_at p k [] b

  pub section_out : (at : ℕ) {xs : List A} {m : ℕ} → section_at at ≡ done xs m
      → Spell s at m (word ++ (bytes_of n (length xs) ++ gathered enc xs)) × (0 < length xs) × (length xs < 256 ^ n)
      × Row ok enc [] (at + length word + n) xs
  unfolding count_at
  section_out at {xs} {m} e =
      let t = then_out _ _ e in
      let k = keyword_out s at word t.2 in
      let c = then_out _ _ t.3 in
      let q = requiring_out _ _ _ _ c.2 in
      let f = field_out s bytes t.1 n q.0 in
      let r = row_out ok enc s p reads c.0 [] c.1 c.3 in
      let w : c.1 ≡ at + length word + n = omega (arith, k.ends, f.0.ends, length_bytes n c.0) in (
        spell_join s k (spell_join s (subst (λ x. Spell s t.1 c.1 (bytes_of n x)) (sym r.1) f.0) r.0),
        omega (arith, r.1, ltb-true 0 c.0 q.1),
        subst (λ x. x < 256 ^ n) (sym r.1) f.1,
        subst (λ q. Row ok enc [] q xs) w r.2,
      )

  pub section_in : 0 < length word → 0 < n → (at : ℕ) (xs : List A) {m : ℕ} → Spell s at m (word ++ (bytes_of n (length xs) ++ gathered enc xs))
      → 0 < length xs → length xs < 256 ^ n → Row ok enc [] (at + length word + n) xs → section_at at ≡ done xs m
  unfolding count_at
  section_in wp np at xs {m} a z l r =
      let b = spell_split s word (bytes_of n (length xs) ++ gathered enc xs) a in
      let c = spell_split s (bytes_of n (length xs)) (gathered enc xs) b.1 in
      let w : at + length word + n ≡ at + length word + length (bytes_of n (length xs)) = omega (arith, length_bytes n (length xs)) in
      then_in _ _ (keyword_in s at word wp b.0)
      (then_in _ _ (requiring_in _ _ _ _ (field_in s bytes _ n np c.0 l) (lt-ltb 0 (length xs) z))
      (row_in ok enc s p reads [] _ xs c.1 (subst (λ q. Row ok enc [] q xs) w r)))
