-- From a byte, a number and a keyword to what the layout calls a field.
use Prim.Native.Nat.{ℕ, suc, ◌+◌, ◌*◌, ◌-◌, ◌%◌, ◌≤◌, ◌<◌}
use mathlib.Core.Path.{◌≡◌, refl, sym, ◌∙◌, ap}
use mathlib.Core.Bool.{Bool, true, false, ◌&&◌}
use mathlib.Core.List.{List, [], ◌∷◌}
use native.Mathlib.Nat.{add-sub_cancel_left}
use native.Mathlib.Omega.{arith}
use borrow.Author.Tests.{eq-eqb, ne_eqb, le-leb, lt-leb, leb-true}
use lib.ListN.{length, take, drop, get_or, drop_of_length-le}
use lib.Dec.{eqb}
use lib.Seq.{drop-cons}
use native.Mathlib.Numerals.{add-one}
use Rattle.numbers.specs.BigEndian.{big_endian}
use Rattle.numbers.specs.Field.{present, field, read_with, not_whole, number_at}
use Rattle.numbers.proofs.Bools.{or_right, and_both}
use Rattle.numbers.proofs.FieldLaws.{field-byte, field_two, present_yes, present_no, read_means, cut_means}
use Rattle.format.specs.Parsed.{done, refused, require}
use Rattle.format.proofs.ParsedLaws.{require_out}
use Rattle.format.specs.Fields.{field_at, same, keyword_at, known_type, known_flags, known_attention}

-- What a reader of numbers answers is what the layout reads.
module _ (s : List ℕ) (at w : ℕ) where
  there : {v n : ℕ} → read_with v n ≡ number_at s at w → done v n ≡ field_at s at w
  unfolding field_at require
  there e = let h = read_means s at w e in rw (h.there, h.is, h.after)

  absent : not_whole at ≡ number_at s at w → refused 2 at ≡ field_at s at w
  unfolding field_at require
  absent e = rw (present_no s at w (cut_means s at w e))

  pub field_there_read : {v n : ℕ} → read_with v n ≡ number_at s at w → done v n ≡ field_at s at w
  field_there_read e = there e

  pub field_cut_read : not_whole at ≡ number_at s at w → refused 2 at ≡ field_at s at w
  field_cut_read e = absent e

pub ruleset field_laws = (field_there_read, field_cut_read)

-- Which values are known.
pub type_one : (t : ℕ) → t ≡ 1 → known_type t ≡ true
unfolding known_type
type_one t e = rw (eq-eqb t 1 e)

pub type_two : (t : ℕ) → t ≡ 2 → known_type t ≡ true
unfolding known_type
type_two t e = or_right (eqb t 1) (eq-eqb t 2 e)

pub type_none : (t : ℕ) → (t ≡ 1 → ⊥) → (t ≡ 2 → ⊥) → known_type t ≡ false
unfolding known_type
type_none t e g = rw (ne_eqb t 1 e, ne_eqb t 2 g)

pub flags_known : (f : ℕ) → f % 0x40 ≡ 0 → known_flags f ≡ true
unfolding known_flags
flags_known f e = eq-eqb _ _ e

pub flags_unknown : (f : ℕ) → (f % 0x40 ≡ 0 → ⊥) → known_flags f ≡ false
unfolding known_flags
flags_unknown f e = ne_eqb _ _ e

pub attention_known : (a : ℕ) → 1 ≤ a → a ≤ 5 → known_attention a ≡ true
unfolding known_attention
attention_known a h k = and_both (le-leb 1 a h) (le-leb a 5 k)

pub attention_low : (a : ℕ) → a < 1 → known_attention a ≡ false
unfolding known_attention
attention_low a h = rw (lt-leb 1 a h)

pub attention_high : (a : ℕ) → 1 ≤ a → 5 < a → known_attention a ≡ false
unfolding known_attention
attention_high a h k = rw (le-leb 1 a h, lt-leb a 5 k)

pub ruleset known-laws = (type_one, type_two, type_none, flags_known, flags_unknown, attention_known, attention_low, attention_high)

-- The same bytes, from a place on.
pub same_lengths : (a b : List ℕ) → (length a ≡ length b → ⊥) → false ≡ same a b
unfolding same
same_lengths [] [] h = absurd (h refl)
same_lengths [] (y ∷ ys) h = refl
same_lengths (x ∷ xs) [] h = refl
same_lengths (x ∷ xs) (y ∷ ys) h = go (eqb x y) (same_lengths xs ys (λ e. h (ap suc e)))
  where
    go : (t : Bool) → false ≡ same xs ys → false ≡ t && same xs ys
    go true e = e
    go false e = refl

module _ (a b : List ℕ) (i : ℕ) where
  pub same_more : i < length a → i < length b → get_or a i 0 ≡ get_or b i 0 → same (drop (i + 1) a) (drop (i + 1) b) ≡ same (drop i a) (drop i b)
  unfolding same
  same_more h k e = rw (add-one, drop-cons a i 0 h, drop-cons b i 0 k, eq-eqb _ _ e)

  pub same_no : i < length a → i < length b → (get_or a i 0 ≡ get_or b i 0 → ⊥) → same (drop i a) (drop i b) ≡ false
  unfolding same
  same_no h k e = rw (drop-cons a i 0 h, drop-cons b i 0 k, ne_eqb _ _ e)

  pub same_end : length a ≤ i → length b ≤ i → same (drop i a) (drop i b) ≡ true
  unfolding same
  same_end h k = rw (drop_of_length-le a h, drop_of_length-le b k)

-- A keyword.
module _ (s : List ℕ) (at : ℕ) (word : List ℕ) where
  pub keyword_cut : length s < at + length word → refused 2 at ≡ keyword_at s at word
  unfolding keyword_at require
  keyword_cut h = rw (present_no s at (length word) h)

  module _ (h : at + length word ≤ length s) {b : Bool} (e : b ≡ same (take (at + length word - at) (drop at s)) word) where
    pub keyword_found : b ≡ true → done tt (at + length word) ≡ keyword_at s at word
    unfolding keyword_at require
    keyword_found g = rw (present_yes s at (length word) h, ← add-sub_cancel_left at (length word), sym e ∙ g)

    pub keyword_wrong : b ≡ false → refused 3 at ≡ keyword_at s at word
    unfolding keyword_at require
    keyword_wrong g = rw (present_yes s at (length word) h, ← add-sub_cancel_left at (length word), sym e ∙ g)

-- The version is 1.
pub version_one : (v : ℕ) → v ≡ 1 → eqb 1 v ≡ true
version_one v e = eq-eqb 1 v (sym e)

pub version_other : (v : ℕ) → (v ≡ 1 → ⊥) → eqb 1 v ≡ false
version_other v e = ne_eqb 1 v (λ g. e (sym g))

pub ruleset one_laws = (version_one, version_other)

-- A field whose bytes are all there, and what was read of one.
pub field_there : (s : List ℕ) (at n : ℕ) → at + n ≤ length s → field_at s at n ≡ done (field s at n) (at + n)
unfolding field_at require
field_there s at n h = rw (present_yes s at n h)

pub field_size : (s : List ℕ) (at n : ℕ) {x m : ℕ} → field_at s at n ≡ done x m → (at + n ≡ m) × (at + n ≤ length s)
unfolding field_at present
field_size s at n {x} {m} e =
    let r = require_out _ _ _ _ e in
    let i : at + n ≡ m = let z = r.1 in cc in
    (i, leb-true _ _ r.0)

-- A field of one byte, of two, and of three.
pub byte_field : (s : List ℕ) (at : ℕ) → at < length s → field_at s at 1 ≡ done (get_or s at 0) (at + 1)
byte_field s at h = let k : at + 1 ≤ length s = omega arith in rw (← field-byte s at h) (field_there s at 1 k)

pub two_field : (s : List ℕ) (at : ℕ) → at + 2 ≤ length s → field_at s at 2 ≡ done (get_or s at 0 * 256 + get_or s (at + 1) 0) (at + 2)
two_field s at h = let i : at + 1 ≡ suc at = omega arith in rw (i, ← field_two s at h) (field_there s at 2 h)

pub field_three : (s : List ℕ) (at : ℕ) → at + 3 ≤ length s → field s at 3 ≡ get_or s at 0 * 0x10000 + get_or s (suc at) 0 * 0x100 + get_or s (suc (suc at)) 0
unfolding field big_endian
field_three s at h = rw (drop-cons s at 0 (omega arith), drop-cons s (suc at) 0 (omega arith), drop-cons s (suc (suc at)) 0 (omega arith)) (omega arith)
