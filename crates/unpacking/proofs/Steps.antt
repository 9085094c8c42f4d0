-- Runs over the bytes that stand at a place: what a run passes, element by element.
use Prim.Native.Nat.{ℕ, suc, ◌+◌, ◌-◌, ◌^◌, ◌≤◌, ◌<◌}
use mathlib.Core.Bool.{true}
use mathlib.Core.List.{List, [], ◌∷◌, ◌++◌}
use mathlib.Core.Path.{◌≡◌, refl, sym, ap, subst}
use native.Mathlib.Omega.{arith}
use lib.Dec.{ltb}
use lib.ListN.{length, take, drop, length-append, length-take, length-drop}
use borrow.Author.Tests.{lt-ltb}
use Rattle.numbers.specs.BigEndian.{bytes_of}
use Rattle.numbers.specs.Field.{field, read_with, number_at}
use Rattle.numbers.proofs.BigEndianLaws.{length_bytes, read_written}
use Rattle.numbers.proofs.FieldLaws.{present_yes}
use Rattle.format.specs.Fields.{address_size}
use Rattle.format.specs.Lookup.{gathered}
use Rattle.format.specs.Rules.{Every}
use Rattle.format.proofs.Spelling.{Spell, spell_split}
use Rattle.records.specs.declared.Record.{Record}
use Rattle.records.specs.declared.Element.{Element}
use Rattle.records.specs.Sizes.{own_size}
use Rattle.unpacking.specs.declared.Left.{Left}
use Rattle.unpacking.specs.Unpacking.{value_at, element_next, record_next, left_next, known, Run, run_of, in_front, run}

-- Counts: one more is some, and one less than one more is as many.
pub some : (n : ℕ) → ltb 0 (suc n) ≡ true
some n = lt-ltb 0 (suc n) (omega arith)

pub one_less : (n : ℕ) → suc n - 1 ≡ n
one_less n = omega arith

-- Some records before those of a run.
unfoldable pub ahead : List Record → Run → Run
ahead [] k = k
ahead (r ∷ rs) k = in_front r (ahead rs k)

-- One turn for each record, and k more.
unfoldable pub turns : List Record → ℕ → ℕ
turns [] k = k
turns (r ∷ rs) k = suc (turns rs k)

pub turns-length : (rs : List Record) (k : ℕ) → turns rs k ≡ length rs + k
unfolding turns
turns-length [] k = omega arith
turns-length (r ∷ rs) k = omega (arith, turns-length rs k)

turns_join : (xs ys : List Record) (k : ℕ) → turns (xs ++ ys) k ≡ turns xs (turns ys k)
unfolding turns
turns_join [] ys k = refl
turns_join (x ∷ xs) ys k = ap suc (turns_join xs ys k)

ahead_join : (xs ys : List Record) (k : Run) → ahead (xs ++ ys) k ≡ ahead xs (ahead ys k)
unfolding ahead
ahead_join [] ys k = refl
ahead_join (x ∷ xs) ys k = ap (in_front x) (ahead_join xs ys k)

-- At the end of a run these are all its records.
pub ahead_end : (rs : List Record) (m : ℕ) → ahead rs (run_of [] m) ≡ run_of rs m
unfolding ahead
ahead_end [] m = refl
ahead_end (r ∷ rs) m = ap (in_front r) (ahead_end rs m)

module _ (s : List ℕ) where
  -- The number whose bytes stand at a place.
  pub value-in : (at n x : ℕ) {p m : ℕ} → 0 < n → Spell s p m (bytes_of n x) → p ≡ at → x < 256 ^ n → value_at s at n ≡ x
  unfolding value_at number_at field
  value-in at n x {p} {m} z a w h =
      let b : take (length (bytes_of n x)) (drop at s) ≡ bytes_of n x = subst (λ q. take (length (bytes_of n x)) (drop q s) ≡ bytes_of n x) w a.here in
      let t : take n (drop at s) ≡ bytes_of n x = rw (length_bytes n x) at b in
      let l : at + n ≤ length s = omega (arith, ap length t, length_bytes n x, length-take n (drop at s), length-drop at s) in
      let e : number_at s at n ≡ read_with x (at + n) = rw (present_yes s at n l, t, read_written n x h) in
      ap (λ v. v.value) e

  -- From a place and a state a run passes some records, each of at least one byte, and goes on from another place and state.
  pub record Goes (at : ℕ) (l : Left) (rs : List Record) (m : ℕ) (d : Left) : Type 0 where
    pub few : at + length rs ≤ m
    pub goes : (k : ℕ) → run s (turns rs k) at l ≡ ahead rs (run s k m d)

  pub goes_none : (at : ℕ) (l : Left) {m : ℕ} → m ≡ at → Goes at l [] m l
  unfolding turns ahead
  goes_none at l {m} w = record { few = omega arith; goes = λ k. ap (λ p. run s k p l) (sym w) }

  pub goes_one : (at : ℕ) (l : Left) (e : Element) {r : Record} {m : ℕ} {d : Left} → element_next s at l ≡ e → known e ≡ true
      → record_next s at l e ≡ r → m ≡ at + own_size (address_size l.form) e → 1 ≤ own_size (address_size l.form) e → left_next s at l e ≡ d
      → Goes at l (r ∷ []) m d
  unfolding run turns ahead
  goes_one at l e {r} {m} {d} t y c w z n = record { few = omega arith; goes = λ k. rw (t, y, c, w, n) }

  pub goes_join : {at p m : ℕ} {l d e : Left} (xs ys : List Record) → Goes at l xs p d → Goes p d ys m e → Goes at l (xs ++ ys) m e
  goes_join {at} {p} {m} {l} {d} {e} xs ys a b =
      record {
        few = omega (arith, length-append xs ys, a.few, b.few);
        goes = λ k. rw (turns_join, a.goes (turns ys k), b.goes k, ahead_join);
      }

  -- What holds of one element holds of a row of them.
  module _ {A : Type 0} (fine : A → Type 0) (enc : A → List ℕ) (recs : A → List Record) (state : ℕ → Left) where
    pub goes_row : ((x : A) (n at m : ℕ) → fine x → Spell s at m (enc x) → Goes at (state (suc n)) (recs x) m (state n))
        → (xs : List A) (at : ℕ) {m : ℕ} → Every fine xs → Spell s at m (gathered enc xs)
        → Goes at (state (length xs)) (gathered recs xs) m (state 0)
    unfolding gathered Every
    goes_row one [] at h a = goes_none at (state 0) (omega (arith, a.ends))
    goes_row one (x ∷ xs) at h a =
        let b = spell_split s (enc x) (gathered enc xs) a in
        goes_join (recs x) (gathered recs xs) (one x (length xs) at _ h.0 b.0) (goes_row one xs _ h.1 b.1)
