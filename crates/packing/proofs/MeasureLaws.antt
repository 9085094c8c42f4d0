-- The laws of the passes that count and measure: a turn for each record.
use Prim.Native.Nat.{ℕ, suc, ◌+◌, ◌-◌, ◌*◌, ◌/◌, ◌≤◌, ◌<◌}
use mathlib.Core.Bool.{Bool, true, false, cond}
use mathlib.Core.List.{List, [], ◌∷◌}
use mathlib.Core.Path.{◌≡◌, sym, ◌∙◌, ap}
use native.Mathlib.Omega.{arith}
use mir.Val.{bool_byte}
use Rattle.std.proofs.lemmas.Slice.{between_to_end}
use lib.ListN.{length, take, drop, length-take, length-drop}
use Rattle.format.specs.Fields.{address_size}
use Rattle.records.specs.declared.Record.{Record}
use Rattle.records.specs.declared.Element.{Element}
use Rattle.records.specs.declared.Element.TheVariants.{Register, RegisterInstance, Node, NodeInstance, Capture, Rule, Reading, Constant, All, Any, Inverse, Left, Right, Child, Root, Unknown}
use Rattle.records.specs.Record.{record_within, records_from, records_in, whole_records}
use Rattle.records.specs.Grammar.{element_of, element}
use Rattle.records.specs.Sizes.{own_size}
use Rattle.records.proofs.JudgingLaws.{record_there}
use Rattle.packing.specs.Packing.{type_with, of_registers, of_roots, count_by}
use Rattle.packing.specs.Writing.{sizes}
use Rattle.packing.proofs.SizeLaws.{from_none, from-length, from-take, from-drop, from_front, from_behind, sizes_most}

-- No record is of the registers and of the roots.
pub both_most : (rs : List Record) → count_by of_registers rs + count_by of_roots rs ≤ length rs
unfolding count_by
both_most [] = omega arith
both_most (r ∷ rs) = go (element r) (count_by of_registers rs) (count_by of_roots rs) (both_most rs)
  where
    go : (e : Element) (k m : ℕ) {n : ℕ} → k + m ≤ n → cond (of_registers e) (suc k) k + cond (of_roots e) (suc m) m ≤ suc n
    go Register k m h = omega (arith, h)
    go RegisterInstance k m h = omega (arith, h)
    go Node k m h = omega (arith, h)
    go NodeInstance k m h = omega (arith, h)
    go Capture k m h = omega (arith, h)
    go Rule k m h = omega (arith, h)
    go Reading k m h = omega (arith, h)
    go Constant k m h = omega (arith, h)
    go All k m h = omega (arith, h)
    go Any k m h = omega (arith, h)
    go Inverse k m h = omega (arith, h)
    go Left k m h = omega (arith, h)
    go Right k m h = omega (arith, h)
    go Child k m h = omega (arith, h)
    go Root k m h = omega (arith, h)
    go Unknown k m h = omega (arith, h)

-- The records of some bytes from one on.
abbrev pub records_on : List ℕ → ℕ → List Record
records_on s i = records_from s (length s / 16 - i) (16 * i)

-- A turn at one of them.
module _ (s : List ℕ) (i : ℕ) {r : Record} {e : Element} (turn : i < length s / 16) (here : r ≡ record_within s (16 * i)) (is : e ≡ element_of r.kind r.form) where
  first : records_on s i ≡ r ∷ records_on s (i + 1)
  unfolding records_from
  first =
      let step : length s / 16 - i ≡ suc (length s / 16 - (i + 1)) = omega arith in
      let next : 16 * (i + 1) ≡ 16 * i + 16 = omega arith in
      rw (step, next) (ap (λ x. x ∷ records_from s (length s / 16 - (i + 1)) (16 * i + 16)) (sym (here ∙ record_there s (16 * i) (omega arith))))

  pub count_next : (test : Element → Bool) {b : Bool} → b ≡ test e → count_by test (records_on s i) ≡ bool_byte b + count_by test (records_on s (i + 1))
  unfolding count_by
  count_next test {b} h = rw (first, ← is, ← h) (go b (count_by test (records_on s (i + 1))))
    where
      go : (b : Bool) (k : ℕ) → cond b (suc k) k ≡ bool_byte b + k
      go true k = omega arith
      go false k = omega arith

  pub measure_next : (form : ℕ) {a x f : ℕ} → a ≡ address_size form → x ≡ own_size a e → f ≡ type_with form r
      → sizes form (records_on s i) ≡ x + sizes f (records_on s (i + 1))
  unfolding sizes
  measure_next form ha hx hf = rw (first, ← is, hx, ha, hf)

-- No record is left.
module _ (s : List ℕ) (i : ℕ) (done : length s / 16 ≤ i) where
  pub measure_end : (form : ℕ) → sizes form (records_on s i) ≡ 0
  unfolding sizes
  measure_end form = rw (from_none s (length s / 16 - i) (16 * i) (omega arith))

  pub count_end : (test : Element → Bool) → count_by test (records_on s i) ≡ 0
  unfolding count_by
  count_end test = rw (from_none s (length s / 16 - i) (16 * i) (omega arith))

-- All that is to be counted and measured.
module _ (s : List ℕ) where
  pub all_records : records_in s ≡ records_on s 0
  unfolding records_in whole_records
  all_records = let e : length s / 16 - 0 ≡ length s / 16 = omega arith in rw e

  pub whole_length : length (records_in s) ≡ length s / 16
  unfolding records_in whole_records
  whole_length = from-length s (length s / 16) 0

  pub in_whole : count_by of_registers (records_in s) + count_by of_roots (records_in s) ≤ length s / 16
  in_whole = omega (arith, both_most (records_in s), whole_length)

  pub sizes_bound : sizes 0 (records_in s) ≤ 9 * (length s / 16)
  sizes_bound = omega (arith, sizes_most 0 (records_in s), whole_length)

-- The parts of all records, by how many of them are of registers and of roots.
module _ (s : List ℕ) {a c : ℕ} (registers : a ≡ count_by of_registers (records_in s)) (roots : c ≡ count_by of_roots (records_in s)) where
  few : a + c ≤ length s / 16
  few = omega (arith, in_whole s)

  pub registers_cut : records_in (take (16 * a) s) ≡ take (count_by of_registers (records_in s)) (records_in s)
  unfolding records_in whole_records
  registers_cut =
      let n : length (take (16 * a) s) / 16 ≡ a = simp length-take (omega (arith, few)) in
      rw (← registers, n, from_front s (16 * a) a 0 (omega arith)) (sym (from-take s a (length s / 16) 0 (omega (arith, few))))

  pub others_cut : records_in (take (16 * (length s / 16 - c) - 16 * a) (drop (16 * a) s))
      ≡ take (length (records_in s) - count_by of_roots (records_in s) - count_by of_registers (records_in s)) (drop (count_by of_registers (records_in s)) (records_in s))
  unfolding records_in whole_records
  others_cut =
      let n = length s / 16 in
      let m = n - c - a in
      let k = 16 * (n - c) - 16 * a in
      let len : length (take k (drop (16 * a) s)) / 16 ≡ m = simp (length-take, length-drop) (omega (arith, few)) in
      let these : length (records_in s) - count_by of_roots (records_in s) - count_by of_registers (records_in s) ≡ m = omega (arith, whole_length s, registers, roots) in
      let start : 16 * a + 0 ≡ 0 + 16 * a = omega arith in
      let cut : records_in (take k (drop (16 * a) s)) ≡ records_from s m (0 + 16 * a) =
      rw len (from_front (drop (16 * a) s) k m 0 (omega (arith, few))) ∙ from_behind s (16 * a) m 0 ∙ ap (records_from s m) start in
      cut
      ∙ sym
      (ap (λ x. take x (drop (count_by of_registers (records_in s)) (records_in s))) these
      ∙ ap (λ x. take m (drop x (records_in s))) (sym registers)
      ∙ ap (take m) (from-drop s a n 0 (omega (arith, few)))
      ∙ from-take s m (n - a) (0 + 16 * a) (omega (arith, few)))

  pub roots_cut : records_in (take (length s - 16 * (length s / 16 - c)) (drop (16 * (length s / 16 - c)) s)) ≡ drop (length (records_in s) - count_by of_roots (records_in s)) (records_in s)
  unfolding records_in whole_records
  roots_cut =
      let n = length s / 16 in
      let last = n - c in
      let len : length (drop (16 * last) s) / 16 ≡ n - last = simp length-drop (omega (arith, few)) in
      let these : length (records_in s) - count_by of_roots (records_in s) ≡ last = omega (arith, whole_length s, roots) in
      let start : 16 * last + 0 ≡ 0 + 16 * last = omega arith in
      ap records_in (between_to_end s (16 * last) (length s) (omega arith))
      ∙ rw len (from_behind s (16 * last) (n - last) 0)
      ∙ ap (records_from s (n - last)) start
      ∙ sym (ap (λ x. drop x (records_in s)) these ∙ from-drop s last n 0 (omega arith))
