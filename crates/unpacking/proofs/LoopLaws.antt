-- The loops over a run: what was passed and what is still to come make the whole run.
use Prim.Native.Nat.{ℕ, zero, suc, ◌+◌, ◌-◌, ◌*◌, ◌≤◌, ◌<◌}
use mathlib.Core.Bool.{Bool, true, false, cond}
use mathlib.Core.List.{List, [], ◌∷◌}
use mathlib.Core.Path.{◌≡◌, refl, sym, ◌∙◌, ap, subst}
use native.Mathlib.Omega.{arith}
use lib.Dec.{leb, eqb, lit<}
use lib.ListN.{length, drop, length-drop}
use borrow.Author.Tests.{le-leb, lt-leb, leb-true, leb-false}
use Rattle.numbers.specs.BigEndian.{Bytes}
use Rattle.numbers.specs.Field.{present, field, read_with, not_whole, number_at}
use Rattle.numbers.proofs.FieldLaws.{field_lt, field-drop}
use Rattle.format.specs.Fields.{address_size}
use Rattle.records.specs.declared.Element.{Element}
use Rattle.records.specs.declared.Element.TheVariants as element
use Rattle.records.specs.Record.{put_record}
use Rattle.records.specs.Sizes.{own_size}
use Rattle.unpacking.specs.declared.Left.{Left}
use Rattle.unpacking.specs.Unpacking.{value_at, element_next, record_next, left_next, known, Run, run_of, in_front, run, passed, nodes_in, roots_in, put_records}

-- What stands at a place is in front of what follows that place.

address_size-pos : (f : ℕ) → 0 < address_size f
unfolding address_size
address_size-pos f = go (eqb f 1)
  where
    go : (t : Bool) → 0 < cond t 4 8
    go true = omega arith
    go false = omega arith

value_is : (s : List ℕ) (at n : ℕ) → value_at s at n ≡ cond (present s at n) (field s at n) 0
unfolding value_at number_at
value_is s at n = go (present s at n)
  where
    go : (t : Bool) → (cond t (read_with (field s at n) (at + n)) (not_whole at)).value ≡ cond t (field s at n) 0
    go true = refl
    go false = refl

module _ (s : List ℕ) (k : ℕ) where
  present_behind : (i n : ℕ) → 0 < n → present (drop k s) i n ≡ present s (k + i) n
  unfolding present
  present_behind i n p = go (leb (k + i + n) (length s)) refl
    where
      go : (t : Bool) → leb (k + i + n) (length s) ≡ t → leb (i + n) (length (drop k s)) ≡ leb (k + i + n) (length s)
      go true h =
          let l : k + i + n ≤ length s = leb-true _ _ h in
          let m : i + n ≤ length (drop k s) = simp length-drop (omega arith) in
          rw h (le-leb _ _ m)
      go false h =
          let l : length s < k + i + n = leb-false _ _ h in
          let m : length (drop k s) < i + n = simp length-drop (omega arith) in
          rw h (lt-leb _ _ m)

  value_behind : (i n at : ℕ) → 0 < n → k + i ≡ at → value_at (drop k s) i n ≡ value_at s at n
  value_behind i n at p e =
      let same : cond (present (drop k s) i n) (field (drop k s) i n) 0 ≡ cond (present s (k + i) n) (field s (k + i) n) 0 = rw (present_behind i n p, field-drop s k i n) in
      value_is (drop k s) i n ∙ same ∙ sym (value_is s (k + i) n) ∙ ap (λ a. value_at s a n) e

  front : (n : ℕ) → 0 < n → value_at (drop k s) 0 n ≡ value_at s k n
  front n p = value_behind 0 n k p (omega arith)

  further : (i n : ℕ) → 0 < n → value_at (drop k s) i n ≡ value_at s (k + i) n
  further i n p = value_behind i n (k + i) p refl

  pub element_behind : (l : Left) → element_next (drop k s) 0 l ≡ element_next s k l
  unfolding element_next
  element_behind l = rw (front 1 (omega arith))

  pub record_behind : (l : Left) (e : Element) → record_next (drop k s) 0 l e ≡ record_next s k l e
  record_behind l element.Register = rw (front 3 (omega arith), further 3 1 (omega arith), further 4 1 (omega arith))
  record_behind l element.RegisterInstance = rw (front 1 (omega arith), further 1 (address_size l.form) (address_size-pos l.form))
  record_behind l element.Node = rw (front 2 (omega arith), further 2 1 (omega arith))
  record_behind l element.NodeInstance = rw (front 1 (omega arith))
  record_behind l element.Capture = rw (front 3 (omega arith), further 3 1 (omega arith))
  record_behind l element.Rule = rw (front 1 (omega arith))
  record_behind l element.Reading = rw (further 1 3 (omega arith), further 4 1 (omega arith))
  record_behind l element.Constant = rw (further 1 8 (omega arith))
  record_behind l element.All = rw (further 1 1 (omega arith))
  record_behind l element.Any = rw (further 1 1 (omega arith))
  record_behind l element.Inverse = refl
  record_behind l element.Left = rw (further 1 1 (omega arith))
  record_behind l element.Right = rw (further 1 1 (omega arith))
  record_behind l element.Child = rw (front 1 (omega arith), further 1 2 (omega arith), further 3 1 (omega arith))
  record_behind l element.Root = rw (front 1 (omega arith), further 1 2 (omega arith), further 3 1 (omega arith))
  record_behind l element.Unknown = refl

  pub left_behind : (l : Left) (e : Element) → left_next (drop k s) 0 l e ≡ left_next s k l e
  left_behind l element.Register = rw (further 3 1 (omega arith), further 5 1 (omega arith))
  left_behind l element.RegisterInstance = refl
  left_behind l element.Node = rw (further 3 1 (omega arith))
  left_behind l element.NodeInstance = rw (further 1 1 (omega arith), further 2 1 (omega arith), further 3 1 (omega arith))
  left_behind l element.Capture = refl
  left_behind l element.Rule = refl
  left_behind l element.Reading = refl
  left_behind l element.Constant = refl
  left_behind l element.All = rw (further 1 1 (omega arith))
  left_behind l element.Any = rw (further 1 1 (omega arith))
  left_behind l element.Inverse = refl
  left_behind l element.Left = refl
  left_behind l element.Right = refl
  left_behind l element.Child = refl
  left_behind l element.Root = refl
  left_behind l element.Unknown = refl

  pub nodes_behind : nodes_in (drop k s) 0 ≡ nodes_in s k
  nodes_behind = rw (further 4 2 (omega arith))

  pub roots_behind : roots_in (drop k s) 0 ≡ roots_in s k
  roots_behind = rw (further 4 1 (omega arith))

-- How much a step can add.

pub address_size-le : (f : ℕ) → address_size f ≤ 8
unfolding address_size
address_size-le f = go (eqb f 1)
  where
    go : (t : Bool) → cond t 4 8 ≤ 8
    go true = omega arith
    go false = omega arith

pub own_size-le : (n : ℕ) (e : Element) → n ≤ 8 → own_size n e ≤ 9
own_size-le n element.Register h = omega arith
own_size-le n element.RegisterInstance h = omega arith
own_size-le n element.Node h = omega arith
own_size-le n element.NodeInstance h = omega arith
own_size-le n element.Capture h = omega arith
own_size-le n element.Rule h = omega arith
own_size-le n element.Reading h = omega arith
own_size-le n element.Constant h = omega arith
own_size-le n element.All h = omega arith
own_size-le n element.Any h = omega arith
own_size-le n element.Inverse h = omega arith
own_size-le n element.Left h = omega arith
own_size-le n element.Right h = omega arith
own_size-le n element.Child h = omega arith
own_size-le n element.Root h = omega arith
own_size-le n element.Unknown h = omega arith

module _ (s : List ℕ) (bytes : Bytes s) where
  value-byte : (at : ℕ) → value_at s at 1 < 256
  unfolding value_at number_at
  value-byte at = go (present s at 1)
    where
      go : (t : Bool) → (cond t (read_with (field s at 1) (at + 1)) (not_whole at)).value < 256
      go true = field_lt s at 1 bytes
      go false = lit< tt

  owed-le : (at : ℕ) (l : Left) (e : Element) → (left_next s at l e).owed ≤ l.owed + 256
  owed-le at l element.Register = omega arith
  owed-le at l element.RegisterInstance = omega arith
  owed-le at l element.Node = omega arith
  owed-le at l element.NodeInstance = omega arith
  owed-le at l element.Capture = omega arith
  owed-le at l element.Rule = omega arith
  owed-le at l element.Reading = omega arith
  owed-le at l element.Constant = omega arith
  owed-le at l element.All = omega (arith, value-byte (at + 1))
  owed-le at l element.Any = omega (arith, value-byte (at + 1))
  owed-le at l element.Inverse = omega arith
  owed-le at l element.Left = omega arith
  owed-le at l element.Right = omega arith
  owed-le at l element.Child = omega arith
  owed-le at l element.Root = omega arith
  owed-le at l element.Unknown = omega arith

module _ (s : List ℕ) where
  -- A run by its next element.
  run_some : (n m at : ℕ) (l : Left) (e : Element) → suc m ≡ n → e ≡ element_next s at l → known e ≡ true
      → run s n at l ≡ in_front (record_next s at l e) (run s m (at + own_size (address_size l.form) e) (left_next s at l e))
  unfolding run
  run_some n m at l e h w t = rw (← h, ← w, t)

  run_none : (n at : ℕ) (l : Left) (e : Element) → e ≡ element_next s at l → known e ≡ false → run s n at l ≡ run_of [] at
  unfolding run
  run_none zero at l e w t = refl
  run_none (suc n) at l e w t = rw (← w, t)

  run_over : (n at : ℕ) (l : Left) → n ≤ 0 → run s n at l ≡ run_of [] at
  unfolding run
  run_over zero at l h = refl
  run_over (suc n) at l h = absurd (omega arith)

  -- The place after a run.
  pub end-le : (n at : ℕ) (l : Left) → (run s n at l).end ≤ at + 9 * n
  unfolding run
  end-le zero at l = omega arith
  end-le (suc n) at l = go (known e) (end-le n (at + own_size (address_size l.form) e) (left_next s at l e))
    where
      e : Element
      e = element_next s at l

      go : (t : Bool) → (run s n (at + own_size (address_size l.form) e) (left_next s at l e)).end ≤ at + own_size (address_size l.form) e + 9 * n
          → (cond t (in_front (record_next s at l e) (run s n (at + own_size (address_size l.form) e) (left_next s at l e))) (run_of [] at)).end ≤ at + 9 * suc n
      go true h = omega (arith, own_size-le (address_size l.form) e (address_size-le l.form))
      go false h = omega arith

module _ (s : List ℕ) (at : ℕ) (l : Left) (old : List ℕ) (to : ℕ) where
  abbrev whole : Run
  whole = run s (length s) at l

  -- After `count` records: what is still to come makes the whole run, and what is still to be put to the output makes it what it is to be.
  pub record Going (out : List ℕ) (place : ℕ) (d : Left) (count : ℕ) : Type 0 where
    pub ends : whole.end ≡ (run s (length s - count) place d).end
    pub many : length whole.records ≡ count + length (run s (length s - count) place d).records
    pub rest : put_records old to whole.records ≡ put_records out (to + 16 * count) (run s (length s - count) place d).records
    pub near : place ≤ at + 9 * count
    pub few : d.owed ≤ l.owed + 256 * count

  pub going_start : Going old at l 0
  going_start =
      let n : length s - 0 ≡ length s = omega arith in
      let z : to + 16 * 0 ≡ to = omega arith in
      record { ends = rw n; many = rw n (omega arith); rest = rw (n, z); near = omega arith; few = omega arith }

  module _ {out new : List ℕ} {place count size n : ℕ} {d f : Left} {e : Element} where
    pub going_next : Bytes s → Going out place d count → count < length s → {rest : List ℕ} → rest ≡ drop place s → e ≡ element_next rest 0 d → known e ≡ true
        → new ≡ put_record out (to + 16 * count) (record_next rest 0 d e) → size ≡ address_size d.form → n ≡ own_size size e → f ≡ left_next rest 0 d e
        → Going new (place + n) f (count + 1)
    unfolding put_records
    going_next bytes g h a next t put z y after =
        let w : e ≡ element_next s place d = next ∙ ap (λ r. element_next r 0 d) a ∙ element_behind s place d in
        let v : record_next _ 0 d e ≡ record_next s place d e = ap (λ r. record_next r 0 d e) a ∙ record_behind s place d e in
        let u : new ≡ put_record out (to + 16 * count) (record_next s place d e) = put ∙ ap (put_record out (to + 16 * count)) v in
        let x : f ≡ left_next s place d e = after ∙ ap (λ r. left_next r 0 d e) a ∙ left_behind s place d e in
        let q : n ≡ own_size (address_size d.form) e = y ∙ ap (λ k. own_size k e) z in
        let step : suc (length s - (count + 1)) ≡ length s - count = omega arith in
        let r : run s (length s - count) place d ≡ in_front (record_next s place d e) (run s (length s - (count + 1)) (place + n) f) =
        rw (q, x) (run_some s (length s - count) (length s - (count + 1)) place d e step w t) in
        let rs = (run s (length s - (count + 1)) (place + n) f).records in
        let further : to + 16 * (count + 1) ≡ to + 16 * count + 16 = omega arith in
        let j : put_records out (to + 16 * count) (record_next s place d e ∷ rs) ≡ put_records new (to + 16 * (count + 1)) rs = rw (u, further) in
        record {
          ends = g.ends ∙ ap (λ k. k.end) r;
          many = omega (arith, g.many, ap (λ k. length k.records) r);
          rest = g.rest ∙ ap (λ k. put_records out (to + 16 * count) k.records) r ∙ j;
          near = omega (arith, g.near, q, own_size-le (address_size d.form) e (address_size-le d.form));
          few = rw x (omega (arith, g.few, owed-le s bytes place d e));
        }

  -- The end of the run.
  pub record Done (out : List ℕ) (place count : ℕ) : Type 0 where
    pub is_passed : record { count = count; end = place } ≡ passed whole
    pub output : out ≡ put_records old to whole.records

  module _ {out : List ℕ} {place count : ℕ} {d : Left} where
    at_end : Going out place d count → run s (length s - count) place d ≡ run_of [] place → Done out place count
    unfolding put_records
    at_end g r =
        let a : whole.end ≡ place = g.ends ∙ ap (λ k. k.end) r in
        let b : length whole.records ≡ count = omega (arith, g.many, ap (λ k. length k.records) r) in
        record { is_passed = rw (a, b); output = sym (g.rest ∙ ap (λ k. put_records out (to + 16 * count) k.records) r) }

    pub going_stop : {e : Element} → Going out place d count → {rest : List ℕ} → rest ≡ drop place s → e ≡ element_next rest 0 d → known e ≡ false → Done out place count
    going_stop {e} g a next t =
        let w : e ≡ element_next s place d = next ∙ ap (λ r. element_next r 0 d) a ∙ element_behind s place d in
        at_end g (run_none s (length s - count) place d e w t)

    pub going_end : Going out place d count → count ≡ length s → Done out place (length s)
    going_end g e = subst (Done out place) e (at_end g (run_over s (length s - count) place d (omega arith)))
