-- The laws of bytes that are written from the end.
use Prim.Native.Nat.{ℕ, suc, ◌-◌, ◌/◌, ◌%◌, ◌^◌, ◌≤◌, ◌<◌}
use mathlib.Core.List.{List, [], ◌∷◌, ◌++◌, append_assoc}
use mathlib.Core.Path.{◌≡◌, sym, ◌∙◌, ap}
use native.Mathlib.Nat.{pow-suc, div-div-eq-div-mul}
use native.Mathlib.Omega.{arith}
use lib.ListN.{length, take, drop, set, length-append, length-drop, take-append-drop}
use lib.Seq.{length-take-le, take-append-le, take-take, drop_at, set_split}
use Rattle.numbers.specs.BigEndian.{bytes_of}
use Rattle.packing.specs.Writing.{Back}

-- Nothing was written.
pub back_none : (old : List ℕ) (at : ℕ) → at ≤ length old → Back old old at at []
back_none old at h = record { content = sym (take-append-drop at old); starts = omega arith; within = h }

-- The length stays.
pub back_same : {old new : List ℕ} {at to : ℕ} {bs : List ℕ} → Back old new at to bs → length new ≡ length old
back_same {old} {new} {at} {to} {bs} b =
    ap length b.content
    ∙ omega (
      arith,
      length-append (take to old) (bs ++ drop at old),
      length-append bs (drop at old),
      length-take-le to old (omega (arith, b.starts, b.within)),
      length-drop at old,
      b.starts,
      b.within,
    )

-- Bytes before bytes.
pub back_more : {old mid new : List ℕ} {at k to : ℕ} {xs ys : List ℕ} → Back old mid at k ys → Back mid new k to xs → Back old new at to (xs ++ ys)
back_more {old} {mid} {new} {at} {k} {to} {xs} {ys} a b =
    let l : length (take k old) ≡ k = length-take-le k old (omega (arith, a.starts, a.within)) in
    let h : to ≤ k = omega (arith, b.starts) in
    let front : take to mid ≡ take to old =
    ap (take to) a.content ∙ take-append-le to (take k old) (ys ++ drop at old) (omega (arith, l, h)) ∙ take-take to k old h in
    let back : drop k mid ≡ ys ++ drop at old = ap (drop k) a.content ∙ drop_at (take k old) (ys ++ drop at old) k l in
    record {
      content = b.content ∙ rw (front, back) (ap (λ q. take to old ++ q) (sym (append_assoc xs ys (drop at old))));
      starts = omega (arith, length-append xs ys, a.starts, b.starts);
      within = a.within;
    }

-- One byte.
pub back_one : (old : List ℕ) (i b : ℕ) {at : ℕ} → at ≡ suc i → i < length old → Back old (set old i b) at i (b ∷ [])
back_one old i b e h =
    record { content = rw e (set_split old i b h); starts = omega (arith, e); within = omega (arith, e, h) }

-- A number, of which no byte has been written.
pub number_none : (v : ℕ) (old : List ℕ) (at : ℕ) → at ≤ length old → Back old old at at (bytes_of (at - at) v)
unfolding bytes_of
number_none v old at h = let e : at - at ≡ 0 = omega arith in rw e (back_none old at h)

pub rest_all : (v at : ℕ) → v ≡ v / 256 ^ (at - at)
rest_all v at = let e : at - at ≡ 0 = omega arith in rw e (omega arith)

-- A number, byte after byte from its last.
module _ (v : ℕ) {old mid : List ℕ} {at place rest : ℕ} (some : 0 < place) (is : Back old mid at place (bytes_of (at - place) v)) (left : rest ≡ v / 256 ^ (at - place)) where
  one_more : at - (place - 1) ≡ suc (at - place)
  one_more = omega (arith, is.starts)

  pub number_next : Back old (set mid (place - 1) (rest % 256)) at (place - 1) (bytes_of (at - (place - 1)) v)
  unfolding bytes_of
  number_next =
      let w : place ≡ suc (place - 1) = omega arith in
      let l : place - 1 < length mid = omega (arith, back_same is, is.starts, is.within) in
      rw (one_more, ← left) (back_more is (back_one mid (place - 1) (rest % 256) w l))

  pub rest_next : rest / 256 ≡ v / 256 ^ (at - (place - 1))
  rest_next = rw (one_more, left, pow-suc) (div-div-eq-div-mul v (256 ^ (at - place)) 256)
