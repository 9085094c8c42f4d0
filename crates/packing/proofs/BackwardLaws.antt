-- The laws of the pass that writes a part from its last record to its first.
use Prim.Native.Nat.{ℕ, suc, ◌+◌, ◌-◌, ◌*◌, ◌≤◌, ◌<◌}
use mathlib.Core.List.{List, [], ◌∷◌, ◌++◌}
use mathlib.Core.Path.{◌≡◌, refl, sym, ◌∙◌, ap}
use native.Mathlib.Omega.{arith}
use lib.ListN.{length}
use Rattle.format.specs.Fields.{address_size}
use Rattle.records.specs.declared.Record.{Record}
use Rattle.records.specs.declared.Element.{Element}
use Rattle.records.specs.Record.{record_at, record_within, records_from}
use Rattle.records.specs.Grammar.{element_of}
use Rattle.records.specs.Sizes.{own_size}
use Rattle.records.proofs.JudgingLaws.{record_there}
use Rattle.packing.specs.declared.Counts.{Counts}
use Rattle.packing.specs.declared.Nearest.{Nearest}
use Rattle.packing.specs.Packing.{own_bytes, counting, packed_of, pack_one, pack, none}
use Rattle.packing.specs.Writing.{type_after, sizes, Back, Few, Known, Near, PartBack}
use Rattle.packing.proofs.BackLaws.{back_none, back_same, back_more}
use Rattle.packing.proofs.OwnLaws.{few_none, few_more}
use Rattle.packing.proofs.SizeLaws.{pack_size, pack_last, sizes_last, from_last, from_none}
use Rattle.packing.proofs.NearLaws.{near_form, known_less, known_none}

-- The records of a part behind the first `left` have been written: packing the others in front of them makes the whole part.
pub record Backward (s : List ℕ) (start n : ℕ) (old : List ℕ) (at : ℕ) (new : List ℕ) (place left : ℕ) (near : Nearest) (counts : Counts) : Type 0 where
  pub bs : List ℕ
  pub back : Back old new at place bs
  pub whole : pack 0 (records_from s n start) (packed_of none []) ≡ pack 0 (records_from s left start) (packed_of counts bs)
  pub few : Few (n - left) counts
  pub below : left ≤ n
  pub known : Known s start left near

pub backward_none : (s : List ℕ) (start n : ℕ) (old : List ℕ) (at : ℕ) → at ≤ length old
    → Backward s start n old at old at n (record { since = n; form = 0 }) none
backward_none s start n old at h =
    record {
      bs = [];
      back = back_none old at h;
      whole = refl;
      few = few_none (n - n);
      below = omega arith;
      known = known_none s start n;
    }

module _ {s : List ℕ} {start n : ℕ} {old : List ℕ} {at : ℕ} {new : List ℕ} {place left : ℕ} {near : Nearest} {counts : Counts}
    (b : Backward s start n old at new place left near counts) where
  pub backward_within : place ≤ length new
  backward_within = omega (arith, back_same b.back, b.back.starts, b.back.within)

  -- What is left has room.
  left_room : sizes 0 (records_from s n start) ≤ at → sizes 0 (records_from s left start) ≤ place
  left_room h =
      omega (
        arith,
        ap (λ p. length p.bytes) b.whole,
        pack_size 0 (records_from s n start) (packed_of none []),
        pack_size 0 (records_from s left start) (packed_of counts b.bs),
        b.back.starts,
        h,
      )

  pub backward_all : left ≤ 0 → PartBack (records_from s n start) old new at (record { at = place; counts = counts })
  unfolding pack
  backward_all z =
      let e : pack 0 (records_from s n start) (packed_of none []) ≡ packed_of counts b.bs =
      b.whole ∙ ap (λ rs. pack 0 rs (packed_of counts b.bs)) (from_none s left start z) in
      record { bytes = rw e b.back; counts = rw e }

  pub backward_known : 0 < left → Known s start (left - 1 + 1) near
  backward_known some = let e : left - 1 + 1 ≡ left = omega (arith, some) in rw e b.known

  module _ {r : Record} {e : Element} {near2 : Nearest} {size here_at : ℕ} (some : 0 < left) (within : start + 16 * n ≤ length s) (nearer : Near s start (left - 1) near2)
      (stands : here_at ≡ start + 16 * (left - 1)) (here : r ≡ record_within s here_at) (is : e ≡ element_of r.kind r.form) (wide : size ≡ address_size near2.form) where
    last : records_from s left start ≡ records_from s (left - 1) start ++ (r ∷ [])
    last =
        let i : left ≡ suc (left - 1) = omega (arith, some) in
        let x : r ≡ record_at s (start + 16 * (left - 1)) = here ∙ ap (record_within s) stands ∙ record_there s (start + 16 * (left - 1)) (omega (arith, some, within, b.below)) in
        ap (λ k. records_from s k start) i ∙ from_last s (left - 1) start ∙ ap (λ y. records_from s (left - 1) start ++ (y ∷ [])) (sym x)

    address : address_size (type_after 0 (records_from s (left - 1) start)) ≡ size
    address = ap address_size (near_form nearer) ∙ sym wide

    pub backward_room : sizes 0 (records_from s n start) ≤ at → own_size size e ≤ place
    backward_room h =
        let q : sizes 0 (records_from s left start) ≡ sizes 0 (records_from s (left - 1) start) + own_size size e =
        ap (sizes 0) last ∙ sizes_last 0 (records_from s (left - 1) start) r ∙ rw (address, ← is) in
        omega (arith, q, left_room h)

    pub backward_next : {new2 : List ℕ} {place2 : ℕ} {counts2 : Counts} → Back new new2 place place2 (own_bytes size counts e r) → counts2 ≡ counting counts e
        → Backward s start n old at new2 place2 (left - 1) near2 counts2
    unfolding pack_one
    backward_next {new2} {place2} {counts2} own count =
        let front : pack 0 (records_from s left start) (packed_of counts b.bs)
        ≡ pack 0 (records_from s (left - 1) start) (packed_of counts2 (own_bytes size counts e r ++ b.bs)) =
        ap (λ rs. pack 0 rs (packed_of counts b.bs)) last
        ∙ pack_last 0 (records_from s (left - 1) start) r (packed_of counts b.bs)
        ∙ ap (pack 0 (records_from s (left - 1) start)) (rw (address, ← is, ← count)) in
        let k : n - (left - 1) ≡ n - left + 1 = omega (arith, some, b.below) in
        record {
          bs = own_bytes size counts e r ++ b.bs;
          back = back_more b.back own;
          whole = b.whole ∙ front;
          few = rw (k, count) (few_more e b.few);
          below = omega (arith, b.below);
          known = known_less nearer.known;
        }
