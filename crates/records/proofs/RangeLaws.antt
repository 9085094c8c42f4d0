-- Records whose numbers fit their fields: their bytes are read as what they are. Every record that is allowed is one.
use Prim.Native.Nat.{ℕ, ◌+◌, ◌*◌, ◌/◌, ◌^◌, ◌≤◌, ◌<◌}
use mathlib.Core.Bool.{Bool, true, false, cond}
use mathlib.Core.List.{List, [], ◌∷◌, ◌++◌}
use mathlib.Core.Path.{◌≡◌, refl, sym, ◌∙◌, ap, subst}
use native.Mathlib.Nat.{lt_of_lt_of_le, pow-le-pow_right}
use native.Mathlib.Omega.{arith}
use lib.Dec.{eqb, leb, ltb, lit<, lit≤}
use lib.ListN.{length, take, drop, length-append}
use lib.Seq.{take-length}
use borrow.Author.Tests.{ltb-true, leb-true, leb-false, ne_eqb}
use Rattle.numbers.specs.BigEndian.{big_endian, bytes_of}
use Rattle.numbers.specs.Field.{field}
use Rattle.numbers.proofs.BigEndianLaws.{length_bytes, read_written}
use Rattle.numbers.proofs.Bools.{clash, and_left, and_right}
use Rattle.format.specs.Fields.{address_size}
use Rattle.format.specs.Lookup.{gathered}
use Rattle.format.specs.Rules.{Every}
use Rattle.format.proofs.Spelling.{Spell, spell_split}
use Rattle.records.specs.declared.Record.{Record}
use Rattle.records.specs.declared.Before.{Before}
use Rattle.records.specs.declared.Element.{Element}
use Rattle.records.specs.declared.Element.TheVariants.{Register, RegisterInstance, Node, NodeInstance, Capture, Rule, Reading, Constant, All, Any, Inverse, Left, Right, Child, Root, Unknown}
use Rattle.records.specs.Record.{record_bytes, record_at, records_from, whole_records, records_in}
use Rattle.records.specs.Grammar.{element_of, Widths, widths, used_alone, follows, counted, allowed_as, allowed}
use Rattle.records.proofs.RunLaws.{Run, stop, step}

-- Every number fits its field of the 16 bytes.
pub record InRange (r : Record) : Type 0 where
  pub kind : r.kind < 256
  pub form : r.form < 256
  pub amount : r.amount < 256
  pub number : r.number < 256
  pub id : r.id < 256 ^ 4
  pub value : r.value < 256 ^ 8

-- No element uses more bytes of a field than the field has.
record Narrow (w : Widths) : Type 0 where
  pub form : w.form ≤ 1
  pub amount : w.amount ≤ 1
  pub number : w.number ≤ 1
  pub id : w.id ≤ 4
  pub value : w.value ≤ 8

address-le : (type : ℕ) → address_size type ≤ 8
unfolding address_size
address-le type = go (eqb type 1)
  where
    go : (t : Bool) → cond t 4 8 ≤ 8
    go true = lit≤ tt
    go false = lit≤ tt

narrow : (type : ℕ) (e : Element) → Narrow (widths type e)
narrow type Register = record { form = lit≤ tt; amount = lit≤ tt; number = lit≤ tt; id = lit≤ tt; value = lit≤ tt }
narrow type RegisterInstance = record { form = lit≤ tt; amount = lit≤ tt; number = lit≤ tt; id = lit≤ tt; value = address-le type }
narrow type Node = record { form = lit≤ tt; amount = lit≤ tt; number = lit≤ tt; id = lit≤ tt; value = lit≤ tt }
narrow type NodeInstance = record { form = lit≤ tt; amount = lit≤ tt; number = lit≤ tt; id = lit≤ tt; value = lit≤ tt }
narrow type Capture = record { form = lit≤ tt; amount = lit≤ tt; number = lit≤ tt; id = lit≤ tt; value = lit≤ tt }
narrow type Rule = record { form = lit≤ tt; amount = lit≤ tt; number = lit≤ tt; id = lit≤ tt; value = lit≤ tt }
narrow type Reading = record { form = lit≤ tt; amount = lit≤ tt; number = lit≤ tt; id = lit≤ tt; value = lit≤ tt }
narrow type Constant = record { form = lit≤ tt; amount = lit≤ tt; number = lit≤ tt; id = lit≤ tt; value = lit≤ tt }
narrow type All = record { form = lit≤ tt; amount = lit≤ tt; number = lit≤ tt; id = lit≤ tt; value = lit≤ tt }
narrow type Any = record { form = lit≤ tt; amount = lit≤ tt; number = lit≤ tt; id = lit≤ tt; value = lit≤ tt }
narrow type Inverse = record { form = lit≤ tt; amount = lit≤ tt; number = lit≤ tt; id = lit≤ tt; value = lit≤ tt }
narrow type Left = record { form = lit≤ tt; amount = lit≤ tt; number = lit≤ tt; id = lit≤ tt; value = lit≤ tt }
narrow type Right = record { form = lit≤ tt; amount = lit≤ tt; number = lit≤ tt; id = lit≤ tt; value = lit≤ tt }
narrow type Child = record { form = lit≤ tt; amount = lit≤ tt; number = lit≤ tt; id = lit≤ tt; value = lit≤ tt }
narrow type Root = record { form = lit≤ tt; amount = lit≤ tt; number = lit≤ tt; id = lit≤ tt; value = lit≤ tt }
narrow type Unknown = record { form = lit≤ tt; amount = lit≤ tt; number = lit≤ tt; id = lit≤ tt; value = lit≤ tt }

below : (x : ℕ) {n m : ℕ} → x < 256 ^ n → n ≤ m → x < 256 ^ m
below x h l = lt_of_lt_of_le h (pow-le-pow_right (lit< tt) l)

-- A kind of more than a byte is no element.
large : (kind form : ℕ) → 255 < kind → element_of kind form ≡ Unknown
unfolding element_of
large kind form h =
    rw (
      ne_eqb kind 1 (λ e. omega arith),
      ne_eqb kind 2 (λ e. omega arith),
      ne_eqb kind 3 (λ e. omega arith),
      ne_eqb kind 4 (λ e. omega arith),
      ne_eqb kind 5 (λ e. omega arith),
      ne_eqb kind 6 (λ e. omega arith),
      ne_eqb kind 7 (λ e. omega arith),
      ne_eqb kind 8 (λ e. omega arith),
      ne_eqb kind 9 (λ e. omega arith),
    )

unknown : (b : Before) (r : Record) (e : Element) → e ≡ Unknown → allowed_as e b r ≡ false
unfolding allowed_as
unknown b r e h = rw h

pub allowed_range : (b : Before) (r : Record) → allowed b r ≡ true → InRange r
unfolding allowed allowed_as used_alone
allowed_range b r a =
    let e = element_of r.kind r.form in
    let w = widths b.form e in
    let n = narrow b.form e in
    let u = and_right (counted b e) _ (and_right (follows b e) _ a) in
    let u₁ = and_right (ltb r.form (256 ^ w.form)) _ u in
    let u₂ = and_right (ltb r.amount (256 ^ w.amount)) _ u₁ in
    let u₃ = and_right (ltb r.number (256 ^ w.number)) _ u₂ in
    record {
      kind = go (leb r.kind 255) refl;
      form = below r.form (ltb-true _ _ (and_left _ _ u)) n.form;
      amount = below r.amount (ltb-true _ _ (and_left _ _ u₁)) n.amount;
      number = below r.number (ltb-true _ _ (and_left _ _ u₂)) n.number;
      id = below r.id (ltb-true _ _ (and_left _ _ u₃)) n.id;
      value = below r.value (ltb-true _ _ (and_right (ltb r.id (256 ^ w.id)) _ u₃)) n.value;
    }
  where
    go : (t : Bool) → leb r.kind 255 ≡ t → r.kind < 256
    go true h = omega (arith, leb-true r.kind 255 h)
    go false h = clash a (unknown b r (element_of r.kind r.form) (large r.kind r.form (leb-false r.kind 255 h)))

pub run_range : {b c : Before} {rs : List Record} → Run b rs c → Every InRange rs
unfolding Every
run_range stop = tt
run_range {b} (step {r = r} a p) = (allowed_range b r a, run_range p)

-- The bytes of records.

pub length_record : (r : Record) → length (record_bytes r) ≡ 16
unfolding record_bytes
length_record r = simp (length-append, length_bytes)

pub length_records : (rs : List Record) → length (gathered record_bytes rs) ≡ length rs * 16
unfolding gathered
length_records [] = refl
length_records (r ∷ rs) = omega (arith, length-append (record_bytes r) (gathered record_bytes rs), length_record r, length_records rs)

module _ (s : List ℕ) where
  spelt : (at : ℕ) {m : ℕ} (n x : ℕ) → x < 256 ^ n → Spell s at m (bytes_of n x) → field s at n ≡ x
  unfolding field
  spelt at n x h a = ap big_endian (subst (λ k. take k (drop at s) ≡ bytes_of n x) (length_bytes n x) a.here) ∙ read_written n x h

  -- The number at a place, and what is behind it.
  first : (at n x : ℕ) (rest : List ℕ) {m : ℕ} → x < 256 ^ n → Spell s at m (bytes_of n x ++ rest)
      → (field s at n ≡ x) × Spell s (at + n) m rest
  first at n x rest {m} h a =
      let p = spell_split s (bytes_of n x) rest a in
      (spelt at n x h p.0, subst (λ k. Spell s (at + k) m rest) (length_bytes n x) p.1)

  record_again : (at : ℕ) (r : Record) {m : ℕ} → InRange r → Spell s at m (record_bytes r) → record_at s at ≡ r
  unfolding record_bytes record_at
  record_again at r i a =
      let p₀ = first at 1 r.kind _ i.kind a in
      let p₁ = first (at + 1) 1 r.form _ i.form p₀.1 in
      let p₂ = first (at + 1 + 1) 1 r.amount _ i.amount p₁.1 in
      let p₃ = first (at + 1 + 1 + 1) 1 r.number _ i.number p₂.1 in
      let p₄ = first (at + 1 + 1 + 1 + 1) 4 r.id _ i.id p₃.1 in
      let e₂ : at + 1 + 1 ≡ at + 2 = omega arith in
      let e₃ : at + 1 + 1 + 1 ≡ at + 3 = omega arith in
      let e₄ : at + 1 + 1 + 1 + 1 ≡ at + 4 = omega arith in
      let e₅ : at + 1 + 1 + 1 + 1 + 4 ≡ at + 8 = omega arith in
      rw (
        p₀.0,
        p₁.0,
        ap (λ k. field s k 1) (sym e₂) ∙ p₂.0,
        ap (λ k. field s k 1) (sym e₃) ∙ p₃.0,
        ap (λ k. field s k 4) (sym e₄) ∙ p₄.0,
        ap (λ k. field s k 8) (sym e₅) ∙ spelt (at + 1 + 1 + 1 + 1 + 4) 8 r.value i.value p₄.1,
      )

  records_again : (at : ℕ) (rs : List Record) {m : ℕ} → Every InRange rs → Spell s at m (gathered record_bytes rs) → records_from s (length rs) at ≡ rs
  unfolding records_from gathered Every
  records_again at [] h a = refl
  records_again at (r ∷ rs) {m} h a =
      let p = spell_split s (record_bytes r) (gathered record_bytes rs) a in
      let q = subst (λ k. Spell s (at + k) m (gathered record_bytes rs)) (length_record r) p.1 in
      rw (record_again at r h.0 p.0, records_again (at + 16) rs h.1 q)

-- The bytes of records in range are read as these records.
pub read_again : (rs : List Record) → Every InRange rs → records_in (gathered record_bytes rs) ≡ rs
unfolding records_in whole_records
read_again rs h =
    let s = gathered record_bytes rs in
    let n : length (gathered record_bytes rs) / 16 ≡ length rs = omega (arith, length_records rs) in
    let a : Spell s 0 (length s) s = record { here = take-length s; ends = omega arith } in
    ap (λ k. records_from s k 0) n ∙ records_again s 0 rs h a
