-- What it says of a record that those before it allow it.
use Prim.Native.Nat.{ℕ, suc, ◌^◌, ◌≤◌, ◌<◌}
use mathlib.Core.Bool.{Bool, true, false, cond, ◌&&◌}
use mathlib.Core.Path.{◌≡◌, refl}
use lib.Dec.{leb, ltb, eqb}
use borrow.Author.Tests.{leb-true, ltb-true, eqb-true}
use Rattle.numbers.proofs.Bools.{and_left, and_right}
use Rattle.records.specs.declared.Record.{Record}
use Rattle.records.specs.declared.Before.{Before}
use Rattle.records.specs.declared.Element.{Element}
use Rattle.records.specs.declared.Element.TheVariants.{Register, RegisterInstance, Node, NodeInstance, Capture, Rule, Reading, Constant, All, Any, Inverse, Left, Right, Child, Root, Unknown}
use Rattle.records.specs.Elements.{record_of}
use Rattle.records.specs.Grammar.{expression_of, element_of, Widths, widths, used_alone, after, is_owed, follows, one_more, counted, allowed_as}

-- The kind, and of an expression the type, that make a record this element.
abbrev pub Means : ℕ → ℕ → Element → Type 0
Means k f Register = k ≡ 1
Means k f RegisterInstance = k ≡ 2
Means k f Node = k ≡ 3
Means k f NodeInstance = k ≡ 4
Means k f Capture = k ≡ 5
Means k f Rule = k ≡ 6
Means k f Reading = (k ≡ 7) × (f ≡ 0x01)
Means k f Constant = (k ≡ 7) × (f ≡ 0x02)
Means k f All = (k ≡ 7) × (f ≡ 0x10)
Means k f Any = (k ≡ 7) × (f ≡ 0x11)
Means k f Inverse = (k ≡ 7) × (f ≡ 0x12)
Means k f Left = (k ≡ 7) × (f ≡ 0x13)
Means k f Right = (k ≡ 7) × (f ≡ 0x14)
Means k f Child = k ≡ 8
Means k f Root = k ≡ 9
Means k f Unknown = Unit {0}

module _ (k f : ℕ) where
  chosen : (t : Bool) (x y : Element) → (t ≡ true → Means k f x) → Means k f y → Means k f (cond t x y)
  chosen true x y h n = h refl
  chosen false x y h n = n

  expression_means : k ≡ 7 → Means k f (expression_of f)
  unfolding expression_of
  expression_means e =
      chosen (eqb f 0x01) Reading _ (λ h. (e, eqb-true _ _ h))
      (chosen (eqb f 0x02) Constant _ (λ h. (e, eqb-true _ _ h))
      (chosen (eqb f 0x10) All _ (λ h. (e, eqb-true _ _ h))
      (chosen (eqb f 0x11) Any _ (λ h. (e, eqb-true _ _ h))
      (chosen (eqb f 0x12) Inverse _ (λ h. (e, eqb-true _ _ h))
      (chosen (eqb f 0x13) Left _ (λ h. (e, eqb-true _ _ h))
      (chosen (eqb f 0x14) Right Unknown (λ h. (e, eqb-true _ _ h)) tt))))))

  pub element_means : Means k f (element_of k f)
  unfolding element_of
  element_means =
      chosen (eqb k 1) Register _ (λ h. eqb-true _ _ h)
      (chosen (eqb k 2) RegisterInstance _ (λ h. eqb-true _ _ h)
      (chosen (eqb k 3) Node _ (λ h. eqb-true _ _ h)
      (chosen (eqb k 4) NodeInstance _ (λ h. eqb-true _ _ h)
      (chosen (eqb k 5) Capture _ (λ h. eqb-true _ _ h)
      (chosen (eqb k 6) Rule _ (λ h. eqb-true _ _ h)
      (chosen (eqb k 7) (expression_of f) _ (λ h. expression_means (eqb-true _ _ h))
      (chosen (eqb k 8) Child _ (λ h. eqb-true _ _ h)
      (chosen (eqb k 9) Root Unknown (λ h. eqb-true _ _ h) tt))))))))

-- Every field fits the bytes that are used of it.
pub record Used (w : Widths) (r : Record) : Type 0 where
  pub form : r.form < 256 ^ w.form
  pub amount : r.amount < 256 ^ w.amount
  pub number : r.number < 256 ^ w.number
  pub id : r.id < 256 ^ w.id
  pub value : r.value < 256 ^ w.value

used_out : (w : Widths) (r : Record) → used_alone w r ≡ true → Used w r
unfolding used_alone
used_out w r e =
    let form : Bool = ltb r.form (256 ^ w.form) in
    let amount : Bool = ltb r.amount (256 ^ w.amount) in
    let number : Bool = ltb r.number (256 ^ w.number) in
    let id : Bool = ltb r.id (256 ^ w.id) in
    let value : Bool = ltb r.value (256 ^ w.value) in
    let a = and_right form (amount && (number && (id && value))) e in
    let b = and_right amount (number && (id && value)) a in
    let c = and_right number (id && value) b in
    record {
      form = ltb-true _ _ (and_left form (amount && (number && (id && value))) e);
      amount = ltb-true _ _ (and_left amount (number && (id && value)) a);
      number = ltb-true _ _ (and_left number (id && value) b);
      id = ltb-true _ _ (and_left id value c);
      value = ltb-true _ _ (and_right id value c);
    }

pub record Allowed (e : Element) (b : Before) (r : Record) : Type 0 where
  pub follow : follows b e ≡ true
  pub count : counted b e ≡ true
  pub used : Used (widths b.form e) r

pub allowed_out : (e : Element) (b : Before) (r : Record) → allowed_as e b r ≡ true → Allowed e b r
unfolding allowed_as
allowed_out e b r h =
    let k = and_right (follows b e) _ h in
    record { follow = and_left (follows b e) _ h; count = and_left (counted b e) _ k; used = used_out _ r (and_right (counted b e) _ k) }

-- No expression is owed, and the last kind is one of these.
pub record After (least most : ℕ) (b : Before) : Type 0 where
  pub none : b.owed ≡ 0
  pub low : least ≤ b.last
  pub high : b.last ≤ most

pub after_out : (least most : ℕ) (b : Before) → after least most b ≡ true → After least most b
unfolding after
after_out least most b e =
    let k = and_right (eqb b.owed 0) _ e in
    record {
      none = eqb-true _ _ (and_left _ _ e);
      low = leb-true _ _ (and_left _ _ k);
      high = leb-true _ _ (and_right (leb least b.last) _ k);
    }

pub owed_out : (b : Before) → is_owed b ≡ true → 0 < b.owed
unfolding is_owed
owed_out b e = ltb-true _ _ e

pub more_out : (width n : ℕ) → one_more width n ≡ true → suc n < 256 ^ width
unfolding one_more
more_out width n e = ltb-true _ _ e

-- A record is the one of these six fields.
pub record_is : (r : Record) {k f a n i v : ℕ} → r.kind ≡ k → r.form ≡ f → r.amount ≡ a → r.number ≡ n → r.id ≡ i → r.value ≡ v
    → record_of k f a n i v ≡ r
record_is r {k} {f} {a} {n} {i} {v} ek ef ea en ei ev = rw (← ek, ← ef, ← ea, ← en, ← ei, ← ev)
