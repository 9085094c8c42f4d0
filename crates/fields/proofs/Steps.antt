-- How a reading goes on from what the code has read, in the form that `search` uses: each premise is a fact of the place.
use Prim.Native.Nat.{ℕ}
use mathlib.Core.Path.{◌≡◌, refl, sym, ◌∙◌, ap}
use mathlib.Core.Bool.{Bool, true, false}
use borrow.Author.Tests.{le-leb, lt-leb, lt-ltb, le-ltb, eq-eqb, ne_eqb}
use Rattle.format.specs.declared.Refusal.{Refusal}
use Rattle.format.specs.Parsed.{Parsed, done, refused, and_then, making, require, requiring}
use Rattle.fields.specs.declared.ByteRead.{ByteRead}
use Rattle.fields.specs.declared.NumberRead.{NumberRead}
use Rattle.fields.specs.declared.NextRead.{NextRead}
use Rattle.fields.proofs.Parsing.{Found, found, missed}
use Rattle.fields.specs.Views.{refused_by, byte_parsed, number_parsed, next_parsed, forget}

-- The laws of a source: an answer x, seen by a view, is what p reads; it is c, which the view takes to a value or a refusal.
module _ {S A B : Type 0} (view : S → Parsed A) (p : Parsed A) (f : A → ℕ → Parsed B) {x c : S} where
  pub goes : {a : A} {n : ℕ} {y : Parsed B} → view c ≡ done a n → view x ≡ p → x ≡ c → y ≡ f a n → y ≡ and_then p f
  unfolding and_then
  goes h e g k = rw (sym e ∙ ap view g ∙ h) k

  pub stops : {k m : ℕ} {y : Parsed B} → view c ≡ refused k m → view x ≡ p → x ≡ c → y ≡ refused k m → y ≡ and_then p f
  unfolding and_then
  stops h e g k = rw (sym e ∙ ap view g ∙ h) k

-- The same where something is made of the whole.
module _ {S A B C : Type 0} (view : S → Parsed A) (g : B → C) (p : Parsed A) (f : A → ℕ → Parsed B) {x c : S} where
  pub goes_making : {a : A} {n : ℕ} {y : Parsed C} → view c ≡ done a n → view x ≡ p → x ≡ c → y ≡ making g (f a n) → y ≡ making g (and_then p f)
  unfolding and_then
  goes_making h e i k = rw (sym e ∙ ap view i ∙ h) k

  pub stops_making : {k m : ℕ} {y : Parsed C} → view c ≡ refused k m → view x ≡ p → x ≡ c → y ≡ refused k m → y ≡ making g (and_then p f)
  unfolding and_then making
  stops_making h e i k = rw (sym e ∙ ap view i ∙ h) k

-- A value is made of what was read.
module _ {S A B : Type 0} (view : S → Parsed A) (g : A → B) (p : Parsed A) {x c : S} where
  pub makes : {a : A} {n : ℕ} {y : Parsed B} → view c ≡ done a n → view x ≡ p → x ≡ c → y ≡ done (g a) n → y ≡ making g p
  unfolding making
  makes h e i k = rw (sym e ∙ ap view i ∙ h) k

  pub makes_no : {k m : ℕ} {y : Parsed B} → view c ≡ refused k m → view x ≡ p → x ≡ c → y ≡ refused k m → y ≡ making g p
  unfolding making
  makes_no h e i k = rw (sym e ∙ ap view i ∙ h) k

module _ {B : Type 0} (p : Parsed ℕ) (f : ℕ → ℕ → Parsed B) {y : Parsed B} where
  pub byte_then : {x : ByteRead} {a n : ℕ} → byte_parsed x ≡ p → x ≡ ByteRead.Byte a n → y ≡ f a n → y ≡ and_then p f
  byte_then = goes byte_parsed p f refl

  pub byte_stop : {x : ByteRead} {r : Refusal} → byte_parsed x ≡ p → x ≡ ByteRead.Refused r → y ≡ refused_by r → y ≡ and_then p f
  byte_stop = stops byte_parsed p f refl

  pub number_then : {x : NumberRead} {a n : ℕ} → number_parsed x ≡ p → x ≡ NumberRead.Number a n → y ≡ f a n → y ≡ and_then p f
  number_then = goes number_parsed p f refl

  pub number_stop : {x : NumberRead} {r : Refusal} → number_parsed x ≡ p → x ≡ NumberRead.Refused r → y ≡ refused_by r → y ≡ and_then p f
  number_stop = stops number_parsed p f refl

module _ {B C : Type 0} (g : B → C) (p : Parsed ℕ) (f : ℕ → ℕ → Parsed B) {y : Parsed C} where
  pub byte_then' : {x : ByteRead} {a n : ℕ} → byte_parsed x ≡ p → x ≡ ByteRead.Byte a n → y ≡ making g (f a n) → y ≡ making g (and_then p f)
  byte_then' = goes_making byte_parsed g p f refl

  pub byte_stop' : {x : ByteRead} {r : Refusal} → byte_parsed x ≡ p → x ≡ ByteRead.Refused r → y ≡ refused_by r → y ≡ making g (and_then p f)
  byte_stop' = stops_making byte_parsed g p f refl

  pub number_then' : {x : NumberRead} {a n : ℕ} → number_parsed x ≡ p → x ≡ NumberRead.Number a n → y ≡ making g (f a n) → y ≡ making g (and_then p f)
  number_then' = goes_making number_parsed g p f refl

  pub number_stop' : {x : NumberRead} {r : Refusal} → number_parsed x ≡ p → x ≡ NumberRead.Refused r → y ≡ refused_by r → y ≡ making g (and_then p f)
  number_stop' = stops_making number_parsed g p f refl

module _ {B : Type 0} (g : ℕ → B) (p : Parsed ℕ) {y : Parsed B} where
  pub byte_makes : {x : ByteRead} {a n : ℕ} → byte_parsed x ≡ p → x ≡ ByteRead.Byte a n → y ≡ done (g a) n → y ≡ making g p
  byte_makes = makes byte_parsed g p refl

  pub byte_makes_no : {x : ByteRead} {r : Refusal} → byte_parsed x ≡ p → x ≡ ByteRead.Refused r → y ≡ refused_by r → y ≡ making g p
  byte_makes_no = makes_no byte_parsed g p refl

  pub number_makes : {x : NumberRead} {a n : ℕ} → number_parsed x ≡ p → x ≡ NumberRead.Number a n → y ≡ done (g a) n → y ≡ making g p
  number_makes = makes number_parsed g p refl

  pub number_makes_no : {x : NumberRead} {r : Refusal} → number_parsed x ≡ p → x ≡ NumberRead.Refused r → y ≡ refused_by r → y ≡ making g p
  number_makes_no = makes_no number_parsed g p refl

-- A place without a value: a keyword, or an element whose value is not kept.
module _ {B : Type 0} (p : Parsed (Unit {0})) (f : Unit {0} → ℕ → Parsed B) {y : Parsed B} where
  pub next_then : {x : NextRead} {n : ℕ} → next_parsed x ≡ p → x ≡ NextRead.Next n → y ≡ f tt n → y ≡ and_then p f
  next_then = goes next_parsed p f refl

  pub next_stop : {x : NextRead} {r : Refusal} → next_parsed x ≡ p → x ≡ NextRead.Refused r → y ≡ refused_by r → y ≡ and_then p f
  next_stop = stops next_parsed p f refl

module _ {B C : Type 0} (g : B → C) (p : Parsed (Unit {0})) (f : Unit {0} → ℕ → Parsed B) {y : Parsed C} where
  pub next_then' : {x : NextRead} {n : ℕ} → next_parsed x ≡ p → x ≡ NextRead.Next n → y ≡ making g (f tt n) → y ≡ making g (and_then p f)
  next_then' = goes_making next_parsed g p f refl

  pub next_stop' : {x : NextRead} {r : Refusal} → next_parsed x ≡ p → x ≡ NextRead.Refused r → y ≡ refused_by r → y ≡ making g (and_then p f)
  next_stop' = stops_making next_parsed g p f refl

-- An element whose value is not kept.
module _ {A B : Type 0} (q : Parsed A) {x : NextRead} {y : Parsed B} where
  pub forgot_makes : (v : B) {n : ℕ} → next_parsed x ≡ forget q → x ≡ NextRead.Next n → y ≡ done v n → y ≡ making (λ _. v) q
  unfolding making
  forgot_makes v {n} e g k =
      let f : Found (λ _. tt) q tt n = found (λ _. tt) q (sym (ap next_parsed g) ∙ e) in
      k ∙ sym (ap (making (λ _. v)) f.is)

  pub forgot_makes_no : (g : A → B) {r : Refusal} → next_parsed x ≡ forget q → x ≡ NextRead.Refused r → y ≡ refused_by r → y ≡ making g q
  unfolding making
  forgot_makes_no g e h k = k ∙ sym (ap (making g) (missed (λ _. tt) q (sym (ap next_parsed h) ∙ e)))

module _ {A B C : Type 0} (g : B → C) (q : Parsed A) (f : A → ℕ → Parsed B) {x : NextRead} {y : Parsed C} where
  pub forgot_then : {n : ℕ} → next_parsed x ≡ forget q → x ≡ NextRead.Next n → ((a : A) → y ≡ making g (f a n)) → y ≡ making g (and_then q f)
  unfolding and_then
  forgot_then {n} e h k =
      let d : Found (λ _. tt) q tt n = found (λ _. tt) q (sym (ap next_parsed h) ∙ e) in
      k d.value ∙ sym (ap (λ r. making g (and_then r f)) d.is)

  pub forgot_stop : {r : Refusal} → next_parsed x ≡ forget q → x ≡ NextRead.Refused r → y ≡ refused_by r → y ≡ making g (and_then q f)
  unfolding and_then making
  forgot_stop e h k = k ∙ sym (ap (λ r. making g (and_then r f)) (missed (λ _. tt) q (sym (ap next_parsed h) ∙ e)))

pub ruleset forgetting = (forgot_makes, forgot_makes_no, forgot_then, forgot_stop)

-- Tests.
module _ {A : Type 0} (b : Bool) (n p : ℕ) (k : Unit {0} → Parsed A) {y : Parsed A} where
  pub passes : b ≡ true → y ≡ k tt → y ≡ require b n p k
  unfolding require
  passes e h = rw e h

  pub fails : b ≡ false → y ≡ refused n p → y ≡ require b n p k
  unfolding require
  fails e h = rw e h

module _ {A B : Type 0} (g : A → B) (b : Bool) (n p : ℕ) (k : Unit {0} → Parsed A) {y : Parsed B} where
  pub passes' : b ≡ true → y ≡ making g (k tt) → y ≡ making g (require b n p k)
  unfolding require
  passes' e h = rw e h

  pub fails' : b ≡ false → y ≡ refused n p → y ≡ making g (require b n p k)
  unfolding require making
  fails' e h = rw e h

-- A requirement inside a reading that others follow.
after_require : {A B : Type 0} (b : Bool) (n p : ℕ) (k : Unit {0} → Parsed A) (f : A → ℕ → Parsed B)
    → and_then (require b n p k) f ≡ require b n p (λ u. and_then (k u) f)
unfolding and_then require
after_require true n p k f = refl
after_require false n p k f = refl

module _ {A B : Type 0} (test : A → Bool) (n p : ℕ) (q : Parsed A) (f : A → ℕ → Parsed B) where
  pub requiring_is : and_then (requiring test n p q) f ≡ and_then q (λ a m. require (test a) n p (λ _. f a m))
  unfolding requiring and_then
  requiring_is = go q
    where
      go : (r : Parsed A) → and_then (requiring test n p r) f ≡ and_then r (λ a m. require (test a) n p (λ _. f a m))
      go (done a m) = after_require (test a) n p (λ _. done a m) f
      go (refused k m) = refl

  pub requiring_then : {y : Parsed B} → y ≡ and_then q (λ a m. require (test a) n p (λ _. f a m)) → y ≡ and_then (requiring test n p q) f
  requiring_then e = e ∙ sym requiring_is

  pub requiring_then' : {C : Type 0} (g : B → C) {y : Parsed C} → y ≡ making g (and_then q (λ a m. require (test a) n p (λ _. f a m))) → y ≡ making g (and_then (requiring test n p q) f)
  requiring_then' g e = rw requiring_is e

pub requiring_value : {A : Type 0} (test : A → Bool) (n p : ℕ) (q : Parsed A) {y : Parsed A} → y ≡ and_then q (λ a m. require (test a) n p (λ _. done a m)) → y ≡ requiring test n p q
unfolding requiring
requiring_value test n p q e = e

pub made : {A B : Type 0} (g : A → B) {a : A} {n : ℕ} {y : Parsed B} → y ≡ done (g a) n → y ≡ making g (done a n)
unfolding making
made g e = e

pub twice : {A B C : Type 0} (g : B → C) (h : A → B) (p : Parsed A) {y : Parsed C} → y ≡ making (λ a. g (h a)) p → y ≡ making g (making h p)
unfolding making
twice g h (done a n) e = e
twice g h (refused k m) e = e

pub ruleset tests = (le-leb, lt-leb, lt-ltb, le-ltb, eq-eqb, ne_eqb)

pub ruleset steps = (byte_then, byte_stop, number_then, number_stop, byte_then', byte_stop', number_then', number_stop', byte_makes, byte_makes_no, number_makes, number_makes_no, next_then, next_stop, next_then', next_stop', passes, fails, passes', fails', requiring_value, requiring_then, requiring_then', made, twice, tests)
