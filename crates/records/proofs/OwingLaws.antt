-- Owing more expressions than there are records: how many is the same.
use Prim.Native.Nat.{ℕ, ◌+◌, ◌-◌, ◌/◌, ◌≤◌, ◌<◌}
use mathlib.Core.Bool.{Bool, true, false}
use mathlib.Core.List.{List, [], ◌∷◌}
use mathlib.Core.Path.{◌≡◌, refl, sym, ◌∙◌, ap}
use native.Mathlib.Omega.{arith}
use lib.Dec.{leb, eqb}
use lib.ListN.{length}
use borrow.Author.Tests.{lt-ltb, ne_eqb, leb-true, leb-false}
use Rattle.format.specs.Parsed.{Parsed, done, refused, and_then, making, require}
use Rattle.records.specs.declared.Record.{Record}
use Rattle.records.specs.declared.Before.{Before}
use Rattle.records.specs.declared.Element.{Element}
use Rattle.records.specs.declared.Element.TheVariants as element
use Rattle.records.specs.Record.{records_from, records_in, whole_records}
use Rattle.records.specs.Grammar.{after, is_owed, element_of, follows, counted, with_element, allowed_as, allowed, taken, nothing, judge, grammar}
use Rattle.records.specs.Judging.{with_owed, capped, finish, rest}

-- Owing more than there are records

require_then : {A B : Type 0} (t : Bool) (n p : ℕ) (k : Unit {0} → Parsed A) (f : A → ℕ → Parsed B)
    → and_then (require t n p k) f ≡ require t n p (λ u. and_then (k u) f)
unfolding and_then require
require_then true n p k f = refl
require_then false n p k f = refl

pub rest_more : (s : List ℕ) (b : Before) (at : ℕ) (r : Record) (rs : List Record)
    → rest s b at (r ∷ rs) ≡ require (allowed b r) 40 at (λ _. rest s (taken b r) (at + 16) rs)
unfolding rest judge
rest_more s b at r rs = require_then (allowed b r) 40 at _ _

pub rest_allowed : (s : List ℕ) (b : Before) (at : ℕ) (r : Record) (rs : List Record) → allowed b r ≡ true
    → rest s b at (r ∷ rs) ≡ rest s (taken b r) (at + 16) rs
unfolding require
rest_allowed s b at r rs h = rest_more s b at r rs ∙ rw h

pub rest_refused : (s : List ℕ) (b : Before) (at : ℕ) (r : Record) (rs : List Record) → allowed b r ≡ false → rest s b at (r ∷ rs) ≡ refused 40 at
unfolding require
rest_refused s b at r rs h = rest_more s b at r rs ∙ rw h

pub rest_end : (s : List ℕ) (b : Before) (at : ℕ) → rest s b at [] ≡ finish s b at
unfolding rest judge and_then
rest_end s b at = refl

finish_owed : (s : List ℕ) (b : Before) (at o p : ℕ) → 0 < o → 0 < p → finish s (with_owed o b) at ≡ finish s (with_owed p b) at
unfolding finish
finish_owed s b at o p lo lp = rw (ne_eqb o 0 (λ e. omega (arith, e, lo)), ne_eqb p 0 (λ e. omega (arith, e, lp)))

after_owed : (least most o : ℕ) (b : Before) → 0 < o → after least most (with_owed o b) ≡ false
unfolding after
after_owed least most o b l = rw (ne_eqb o 0 (λ e. omega (arith, e, l)))

module _ (s : List ℕ) (b : Before) (at : ℕ) (r : Record) (rs : List Record) (o p : ℕ) (lo : length (r ∷ rs) < o) (lp : length (r ∷ rs) < p) where
  abbrev Same : Type 0
  Same = rest s (with_owed o b) at (r ∷ rs) ≡ rest s (with_owed p b) at (r ∷ rs)

  -- Anything but an expression is refused either way.
  closed : (e : Element) → element_of r.kind r.form ≡ e → follows (with_owed o b) e ≡ false → follows (with_owed p b) e ≡ false → Same
  unfolding allowed allowed_as
  closed e h fo fp = rest_refused s (with_owed o b) at r rs (rw (h, fo)) ∙ sym (rest_refused s (with_owed p b) at r rs (rw (h, fp)))

  -- An expression is allowed either way, or refused.
  opened : (e : Element) (n : ℕ) → element_of r.kind r.form ≡ e → follows (with_owed o b) e ≡ true → follows (with_owed p b) e ≡ true
      → counted (with_owed o b) e ≡ counted (with_owed p b) e → with_element (with_owed o b) r e ≡ with_owed (o - 1 + n) b → with_element (with_owed p b) r e ≡ with_owed (p - 1 + n) b
      → rest s (with_owed (o - 1 + n) b) (at + 16) rs ≡ rest s (with_owed (p - 1 + n) b) (at + 16) rs → Same
  unfolding allowed allowed_as taken require
  opened e n h fo fp k wo wp again =
      let z : require (allowed (with_owed o b) r) 40 at (λ _. rest s (taken (with_owed o b) r) (at + 16) rs)
      ≡ require (allowed (with_owed p b) r) 40 at (λ _. rest s (taken (with_owed p b) r) (at + 16) rs) = rw (h, fo, fp, k, wo, wp, again) in
      rest_more s (with_owed o b) at r rs ∙ (z ∙ sym (rest_more s (with_owed p b) at r rs))

owed_yes : (o : ℕ) (b : Before) → 0 < o → is_owed (with_owed o b) ≡ true
unfolding is_owed
owed_yes o b l = lt-ltb 0 o l

capped_few : (left : ℕ) (b : Before) → leb b.owed left ≡ true → capped left b ≡ b
unfolding capped
capped_few left b h = rw h

capped_more : (left : ℕ) (b : Before) → leb b.owed left ≡ false → capped left b ≡ with_owed (left + 1) b
unfolding capped
capped_more left b h = rw h

tests : (t u : Bool) (b : Before) (at : ℕ)
    → ◌≡◌ {A = Parsed (Unit {0})} (making (λ _. tt) (require t 40 at (λ _. require u 40 at (λ _. done b at)))) (require t 40 at (λ _. require u 40 at (λ _. done tt at)))
unfolding making require
tests true true b at = refl
tests true false b at = refl
tests false u b at = refl

ends : (s : List ℕ) (p : Parsed Before)
    → ◌≡◌ {A = Parsed (Unit {0})}
    (making (λ _. tt) (and_then p λ b at. require (leb (length s) at) 40 at λ _. require (eqb b.owed 0) 40 at λ _. done b at))
    (and_then p λ c end. finish s c end)
unfolding and_then finish making
ends s (done b at) = tests (leb (length s) at) (eqb b.owed 0) b at
ends s (refused n p) = refl

-- Where more are owed than there are records, how many is the same.
pub owing_same : (s : List ℕ) (rs : List Record) (b : Before) (at o p : ℕ) → length rs < o → length rs < p
    → rest s (with_owed o b) at rs ≡ rest s (with_owed p b) at rs
owing_same s [] b at o p lo lp = rest_end s (with_owed o b) at ∙ finish_owed s b at o p lo lp ∙ sym (rest_end s (with_owed p b) at)
owing_same s (r ∷ rs) b at o p lo lp =
    go (λ n. owing_same s rs b (at + 16) (o - 1 + n) (p - 1 + n) (omega (arith, lo)) (omega (arith, lp))) (element_of r.kind r.form) refl
  where
    yo : 0 < o
    yo = omega (arith, lo)

    yp : 0 < p
    yp = omega (arith, lp)

    shut : (e : Element) (least most : ℕ) → element_of r.kind r.form ≡ e → follows (with_owed o b) e ≡ after least most (with_owed o b)
        → follows (with_owed p b) e ≡ after least most (with_owed p b) → Same s b at r rs o p lo lp
    shut e least most h fo fp = closed s b at r rs o p lo lp e h (fo ∙ after_owed least most o b yo) (fp ∙ after_owed least most p b yp)

    go : ((n : ℕ) → rest s (with_owed (o - 1 + n) b) (at + 16) rs ≡ rest s (with_owed (p - 1 + n) b) (at + 16) rs) → (e : Element)
        → element_of r.kind r.form ≡ e → Same s b at r rs o p lo lp
    go again element.Register h = shut element.Register 0 2 h refl refl
    go again element.RegisterInstance h = shut element.RegisterInstance 1 2 h refl refl
    go again element.Node h = shut element.Node 0 8 h refl refl
    go again element.NodeInstance h = shut element.NodeInstance 3 8 h refl refl
    go again element.Capture h = shut element.Capture 4 5 h refl refl
    go again element.Rule h = shut element.Rule 4 6 h refl refl
    go again element.Reading h = opened s b at r rs o p lo lp element.Reading 0 h (owed_yes o b yo) (owed_yes p b yp) refl refl refl (again 0)
    go again element.Constant h = opened s b at r rs o p lo lp element.Constant 0 h (owed_yes o b yo) (owed_yes p b yp) refl refl refl (again 0)
    go again element.All h = opened s b at r rs o p lo lp element.All r.amount h (owed_yes o b yo) (owed_yes p b yp) refl refl refl (again r.amount)
    go again element.Any h = opened s b at r rs o p lo lp element.Any r.amount h (owed_yes o b yo) (owed_yes p b yp) refl refl refl (again r.amount)
    go again element.Inverse h = opened s b at r rs o p lo lp element.Inverse 1 h (owed_yes o b yo) (owed_yes p b yp) refl refl refl (again 1)
    go again element.Left h = opened s b at r rs o p lo lp element.Left 1 h (owed_yes o b yo) (owed_yes p b yp) refl refl refl (again 1)
    go again element.Right h = opened s b at r rs o p lo lp element.Right 1 h (owed_yes o b yo) (owed_yes p b yp) refl refl refl (again 1)
    go again element.Child h = shut element.Child 4 8 h refl refl
    go again element.Root h = shut element.Root 0 9 h refl refl
    go again element.Unknown h = closed s b at r rs o p lo lp element.Unknown h refl refl

pub capped_same : (s : List ℕ) (b : Before) (at left : ℕ) (rs : List Record) → length rs ≡ left → rest s (capped left b) at rs ≡ rest s b at rs
capped_same s b at left rs e = go (leb b.owed left) refl
  where
    go : (t : Bool) → leb b.owed left ≡ t → rest s (capped left b) at rs ≡ rest s b at rs
    go true h = ap (λ x. rest s x at rs) (capped_few left b h)
    go false h =
        ap (λ x. rest s x at rs) (capped_more left b h)
        ∙ owing_same s rs b at (left + 1) b.owed (omega (arith, e)) (let l : left < b.owed = leb-false b.owed left h in omega (arith, e, l))

pub capped_owed : (left : ℕ) (b : Before) → (capped left b).owed ≤ left + 1
capped_owed left b = go (leb b.owed left) refl
  where
    go : (t : Bool) → leb b.owed left ≡ t → (capped left b).owed ≤ left + 1
    go true h = rw (capped_few left b h) (let l : b.owed ≤ left = leb-true b.owed left h in omega (arith, l))
    go false h = rw (capped_more left b h) (omega arith)

-- The whole grammar is the rest of all records.
pub grammar_rest : (s : List ℕ) → ◌≡◌ {A = Parsed (Unit {0})} (making (λ _. tt) (grammar s)) (rest s nothing 0 (records_from s (length s / 16) 0))
unfolding grammar rest records_in whole_records
grammar_rest s = ends s (judge nothing 0 (records_from s (length s / 16) 0))
