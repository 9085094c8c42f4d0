-- The laws of marks and of lists of IDs.
use Prim.Native.Nat.{ℕ, zero, suc, max, ◌+◌, ◌^◌, ◌≤◌, ◌<◌}
use mathlib.Core.Path.{◌≡◌, refl, sym, ◌∙◌, ap, subst, fun_ext}
use mathlib.Core.Bool.{Bool, true, false, not, ◌||◌}
use mathlib.Core.List.{List, [], ◌∷◌, ◌++◌}
use mathlib.Core.Logic.{⊎_elim}
use native.Mathlib.Numerals.{add-one}
use native.Mathlib.Omega.{arith}
use borrow.Author.Tests.{lt-ltb, le-ltb, ltb-true, le-leb, lt-leb, eq-eqb, ne_eqb}
use lib.ListN.{length, take, get_or, set, replicate, get_or-eq_default}
use lib.Seq.{get_or-set_same, get_or-set_other, take-suc-set}
use lib.Dec.{ltb, leb, eqb}
use Rattle.numbers.proofs.Bools.{either, clash, or_left, same?}
use Rattle.format.specs.declared.Refusal.{Refusal}
use Rattle.format.specs.Parsed.{Parsed, done, refused, and_then, requiring}
use Rattle.format.specs.Fields.{field_at, member, fresh}
use Rattle.format.proofs.ParsedLaws.{requiring_in}
use Rattle.format.specs.Lookup.{some, position}
use Rattle.format.proofs.FaultsLaws.{below?}
use Rattle.format.proofs.PositionsLaws.{some_position}
use Rattle.fields.specs.declared.RisingId.{RisingId}
use Rattle.fields.specs.Rising.{IdTold}
use Rattle.fields.specs.Views.{refused_by}
use Rattle.fields.specs.Seen.{unmarked, new_after, instance_number_at, Tells, Largest, Below}

pub unmarked_beyond : (table : List ℕ) (x : ℕ) → length table ≤ x → false ≡ not (unmarked table x)
unfolding unmarked
unmarked_beyond table x h = ap (λ k. not (eqb k 0)) (sym (get_or-eq_default table 0 h))

-- An ID stands in a list exactly where its position is inside.
member_some : (x : ℕ) (ids : List ℕ) → member x ids ≡ some (λ y. eqb y x) ids
unfolding member some
member_some x [] = refl
member_some x (i ∷ ids) = ap (λ b. b || member x ids) (eqb_swap x i) ∙ ap (λ b. eqb i x || b) (member_some x ids)
  where
    eqb_swap : (a b : ℕ) → eqb a b ≡ eqb b a
    eqb_swap a b = ⊎_elim (λ e. eq-eqb a b e ∙ sym (eq-eqb b a (sym e))) (λ e. ne_eqb a b e ∙ sym (ne_eqb b a (λ g. e (sym g)))) (same? a b)

member_position : (x : ℕ) (ids : List ℕ) → member x ids ≡ ltb (position (λ y. eqb y x) ids) (length ids)
member_position x ids = member_some x ids ∙ some_position (λ y. eqb y x) ids

-- What a mark or a list says of a number.
module _ (table : List ℕ) (x : ℕ) {b : Bool} where
  pub mark_none : b ≡ not (unmarked table x) → b ≡ false → unmarked table x ≡ true
  mark_none e g = ⊎_elim (λ h. h) (λ h. clash (e ∙ ap not h) g) (either (unmarked table x))

  pub mark_there : b ≡ not (unmarked table x) → b ≡ true → unmarked table x ≡ false
  mark_there e g = ⊎_elim (λ h. clash g (e ∙ ap not h)) (λ h. h) (either (unmarked table x))

-- An ID above the largest is new, and another is looked for.
module _ (largest : ℕ) (ids : List ℕ) (x : ℕ) where
  pub new_above : largest < x → true ≡ new_after largest ids x
  unfolding new_after
  new_above h = sym (or_left (fresh true ids x) (lt-ltb largest x h))

  pub new_found : {p : ℕ} → x ≤ largest → p ≡ position (λ y. eqb y x) ids → leb (length ids) p ≡ new_after largest ids x
  unfolding new_after fresh
  new_found {p} h e =
      rw (le-ltb largest x h, member_position x ids, ← e)
      (⊎_elim (λ l. lt-leb (length ids) p l ∙ sym (ap not (lt-ltb p (length ids) l))) (λ l. le-leb (length ids) p l ∙ sym (ap not (le-ltb p (length ids) l))) (below? p (length ids)))

  pub new_yes : {b : Bool} → b ≡ new_after largest ids x → not b ≡ false → new_after largest ids x ≡ true
  new_yes e g = ⊎_elim (λ h. h) (λ h. clash (ap not (e ∙ h)) g) (either (new_after largest ids x))

  pub new_no : {b : Bool} → b ≡ new_after largest ids x → not b ≡ true → new_after largest ids x ≡ false
  new_no e g = ⊎_elim (λ h. clash g (ap not (e ∙ h))) (λ h. h) (either (new_after largest ids x))

pub ruleset seen-laws = (mark_none, mark_there, new_yes, new_no)

-- No number has come.
pub tells_none : (n : ℕ) → Tells (unmarked (replicate n 0)) []
unfolding unmarked fresh member
tells_none n = record { tells = λ x. ap (λ v. eqb v 0) (go n x) }
  where
    go : (m x : ℕ) → ◌≡◌ {A = ℕ} (get_or (replicate m 0) x 0) 0
    go zero x = refl
    go (suc m) zero = refl
    go (suc m) (suc x) = go m x

-- A number comes, and is marked.
module _ (table numbers : List ℕ) (v : ℕ) (h : v < length table) where
  mark_same : unmarked (set table v 1) v ≡ fresh true (v ∷ numbers) v
  unfolding unmarked fresh member
  mark_same = ap (λ k. eqb k 0) (get_or-set_same table v 1 0 h) ∙ sym (ap (λ b. not (b || member v numbers)) (eq-eqb v v refl))

  mark_other : (x : ℕ) → (x ≡ v → ⊥) → unmarked table x ≡ fresh true numbers x → unmarked (set table v 1) x ≡ fresh true (v ∷ numbers) x
  unfolding unmarked fresh member
  mark_other x q e = ap (λ k. eqb k 0) (get_or-set_other table v x 1 0 q) ∙ e ∙ sym (ap (λ b. not (b || member x numbers)) (ne_eqb x v q))

  pub tells_mark : {w : ℕ} → Tells (unmarked table) numbers → w ≡ v → Tells (unmarked (set table v 1)) (w ∷ numbers)
  tells_mark t e = rw e (record { tells = λ x. ⊎_elim (λ p. rw p mark_same) (λ q. mark_other x q (t.tells x)) (same? x v) })

-- A test that tells which numbers are new stands for them.
pub tells_is : {new : ℕ → Bool} {numbers : List ℕ} → Tells new numbers → new ≡ fresh true numbers
tells_is t = fun_ext t.tells

pub number_told : (s : List ℕ) (at limit : ℕ) {new : ℕ → Bool} {numbers : List ℕ} {begun m : ℕ} → Tells new numbers → begun ≡ m → instance_number_at s new begun limit at ≡ instance_number_at s (fresh true numbers) m limit at
number_told s at limit t e = rw (tells_is t, e)

-- An ID comes, and is put after those before it.
member_end_is : (x v : ℕ) (ids : List ℕ) → member x (ids ++ (v ∷ [])) ≡ eqb x v || member x ids
unfolding member
member_end_is x v [] = refl
member_end_is x v (i ∷ ids) = ap (λ b. eqb x i || b) (member_end_is x v ids) ∙ swap (eqb x i) (eqb x v) (member x ids)
  where
    swap : (a b d : Bool) → a || (b || d) ≡ b || (a || d)
    swap true true d = refl
    swap true false d = refl
    swap false true d = refl
    swap false false d = refl

or_told : (a b d : Bool) → not b ≡ not d → not (a || b) ≡ not (a || d)
or_told true b d e = refl
or_told false b d e = e

put_is : (ids numbers : List ℕ) (n v x : ℕ) → n < length ids → fresh true (take n ids) x ≡ fresh true numbers x → fresh true (take (suc n) (set ids n v)) x ≡ fresh true (v ∷ numbers) x
unfolding fresh member
put_is ids numbers n v x h g =
    ap (λ l. not (member x l)) (take-suc-set ids n v h) ∙ ap not (member_end_is x v (take n ids)) ∙ or_told (eqb x v) (member x (take n ids)) (member x numbers) g

pub tells_nothing : (ids : List ℕ) → Tells (fresh true (take 0 ids)) []
tells_nothing ids = record { tells = λ x. refl }

pub tells_put : (ids numbers : List ℕ) (n v : ℕ) {w : ℕ} → n < length ids → Tells (fresh true (take n ids)) numbers → w ≡ v → Tells (fresh true (take (n + 1) (set ids n v))) (w ∷ numbers)
tells_put ids numbers n v h t e = rw (e, add-one) (record { tells = λ x. put_is ids numbers n v x h (t.tells x) })

-- The largest ID decides for those above it.
pub largest_nothing : (largest : ℕ) → Largest largest []
unfolding fresh member
largest_nothing largest = record { above = λ x h. refl }

put_above : (numbers : List ℕ) (v x : ℕ) → (x ≡ v → ⊥) → fresh true numbers x ≡ true → fresh true (v ∷ numbers) x ≡ true
unfolding fresh member
put_above numbers v x h e = rw (ne_eqb x v h) e

pub largest_put : (largest : ℕ) (numbers : List ℕ) (v : ℕ) {w m : ℕ} → Largest largest numbers → w ≡ v → m ≡ max largest v → Largest m (w ∷ numbers)
largest_put largest numbers v {w} t e g = record { above = λ x h. put_above numbers w x (λ i. omega arith) (t.above x (omega arith)) }

pub tells_new : (largest : ℕ) (ids : List ℕ) {numbers : List ℕ} → Tells (fresh true ids) numbers → Largest largest numbers → Tells (new_after largest ids) numbers
unfolding new_after
tells_new largest ids {numbers} t l = record { tells = λ x. ⊎_elim (λ h. or_left (fresh true ids x) h ∙ sym (l.above x (ltb-true largest x h))) (λ h. rw h (t.tells x)) (either (ltb largest x)) }

-- Numbers that rise: every number from a bound on is new.
pub below_nothing : (bound : ℕ) → Below bound []
unfolding fresh member
below_nothing bound = record { above = λ x h. refl }

pub below_put : {bound : ℕ} (numbers : List ℕ) (v : ℕ) {w m : ℕ} → Below bound numbers → bound ≤ v → w ≡ v → m ≡ v + 1 → Below m (w ∷ numbers)
below_put numbers v {w} b h e g = record { above = λ x l. put_above numbers w x (λ i. omega arith) (b.above x (omega arith)) }

-- An ID that is not below the bound is read the same after those before it, and so is what refuses it.
module _ (s : List ℕ) (at width : ℕ) {bound : ℕ} (numbers : List ℕ) (b : Below bound numbers) where
  pub id_done : {v m : ℕ} → done v m ≡ field_at s at width → bound ≤ v → done v m ≡ requiring (fresh true numbers) 7 at (field_at s at width)
  id_done e h = sym (requiring_in _ _ _ _ (sym e) (b.above _ h))

  pub id_refused : {k m : ℕ} → refused k m ≡ field_at s at width → refused k m ≡ requiring (fresh true numbers) 7 at (field_at s at width)
  unfolding requiring and_then
  id_refused e = rw (← e)

-- What is known of an ID that does not fall.
pub id_rose : (width bound : ℕ) (p : Parsed ℕ) {x : RisingId} {i a : ℕ} → x ≡ RisingId.Id i a → IdTold width bound x p → (done i a ≡ p) × (bound ≤ i) × (i < 256 ^ width)
id_rose width bound p e t = subst (λ y. IdTold width bound y p) e t

pub id_new : (width bound : ℕ) (p : Parsed ℕ) {x : RisingId} {i a : ℕ} → x ≡ RisingId.Id i a → IdTold width bound x p → done i a ≡ p
id_new width bound p e t = (id_rose width bound p e t).0

pub id_cut : (width bound : ℕ) (p : Parsed ℕ) {x : RisingId} {r : Refusal} → x ≡ RisingId.Refused r → IdTold width bound x p → refused_by r ≡ p
id_cut width bound p e t = subst (λ y. IdTold width bound y p) e t
