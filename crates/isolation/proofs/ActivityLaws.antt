-- The laws of the code that finds active bits and unread registers.
use Prim.Native.Nat.{ℕ, zero, suc, ◌+◌, ◌-◌, ◌≤◌, ◌<◌}
use mathlib.Core.Bool.{Bool, true, false, not, ◌||◌}
use mathlib.Core.List.{List, [], ◌∷◌}
use mathlib.Core.Logic.{⊎_elim}
use mathlib.Core.Path.{◌≡◌, refl, sym, ◌∙◌, ap, subst}
use native.Mathlib.Numerals.{add-one}
use native.Mathlib.Omega.{arith}
use lib.Dec.{ltb}
use lib.ListN.{length, get_or}
use borrow.Author.Tests.{eq-eqb, ne_eqb, le-ltb, lt-ltb}
use Rattle.numbers.proofs.Bools.{clash}
use Rattle.format.specs.ExpressionLayout.{expr_at}
use Rattle.limits.specs.Limits.{levels}
use Rattle.format.specs.Lookup.{some, gathered, NodeEntry}
use Rattle.format.specs.Parsed.{done}
use Rattle.format.specs.References.{Fault}
use Rattle.format.specs.Tree.{Expr, Rule}
use Rattle.format.proofs.FaultsLaws.{below?}
use Rattle.format.proofs.GatheredLaws.{gathered_one}
use Rattle.reader.specs.Columns.{expression_place}
use Rattle.evaluation.specs.declared.Value.{Value}
use Rattle.evaluation.specs.Value.{faulty, first_place, valued}
use Rattle.isolation.specs.declared.Activity.{Activity}
use Rattle.format.specs.Finding.{rule_for}
use Rattle.format.proofs.FindingLaws.{rule_cases}
use Rattle.listing.specs.Rows.{is_done}
use Rattle.isolation.specs.Activity.{unread_by, expr_word, rule_word, active_word, unread_place, activity_of, inactive, RuleAgain, RulesAgain, unread_at, first_unread, fitting}

-- One rule

-- Where nothing is at fault there is no first place.
pub faultless_place : (fs : List Fault) → faulty fs ≡ false → first_place fs ≡ 0
unfolding faulty first_place
faultless_place [] e = refl
faultless_place (f ∷ fs) e = clash refl e

module _ (s : List ℕ) (at : ℕ) (keys words read : List ℕ) {v : Value}
    (gives : (e : Expr) (m : ℕ) → expr_at s 16 at ≡ done e m → v ≡ valued 16 keys words read e m) (e : Expr) (m : ℕ) (q : expr_at s levels at ≡ done e m) where
  value_is : v ≡ valued 16 keys words read e m
  unfolding levels
  value_is = gives e m q

  pub unread_yes : v.unread ≡ true → ◌≡◌ {A = Activity} (record { word = 0; unread = v.place }) (activity_of keys words read e)
  unfolding valued activity_of expr_word unread_by
  unread_yes h =
      let f : faulty (unread_by keys read e) ≡ true = sym (ap (λ x. x.unread) value_is) ∙ h in
      let p : v.place ≡ first_place (unread_by keys read e) = ap (λ x. x.place) value_is in
      rw (f, p)

  pub unread_no : v.unread ≡ false → ◌≡◌ {A = Activity} (record { word = v.word; unread = 0 }) (activity_of keys words read e)
  unfolding levels valued activity_of expr_word unread_by
  unread_no h =
      let f : faulty (unread_by keys read e) ≡ false = sym (ap (λ x. x.unread) value_is) ∙ h in
      let w : v.word ≡ (valued 16 keys words read e m).word = ap (λ x. x.word) value_is in
      rw (f, faultless_place (unread_by keys read e) f, w)

-- The rule of a node instance, and its place

place_none : (rs : List Rule) → rs ≡ [] → expression_place rs ≡ 0
unfolding expression_place
place_none rs e = rw e

place_one : (rs : List Rule) (r : Rule) → rs ≡ r ∷ [] → expression_place rs ≡ r.place
unfolding expression_place
place_one rs r e = rw e

module _ (keys words read : List ℕ) (attention : ℕ) (e : NodeEntry) where
  pub no_rule : rule_for attention e.instance ≡ [] → (active_word keys words read attention e ≡ 0) × (unread_place keys read attention e ≡ 0)
  unfolding active_word unread_place rule_word gathered first_place
  no_rule q = (rw q, rw q)

  pub one_rule : (r : Rule) → rule_for attention e.instance ≡ r ∷ []
      → (active_word keys words read attention e ≡ expr_word keys words read r.expression) × (unread_place keys read attention e ≡ first_place (unread_by keys read r.expression))
  unfolding active_word unread_place rule_word
  one_rule r q = (rw q, rw q (ap first_place (gathered_one (λ r. unread_by keys read r.expression) r)))

  word_of : (x : Expr) {a : Activity} → a ≡ activity_of keys words read x → a.word ≡ expr_word keys words read x
  unfolding activity_of
  word_of x d = ap (λ y. y.word) d

  place_of : (x : Expr) {a : Activity} → a ≡ activity_of keys words read x → a.unread ≡ first_place (unread_by keys read x)
  unfolding activity_of
  place_of x d = ap (λ y. y.unread) d

  -- What the code finds at the place of the rule.
  pub entry-active : (s : List ℕ) → RulesAgain s e → {p : ℕ} → p ≡ expression_place (rule_for attention e.instance) → {a : Activity} → (p ≡ 0 → a ≡ inactive)
      → ((x : Expr) (m : ℕ) → (p ≡ 0 → ⊥) → expr_at s levels p ≡ done x m → a ≡ activity_of keys words read x)
      → (a.word ≡ active_word keys words read attention e) × (a.unread ≡ unread_place keys read attention e)
  entry-active s again {p} place {a} none some =
      ⊎_elim
      (λ z.
      let d = none (place ∙ place_none _ z) in
      let o = no_rule z in
      (ap (λ x. x.word) d ∙ sym o.0, ap (λ x. x.unread) d ∙ sym o.1))
      (λ z.
      let r = z.0 in
      let w : p ≡ r.place = place ∙ place_one _ r z.2 in
      let d = some r.expression z.1.next (λ q. z.1.placed (sym w ∙ q)) (rw w z.1.read) in
      let o = one_rule r z.2 in
      (word_of r.expression d ∙ sym o.0, place_of r.expression d ∙ sym o.1))
      (rule_cases (RuleAgain s) attention e.instance again)

-- The first unread register of done node instances

module _ (marks unread : List ℕ) where
  pub at_done : (i : ℕ) {x : ℕ} → get_or marks i 0 ≡ 2 → x ≡ get_or unread i 0 → x ≡ unread_at marks unread i
  unfolding unread_at is_done
  at_done i e d = rw (eq-eqb _ 2 e) d

  pub at_other : (i : ℕ) → (get_or marks i 0 ≡ 2 → ⊥) → 0 ≡ unread_at marks unread i
  unfolding unread_at is_done
  at_other i e = rw (ne_eqb _ 2 e)

  pub first_begin : first_unread marks unread 0 ≡ 0
  unfolding first_unread
  first_begin = refl

  first-suc : (i : ℕ) → first_unread marks unread i ≡ 0 → first_unread marks unread (suc i) ≡ unread_at marks unread i
  unfolding first_unread
  first-suc i e = rw (eq-eqb _ 0 e)

  pub first_more : (i : ℕ) {x : ℕ} → first_unread marks unread i ≡ 0 → x ≡ unread_at marks unread i → x ≡ 0 → first_unread marks unread (i + 1) ≡ 0
  first_more i e d z = rw add-one (first-suc i e ∙ sym d ∙ z)

  first_kept : (n : ℕ) {x : ℕ} → first_unread marks unread n ≡ x → (x ≡ 0 → ⊥) → first_unread marks unread (suc n) ≡ x
  unfolding first_unread
  first_kept n e h = rw (e, ne_eqb _ 0 h)

  first_stays : (i k : ℕ) {x : ℕ} → first_unread marks unread i ≡ x → (x ≡ 0 → ⊥) → first_unread marks unread (k + i) ≡ x
  first_stays i zero e h = ap (first_unread marks unread) (let z : 0 + i ≡ i = omega arith in z) ∙ e
  first_stays i (suc k) e h = ap (first_unread marks unread) (let z : suc k + i ≡ suc (k + i) = omega arith in z) ∙ first_kept (k + i) (first_stays i k e h) h

  pub first_found : (i n : ℕ) {x : ℕ} → i < n → first_unread marks unread i ≡ 0 → x ≡ unread_at marks unread i → (x ≡ 0 → ⊥) → x ≡ first_unread marks unread n
  first_found i n {x} h e d z =
      let w : (n - suc i) + suc i ≡ n = omega arith in
      sym (subst (λ k. first_unread marks unread k ≡ x) w (first_stays (suc i) (n - suc i) (first-suc i e ∙ sym d) z))

  pub first_end : (i n : ℕ) → i ≤ n → n ≤ i → first_unread marks unread i ≡ 0 → 0 ≡ first_unread marks unread n
  first_end i n l h e = let w : i ≡ n = omega arith in sym (subst (λ k. first_unread marks unread k ≡ 0) w e)

-- Read bytes

pub known_no : (read : List ℕ) (i : ℕ) → i < length read → 1 < get_or read i 0 → false ≡ not (some (ltb 1) read)
unfolding some
known_no [] i h l = absurd (omega arith)
known_no (b ∷ read) zero h l = rw (lt-ltb 1 b l)
known_no (b ∷ read) (suc i) h l = go (ltb 1 b) (known_no read i (omega arith) l)
  where
    go : (t : Bool) → false ≡ not (some (ltb 1) read) → false ≡ not (t || some (ltb 1) read)
    go true e = refl
    go false e = e

pub known_yes : (read : List ℕ) → ((k : ℕ) → k < length read → 1 < get_or read k 0 → ⊥) → true ≡ not (some (ltb 1) read)
unfolding some
known_yes [] h = refl
known_yes (b ∷ read) h =
    rw (le-ltb 1 b (small (λ l. h 0 (omega arith) l))) (known_yes read (λ k l. h (suc k) (omega arith)))
  where
    small : (1 < b → ⊥) → b ≤ 1
    small n = ⊎_elim (λ l. absurd (n l)) (λ l. l) (below? 1 b)

module _ (m : ℕ) (words read : List ℕ) where
  pub words_other : (length words ≡ m → ⊥) → false ≡ fitting m words read
  unfolding fitting
  words_other h = rw (ne_eqb _ m h)

  pub read_other : length words ≡ m → (length read ≡ m → ⊥) → false ≡ fitting m words read
  unfolding fitting
  read_other e h = rw (eq-eqb _ m e, ne_eqb _ m h)

  pub both-fit : length words ≡ m → length read ≡ m → {t : Bool} → t ≡ not (some (ltb 1) read) → t ≡ fitting m words read
  unfolding fitting
  both-fit e d h = rw (eq-eqb _ m e, eq-eqb _ m d) h
