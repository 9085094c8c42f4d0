-- Isolation by tables that the reader fills: room, and the answer of a class of tables.
use Rattle.std.specs.Prelude.{Result, Ok, Err}
use Prim.Native.Nat.{ℕ, ◌*◌, ◌≤◌, ◌<◌}
use mathlib.Core.Bool.{Bool, true, false, cond, not, ◌&&◌}
use mathlib.Core.List.{List}
use mathlib.Core.Logic.{⊎_elim}
use mathlib.Core.Path.{◌≡◌, refl, sym, ◌∙◌, ap}
use native.Mathlib.Omega.{arith}
use lib.Dec.{leb, eqb}
use lib.ListN.{length, take, replicate}
use borrow.Author.Tests.{le-leb, lt-leb, leb-true, eq-eqb, eqb-true}
use Rattle.limits.specs.Limits.{Limits, limits_of}
use Rattle.limits.specs.Classes.{Class}
use Rattle.limits.specs.declared.LimitSet.{LimitSet}
use Rattle.numbers.specs.BigEndian.{Bytes}
use Rattle.numbers.proofs.Bools.{clash, and_left, and_right}
use Rattle.format.specs.declared.Refusal.{Refusal}
use Rattle.format.specs.Parsed.{refused, making}
use Rattle.format.specs.Refusals.{number_of}
use Rattle.format.specs.Verdict.{verdict, counts_of}
use Rattle.reader.specs.declared.Layout.{Layout}
use Rattle.reader.specs.declared.LayoutRead.{LayoutRead}
use Rattle.reader.specs.Classes.{class_room}
use Rattle.reader.specs.Examined.{Lengths, lengths_of, room_for, Examined}
use Rattle.reader.specs.Layout.{layout_parsed, layout_values}
use Rattle.reader.proofs.ClassesLaws.{class_lengths, full_room}
use Rattle.reader.proofs.ExaminedLaws.{roomy, room_laid, done_room, refused_room}
use Rattle.isolation.specs.declared.Isolation.{Isolation}
use Rattle.isolation.specs.Outcome.{Outcome, refused_outcome, outcome_of, is_exact, isolate}
use Rattle.isolation.specs.Ready.{Tabled, both_fit, tables_fit, room_in}
use Rattle.isolation.proofs.OutcomeLaws.{outcome_cases, succeeds_in}

-- Room for the tables of one answer

module _ (m n keys nodes places active unread : ℕ) where
  pub short_keys : keys < m → false ≡ tables_fit m n keys nodes places active unread
  unfolding tables_fit
  short_keys h = rw (lt-leb _ _ h)

  module _ (a : m ≤ keys) where
    pub short_nodes : nodes < n → false ≡ tables_fit m n keys nodes places active unread
    unfolding tables_fit
    short_nodes h = rw (le-leb _ _ a, lt-leb _ _ h)

    module _ (b : n ≤ nodes) where
      pub short_places : places < n → false ≡ tables_fit m n keys nodes places active unread
      unfolding tables_fit
      short_places h = rw (le-leb _ _ a, le-leb _ _ b, lt-leb _ _ h)

      module _ (d : n ≤ places) where
        pub rest_room : {t : Bool} → t ≡ both_fit n active unread → t ≡ tables_fit m n keys nodes places active unread
        unfolding tables_fit
        rest_room e = rw (le-leb _ _ a, le-leb _ _ b, le-leb _ _ d) e

        pub short_active : active < n → false ≡ tables_fit m n keys nodes places active unread
        unfolding both_fit
        short_active h = rest_room (rw (lt-leb _ _ h))

        pub unread_room : n ≤ active → leb n unread ≡ tables_fit m n keys nodes places active unread
        unfolding both_fit
        unread_room h = rest_room (rw (le-leb _ _ h))

  pub record Roomy : Type 0 where
    pub keys_in : m ≤ keys
    pub nodes-in : n ≤ nodes
    pub places_in : n ≤ places
    pub active_in : n ≤ active
    pub unread-in : n ≤ unread

  pub has-room : {t : Bool} → t ≡ tables_fit m n keys nodes places active unread → t ≡ true → Roomy
  unfolding tables_fit both_fit
  has-room e h =
      let r₀ = sym e ∙ h in
      let r₁ = and_right (leb m keys) _ r₀ in
      let r₂ = and_right (leb n nodes) _ r₁ in
      let r₃ = and_right (leb n places) _ r₂ in
      record {
        keys_in = leb-true _ _ (and_left _ _ r₀);
        nodes-in = leb-true _ _ (and_left _ _ r₁);
        places_in = leb-true _ _ (and_left _ _ r₂);
        active_in = leb-true _ _ (and_left _ _ r₃);
        unread-in = leb-true _ _ (and_right (leb n active) _ r₃);
      }

  -- With room the answer is exact.
  pub answer_is : Roomy → {A : Type 0} {o : A} (x s : A) → o ≡ x → o ≡ cond (both_fit n active unread) x s
  unfolding both_fit
  answer_is r x s e = rw (le-leb _ _ r.active_in, le-leb _ _ r.unread-in) e

  -- Where it is the words or the places of unread registers that have none, it is not.
  pub answer_short : m ≤ keys → n ≤ nodes → n ≤ places → {t : Bool} → t ≡ tables_fit m n keys nodes places active unread → t ≡ false
      → {A : Type 0} (x s : A) → s ≡ cond (both_fit n active unread) x s
  answer_short a b d {t} e h x s =
      let z : both_fit n active unread ≡ false = rest_room a b d refl ∙ sym e ∙ h in
      ap (λ b. cond b x s) (sym z)

-- The tables of the reader, cut to the file's instances.
abbrev pub cut_tabled : (of : LimitSet) (file : List ℕ) (l : Layout) (keys index names places child : List ℕ) → Examined of file l keys index names places child
    → Tabled of file (take l.register_instances keys) index (take l.node_instances names) (take l.node_instances places) child
cut_tabled of file l keys index names places child x =
    record {
      chip = x.chip;
      end = x.end;
      accepted = x.accepted;
      keys_are = x.keys_are;
      indexed = x.indexed;
      nodes_are = x.names_are;
      places_are = x.places_are;
      rest = x.rest;
      children_are = x.children_are;
    }

-- Isolation in lent tables

module _ {A : Type 0} (of : LimitSet) (t : Lengths) (file : List ℕ) (unread : ℕ) (x s : A) where
  abbrev Given : A → Type 0
  Given o = o ≡ cond (room_in (limits_of of) t unread file) x s

  pub unread_short : unread < t.names → Given s
  unfolding room_in
  unread_short h = rw (lt-leb _ _ h)

  module _ (long : t.names ≤ unread) (r : LayoutRead) (is : making layout_values (layout_parsed r) ≡ cond (room_for (limits_of of) t file) (making counts_of (verdict (limits_of of) file)) (refused 43 0)) where
    given : (b : Bool) → room_for (limits_of of) t file ≡ b → {o : A} → o ≡ cond b x s → Given o
    unfolding room_in
    given b e d = rw (le-leb _ _ long, e) d

    pub given_answer : {l : Layout} → r ≡ LayoutRead.Done l → {keys index names places child : List ℕ} → Examined of file l keys index names places child → (wanted left : ℕ) → wanted ≡ t.wanted → left ≡ unread → {o : A}
        → o ≡ cond (both_fit l.node_instances wanted left) x s → Given o
    unfolding both_fit
    given_answer {l} e y wanted left same kept d =
        let room = done_room of t file is e in
        let z = roomy t l.register_instances l.node_instances (sym room ∙ room_laid of t file y.whole) in
        let a : l.node_instances ≤ wanted = omega (arith, z.wanted) in
        let b : l.node_instances ≤ left = omega (arith, z.names, long, kept) in
        given true room (d ∙ rw (le-leb _ _ a, le-leb _ _ b))

    pub given_refused : {y : Refusal} → r ≡ LayoutRead.Refused y → (stop : ℕ → ℕ → A) → s ≡ stop 43 0
        → (verdict (limits_of of) file ≡ refused (number_of y.kind) y.place → stop (number_of y.kind) y.place ≡ x) → Given (stop (number_of y.kind) y.place)
    given_refused e stop short exact =
        ⊎_elim
        (λ z. given true z.0 (exact z.1))
        (λ z. given false z.0 (rw (z.1, z.2) (sym short)))
        (refused_room of t file is e)

-- A class of tables

pub class_outcome : {A : Type 0} (limits : Limits) (k : Class) (file : List ℕ) {o : A} (x s : A)
    → o ≡ cond (room_in limits (lengths_of (replicate k.registers 0) (replicate k.registers 0) (replicate k.nodes 0) (replicate k.nodes 0) (replicate k.nodes 0) (replicate (k.nodes * 64) 0)) (length (replicate {A = ℕ} k.nodes 0)) file) x s
    → o ≡ cond (room_for limits (class_room k) file) x s
unfolding room_in
class_outcome limits k file {o} x s e =
    let h : leb (length (replicate {A = ℕ} k.nodes 0)) (length (replicate {A = ℕ} k.nodes 0)) ≡ true = le-leb _ _ (let z : length (replicate {A = ℕ} k.nodes 0) ≤ length (replicate {A = ℕ} k.nodes 0) = omega arith in z) in
    e ∙ ap (λ b. cond (b && room_for limits (lengths_of (replicate k.registers 0) (replicate k.registers 0) (replicate k.nodes 0) (replicate k.nodes 0) (replicate k.nodes 0) (replicate (k.nodes * 64) 0)) file) x s) h
    ∙ ap (λ t. cond (room_for limits t file) x s) (class_lengths k)

-- An answer of a class that is not 43 is exact; after 43 the list is as it was.
module _ (limits : Limits) (r : Result Isolation Refusal) (t : Lengths) (file : List ℕ) (after list : List ℕ) (x : Outcome) (is : outcome_of r after ≡ cond (room_for limits t file) x (refused_outcome 43 0 list)) where
  pub class_exact : is_exact r ≡ true → outcome_of r after ≡ x
  unfolding is_exact
  class_exact h = go r (room_for limits t file) is h
    where
      go : (r : Result Isolation Refusal) (b : Bool) → outcome_of r after ≡ cond b x (refused_outcome 43 0 list) → is_exact r ≡ true → outcome_of r after ≡ x
      go r true e h = e
      go (Ok i) false e h = let z : ◌≡◌ {A = ℕ} 0 43 = ap (λ o. o.number) e in absurd (omega arith)
      go (Err y) false e h = clash h (ap not (eq-eqb _ 43 (ap (λ o. o.number) e)))

  pub class_kept : (x.number ≡ 43 → ⊥) → is_exact r ≡ false → after ≡ list
  unfolding is_exact
  class_kept n h = go r (room_for limits t file) is h
    where
      shorter : (b : Bool) → not b ≡ false → b ≡ true
      shorter true e = refl
      shorter false e = sym e

      go : (r : Result Isolation Refusal) (b : Bool) → outcome_of r after ≡ cond b x (refused_outcome 43 0 list) → is_exact r ≡ false → after ≡ list
      go (Ok i) b e h = clash refl h
      go (Err y) true e h = absurd (n (sym (ap (λ o. o.number) e) ∙ eqb-true _ 43 (shorter (eqb (number_of y.kind) 43) h)))
      go (Err y) false e h = ap (λ o. o.list) e

-- A class for as many instances as the limits let a file have never is too short.
pub full_outcome : (limits : Limits) (k : Class) → limits.register_instances ≤ k.registers → limits.node_instances ≤ k.nodes → (file : List ℕ) → Bytes file → {o : Outcome} (x s : Outcome)
    → o ≡ cond (room_for limits (class_room k) file) x s → o ≡ x
full_outcome limits k registers nodes file bytes x s e = e ∙ ap (λ b. cond b x s) (full_room limits k registers nodes file bytes)

-- Isolation never answers 43.
pub isolate_number : (limits : Limits) (file : List ℕ) (attention : ℕ) (words read list : List ℕ) → (isolate limits file attention words read list).number ≡ 43 → ⊥
isolate_number limits file attention words read list e =
    ⊎_elim
    (λ r. let z : r.number ≡ 43 = sym (ap (λ o. o.number) r.is) ∙ e in omega (arith, r.high))
    (λ s. let z : ◌≡◌ {A = ℕ} 0 43 = sym (ap (λ o. o.number) (succeeds_in limits file attention words read list s)) ∙ e in omega arith)
    (outcome_cases limits file attention words read list)
