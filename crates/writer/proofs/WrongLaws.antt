-- The grammar takes exactly the records of trees, and refuses all else at the first wrong record, of which there is one.
use Prim.Native.Nat.{ℕ, zero, suc, ◌+◌, ◌*◌, ◌/◌, ◌≤◌, ◌<◌}
use mathlib.Core.Bool.{Bool, true, false}
use mathlib.Core.List.{List, ◌++◌, append_assoc}
use mathlib.Core.Logic.{◌⊎◌, inl, inr}
use mathlib.Core.Path.{◌≡◌, refl, sym, ◌∙◌, ap, subst}
use native.Mathlib.Omega.{arith}
use lib.Dec.{eqb, leb, lit<}
use lib.ListN.{length, take, drop, get_or, take-append-drop}
use lib.Seq.{take-length, take-take, drop_at, take_all}
use borrow.Author.Tests.{leb-true, leb-false, eqb-false}
use Rattle.numbers.specs.BigEndian.{Bytes}
use Rattle.numbers.proofs.Bools.{either}
use Rattle.format.specs.Lookup.{gathered}
use Rattle.format.specs.Parsed.{Parsed, done, refused, and_then, require}
use Rattle.format.specs.Tree.{Chip}
use Rattle.format.proofs.GatheredLaws.{gathered-append}
use Rattle.format.proofs.ParsedLaws.{never}
use Rattle.records.specs.declared.Record.{Record}
use Rattle.records.specs.declared.Before.{Before}
use Rattle.records.specs.Elements.{elements, records}
use Rattle.records.specs.Grammar.{nothing, judge, grammar}
use Rattle.records.specs.Planting.{tree_of}
use Rattle.records.specs.Record.{record_bytes, records_in}
use Rattle.records.proofs.CompleteLaws.{judge_elements, elements_again, grammar_complete, prefix, judge_refused}
use Rattle.records.proofs.RunLaws.{judge_run, judge-append}
use Rattle.records.proofs.SoundLaws.{grammar_sound, grammar_records}
use Rattle.writer.specs.RoundTrips.{RecordsOf, NoTree, Begins, FirstWrong, Grammars}
use Rattle.writer.proofs.FrontLaws.{length_in, front_bytes, front_same}
use Rattle.writer.proofs.OwedFirstLaws.{owed_first}

then_done : {A B : Type 0} (p : Parsed A) (f : A → ℕ → Parsed B) {a : A} {k : ℕ} {q : Parsed B} → p ≡ done a k → and_then p f ≡ q → f a k ≡ q
unfolding and_then
then_done p f {q = q} e h = rw e at h

records_are : (c : Chip) → records c ≡ gathered record_bytes (elements c)
unfolding records
records_are c = refl

-- What begins with more begins with less.
pub begins_less : (s : List ℕ) (m n : ℕ) → m ≤ n → n ≤ length s → Begins (take n s) → Begins (take m s)
begins_less s m n h l b =
    let t = take n s in
    let e : take m t ≡ take m s = take-take m n s h in
    record {
      tree = b.tree;
      fits = b.fits;
      more = drop m t ++ b.more;
      whole = b.whole ∙ ap (λ x. x ++ b.more) (sym (take-append-drop m t)) ∙ append_assoc (take m t) (drop m t) b.more
          ∙ ap (λ x. x ++ (drop m t ++ b.more)) e;
    }

-- There is one first wrong record.
below_wrong : (s : List ℕ) (p q : ℕ) → FirstWrong s p → FirstWrong s q → p < q → ⊥
below_wrong s p q a b h =
    let i = a.start in
    let j = b.start in
    let l : p + 16 ≤ q = omega (arith, i.1, j.1) in
    let m : q ≤ length s = b.inside in
    a.wrong (omega arith) (begins_less s (p + 16) q l m b.before)

pub one_wrong : (s : List ℕ) (p q : ℕ) → FirstWrong s p → FirstWrong s q → p ≡ q
one_wrong s p q a b = go (either (leb p q)) (either (leb q p))
  where
    go : (leb p q ≡ true) ⊎ (leb p q ≡ false) → (leb q p ≡ true) ⊎ (leb q p ≡ false) → p ≡ q
    go (inl x) (inl y) = omega (arith, leb-true p q x, leb-true q p y)
    go (inl x) (inr y) = absurd (below_wrong s p q a b (leb-false q p y))
    go (inr x) y = absurd (below_wrong s q p b a (leb-false p q x))

-- A tree's records are not refused.
taken_none : (s : List ℕ) {n p : ℕ} → grammar s ≡ refused n p → NoTree s
taken_none s e c r =
    let g = grammar_complete c r.fits in
    never (sym e ∙ ap grammar r.are ∙ g.1)

pub tree_out : (s : List ℕ) → Bytes s → {b : Before} {at : ℕ} → grammar s ≡ done b at → (c : Chip) × RecordsOf s c
tree_out s bytes e =
    let g = grammar_records 0 (lit< tt) s bytes e in
    (tree_of 0 (records_in s), record { fits = g.1; are = sym g.0 })

pub tree_in : (s : List ℕ) (c : Chip) → RecordsOf s c → (b : Before) × (at : ℕ) × (grammar s ≡ done b at)
tree_in s c r = let g = grammar_complete c r.fits in (g.0, length (records c), ap grammar r.are ∙ g.1)

module _ (s : List ℕ) (bytes : Bytes s) where
  abbrev rs : List Record
  rs = records_in s

  -- Records that are judged well are the beginning of some tree's.
  begins : (k : ℕ) {b : Before} {at : ℕ} → k * 16 ≤ length s → judge nothing 0 (take k rs) ≡ done b at → Begins (take (k * 16) s)
  unfolding records
  begins k h e =
      let p = prefix (take k rs) e in
      let g = grammar_sound 0 (lit< tt) (take k rs ++ p.0) p.2 p.3 in
      record {
        tree = tree_of 0 (take k rs ++ p.0);
        fits = g.1;
        more = gathered record_bytes p.0;
        whole = ap (gathered record_bytes) g.0 ∙ gathered-append record_bytes (take k rs) p.0
            ∙ ap (λ x. x ++ gathered record_bytes p.0) (front_bytes s bytes k h);
      }

  -- A tree whose records begin as these has the same first records.
  shared : (k : ℕ) → k * 16 ≤ length s → (t : Begins (take (k * 16) s)) → elements t.tree ≡ take k rs ++ drop k (elements t.tree)
  shared k h t =
      let e = elements_again t.tree t.fits in
      let w : take k (elements t.tree) ≡ take k rs =
      ap (take k) (sym e) ∙ front_same k s (records t.tree) t.more h t.whole in
      sym (take-append-drop k (elements t.tree)) ∙ ap (λ x. x ++ drop k (elements t.tree)) w

  module _ {n p : ℕ} (r : grammar s ≡ refused n p) where
    -- A record that is not allowed.
    at_record : judge nothing 0 rs ≡ refused n p → (n ≡ 40) × FirstWrong s p
    at_record e =
        let q = judge_refused rs e in
        let k = q.0 in
        let i : k < length s / 16 = omega (arith, q.3, length_in s) in
        let h : k * 16 ≤ length s = omega arith in
        let h' : suc k * 16 ≤ length s = omega arith in
        let w : suc k * 16 ≡ p + 16 = omega (arith, q.2) in (
          q.1,
          record {
            none = taken_none s r;
            start = (k, q.2);
            inside = omega (arith, q.2);
            before = subst (λ x. Begins (take x s)) (sym q.2) (begins k h q.5);
            wrong = λ _ t.
                let u : Begins (take (suc k * 16) s) = subst (λ x. Begins (take x s)) (sym w) t in
                let j = judge_elements u.tree u.fits in
                q.6 (drop (suc k) (elements u.tree)) j.0 (length (elements u.tree) * 16)
                (ap (judge nothing 0) (sym (shared (suc k) h' u)) ∙ j.1);
            owed = λ z t. absurd (omega (arith, q.2));
          },
        )

    -- Whole records that are allowed, to the end or to what is cut short.
    at_end : {b : Before} {at : ℕ} → judge nothing 0 rs ≡ done b at → p ≡ at → (length s ≤ at → 0 < b.owed) → FirstWrong s p
    at_end {b} {at} e l o =
        let k = length rs in
        let v = judge_run nothing 0 rs e in
        let a : p ≡ k * 16 = omega (arith, v.1) in
        let i : k ≡ length s / 16 = length_in s in
        let h : k * 16 ≤ length s = omega arith in
        record {
          none = taken_none s r;
          start = (k, a);
          inside = omega arith;
          before = subst (λ x. Begins (take x s)) (sym a) (begins k h (ap (judge nothing 0) (take-length rs) ∙ e));
          wrong = λ x _. absurd (omega arith);
          owed = λ z t. owed_more b at e k h refl (omega arith) (o (omega arith)) t;
        }
      where
        owed_more : (b : Before) (at : ℕ) → judge nothing 0 rs ≡ done b at → (k : ℕ) → k * 16 ≤ length s → k ≡ length rs → length s ≡ k * 16 → 0 < b.owed
            → (t : Begins s) → get_or t.more 0 0 ≡ 7
        owed_more b at e k h w l o t =
            let x : take (k * 16) s ≡ s = take_all (k * 16) s (omega arith) in
            let u : Begins (take (k * 16) s) = record { tree = t.tree; fits = t.fits; more = t.more; whole = t.whole ∙ ap (λ y. y ++ t.more) (sym x) } in
            let ys = drop k (elements t.tree) in
            let c : take k rs ≡ rs = ap (λ y. take y rs) w ∙ take-length rs in
            let f : elements t.tree ≡ rs ++ ys = shared k h u ∙ ap (λ y. y ++ ys) c in
            let g : gathered record_bytes rs ≡ s = ap (gathered record_bytes) (sym c) ∙ front_bytes s bytes k h ∙ x in
            let m : s ++ t.more ≡ s ++ gathered record_bytes ys =
            sym t.whole ∙ records_are t.tree ∙ ap (gathered record_bytes) f ∙ gathered-append record_bytes rs ys ∙ ap (λ y. y ++ gathered record_bytes ys) g in
            let d : t.more ≡ gathered record_bytes ys =
            sym (drop_at s t.more (length s) refl) ∙ ap (drop (length s)) m ∙ drop_at s (gathered record_bytes ys) (length s) refl in
            let j = judge_elements t.tree t.fits in
            let q : and_then (judge nothing 0 rs) (λ c end. judge c end ys) ≡ done j.0 (length (elements t.tree) * 16) =
            sym (judge-append nothing 0 rs ys) ∙ ap (judge nothing 0) (sym f) ∙ j.1 in
            let q' : judge b at ys ≡ done j.0 (length (elements t.tree) * 16) = then_done (judge nothing 0 rs) (λ c end. judge c end ys) e q in
            ap (λ y. get_or y 0 0) d ∙ owed_first ys b at o q' j.2

    -- The three ways to refuse.
    ended : (b : Before) (at : ℕ) → judge nothing 0 rs ≡ done b at → (t u : Bool) → leb (length s) at ≡ t → eqb b.owed 0 ≡ u
        → require t 40 at (λ _. require u 40 at λ _. done b at) ≡ refused n p → (n ≡ 40) × FirstWrong s p
    unfolding require
    ended b at e false u x y z =
        let h : 40 ≡ n = cc in
        let w : at ≡ p = cc in
        (sym h, at_end e (sym w) (λ l. absurd (omega (arith, leb-false (length s) at x))))
    ended b at e true false x y z =
        let h : 40 ≡ n = cc in
        let w : at ≡ p = cc in
        let o : b.owed ≡ 0 → ⊥ = eqb-false b.owed 0 y in
        (sym h, at_end e (sym w) (λ l. not_none b.owed o))
      where
        not_none : (k : ℕ) → (k ≡ 0 → ⊥) → 0 < k
        not_none zero f = absurd (f refl)
        not_none (suc k) f = omega arith
    ended b at e true true x y z = never (sym z)

    cases : (q : Parsed Before) → judge nothing 0 rs ≡ q
        → and_then q (λ b at. require (leb (length s) at) 40 at λ _. require (eqb b.owed 0) 40 at λ _. done b at) ≡ refused n p
        → (n ≡ 40) × FirstWrong s p
    unfolding and_then
    cases (done b at) e z = ended b at e (leb (length s) at) (eqb b.owed 0) refl refl z
    cases (refused n' p') e z = at_record (e ∙ z)

    pub wrong_out : (n ≡ 40) × FirstWrong s p
    unfolding grammar
    wrong_out = cases (judge nothing 0 rs) refl r

  pub wrong_in : (p : ℕ) → FirstWrong s p → grammar s ≡ refused 40 p
  wrong_in p f = go (grammar s) refl
    where
      go : (q : Parsed Before) → grammar s ≡ q → q ≡ refused 40 p
      go (done b at) e = let t = tree_out s bytes e in absurd (f.none t.0 t.1)
      go (refused m q) e =
          let w = wrong_out e in
          ap (λ x. refused x q) w.0 ∙ ap (refused 40) (one_wrong s q p w.1 f)

  some_out : (q : Parsed Before) → grammar s ≡ q → ((c : Chip) × RecordsOf s c) ⊎ ((p : ℕ) × FirstWrong s p)
  some_out (done b at) e = inl (tree_out s bytes e)
  some_out (refused n p) e = inr (p, (wrong_out e).1)

  -- What refusal 40 asks.
  pub grammars : Grammars s
  grammars =
      record {
        takes = (λ g. tree_out s bytes g.2, λ t. tree_in s t.0 t.1);
        refuses = λ n p. (λ e. wrong_out e, λ f. wrong_in p f.1 ∙ ap (λ x. refused x p) (sym f.0));
        some = some_out (grammar s) refl;
        one = one_wrong s;
      }
