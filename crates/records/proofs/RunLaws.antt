-- Records that are allowed one after another: what judging them gives, and back.
use Prim.Native.Nat.{ℕ, suc, ◌+◌, ◌*◌, ◌<◌}
use mathlib.Core.Bool.{Bool, true, false}
use mathlib.Core.List.{List, [], ◌∷◌, ◌++◌, map}
use mathlib.Core.Path.{◌≡◌, refl, sym, ◌∙◌, ap, subst}
use native.Mathlib.Omega.{arith}
use lib.ListN.{length, take}
use Rattle.numbers.proofs.Bools.{clash}
use Rattle.format.specs.Lookup.{gathered}
use Rattle.format.specs.Parsed.{done, refused, and_then, require}
use Rattle.format.specs.Rules.{Every}
use Rattle.format.proofs.ParsedLaws.{never, require_out, require_in}
use Rattle.records.specs.declared.Record.{Record}
use Rattle.records.specs.declared.Before.{Before}
use Rattle.records.specs.Record.{record_size}
use Rattle.records.specs.Grammar.{allowed, taken, judge}

-- Run b rs c: behind b the records rs are allowed one after another, and c is what is before the end.
pub data Run : Before → List Record → Before → Type 0 where
  stop : {b : Before} → Run b [] b
  step : {b c : Before} {r : Record} {rs : List Record} → allowed b r ≡ true → Run (taken b r) rs c → Run b (r ∷ rs) c

pub run-append : {b c d : Before} {xs ys : List Record} → Run b xs c → Run c ys d → Run b (xs ++ ys) d
run-append stop q = q
run-append (step a p) q = step a (run-append p q)

pub run_one : {b : Before} {r : Record} → allowed b r ≡ true → Run b (r ∷ []) (taken b r)
run_one a = step a stop

pub run_judge : {b c : Before} {rs : List Record} (at : ℕ) → Run b rs c → judge b at rs ≡ done c (at + length rs * 16)
unfolding judge
run_judge {b} at stop = ap (done b) (let e : at ≡ at + 0 * 16 = omega arith in e)
run_judge {c = c} at (step {rs = rs} a p) =
    require_in _ _ _ _ a (run_judge (at + 16) p ∙ ap (done c) (let e : at + 16 + length rs * 16 ≡ at + suc (length rs) * 16 = omega arith in e))

pub judge_run : (b : Before) (at : ℕ) (rs : List Record) {c : Before} {end : ℕ} → judge b at rs ≡ done c end
    → Run b rs c × (end ≡ at + length rs * 16)
unfolding judge
judge_run b at [] {c} {end} e =
    let h : b ≡ c = cc in
    let w : at ≡ end = cc in
    (subst (λ x. Run b [] x) h stop, omega arith)
judge_run b at (r ∷ rs) e =
    let q = require_out _ _ _ _ e in
    let p = judge_run (taken b r) (at + 16) rs q.1 in
    (step q.0 p.0, omega (arith, p.1))

-- Element after element: what holds while so many more are to come holds of the state behind each.
module _ {A : Type 0} (OK : A → Type 0) (f : A → List Record) (Inv : ℕ → Before → Type 0)
    (each : (x : A) (n : ℕ) (b : Before) → OK x → Inv (suc n) b → (c : Before) × Run b (f x) c × Inv n c) where
  pub run_all : (xs : List A) (b : Before) → Every OK xs → Inv (length xs) b → (c : Before) × Run b (gathered f xs) c × Inv 0 c
  unfolding Every gathered
  run_all [] b h i = (b, stop, i)
  run_all (x ∷ xs) b h i =
      let p = each x (length xs) b h.0 i in
      let q = run_all xs p.0 h.1 p.2 in
      (q.0, run-append p.1 q.1, q.2)

-- The same of elements that are one record each.
module _ {A : Type 0} (OK : A → Type 0) (g : A → Record) (Inv : ℕ → Before → Type 0)
    (each : (x : A) (n : ℕ) (b : Before) → OK x → Inv (suc n) b → (allowed b (g x) ≡ true) × Inv n (taken b (g x))) where
  pub run_each : (xs : List A) (b : Before) → Every OK xs → Inv (length xs) b → (c : Before) × Run b (map g xs) c × Inv 0 c
  unfolding Every
  run_each [] b h i = (b, stop, i)
  run_each (x ∷ xs) b h i =
      let p = each x (length xs) b h.0 i in
      let q = run_each xs (taken b (g x)) h.1 p.1 in
      (q.0, step p.0 q.1, q.2)

-- Judging in two parts.
pub judge-append : (b : Before) (at : ℕ) (xs ys : List Record) → judge b at (xs ++ ys) ≡ and_then (judge b at xs) (λ c end. judge c end ys)
unfolding judge and_then require
judge-append b at [] ys = refl
judge-append b at (x ∷ xs) ys = go (allowed b x) (judge-append (taken b x) (at + record_size) xs ys)
  where
    go : (t : Bool) → judge (taken b x) (at + record_size) (xs ++ ys) ≡ and_then (judge (taken b x) (at + record_size) xs) (λ c end. judge c end ys)
        → require t 40 at (λ _. judge (taken b x) (at + record_size) (xs ++ ys))
        ≡ and_then (require t 40 at (λ _. judge (taken b x) (at + record_size) xs)) (λ c end. judge c end ys)
    go true e = e
    go false e = refl

-- The first record that is not allowed: those before it are, and whatever follows it, it is not.
pub record Refusal (b : Before) (at : ℕ) (rs : List Record) (n p : ℕ) : Type 0 where
  pub before : ℕ
  pub number : n ≡ 40
  pub place : p ≡ at + before * 16
  pub inside : before < length rs
  pub state : Before
  pub good : Run b (take before rs) state
  pub bad : (more : List Record) {c : Before} → Run b (take (suc before) rs ++ more) c → ⊥

first_bad : {b c : Before} {r : Record} {rs : List Record} → allowed b r ≡ false → Run b (r ∷ rs) c → ⊥
first_bad a (step h p) = clash h a

behind : {b c : Before} {r : Record} {rs : List Record} → Run b (r ∷ rs) c → Run (taken b r) rs c
behind (step h p) = p

pub refusal : (b : Before) (at : ℕ) (rs : List Record) {n p : ℕ} → judge b at rs ≡ refused n p → Refusal b at rs n p
unfolding judge require
refusal b at [] e = never (sym e)
refusal b at (r ∷ rs) {n} {p} e = go (allowed b r) refl e (refusal (taken b r) (at + record_size) rs)
  where
    go : (t : Bool) → allowed b r ≡ t → require t 40 at (λ _. judge (taken b r) (at + record_size) rs) ≡ refused n p
        → (judge (taken b r) (at + record_size) rs ≡ refused n p → Refusal (taken b r) (at + record_size) rs n p) → Refusal b at (r ∷ rs) n p
    go true a e i =
        let q = i e in
        record {
          before = suc q.before;
          number = q.number;
          place = omega (arith, q.place);
          inside = omega (arith, q.inside);
          state = q.state;
          good = step a q.good;
          bad = λ more h. q.bad more (behind h);
        }
    go false a e i =
        record {
          before = 0;
          number = let h : 40 ≡ n = cc in omega arith;
          place = let h : at ≡ p = cc in omega arith;
          inside = omega arith;
          state = b;
          good = stop;
          bad = λ more h. first_bad a h;
        }
