-- Where every child stands after its parent, or every one before it, no node instance lies on a cycle.
use Rattle.std.proofs.Common.{◌≡◌, ℕ, ◌+◌, ◌-◌, ◌*◌, ◌/◌, ◌%◌, ◌<◌, ◌≤◌, Bool, true, false, cond, not, ◌&&◌, ◌||◌, eqb, ltb, leb, List, length, get_or, take, drop, sym, refl, ◌∙◌, ⊎_elim, add-one, arith, length-drop, length-take-le, get_or-drop, get_or-take, ltb-false, ltb-true, le-ltb, lt-ltb, le-leb, leb-false}
use mathlib.Core.Bool.{and-true}
use mathlib.Core.Option.{Option, none, some}
use lib.Bits.{bit_or}
use borrow.Author.Tests.{lt-leb, not-false}
use Rattle.numbers.proofs.Bools.{either, clash, and_right, and_both, and_none}
use Rattle.graph.specs.Below.{any}
use Rattle.graph.proofs.BelowLaws.{any_in, any_out}
use Rattle.walk.specs.Marks.{tabulate}
use Rattle.walk.specs.TableGraph.{child_at}
use Rattle.walk.proofs.Step.{get_d_tabulate}
use Rattle.walk.proofs.Tables.{child-in}
use Rattle.cycles.specs.Cycle.{in_cycle}
use Rattle.cycles.specs.Ranks.{child_passes, ranks_at}
use Rattle.cycles.specs.Order.{not_later, not_earlier, none_in, none_at}
use Rattle.cycles.proofs.TestsLaws.{any_fails}
use Rattle.cycles.proofs.RankLaws.{no_cycle}

-- x is 1 where one of the first b numbers of a row passes the test, and 0 where none does.
pub record Flagged (p : ℕ → Bool) (row : List ℕ) (b x : ℕ) : Type 0 where
  pub flag : x ≡ cond (any b (λ k. p (get_or row k 0))) 1 0

module _ (p : ℕ → Bool) (row : List ℕ) where
  pub flag_none : Flagged p row 0 0
  unfolding any
  flag_none = record { flag = refl }

  module _ {b x y : ℕ} (e : Flagged p row b x) where
    flag_next : (t : Bool) → p (get_or row b 0) ≡ t → y ≡ cond t (bit_or x 1) x → Flagged p row (b + 1) y
    unfolding any
    flag_next t d h = record { flag = h ∙ rw (add-one b, d, e.flag) (go (any b (λ k. p (get_or row k 0))) t) }
      where
        go : (s t : Bool) → cond t (bit_or (cond s 1 0) 1) (cond s 1 0) ≡ cond (s || t) 1 0
        go true true = refl
        go true false = refl
        go false true = refl
        go false false = refl

    pub flag-set : p (get_or row b 0) ≡ true → y ≡ bit_or x 1 → Flagged p row (b + 1) y
    flag-set d h = flag_next true d h

    pub flag_kept : p (get_or row b 0) ≡ false → y ≡ x → Flagged p row (b + 1) y
    flag_kept d h = flag_next false d h

  pub flag_end : {b x : ℕ} → Flagged p row b x → b ≡ length row → eqb x 0 ≡ none_in p row
  unfolding none_in
  flag_end e d = rw (e.flag, d) (go (any (length row) (λ k. p (get_or row k 0))))
    where
      go : (t : Bool) → eqb (cond t 1 0) 0 ≡ not t
      go true = refl
      go false = refl

-- The two tests.

pub later-not : (i c : ℕ) → c ≤ i → not_later i c ≡ true
unfolding not_later
later-not i c h = le-leb c i h

pub later : (i c : ℕ) → i < c → not_later i c ≡ false
unfolding not_later
later i c h = lt-leb c i h

pub earlier-not : (n i c : ℕ) → i ≤ c → c < n → not_earlier n i c ≡ true
unfolding not_earlier
earlier-not n i c h l = and_both (le-leb i c h) (lt-ltb c n l)

pub earlier : (n i c : ℕ) → c < i → not_earlier n i c ≡ false
unfolding not_earlier
earlier n i c h = rw (lt-leb i c h)

pub earlier_none : (n i c : ℕ) → n ≤ c → not_earlier n i c ≡ false
unfolding not_earlier
earlier_none n i c h = rw (le-ltb c n h) (and_none (leb i c))

-- By the difference from i, which wraps.
module _ (n i x : ℕ) (within : i ≤ n) (few : n < 65536) (small : x < 65536) where
  pub ahead-not : (x + (65536 - i)) % 65536 < n - i → not_earlier n i x ≡ true
  ahead-not h = earlier-not n i x (omega arith) (omega arith)

  pub ahead : n - i ≤ (x + (65536 - i)) % 65536 → not_earlier n i x ≡ false
  ahead h =
      ⊎_elim (λ b. earlier n i x (ltb-true x i b)) (λ b. let k : i ≤ x = ltb-false x i b in earlier_none n i x (omega arith)) (either (ltb x i))

-- The number of a place that holds a child.
child-number : (n : ℕ) (ch : List ℕ) (k : ℕ) {c : ℕ} → child_at n ch k ≡ some c → get_or ch k 0 ≡ c
unfolding child_at
child-number n ch k {c} = go (ltb k (length ch) && ltb (get_or ch k 0) n)
  where
    go : (t : Bool) → cond t (some (get_or ch k 0)) none ≡ some c → get_or ch k 0 ≡ c
    go true d = cc
    go false d = let z : ◌≡◌ {A = ℕ} 0 1 = cc in absurd (omega arith)

-- No number of a row passes the test, or one does.

none_out : (p : ℕ → Bool) (row : List ℕ) → none_in p row ≡ true → (b : ℕ) → b < length row → p (get_or row b 0) ≡ false
unfolding none_in
none_out p row e b h =
    ⊎_elim (λ d. clash e (rw (any_in (length row) _ b h d))) (λ d. d) (either (p (get_or row b 0)))

none-not : (p : ℕ → Bool) (row : List ℕ) → none_in p row ≡ false → (b : ℕ) × (b < length row) × (p (get_or row b 0) ≡ true)
unfolding none_in
none-not p row e = any_out (length row) _ (not-false (any (length row) (λ b. p (get_or row b 0))) e)

-- The table has the rows of the first i node instances, and no number in them passes the test.
pub record Passed (p : ℕ → ℕ → Bool) (ch : List ℕ) (i : ℕ) : Type 0 where
  pub there : i * 64 ≤ length ch
  pub none : (k : ℕ) → k < i * 64 → p (k / 64) (get_or ch k 0) ≡ false

-- The row of i.
abbrev pub row_of : List ℕ → ℕ → List ℕ
row_of ch i = take (i * 64 + 64 - i * 64) (drop (i * 64) ch)

module _ (p : ℕ → ℕ → Bool) (ch : List ℕ) where
  pub passed_none : Passed p ch 0
  passed_none = record { there = omega arith; none = λ k h. absurd (omega arith) }

  module _ (i : ℕ) where
    row_at : (b : ℕ) → b < 64 → get_or (row_of ch i) b 0 ≡ get_or ch (i * 64 + b) 0
    row_at b h =
        let l : b < i * 64 + 64 - i * 64 = omega arith in
        get_or-take (i * 64 + 64 - i * 64) (drop (i * 64) ch) b 0 l ∙ get_or-drop (i * 64) ch b 0

    module _ (room : i * 64 + 64 ≤ length ch) where
      row-length : length (row_of ch i) ≡ 64
      row-length =
          let d : length (drop (i * 64) ch) ≡ length ch - i * 64 = length-drop (i * 64) ch in
          let e : i * 64 + 64 - i * 64 ≡ 64 = omega arith in
          length-take-le (i * 64 + 64 - i * 64) (drop (i * 64) ch) (omega arith) ∙ e

      pub passed_row : Passed p ch i → none_in (p i) (row_of ch i) ≡ true → Passed p ch (i + 1)
      passed_row f e =
          record {
            there = omega arith;
            none = λ k h. ⊎_elim (λ d. f.none k (ltb-true _ _ d)) (λ d. here k h (ltb-false _ _ d)) (either (ltb k (i * 64)));
          }
        where
          here : (k : ℕ) → k < (i + 1) * 64 → i * 64 ≤ k → p (k / 64) (get_or ch k 0) ≡ false
          here k h l =
              let q : k / 64 ≡ i = omega arith in
              let s : i * 64 + (k - i * 64) ≡ k = omega arith in
              let b : k - i * 64 < 64 = omega arith in
              rw (q, ← s, ← row_at (k - i * 64) b) (none_out (p i) (row_of ch i) e (k - i * 64) (omega (arith, row-length)))

      pub row-not : (n : ℕ) → i < n → none_in (p i) (row_of ch i) ≡ false → false ≡ none_at p n ch
      unfolding none_at
      row-not n h e =
          let r = none-not (p i) (row_of ch i) e in
          let l : r.0 < 64 = omega (arith, row-length, r.1) in
          let q : (i * 64 + r.0) / 64 ≡ i = omega arith in
          let d : p ((i * 64 + r.0) / 64) (get_or ch (i * 64 + r.0) 0) ≡ true = rw (q, ← row_at r.0 l) r.2 in
          rw (any_in (n * 64) (λ k. p (k / 64) (get_or ch k 0)) (i * 64 + r.0) (omega arith) d) (sym (and_none (leb (n * 64) (length ch))))

    pub row_short : (n : ℕ) → i < n → length ch < i * 64 + 64 → false ≡ none_at p n ch
    unfolding none_at
    row_short n h l = let s : length ch < n * 64 = omega arith in rw (lt-leb _ _ s)

  pub passed_all : (n : ℕ) {i : ℕ} → Passed p ch i → i ≡ n → true ≡ none_at p n ch
  unfolding none_at
  passed_all n {i} f e =
      let l : n * 64 ≤ length ch = omega (arith, f.there) in
      rw (le-leb _ _ l, any_fails (n * 64) (λ k. p (k / 64) (get_or ch k 0)) (λ k h. f.none k (omega arith)))

  all_out : (n : ℕ) → none_at p n ch ≡ true → (k : ℕ) → k < n * 64 → p (k / 64) (get_or ch k 0) ≡ false
  unfolding none_at
  all_out n e k h =
      ⊎_elim (λ d. clash (and_right (leb (n * 64) (length ch)) _ e) (rw (any_in (n * 64) (λ k. p (k / 64) (get_or ch k 0)) k h d))) (λ d. d)
      (either (p (k / 64) (get_or ch k 0)))

  -- Where a child that does not pass the test of its parent has a lower rank, none lies on a cycle.
  module _ (n : ℕ) (rank : ℕ → ℕ) (lower : (i c : ℕ) → i < n → c < n → p i c ≡ false → rank c < rank i) where
    pub order_acyclic : none_at p n ch ≡ true → (i : ℕ) → i < n → in_cycle n ch i ≡ false
    unfolding ranks_at
    order_acyclic e i l = no_cycle (tabulate n rank) n ch (n * 64) falls (λ k h m. absurd (omega arith)) i (omega arith)
      where
        child : (k : ℕ) → k < n * 64 → (o : Option ℕ) → o ≡ child_at n ch k → child_passes (λ c. leb (get_or (tabulate n rank) (k / 64) 0) (get_or (tabulate n rank) c 0)) o ≡ false
        child k h none d = refl
        child k h (some c) d =
            let l : k / 64 < n = omega arith in
            let m : c < n = child-in n ch k c (sym d) in
            let q : get_or ch k 0 ≡ c = child-number n ch k (sym d) in
            rw (get_d_tabulate n rank (k / 64) l, get_d_tabulate n rank c m) (lt-leb _ _ (lower (k / 64) c l m (rw q at (all_out n e k h))))

        falls : (k : ℕ) → k < n * 64 → child_passes (λ c. leb (get_or (tabulate n rank) (k / 64) 0) (get_or (tabulate n rank) c 0)) (child_at n ch k) ≡ false
        falls k h = child k h (child_at n ch k) refl

-- The two orders: ranks fall by the position, or rise by it.

pub forward_acyclic : (n : ℕ) (ch : List ℕ) → none_at not_later n ch ≡ true → (i : ℕ) → i < n → in_cycle n ch i ≡ false
unfolding not_later
forward_acyclic n ch = order_acyclic not_later ch n (λ i. n - i) (λ i c h l e. omega (arith, leb-false c i e))

pub backward_acyclic : (n : ℕ) (ch : List ℕ) → none_at (not_earlier n) n ch ≡ true → (i : ℕ) → i < n → in_cycle n ch i ≡ false
unfolding not_earlier
backward_acyclic n ch = order_acyclic (not_earlier n) ch n (λ i. i) (λ i c h l e. leb-false i c (rw (lt-ltb c n l, and-true) at e))
