-- The laws of an index over a table.
use Prim.Native.Nat.{ℕ, suc, ◌+◌, ◌-◌, ◌≤◌, ◌<◌}
use mathlib.Core.List.{List, ◌++◌}
use mathlib.Core.Logic.{◌⊎◌, inl, inr, ⊎_elim}
use mathlib.Core.Path.{◌≡◌, sym, ◌∙◌, ap}
use native.Mathlib.Omega.{arith}
use lib.Dec.{eqb}
use lib.ListN.{length, get_or, set, length-set, get_or-append}
use lib.Seq.{get_or-set_same, get_or-set_other}
use Rattle.numbers.proofs.Bools.{same?}
use Rattle.format.specs.Lookup.{position}
use Rattle.format.proofs.FaultsLaws.{below?}
use Rattle.tables.specs.Indexed.{start_of, TakenFrom, FreeFrom, Entered, Indexed}
use Rattle.tables.proofs.TablesLaws.{position_here, position_none}

pub indexed_none : (index table : List ℕ) → Indexed index table 0
indexed_none index table = record { entered = λ p h. absurd (omega arith) }

pub indexed_fewer : (index table : List ℕ) {m n : ℕ} → m ≤ n → Indexed index table n → Indexed index table m
indexed_fewer index table h i = record { entered = λ p l. i.entered p (omega arith) }

-- Numbers that come after those that are entered change nothing.
pub indexed-append : (index table rest : List ℕ) {n : ℕ} → n ≤ length table → Indexed index table n → Indexed index (table ++ rest) n
indexed-append index table rest h i = record { entered = λ p l. rw (get_or-append table rest 0 p (omega arith)) (i.entered p l) }

-- One place more is taken.
pub taken_more : (index : List ℕ) (from at p : ℕ) → TakenFrom index from at p → (get_or index at 0 ≡ 0 → ⊥) → get_or index at 0 ≤ p → TakenFrom index from (at + 1) p
taken_more index from at p t z h b f l w =
    ⊎_elim
    (λ e. let g : get_or index b 0 ≡ get_or index at 0 = ap (λ k. get_or index k 0) e in (⊎_elim (λ q. absurd (z (sym g ∙ q))) (λ q. omega arith) (same? (get_or index b 0) 0), omega arith))
    (λ e. t b f (let k : b ≡ at → ⊥ = e in omega arith) w)
    (same? b at)

-- Position p is entered at the first free place.
module _ (index table : List ℕ) (x p at : ℕ) (named : get_or table p 0 ≡ x) (free : FreeFrom index (start_of (length index) x) p at) {v : ℕ} (v-is : v ≡ suc p) where
  -- A place that holds a position before p is not the free one.
  not_free : (b : ℕ) → b < length index → 0 < get_or index b 0 → get_or index b 0 ≤ p → b ≡ at → ⊥
  not_free b h l m e =
      let g : get_or index b 0 ≡ get_or index at 0 = ap (λ k. get_or index k 0) e in
      ⊎_elim (λ q. absurd (omega arith)) (λ q. absurd (omega arith)) (free.free (omega arith))

  kept : (from to q : ℕ) → q ≤ p → TakenFrom index from to q → TakenFrom (set index at v) from to q
  kept from to q h t b f l w =
      let i : b < length index = let e = length-set index at v in omega arith in
      let r = t b f l i in
      let o = get_or-set_other index at b v 0 (not_free b i r.0 (let m = r.1 in omega arith)) in
      rw o r

  here : (q : ℕ) → q ≡ p → start_of (length index) (get_or table q 0) ≡ start_of (length index) x
  here q e = ap (λ k. start_of (length index) (get_or table k 0)) e ∙ ap (start_of (length index)) named

  pub entered_next : Indexed index table p → Indexed (set index at v) table (suc p)
  entered_next i =
      record {
        entered = λ q h. rw length-set (⊎_elim
            (λ e. record {
              place = at;
              after = rw (here q e) free.after;
              taken = rw (here q e) (kept (start_of (length index) x) at q (omega arith) (rw e free.taken));
              there = λ w. get_or-set_same index at v 0 (let l = length-set index at v in omega arith) ∙ v-is ∙ ap suc (sym e);
            })
            (λ e. let o = i.entered q (let d : q ≡ p → ⊥ = e in omega arith) in
            record {
              place = o.place;
              after = o.after;
              taken = kept _ o.place q (omega arith) o.taken;
              there = λ w.
                  let l : o.place < length index = let l = length-set index at v in omega arith in
                  let g = o.there l in
                  get_or-set_other index at o.place v 0 (not_free o.place l (omega arith) (let d : q ≡ p → ⊥ = e in omega arith)) ∙ g;
            })
            (same? q p));
      }

-- The places from where the search for x begins, up to `at`, hold positions of other numbers.
pub record Passed (index table : List ℕ) (x at : ℕ) : Type 0 where
  pub after : start_of (length index) x ≤ at
  pub others : (b : ℕ) → start_of (length index) x ≤ b → b < at
      → (0 < get_or index b 0) × (get_or index b 0 ≤ length table) × (get_or table (get_or index b 0 - 1) 0 ≡ x → ⊥)

module _ (index table : List ℕ) (x : ℕ) where
  pub passed_none : {at : ℕ} → at ≡ start_of (length index) x → Passed index table x at
  passed_none e = record { after = omega arith; others = λ b f l. absurd (omega arith) }

  module _ {at : ℕ} (t : Passed index table x at) where
    pub passed_more : (get_or index at 0 ≡ 0 → ⊥) → get_or index at 0 ≤ length table → (get_or table (get_or index at 0 - 1) 0 ≡ x → ⊥) → Passed index table x (at + 1)
    passed_more z h n =
        record {
          after = let l = t.after in omega arith;
          others = λ b f l.
              ⊎_elim
              (λ e. let g : get_or index b 0 ≡ get_or index at 0 = ap (λ k. get_or index k 0) e in (
                ⊎_elim (λ q. absurd (z (sym g ∙ q))) (λ q. let d : get_or index b 0 ≡ 0 → ⊥ = q in omega arith) (same? (get_or index b 0) 0),
                omega arith,
                rw g n,
              ))
              (λ e. t.others b f (let k : b ≡ at → ⊥ = e in omega arith))
              (same? b at);
        }

    module _ (w : at < length index) (i : Indexed index table (length table)) where
      -- Where a number x of the table stands at a position, the search meets it here or further on.
      ahead : (k : ℕ) → k < length table → get_or table k 0 ≡ x → (o : Entered index (start_of (length index) x) k) → at ≤ o.place
      ahead k h e o =
          ⊎_elim
          (λ q. let g = o.there (omega arith) in
          let r = t.others o.place o.after q in
          absurd (r.2 (ap (λ n. get_or table n 0) (let z : get_or index o.place 0 - 1 ≡ k = omega arith in z) ∙ e)))
          (λ q. q)
          (below? o.place at)

      ending : (k : ℕ) → k < length table → get_or table k 0 ≡ x → (get_or index at 0 ≡ suc k) ⊎ ((0 < get_or index at 0) × (get_or index at 0 ≤ k))
      ending k h e =
          let o : Entered index (start_of (length index) x) k = rw (← e) (i.entered k h) in
          let a = ahead k h e o in
          ⊎_elim (λ q. inl (ap (λ n. get_or index n 0) q ∙ o.there (omega arith)))
          (λ q. let d : at ≡ o.place → ⊥ = q in inr (o.taken at t.after (omega arith) w))
          (same? at o.place)

      -- No position stands here, so that the table has no such number.
      pub found_none : (get_or index at 0 ≡ 0) ⊎ (length table < get_or index at 0) → length table ≡ position (λ y. eqb y x) table
      found_none z = position_none table x λ k h e. ⊎_elim
          (λ q. ⊎_elim (λ r. absurd (omega arith)) (λ r. absurd (omega arith)) z)
          (λ q. let a = q.0 in let b = q.1 in ⊎_elim (λ r. absurd (omega arith)) (λ r. absurd (omega arith)) z)
          (ending k h e)

      -- The number stands here: no position before is one of it.
      pub found_here : (get_or index at 0 ≡ 0 → ⊥) → get_or index at 0 ≤ length table → get_or table (get_or index at 0 - 1) 0 ≡ x
          → get_or index at 0 - 1 ≡ position (λ y. eqb y x) table
      found_here z h e =
          position_here table x (get_or index at 0 - 1) (let d : get_or index at 0 ≡ 0 → ⊥ = z in omega arith)
          (λ k l g. ⊎_elim (λ q. absurd (omega arith)) (λ q. let b = q.1 in absurd (omega arith)) (ending k (omega arith) g)) e
