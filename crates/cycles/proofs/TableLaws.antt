-- The edges of a table of children, and the walk over all of them.
use Rattle.std.proofs.Common.{◌≡◌, ℕ, ◌+◌, ◌*◌, ◌<◌, ◌≤◌, Bool, true, false, cond, ◌&&◌, eqb, ltb, ◌↔◌, List, length, get_or, take, replicate, sym, refl, ap, ◌∙◌, subst, arith, length-take-le, get_or-take, ltb-true, lt-ltb, eqb-true}
use mathlib.Core.Path.{fun_ext}
use mathlib.Core.Option.{Option, none, some}
use lib.ListN.{length-replicate, get_or-replicate}
use Rattle.limits.specs.Limits.{library_limits}
use Rattle.numbers.specs.Bits.{bit_of, word_of}
use Rattle.numbers.proofs.BitsLaws.{bit-word}
use Rattle.numbers.proofs.Bools.{clash, and_left, and_right, and_both, same_truth}
use Rattle.graph.specs.Below.{any}
use Rattle.graph.specs.Paths.{Path, Inside, reached, on_cycle}
use Rattle.graph.specs.Chains.{names, linked, reached_from}
use Rattle.graph.proofs.BelowLaws.{any_in, any_out, any_same}
use Rattle.graph.proofs.PathsLaws.{reached_law, cycle_law}
use Rattle.walk.specs.TableGraph.{table_size, child_at, table_graph}
use Rattle.walk.specs.Marks.{finished}
use Rattle.walk.proofs.Tables.{child-in}
use Rattle.walk.proofs.Step.{get_d_tabulate}
use Rattle.cycles.specs.Cycle.{looked_at, table_edge, in_cycle, first_below, first_cycle, First, From}
use Rattle.cycles.proofs.TestsLaws.{any_fails}
use Rattle.cycles.proofs.FirstLaws.{first_law}
use Rattle.cycles.proofs.CycleLaws.{cycle_closed}

pub looked_few : (n : ℕ) → n ≤ library_limits.node_instances → looked_at n ≡ n
unfolding looked_at
looked_few n h = omega arith

pub looked_most : (n : ℕ) → looked_at n ≤ library_limits.node_instances
unfolding looked_at
looked_most n = omega arith

named_below : {n j : ℕ} (o : Option ℕ) → ((d : ℕ) → o ≡ some d → d < n) → names o j ≡ true → j < n
named_below none f e = clash e refl
named_below {n} {j} (some d) f e = omega (arith, f d refl, eqb-true d j e)

module _ (n : ℕ) (ch : List ℕ) where
  pub edge_out : (i j : ℕ) → table_edge n ch i j ≡ true → (i < n) × ((b : ℕ) × (b < 64) × (names (child_at n ch (i * 64 + b)) j ≡ true))
  unfolding table_edge
  edge_out i j e = (ltb-true _ _ (and_left _ _ e), any_out 64 _ (and_right (ltb i n) _ e))

  pub edge_in : (i j b : ℕ) → i < n → b < 64 → names (child_at n ch (i * 64 + b)) j ≡ true → table_edge n ch i j ≡ true
  unfolding table_edge
  edge_in i j b h l e = and_both (lt-ltb _ _ h) (any_in 64 _ b l e)

  pub edge_any : (i j : ℕ) → i < n → any 64 (λ b. names (child_at n ch (i * 64 + b)) j) ≡ table_edge n ch i j
  unfolding table_edge
  edge_any i j h = rw (lt-ltb i n h)

  -- Both ends of every edge are node instances of the table.
  pub edge_inside : Inside n (table_edge n ch)
  edge_inside i j e =
      let r = edge_out i j e in
      (r.0, named_below (child_at n ch (i * 64 + r.1.0)) (child-in n ch (i * 64 + r.1.0)) r.1.2)

  -- A node instance lies on a cycle exactly when a path of child entries leads from it back to it.
  pub in_cycle_law : (i : ℕ) → (in_cycle n ch i ≡ true) ↔ Path (table_edge n ch) i i
  unfolding in_cycle
  in_cycle_law i = cycle_law n (table_edge n ch) edge_inside i

-- The first of those looked at that lies on a cycle.
pub looked_first : (ch : List ℕ) (n : ℕ) {k r : ℕ} → k ≡ looked_at n → r ≡ first_below k (in_cycle k ch) → r ≡ first_cycle ch n
unfolding first_cycle
looked_first ch n e d = rw (← e) d

-- Of up to 1,024 node instances all are looked at.
pub first_cycle_few : (ch : List ℕ) (n : ℕ) → n ≤ library_limits.node_instances → first_cycle ch n ≡ first_below n (in_cycle n ch)
unfolding first_cycle
first_cycle_few ch n h = rw (looked_few n h)

-- What first_cycle gives.
pub first_cycle_law : (ch : List ℕ) (n : ℕ) → First (looked_at n) (in_cycle (looked_at n) ch) (first_cycle ch n)
unfolding first_cycle
first_cycle_law ch n = first_law (looked_at n) (in_cycle (looked_at n) ch)

-- Every bit of the greatest word is set.
ones_bit : (b : ℕ) → b < 64 → bit_of 64 18446744073709551615 b ≡ true
unfolding word_of
ones_bit b h =
    let e : word_of 64 (λ _. true) ≡ 18446744073709551615 = refl in
    subst (λ x. bit_of 64 x b ≡ true) e (bit-word 64 (λ _. true) b h)

-- A walk over n node instances all of whose bits are active.
module _ (n : ℕ) (few : n ≤ library_limits.node_instances) (ch act : List ℕ) (sized : length act ≡ n) (ones : (i : ℕ) → i < n → get_or act i 0 ≡ 18446744073709551615) where
  size_all : table_size act ≡ n
  unfolding table_size
  size_all = omega arith

  linked_all : (i j : ℕ) → linked (table_graph act ch) i j ≡ table_edge n ch i j
  unfolding linked table_graph table_edge
  linked_all i j = rw size_all (go (ltb i n) refl)
    where
      go : (t : Bool) → ltb i n ≡ t
          → any 64 (λ b. (t && bit_of 64 (get_or act i 0) b) && names (cond (t && ltb b 64) (child_at n ch (i * 64 + b)) none) j)
          ≡ (t && any 64 (λ b. names (child_at n ch (i * 64 + b)) j))
      go true e = any_same 64 _ _ (λ b h. rw (ones i (ltb-true _ _ e), ones_bit b h, lt-ltb b 64 h))
      go false e = any_fails 64 _ (λ b h. refl)

  size_of : (table_graph act ch).size ≡ n
  unfolding table_graph
  size_of = size_all

  reached_all : (i j : ℕ) → reached_from (table_graph act ch) i j ≡ reached n (λ x. eqb x i) (table_edge n ch) j
  unfolding reached_from
  reached_all i j =
      let e : linked (table_graph act ch) ≡ table_edge n ch = fun_ext (λ x. fun_ext (λ y. linked_all x y)) in
      ap (λ k. reached k (λ x. eqb x i) (linked (table_graph act ch)) j) size_of ∙ ap (λ f. reached n (λ x. eqb x i) f j) e

  module _ (i : ℕ) (i_in : i < n) {m : List ℕ} (walked : m ≡ (finished (table_graph act ch) i).marks) where
    done_mark : (t s : Bool) → eqb (cond t 2 (cond s 1 0)) 2 ≡ t
    done_mark true s = refl
    done_mark false true = refl
    done_mark false false = refl

    -- Done is what is reached from i.
    done_all : (j : ℕ) → j < n → eqb (get_or m j 0) 2 ≡ reached n (λ x. eqb x i) (table_edge n ch) j
    unfolding finished
    done_all j h =
        let l : j < library_limits.node_instances = omega arith in
        let k : i < (table_graph act ch).size = omega (arith, size_of) in
        rw (walked, get_d_tabulate library_limits.node_instances _ j l, lt-ltb _ _ k) (done_mark (reached_from (table_graph act ch) i j) (eqb j i) ∙ reached_all i j)

    -- A done node instance with the child i is what makes a cycle.
    pub cycle_test : any n (λ j. eqb (get_or m j 0) 2 && table_edge n ch j i) ≡ in_cycle n ch i
    unfolding in_cycle
    cycle_test = same_truth _ _ out back
      where
        law : (on_cycle n (table_edge n ch) i ≡ true) ↔ ((j : ℕ) × From (table_edge n ch) i j × (table_edge n ch j i ≡ true))
        law = cycle_closed (table_edge n ch) n (edge_inside n ch) i

        from : (j : ℕ) → (reached n (λ x. eqb x i) (table_edge n ch) j ≡ true) ↔ From (table_edge n ch) i j
        from = reached_law n (λ x. eqb x i) (table_edge n ch) (edge_inside n ch)

        out : any n (λ j. eqb (get_or m j 0) 2 && table_edge n ch j i) ≡ true → on_cycle n (table_edge n ch) i ≡ true
        out e =
            let r = any_out n _ e in
            let j = r.0 in
            law.1 (j, (from j).0 (sym (done_all j r.1) ∙ and_left _ _ r.2), and_right (eqb (get_or m j 0) 2) _ r.2)

        back : on_cycle n (table_edge n ch) i ≡ true → any n (λ j. eqb (get_or m j 0) 2 && table_edge n ch j i) ≡ true
        back e =
            let r = law.0 e in
            let j = r.0 in
            let h = (edge_inside n ch j i r.2).0 in
            any_in n _ j h (and_both (done_all j h ∙ (from j).1 r.1) r.2)

-- The first n of k equal words.
module _ (n k x : ℕ) (h : n ≤ k) where
  pub part_length : n ≡ length (take n (replicate k x))
  part_length = let l : n ≤ length (replicate {A = ℕ} k x) = rw length-replicate h in sym (length-take-le n (replicate k x) l)

  part_at : (i : ℕ) → i < n → get_or (take n (replicate k x)) i 0 ≡ x
  part_at i l = get_or-take n (replicate k x) i 0 l ∙ get_or-replicate k i x 0 (let m : i < k = omega arith in m)

-- The walk from i tells whether i lies on a cycle.
pub cycle_found : (n : ℕ) (ch : List ℕ) (i : ℕ) {r : Bool} {m : List ℕ} → n ≤ library_limits.node_instances → i < n
    → m ≡ (finished (table_graph (take n (replicate library_limits.node_instances 18446744073709551615)) ch) i).marks
    → r ≡ any n (λ j. eqb (get_or m j 0) 2 && table_edge n ch j i)
    → r ≡ in_cycle n ch i
cycle_found n ch i few i_in w e =
    let x : ℕ = 18446744073709551615 in
    e ∙ cycle_test n few ch (take n (replicate library_limits.node_instances x)) (sym (part_length n library_limits.node_instances x few)) (part_at n library_limits.node_instances x few) i i_in w
