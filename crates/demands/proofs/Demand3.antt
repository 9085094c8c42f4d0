-- Demand 3 holds of the definition of isolation.
use Rattle.std.specs.Prelude.{Result, Ok, Err}
use Rattle.format.specs.declared.Refusal.{Refusal}
use Prim.Native.Nat.{ℕ, ◌*◌, ◌/◌, ◌≤◌, ◌<◌}
use mathlib.Core.Bool.{true, false}
use mathlib.Core.List.{List, [], ◌∷◌, ◌++◌}
use mathlib.Core.Path.{◌≡◌, refl, sym, ◌∙◌, ap, subst}
use native.Mathlib.Omega.{arith}
use lib.Dec.{eqb, ltb, leb}
use lib.ListN.{length, drop}
use borrow.Author.Tests.{eqb-true, eq-eqb, leb-true, le-leb, ltb-false, le-ltb, not-true}
use Rattle.limits.specs.declared.LimitSet.{LimitSet}
use Rattle.limits.specs.Limits.{Limits, limits_of}
use Rattle.limits.proofs.LimitsLaws.{nodes_within}
use Rattle.numbers.specs.BigEndian.{Bytes}
use Rattle.numbers.proofs.Bools.{and_left, and_right, and_both}
use Rattle.graph.specs.Chains.{Graph, Sound, reached_from, reached_count}
use Rattle.graph.proofs.BelowLaws.{count-le}
use Rattle.format.specs.Fields.{known_attention}
use Rattle.format.specs.Lookup.{some, register_entries, node_entries, node_position}
use Rattle.format.specs.Rules.{Every, Meets}
use Rattle.format.specs.Tree.{Root, Chip}
use Rattle.format.proofs.NumberedLaws.{kind_some}
use Rattle.format.proofs.EveryLaws.{or-false_left, or-false_right}
use Rattle.format.specs.Finding.{root_for}
use Rattle.format.proofs.FindingLaws.{first_out, first_key, root_inside}
use Rattle.walk.specs.Marks.{mark_count, finished}
use Rattle.walk.proofs.StepsLaws.{step_count}
use Rattle.walk.proofs.WalkLaws.{steps_reached}
use Rattle.isolation.specs.ChipGraph.{chip_graph}
use Rattle.isolation.specs.declared.Isolation.{Isolation}
use Rattle.isolation.specs.Outcome.{done_outcome, outcome_of, reached_unread, isolate}
use Rattle.isolation.specs.Readings.{readings_fit}
use Rattle.listing.specs.Records.{record_size, listing, records_of}
use Rattle.isolation.proofs.ChipLaws.{chip_sound}
use Rattle.isolation.proofs.OutcomeLaws.{Succeeds, succeeds_in, succeeds_out}
use Rattle.demands.specs.Demand3.{RootAt, ReadingsFit, Possible, Answer, Demand3, Isolates}
use Rattle.demands.proofs.Demand2.{accepted_out, accepted_in}
use Rattle.demands.proofs.RowsLaws.{every_in, in_at, at_in}
use Rattle.demands.proofs.ListingLaws.{listing_named, named_listing, instances, instances_reached, instances_different, instances_counted}
use Rattle.demands.proofs.ReachedLaws.{valued_out, valued_in}

-- The root

pub root_out : (c : Chip) (attention : ℕ) {t : Root} {ts : List Root} → root_for attention c ≡ t ∷ ts → RootAt c attention (node_position c t.id t.number)
unfolding root_for
root_out c attention {t} e =
    let f = first_out (λ r. eqb r.attention attention) c.roots e in
    record { root = t; stands = at_in _ c.roots f.0; wanted = eqb-true _ _ f.1; means = refl }

pub root_in : {limits : Limits} (c : Chip) → Meets limits c → (attention p : ℕ) (r : RootAt c attention p) → root_for attention c ≡ r.root ∷ []
unfolding root_for
root_in c m attention p r =
    let k = in_at c.roots r.stands in
    first_key (λ t. t.attention) c.roots m.unique.roots k.0 k.1 r.wanted

pub root_known : {limits : Limits} (c : Chip) → Meets limits c → (attention p : ℕ) → RootAt c attention p → known_attention attention ≡ true
root_known c m attention p r =
    subst (λ a. known_attention a ≡ true) r.wanted (every_in (λ t. known_attention t.attention ≡ true) c.roots m.known.roots r.stands)

pub root_below : {limits : Limits} (c : Chip) → Meets limits c → (attention p : ℕ) → RootAt c attention p → p < length (node_entries c)
root_below c m attention p r =
    let k = in_at c.roots r.stands in
    subst (λ x. x < length (node_entries c)) (sym r.means) (root_inside c m.present k.0 k.1)

-- The readings

bytes_out : (read : List ℕ) → some (ltb 1) read ≡ false → Every (λ b. b ≤ 1) read
unfolding some Every
bytes_out [] e = tt
bytes_out (b ∷ read) e = (ltb-false 1 b (or-false_left _ _ e), bytes_out read (or-false_right (ltb 1 b) _ e))

bytes-in : (read : List ℕ) → Every (λ b. b ≤ 1) read → some (ltb 1) read ≡ false
unfolding some Every
bytes-in [] h = refl
bytes-in (b ∷ read) h = rw (le-ltb 1 b h.0) (bytes-in read h.1)

pub fit_out : (c : Chip) (words read : List ℕ) → readings_fit c words read ≡ true → ReadingsFit c words read
unfolding readings_fit
fit_out c words read e =
    let w = eqb (length words) (length (register_entries c)) in
    let r = eqb (length read) (length (register_entries c)) in
    let h = and_right w _ e in
    record {
      values = eqb-true _ _ (and_left w _ e);
      marks = eqb-true _ _ (and_left r _ h);
      bytes = bytes_out read (not-true (some (ltb 1) read) (and_right r _ h));
    }

pub fit_in : (c : Chip) (words read : List ℕ) → ReadingsFit c words read → readings_fit c words read ≡ true
unfolding readings_fit
fit_in c words read f =
    and_both (eq-eqb _ _ f.values) (and_both (eq-eqb _ _ f.marks) (rw (bytes-in read f.bytes)))

-- The demand

module _ (of : LimitSet) (file : List ℕ) (bytes : Bytes file) (attention : ℕ) (words read list : List ℕ) where
  possible_out : Succeeds (limits_of of) file attention words read list → Possible of file attention words read list
  unfolding record_size chip_graph
  possible_out s =
      let f = s.finds in
      let c = f.chip in
      let a = accepted_out of file bytes f.accepted in
      let g = chip_graph c attention words read in
      let sound = chip_sound c a.meets.present attention words read in
      let r = root_out c attention f.rooted in
      let p = node_position c f.root.id f.root.number in
      let l : length (listing g p) ≤ length list / 16 = leb-true _ _ s.room in
      record {
        chip = c;
        accepted = a;
        root = p;
        rooted = r;
        fit = fit_out c words read f.fit;
        valued = valued_out c read attention g sound p refl a.meets.unique f.valued;
        bits = listing g p;
        named = listing_named g sound p (root_below c a.meets attention p r);
        room = omega arith;
      }

  module _ (p : Possible of file attention words read list) where
    abbrev graph : Graph
    graph = chip_graph p.chip attention words read

    sound : Sound graph
    sound = chip_sound p.chip p.accepted.meets.present attention words read

    inside : p.root < graph.size
    unfolding chip_graph
    inside = root_below p.chip p.accepted.meets attention p.root p.rooted

    few : graph.size ≤ mark_count
    unfolding chip_graph
    few = omega (arith, p.accepted.meets.within.nodes, nodes_within of)

    -- The bits that demand 3 names are the listing.
    bits_are : p.bits ≡ listing graph p.root
    bits_are = named_listing graph sound p.root inside p.bits p.named

    possible_in : Succeeds (limits_of of) file attention words read list
    unfolding record_size chip_graph
    possible_in =
        let c = p.chip in
        let m = p.accepted.meets in
        let q = node_position c p.rooted.root.id p.rooted.root.number in
        let l : length (listing graph p.root) ≤ length list / 16 = omega (arith, ap length bits_are, p.room) in
        record {
          finds = record {
            chip = c;
            end = length file;
            root = p.rooted.root;
            roots = [];
            accepted = accepted_in of file bytes p.accepted;
            known = root_known c m attention p.root p.rooted;
            rooted = root_in c m attention p.root p.rooted;
            fit = fit_in c words read p.fit;
            valued = subst (λ x. reached_unread c attention read graph x ≡ []) p.rooted.means (valued_in c read attention graph sound p.root refl p.valued);
          };
          room = subst (λ x. leb (length (listing graph x)) (length list / 16) ≡ true) p.rooted.means (le-leb _ _ l);
        }

    outcome_is : isolate (limits_of of) file attention words read list
        ≡ done_outcome (length p.bits) (reached_count graph p.root) (records_of p.chip 0 attention p.bits ++ drop (length p.bits * 16) list)
    unfolding possible_in record_size
    outcome_is =
        subst
        (λ ls. isolate (limits_of of) file attention words read list
        ≡ done_outcome (length ls) (reached_count graph p.root) (records_of p.chip 0 attention ls ++ drop (length ls * 16) list))
        (sym bits_are)
        (subst
        (λ x. isolate (limits_of of) file attention words read list
        ≡ done_outcome (length (listing graph x)) (reached_count graph x)
        (records_of p.chip 0 attention (listing graph x) ++ drop (length (listing graph x) * 16) list))
        (sym p.rooted.means) (succeeds_in (limits_of of) file attention words read list possible_in))

    answer : Answer of file attention words read list p (isolate (limits_of of) file attention words read list)
    unfolding chip_graph reached_count
    answer =
        let n : (isolate (limits_of of) file attention words read list).steps ≡ reached_count graph p.root = ap (λ o. o.steps) outcome_is in
        record {
          holds = ap (λ o. o.list) outcome_is;
          records = ap (λ o. o.records) outcome_is;
          instances = instances graph sound p.root inside;
          reached = instances_reached graph sound p.root inside;
          different = instances_different graph sound p.root inside;
          steps = n ∙ instances_counted graph sound p.root inside;
          walk = finished graph p.root;
          counted = step_count graph sound few p.root;
          walked = n ∙ sym (steps_reached graph p.root inside);
          bounded = omega (arith, n, count-le graph.size (reached_from graph p.root));
        }

  pub demand3 : Demand3 of file attention words read list
  demand3 =
      record {
        succeeds = (λ e. possible_out (succeeds_out (limits_of of) file attention words read list e), λ p. ap (λ o. o.number) (outcome_is p));
        answers = answer;
      }

  -- What the contract of `isolation::isolate` allows keeps to it.
  module _ (r : Result Isolation Refusal) (after : List ℕ) (promised : outcome_of r after ≡ isolate (limits_of of) file attention words read list) where
    done_out : (r : Result Isolation Refusal) → (outcome_of r after).number ≡ 0 → (i : Isolation) × (r ≡ Ok i)
    done_out (Ok i) e = (i, refl)
    done_out (Err x) e = absurd (omega (arith, e, kind_some x.kind))

    done_in : (i : Isolation) → r ≡ Ok i → (isolate (limits_of of) file attention words read list).number ≡ 0
    done_in i e = sym (ap (λ o. o.number) promised) ∙ ap (λ x. (outcome_of x after).number) e

    pub isolates : Isolates of file attention words read list r after
    isolates =
        record {
          succeeds = (λ d. demand3.succeeds.0 (done_in d.0 d.1), λ p. done_out r (ap (λ o. o.number) (promised ∙ outcome_is p)));
          answers = λ p. subst (Answer of file attention words read list p) (sym promised) (answer p);
        }
