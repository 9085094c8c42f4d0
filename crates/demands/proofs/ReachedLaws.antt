-- No fault of number 18 is there exactly when every register that a reached rule names has a value; and each such fault is that of a register that has none.
use Prim.Native.Nat.{ℕ, ◌<◌}
use mathlib.Core.Bool.{Bool, true, false, cond}
use mathlib.Core.List.{List, [], ◌∷◌}
use mathlib.Core.Logic.{◌⊎◌, inl, inr, ⊎_elim}
use mathlib.Core.Path.{◌≡◌, refl, sym, ◌∙◌, ap, subst}
use native.Mathlib.Omega.{arith}
use lib.Dec.{eqb}
use lib.ListN.{length}
use borrow.Author.Tests.{eqb-true, eq-eqb}
use Rattle.numbers.proofs.Bools.{either, clash}
use Rattle.graph.specs.Chains.{Graph, Sound, below, reached_from}
use Rattle.graph.proofs.ChainsLaws.{reached_by_chains}
use Rattle.format.specs.Lookup.{some, at, gathered, NodeEntry, node_entries}
use Rattle.format.specs.References.{Named, named_by, Fault, unless}
use Rattle.format.specs.Rules.{NamesUnique}
use Rattle.format.specs.Tree.{Rule, NodeInstance, Chip}
use Rattle.format.proofs.FaultsLaws.{gathered_none, none-gathered, unless_none, none_unless}
use Rattle.format.proofs.GatheredLaws.{gathered_one}
use Rattle.format.proofs.PositionsLaws.{every_at, at_inside, inside_at}
use Rattle.isolation.specs.Readings.{has_value, unread_faults}
use Rattle.format.specs.Finding.{rule_for}
use Rattle.isolation.specs.ChipGraph.{rule_unread}
use Rattle.isolation.specs.Outcome.{entry_unread, reached_unread}
use Rattle.format.proofs.FindingLaws.{first_none, first_some, first_key}
use Rattle.isolation.proofs.GraphsLaws.{every_below}
use Rattle.demands.specs.Rows.{In}
use Rattle.demands.specs.Demand3.{read_byte, ReachedName}
use Rattle.demands.proofs.RowsLaws.{every_in, in_every, in_at, at_in, in_single, in_empty, in_place, in-gathered_out, in_below_in}

-- The wanted rule

pub rule_cases : (attention : ℕ) (i : NodeInstance)
    → (rule_for attention i ≡ []) ⊎ ((r : Rule) × (rule_for attention i ≡ r ∷ []) × In r i.rules × (r.attention ≡ attention))
unfolding rule_for
rule_cases attention i =
    ⊎_elim (λ h. let r = first_some _ i.rules h in inr (r.0, r.1, at_in _ i.rules r.2, eqb-true _ _ r.3))
    (λ h. inl (first_none _ i.rules h))
    (either (some (λ r. eqb r.attention attention) i.rules))

rule_in : (attention : ℕ) (i : NodeInstance) (r : Rule) → In r (rule_for attention i) → In r i.rules × (r.attention ≡ attention)
rule_in attention i r j =
    ⊎_elim (λ z. absurd (in_empty r z j))
    (λ z. let e : r ≡ z.0 = in_single (subst (In r) z.1 j) in
    (subst (λ x. In x i.rules) (sym e) z.2, ap (λ x. x.attention) e ∙ z.3))
    (rule_cases attention i)

-- A rule for the wanted type is the wanted rule: rule types are unique.
pub rule_wanted : (c : Chip) → NamesUnique c → (attention k : ℕ) {e : NodeEntry} {r : Rule} → at k (node_entries c) ≡ e ∷ [] → In r e.instance.rules
    → r.attention ≡ attention → rule_for attention e.instance ≡ r ∷ []
unfolding rule_for
rule_wanted c u attention k {e} q i w =
    let p = in_at e.instance.rules i in
    first_key (λ r. r.attention) e.instance.rules (every_at _ k (node_entries c) u.rules q) p.0 p.1 w

module _ (c : Chip) (read : List ℕ) where
  pub rule_valued : (r : Rule) → rule_unread c read r ≡ [] → (n : Named) → In n (named_by r.expression) → read_byte c read n ≡ 1
  unfolding rule_unread unread_faults has_value read_byte
  rule_valued r e n i = eqb-true _ 1 (unless_none _ _ _ (every_in _ (named_by r.expression) (gathered_none _ _ e) i))

  pub valued_rule : (r : Rule) → ((n : Named) → In n (named_by r.expression) → read_byte c read n ≡ 1) → rule_unread c read r ≡ []
  unfolding rule_unread unread_faults has_value read_byte
  valued_rule r h = none-gathered _ _ (in_every _ (named_by r.expression) (λ n i. none_unless _ _ _ (eq-eqb _ 1 (h n i))))

  fault_out : (n : Named) (f : Fault) → In f (unread_faults c read n) → (read_byte c read n ≡ 1 → ⊥) × (f ≡ record { number = 18; place = n.place })
  unfolding unread_faults has_value read_byte unless
  fault_out n f i = go (eqb (read_byte c read n) 1) refl i
    where
      go : (t : Bool) → eqb (read_byte c read n) 1 ≡ t → In f (cond t [] (record { number = 18; place = n.place } ∷ []))
          → (read_byte c read n ≡ 1 → ⊥) × (f ≡ record { number = 18; place = n.place })
      go true e j = absurd (in_empty f refl j)
      go false e j = (λ h. clash (eq-eqb _ 1 h) e, in_single j)

  module _ (attention : ℕ) where
    pub entry_one : (e : NodeEntry) {r : Rule} → rule_for attention e.instance ≡ r ∷ [] → entry_unread c attention read e ≡ rule_unread c read r
    unfolding entry_unread
    entry_one e {r} q = rw q (gathered_one (rule_unread c read) r)

    pub entry_none : (e : NodeEntry) → rule_for attention e.instance ≡ [] → entry_unread c attention read e ≡ []
    unfolding entry_unread gathered
    entry_none e q = rw q

    -- Those of the node instance at a position.
    abbrev unread_at : Graph → ℕ → ℕ → List Fault
    unread_at g root i = cond (reached_from g root i) (gathered (entry_unread c attention read) (at i (node_entries c))) []

    module _ (g : Graph) (sound : Sound g) (root : ℕ) (size : g.size ≡ length (node_entries c)) where
      pub valued_out : NamesUnique c → reached_unread c attention read g root ≡ [] → (n : Named) → ReachedName c attention g root n → read_byte c read n ≡ 1
      unfolding reached_unread
      valued_out u h n m =
          let p = m.reached.position in
          let rr = m.reached.rule in
          let l : p < g.size = let k : p < length (node_entries c) = inside_at p (node_entries c) rr.stands in omega arith in
          let a : unread_at g root p ≡ [] = every_in (λ i. unread_at g root i ≡ []) (below g.size) (gathered_none _ _ h) (in_below_in g.size p l) in
          let b : gathered (entry_unread c attention read) (at p (node_entries c)) ≡ [] = rw ((reached_by_chains g sound root p).1 m.reached.reached) at a in
          let d : entry_unread c attention read rr.entry ≡ [] =
          sym (gathered_one (entry_unread c attention read) rr.entry) ∙ (rw rr.stands at b) in
          rule_valued m.rule (sym (entry_one rr.entry (rule_wanted c u attention p rr.stands rr.own rr.wanted)) ∙ d) n m.names

      pub valued_in : ((n : Named) → ReachedName c attention g root n → read_byte c read n ≡ 1) → reached_unread c attention read g root ≡ []
      unfolding reached_unread
      valued_in h = none-gathered _ _ (every_below _ g.size (λ i l. go i l (reached_from g root i) refl))
        where
          entry : (i : ℕ) (e : NodeEntry) → at i (node_entries c) ≡ e ∷ [] → reached_from g root i ≡ true → entry_unread c attention read e ≡ []
          entry i e q t =
              ⊎_elim (λ z. entry_none e z)
              (λ z. entry_one e z.1
              ∙ valued_rule z.0
              (λ n k. h n
              (record {
                rule = z.0;
                reached = record {
                  position = i;
                  reached = (reached_by_chains g sound root i).0 t;
                  rule = record { entry = e; stands = q; own = z.2; wanted = z.3 };
                };
                names = k;
              })))
              (rule_cases attention e.instance)

          go : (i : ℕ) → i < g.size → (t : Bool) → reached_from g root i ≡ t → cond t (gathered (entry_unread c attention read) (at i (node_entries c))) [] ≡ []
          go i l true t =
              let x = at_inside i (node_entries c) (let k : i < length (node_entries c) = omega arith in k) in
              rw x.1 (gathered_one (entry_unread c attention read) x.0 ∙ entry i x.0 x.1 t)
          go i l false t = refl

      -- A fault of number 18 is that of a register without a value that a reached rule names.
      pub unread_out : (f : Fault) → In f (reached_unread c attention read g root)
          → (n : Named) × ReachedName c attention g root n × (read_byte c read n ≡ 1 → ⊥) × (f ≡ record { number = 18; place = n.place })
      unfolding reached_unread entry_unread rule_unread
      unread_out f i =
          let r = in-gathered_out (unread_at g root) (below g.size) f i in
          go r.0 (reached_from g root r.0) refl r.2
        where
          go : (k : ℕ) (t : Bool) → reached_from g root k ≡ t → In f (cond t (gathered (entry_unread c attention read) (at k (node_entries c))) [])
              → (n : Named) × ReachedName c attention g root n × (read_byte c read n ≡ 1 → ⊥) × (f ≡ record { number = 18; place = n.place })
          go k true t j =
              let x = in-gathered_out (entry_unread c attention read) (at k (node_entries c)) f j in
              let y = in-gathered_out (rule_unread c read) (rule_for attention x.0.instance) f x.2 in
              let z = in-gathered_out (unread_faults c read) (named_by y.0.expression) f y.2 in
              let w = rule_in attention x.0.instance y.0 y.1 in
              let v = fault_out z.0 f z.2 in (
                z.0,
                record {
                  rule = y.0;
                  reached = record {
                    position = k;
                    reached = (reached_by_chains g sound root k).0 t;
                    rule = record { entry = x.0; stands = in_place k (node_entries c) x.1; own = w.0; wanted = w.1 };
                  };
                  names = z.1;
                },
                v.0,
                v.1,
              )
          go k false t j = absurd (in_empty f refl j)
