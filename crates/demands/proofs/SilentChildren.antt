-- What document 02 (iii) says of isolation holds.
use Prim.Native.Nat.{ℕ}
use mathlib.Core.Bool.{true, false}
use mathlib.Core.List.{List, [], ◌∷◌}
use mathlib.Core.Logic.{inl, ⊎_elim}
use mathlib.Core.Option.{some}
use mathlib.Core.Path.{◌≡◌, refl, sym, ◌∙◌, ap, subst}
use native.Mathlib.Omega.{arith}
use lib.ListN.{length}
use Rattle.limits.specs.declared.LimitSet.{LimitSet}
use Rattle.limits.specs.Limits.{Limits, limits_of}
use Rattle.numbers.specs.BigEndian.{Bytes}
use Rattle.numbers.proofs.Bools.{either, clash}
use Rattle.graph.specs.Chains.{Graph, Sound, link, Listed, ReachedByChains}
use Rattle.graph.specs.Chains as chains
use Rattle.graph.proofs.ChainsLaws.{reached_by_chains, child_reached, listed_silent, chain_first}
use Rattle.graph.proofs.EndsLaws.{listed_from}
use Rattle.format.specs.References.{Fault}
use Rattle.format.specs.Rules.{Meets}
use Rattle.format.specs.Tree.{Chip}
use Rattle.isolation.specs.ChipGraph.{chip_graph}
use Rattle.isolation.specs.Outcome.{refused_outcome, reached_unread, all_read, from_root, find_in, find, in_list, isolate}
use Rattle.isolation.proofs.ChipLaws.{chip_sound}
use Rattle.demands.specs.Active.{ActiveBit, ChildOf}
use Rattle.demands.specs.Demand2.{Accepted}
use Rattle.demands.specs.Demand3.{RootAt, ReadingsFit, ReachedName, Possible}
use Rattle.demands.specs.Rows.{In}
use Rattle.demands.specs.SilentChildren.{Silent, Followed, SilentChildren, UnreadRefused, UnreadChildRefused}
use Rattle.demands.proofs.RowsLaws.{in_some, in_none, order_one}
use Rattle.demands.proofs.ActiveLaws.{never, active_words, child_words}
use Rattle.demands.proofs.ReachedLaws.{valued_out, unread_out}
use Rattle.demands.proofs.AcyclicLaws.{no_way_back}
use Rattle.demands.proofs.Demand2.{accepted_in}
use Rattle.demands.proofs.Demand3.{root_in, root_known, fit_in, demand3}

module _ {limits : Limits} (c : Chip) (m : Meets limits c) (attention : ℕ) (words read : List ℕ) where
  abbrev g : Graph
  g = chip_graph c attention words read

  sound : Sound g
  sound = chip_sound c m.present attention words read

  active_in : (i b : ℕ) → ActiveBit c attention words read i b → g.active i b ≡ true
  active_in i b = (active_words c m.unique i b attention words read).1

  active_out : (i b : ℕ) → g.active i b ≡ true → ActiveBit c attention words read i b
  active_out i b = (active_words c m.unique i b attention words read).0

  child-in : (i b j : ℕ) → ChildOf c i b j → g.child i b ≡ some j
  child-in i b j = (child_words c m.unique i b attention words read j).1

  silent_in : (j : ℕ) → Silent c attention words read j → chains.Silent g j
  silent_in j s b = ⊎_elim (λ e. absurd (s b (active_out j b e))) (λ e. e) (either (g.active j b))

  module _ (root : ℕ) where
    child_counts : (i b j : ℕ) → Followed c attention words read root i b j → ReachedByChains g root j
    child_counts i b j f =
        (reached_by_chains g sound root j).0
        (child_reached g sound root i b j ((reached_by_chains g sound root i).1 f.reached) (active_in i b f.active) (child-in i b j f.child))

    silent_listed : (i b j : ℕ) → Followed c attention words read root i b j → Silent c attention words read j → Listed g root i b
    silent_listed i b j f s =
        listed_silent g sound root i b j f.reached (active_in i b f.active) (child-in i b j f.child) (silent_in j s)

    -- A bit whose child has an active bit is not listed.
    not_listed : (i b j k : ℕ) → ChildOf c i b j → ActiveBit c attention words read j k → Listed g root i b → ⊥
    not_listed i b j k d a l =
        ⊎_elim (λ e. never (sym e ∙ child-in i b j d))
        (λ s. let w : some s.child ≡ some j = sym s.entry ∙ child-in i b j d in
        let v : s.child ≡ j = cc in
        clash (active_in j k a) (subst (λ x. g.active x k ≡ false) v (s.silent k)))
        l.ends

    -- From a silent root nothing is listed, and it alone is reached.
    root_listed : Silent c attention words read root → (i b : ℕ) → Listed g root i b → ⊥
    root_listed s i b l = let r = chain_first g l.chain in s r.0 (active_out root r.0 r.1)

    root_reached : Silent c attention words read root → (j : ℕ) → ReachedByChains g root j → j ≡ root
    root_reached s j h =
        ⊎_elim (λ e. e) (λ r. let t = chain_first g r.chain in absurd (s t.0 (active_out root t.0 t.1))) h

module _ (of : LimitSet) (file : List ℕ) (bytes : Bytes file) (attention : ℕ) (words read list : List ℕ) where
  pub silent_children : (p : Possible of file attention words read list) → SilentChildren of file attention words read list p
  silent_children p =
      let c = p.chip in
      let m = p.accepted.meets in
      let g = chip_graph c attention words read in
      let a = (demand3 of file bytes attention words read list).answers p in
      let put : (i b : ℕ) → Listed g p.root i b → In (link i b) p.bits = λ i b l. (p.named.exactly (link i b)).1 l in
      record {
        listed = λ i b j f s. put i b (silent_listed c m attention words read p.root i b j f s);
        ruleless = λ i b j f n. put i b (silent_listed c m attention words read p.root i b j f (λ k x. n x.rule x.own));
        only = λ i b j k d x n. not_listed c m attention words read p.root i b j k d x ((p.named.exactly (link i b)).0 n);
        counts = λ x i b j f. (x.reached j).1 (child_counts c m attention words read p.root i b j f);
        named = λ b x. let l = listed_from g (sound c m attention words read) (no_way_back c m attention words read) p.root b (active_in c m attention words read p.root b x) in
            omega (arith, a.records, in_some l.0 p.bits ((p.named.exactly l.0).1 l.1));
        silent_root = λ s. (
          a.records ∙ ap length (in_none p.bits (λ l n. root_listed c m attention words read p.root s l.instance l.bit ((p.named.exactly l).0 n))),
          a.steps ∙ order_one p.root a.instances ((a.reached p.root).1 (inl refl)) a.different
              (λ j n. root_reached c m attention words read p.root s j ((a.reached j).0 n)),
        );
      }

  -- The first unread register that a reached rule names decides.
  module _ (c : Chip) (root : ℕ) (accepted : Accepted of file c) (rooted : RootAt c attention root) (fit : ReadingsFit c words read) where
    abbrev graph : Graph
    graph = chip_graph c attention words read

    first-unread : (f : Fault) (fs : List Fault) → reached_unread c attention read graph root ≡ f ∷ fs
        → isolate (limits_of of) file attention words read list ≡ refused_outcome f.number f.place list
    unfolding isolate in_list find find_in from_root all_read
    first-unread f fs e =
        let m = accepted.meets in
        rw (accepted_in of file bytes accepted, root_known c m attention root rooted, root_in c m attention root rooted, fit_in c words read fit, ← rooted.means, e)

    unread_refused : (fs : List Fault) → reached_unread c attention read graph root ≡ fs → (fs ≡ [] → ⊥) → UnreadRefused of file attention words read list c root
    unfolding chip_graph In
    unread_refused [] e n = absurd (n refl)
    unread_refused (f ∷ fs) e n =
        let r = unread_out c read attention graph (sound c accepted.meets attention words read) root refl f (subst (In f) (sym e) (inl refl)) in
        record {
          register = r.0;
          names = r.1;
          unread = r.2;
          refused = first-unread f fs e ∙ ap (λ x. refused_outcome x.number x.place list) r.3;
        }

  pub unread_child_refused : UnreadChildRefused of file attention words read list
  unfolding chip_graph
  unread_child_refused c root accepted rooted fit u =
      let m = accepted.meets in
      let g = chip_graph c attention words read in
      let named : ReachedName c attention g root u.register = record {
        rule = u.rule;
        reached = record {
          position = u.child;
          reached = child_counts c m attention words read root u.instance u.bit u.child u.followed;
          rule = u.own;
        };
        names = u.names;
      } in
      unread_refused c root accepted rooted fit (reached_unread c attention read g root) refl
      (λ e. u.unread (valued_out c read attention g (sound c m attention words read) root refl m.unique e u.register named))
