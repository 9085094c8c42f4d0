-- The first unread register of an accepted file: its rules are read again at their places, and no name stands at 0.
use Prim.Native.Nat.{ℕ, zero, suc, ◌+◌, ◌≤◌, ◌<◌}
use mathlib.Core.Bool.{Bool, true, false, cond}
use mathlib.Core.List.{List, [], ◌∷◌, ◌++◌, map}
use mathlib.Core.Logic.{⊎_elim}
use mathlib.Core.Path.{◌≡◌, refl, sym, ◌∙◌, ap}
use native.Mathlib.Omega.{arith}
use lib.Dec.{eqb}
use lib.ListN.{length, get_or}
use borrow.Author.Tests.{ne_eqb}
use Rattle.numbers.specs.BigEndian.{Bytes}
use Rattle.graph.specs.Chains.{below, reached_from}
use Rattle.format.specs.Encoding.{encode_expr}
use Rattle.format.specs.ExpressionLayout.{expr_at}
use Rattle.limits.specs.declared.LimitSet.{LimitSet}
use Rattle.limits.specs.Limits.{levels, limits_of}
use Rattle.format.specs.Lookup.{at, gathered, NodeEntry, node_entries}
use Rattle.format.specs.Parsed.{done}
use Rattle.format.specs.Placing.{PlacedRow, PlacedExpr, PlacedExprs, PlacedRule, PlacedNodeInstance}
use Rattle.format.specs.References.{Named, Fault, unless, named_by, named_by_all}
use Rattle.format.specs.Rules.{Every, all_rules, Meets}
use Rattle.format.specs.Tree.{Expr, Exprs, reading, constant, all, any, inverse, left, right, none, more, Rule, NodeInstance, Chip}
use Rattle.format.specs.Verdict.{verdict}
use Rattle.format.proofs.Acceptance.{acceptance}
use Rattle.format.proofs.EveryLaws.{every_map, every_both, every-append_in, every-gathered_in, every-gathered_out}
use Rattle.format.proofs.GatheredLaws.{gathered-append, gathered_one}
use Rattle.format.proofs.PlacesLaws.{entries_stand, rules_again}
use Rattle.format.proofs.PositionsLaws.{at_inside, every_at}
use Rattle.walk.specs.TableGraph.{table_graph}
use Rattle.tables.specs.Keys.{register_keys}
use Rattle.reader.specs.Columns.{child_column}
use Rattle.evaluation.specs.Value.{first_place}
use Rattle.isolation.specs.ChipGraph.{rule_unread, chip_graph}
use Rattle.isolation.specs.Outcome.{Findings, stopped, entry_unread, reached_unread, all_read}
use Rattle.isolation.specs.Readings.{unread_faults}
use Rattle.listing.specs.Rows.{is_done}
use Rattle.isolation.specs.Activity.{active_word, unread_place, RulesAgain, unread_at, first_unread}
use Rattle.format.proofs.FindingLaws.{rule_cases}
use Rattle.isolation.proofs.GraphsLaws.{DoneReached, done_is}
use Rattle.isolation.proofs.OutcomeLaws.{Eighteen, reached_eighteen}
use Rattle.isolation.proofs.TablesLaws.{rules_fit, act_size, tables_reached, entry-unread}

-- Places

abbrev Behind : Named → Type 0
Behind n = 0 < n.place

mutual
  unfolding PlacedExpr PlacedExprs named_by named_by_all Every

  names_behind : (at : ℕ) (e : Expr) → 0 < at → PlacedExpr at e → Every Behind (named_by e)
  names_behind at (reading p id n) l h = (omega (arith, h), tt)
  names_behind at (constant v) l h = tt
  names_behind at (all es) l h = all_behind (at + 2) es (omega arith) h
  names_behind at (any es) l h = all_behind (at + 2) es (omega arith) h
  names_behind at (inverse e) l h = names_behind (at + 1) e (omega arith) h
  names_behind at (left k e) l h = names_behind (at + 2) e (omega arith) h
  names_behind at (right k e) l h = names_behind (at + 2) e (omega arith) h

  all_behind : (at : ℕ) (es : Exprs) → 0 < at → PlacedExprs at es → Every Behind (named_by_all es)
  all_behind at none l h = tt
  all_behind at (more e es) l h =
      every-append_in Behind (named_by e) (named_by_all es) (names_behind at e l h.0) (all_behind (at + length (encode_expr e)) es (omega arith) h.1)

-- Neither a rule's expression nor a name in it stands at 0.
pub record RulePlaced (r : Rule) : Type 0 where
  pub rule : r.place ≡ 0 → ⊥
  pub names : Every Behind (named_by r.expression)

row_placed : {A : Type 0} (place : ℕ → A → Type 0) (enc : A → List ℕ) (Q : A → Type 0) → ((at : ℕ) (x : A) → place at x → Q x)
    → (at : ℕ) (xs : List A) → PlacedRow place enc at xs → Every Q xs
unfolding PlacedRow Every
row_placed place enc Q f at [] h = tt
row_placed place enc Q f at (x ∷ xs) h = (f at x h.0, row_placed place enc Q f (at + length (enc x)) xs h.1)

rule_placed : (at : ℕ) (r : Rule) → PlacedRule at r → RulePlaced r
unfolding PlacedRule
rule_placed at r h =
    record { rule = λ e. let p = h.0 in absurd (omega arith); names = names_behind (at + 1) r.expression (omega arith) h.1 }

rules_placed : (at : ℕ) (i : NodeInstance) → PlacedNodeInstance at i → Every RulePlaced i.rules
unfolding PlacedNodeInstance
rules_placed at i h = row_placed PlacedRule _ RulePlaced rule_placed _ i.rules h.2

module _ (of : LimitSet) (s : List ℕ) (bytes : Bytes s) (c : Chip) (accepted : verdict (limits_of of) s ≡ done c (length s)) where
  pub entries_placed : Every (λ e. Every RulePlaced e.instance.rules) (node_entries c)
  entries_placed = every_map _ _ (λ (e : NodeEntry) t. rules_placed t.start e.instance t.placed) (node_entries c) (entries_stand (limits_of of) s bytes c accepted)

  entries_read : Every (λ e. Every (λ r. expr_at s levels r.place ≡ done r.expression (r.place + length (encode_expr r.expression))) e.instance.rules) (node_entries c)
  unfolding all_rules
  entries_read = every-gathered_out _ _ (node_entries c) (rules_again (limits_of of) s bytes c accepted)

  -- The rules of an accepted file are read again at their places.
  pub entries_rules : Every (RulesAgain s) (node_entries c)
  entries_rules =
      every_map _ _
      (λ (e : NodeEntry) h. every_map _ _
      (λ (r : Rule) k. record { next = r.place + length (encode_expr r.expression); read = k.0; placed = k.1.rule })
      e.instance.rules (every_both _ _ e.instance.rules h.0 h.1))
      (node_entries c) (every_both _ _ (node_entries c) entries_read entries_placed)

-- Faults

abbrev Standing : Fault → Type 0
Standing f = f.place ≡ 0 → ⊥

joined : (xs ys : List Fault) → Every Standing xs → cond (eqb (first_place xs) 0) (first_place ys) (first_place xs) ≡ first_place (xs ++ ys)
unfolding first_place Every
joined [] ys h = refl
joined (f ∷ fs) ys h = rw (ne_eqb f.place 0 h.0)

no_place : first_place [] ≡ 0
unfolding first_place
no_place = refl

no_fault : Every Standing []
unfolding Every
no_fault = tt

unless_standing : (ok : Bool) (p : ℕ) → 0 < p → Every Standing (unless ok 18 p)
unfolding unless Every
unless_standing true p h = tt
unless_standing false p h = (λ e. absurd (let z : p ≡ 0 = e in omega arith), tt)

module _ (c : Chip) (read : List ℕ) where
  rule_standing : (r : Rule) → RulePlaced r → Every Standing (rule_unread c read r)
  unfolding rule_unread unread_faults
  rule_standing r h = every-gathered_in Standing _ (named_by r.expression) (every_map _ _ (λ n l. unless_standing _ _ l) (named_by r.expression) h.names)

  entry_standing : (attention : ℕ) (e : NodeEntry) → Every RulePlaced e.instance.rules → Every Standing (entry_unread c attention read e)
  unfolding entry_unread gathered
  entry_standing attention e h =
      ⊎_elim
      (λ z. rw z no_fault)
      (λ z. rw (z.2, gathered_one (rule_unread c read) z.0) (rule_standing z.0 z.1))
      (rule_cases RulePlaced attention e.instance h)

-- Places, instance after instance: the first is that of the first fault.
module _ (marks unread : List ℕ) (size : ℕ) (faults : ℕ → List Fault) (here : (i : ℕ) → i < size → unread_at marks unread i ≡ first_place (faults i))
    (standing : (i : ℕ) → i < size → Every Standing (faults i)) where
  all_standing : (n : ℕ) → n ≤ size → Every Standing (gathered faults (below n))
  unfolding below gathered
  all_standing zero h = no_fault
  all_standing (suc n) h =
      rw (gathered-append faults (below n) (n ∷ []), gathered_one faults n)
      (every-append_in Standing (gathered faults (below n)) (faults n) (all_standing n (omega arith)) (standing n (omega arith)))

  first_faults : (n : ℕ) → n ≤ size → first_unread marks unread n ≡ first_place (gathered faults (below n))
  unfolding below gathered first_unread
  first_faults zero h = sym no_place
  first_faults (suc n) h =
      rw (gathered-append faults (below n) (n ∷ []), gathered_one faults n, first_faults n (omega arith), here n (omega arith))
      (joined (gathered faults (below n)) (faults n) (all_standing n (omega arith)))

-- No fault has the place 0, and a fault of 18 is refused as such.
none_first : (fs : List Fault) → Every Standing fs → first_place fs ≡ 0 → fs ≡ []
unfolding first_place Every
none_first [] h e = refl
none_first (f ∷ fs) h e = absurd (h.0 e)

some_first : (fs : List Fault) → Every Eighteen fs → (first_place fs ≡ 0 → ⊥) → (o : Findings) → all_read fs o ≡ stopped 18 (first_place fs)
unfolding first_place Every all_read
some_first [] h e o = absurd (e refl)
some_first (f ∷ fs) h e o = rw h.0

-- The tables of an accepted file, with marks that are done where the root reaches.
module _ (of : LimitSet) (s : List ℕ) (bytes : Bytes s) (c : Chip) (accepted : verdict (limits_of of) s ≡ done c (length s)) (attention : ℕ) (words read : List ℕ) (act ch rest : List ℕ)
    (act-is : act ≡ map (active_word (register_keys c) words read attention) (node_entries c))
    (ch-is : ch ≡ child_column c ++ rest)
    (root : ℕ) (inside : root < length (node_entries c)) (marks : List ℕ) (reached : DoneReached (table_graph act ch) root marks) (unread : List ℕ)
    (unread_is : (i : ℕ) (e : NodeEntry) → at i (node_entries c) ≡ e ∷ [] → get_or unread i 0 ≡ unread_place (register_keys c) read attention e) where
  meets : Meets (limits_of of) c
  meets = ((acceptance (limits_of of) s bytes c).0 accepted).2

  abbrev faults_at : ℕ → List Fault
  faults_at i = cond (reached_from (chip_graph c attention words read) root i) (gathered (entry_unread c attention read) (at i (node_entries c))) []

  done_reached : (i : ℕ) → i < length (node_entries c) → is_done marks i ≡ reached_from (chip_graph c attention words read) root i
  unfolding table_graph
  done_reached i h =
      done_is (table_graph act ch) root marks reached i (omega (arith, act_size of c meets attention words read act ch rest act-is ch-is))
      ∙ tables_reached of c meets attention words read act ch rest act-is ch-is root inside i

  place_is : (i : ℕ) (e : NodeEntry) → at i (node_entries c) ≡ e ∷ [] → get_or unread i 0 ≡ first_place (gathered (entry_unread c attention read) (at i (node_entries c)))
  unfolding unread_place
  place_is i e q =
      rw q
      (unread_is i e q ∙ ap first_place (entry-unread of c meets attention read e (every_at _ i (node_entries c) (rules_fit of c meets) q) ∙ sym (gathered_one (entry_unread c attention read) e)))

  place_here : (i : ℕ) → i < length (node_entries c) → unread_at marks unread i ≡ first_place (faults_at i)
  unfolding unread_at
  place_here i h =
      let d = at_inside i (node_entries c) h in
      rw (done_reached i h, place_is i d.0 d.1) (go (reached_from (chip_graph c attention words read) root i))
    where
      go : (t : Bool) → cond t (first_place (gathered (entry_unread c attention read) (at i (node_entries c)))) 0 ≡ first_place (cond t (gathered (entry_unread c attention read) (at i (node_entries c))) [])
      go true = refl
      go false = sym no_place

  faults_standing : (i : ℕ) → i < length (node_entries c) → Every Standing (faults_at i)
  faults_standing i h =
      let d = at_inside i (node_entries c) h in
      rw (d.1, gathered_one (entry_unread c attention read) d.0)
      (go d.0 (reached_from (chip_graph c attention words read) root i) (every_at _ i (node_entries c) (entries_placed of s bytes c accepted) d.1))
    where
      go : (e : NodeEntry) (t : Bool) → Every RulePlaced e.instance.rules → Every Standing (cond t (entry_unread c attention read e) [])
      go e true p = entry_standing c read attention e p
      go e false p = no_fault

  -- What the code finds is the place of the first unread register that the definition names.
  module _ (n : ℕ) (n_is : n ≡ length (node_entries c)) where
    pub first_unread_is : first_unread marks unread n ≡ first_place (reached_unread c attention read (chip_graph c attention words read) root)
    unfolding reached_unread chip_graph
    first_unread_is =
        rw n_is (first_faults marks unread (length (node_entries c)) faults_at place_here faults_standing (length (node_entries c)) (omega arith))

    reached_standing : Every Standing (reached_unread c attention read (chip_graph c attention words read) root)
    unfolding reached_unread chip_graph
    reached_standing = all_standing marks unread (length (node_entries c)) faults_at place_here faults_standing (length (node_entries c)) (omega arith)

    pub unread_none : first_unread marks unread n ≡ 0 → reached_unread c attention read (chip_graph c attention words read) root ≡ []
    unread_none e = none_first _ reached_standing (sym first_unread_is ∙ e)

    pub unread_some : {p : ℕ} → p ≡ first_unread marks unread n → (p ≡ 0 → ⊥) → (o : Findings)
        → all_read (reached_unread c attention read (chip_graph c attention words read) root) o ≡ stopped 18 p
    unread_some {p} d e o =
        let w : p ≡ first_place (reached_unread c attention read (chip_graph c attention words read) root) = d ∙ first_unread_is in
        some_first _ (reached_eighteen c attention read (chip_graph c attention words read) root) (λ z. e (w ∙ z)) o ∙ ap (stopped 18) (sym w)
