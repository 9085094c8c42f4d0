-- The tables of a chip that meets the rules say what the chip says: their graph is the chip's.
use Prim.Native.Nat.{ℕ, ◌+◌, ◌*◌, ◌≤◌, ◌<◌}
use mathlib.Core.Bool.{true, false, cond, ◌&&◌}
use mathlib.Core.List.{List, [], ◌∷◌, ◌++◌, map}
use mathlib.Core.Logic.{⊎_elim}
use mathlib.Core.Option as option
use mathlib.Core.Option.{Option, none}
use mathlib.Core.Path.{◌≡◌, refl, sym, ◌∙◌, ap}
use native.Mathlib.Omega.{arith}
use lib.Dec.{ltb}
use lib.ListN.{length, get_or, length-map}
use borrow.Author.Tests.{lt-ltb, le-ltb}
use Rattle.limits.proofs.LimitsLaws.{nodes_within}
use Rattle.limits.specs.declared.LimitSet.{LimitSet}
use Rattle.numbers.specs.Bits.{bit_of}
use Rattle.numbers.proofs.BitsLaws.{zero_bit}
use Rattle.graph.specs.Chains.{reached_from, reached_count}
use Rattle.limits.specs.Limits.{library_limits, limits_of, levels}
use Rattle.format.specs.Lookup.{some, at, gathered, NodeEntry, node_entries, register_position}
use Rattle.format.specs.Meaning.{value_within}
use Rattle.format.specs.References.{Named, Fault, named_by}
use Rattle.format.specs.Rules.{Every, ExprFits, all_rules, all_children, Meets}
use Rattle.format.specs.Tree.{Rule, Chip}
use Rattle.format.proofs.EveryLaws.{every_map, every-gathered_out}
use Rattle.format.proofs.FaultsLaws.{some_none}
use Rattle.format.proofs.GatheredLaws.{gathered_one, gathered_same}
use Rattle.format.proofs.MeaningLaws.{value_same}
use Rattle.format.proofs.PositionsLaws.{at_inside, every_at, some_one}
use Rattle.walk.specs.TableGraph.{table_size, child_at, table_graph}
use Rattle.walk.proofs.Tables.{table_sound}
use Rattle.tables.specs.Keys.{register_keys}
use Rattle.reader.specs.Columns.{position_or, child_places, child_column}
use Rattle.reader.proofs.ChildPlacesLaws.{row-length, row_place}
use Rattle.tables.proofs.ColumnLaws.{column_at, rows_place}
use Rattle.tables.proofs.KeysLaws.{Fitting, names_fit, register_position_in}
use Rattle.evaluation.specs.Value.{word_in, unread_in, faulty}
use Rattle.format.specs.Finding.{rule_for, child_for, child_position}
use Rattle.isolation.specs.ChipGraph.{rule_unread, is_none, rule_active, entry_active, entry_child, chip_graph}
use Rattle.isolation.specs.Outcome.{entry_unread}
use Rattle.isolation.specs.Readings.{has_value, word_for, unread_faults}
use Rattle.listing.specs.Records.{listing}
use Rattle.isolation.specs.Activity.{unread_by, expr_word, active_word}
use Rattle.format.proofs.FindingLaws.{rule_cases, child_inside}
use Rattle.isolation.proofs.ActivityLaws.{no_rule, one_rule}
use Rattle.isolation.proofs.ChipLaws.{chip_sound}
use Rattle.isolation.proofs.GraphsLaws.{Agree, agree_reached, reached_same, listing_same, count_reached_same}

module _ (of : LimitSet) (c : Chip) (meets : Meets (limits_of of) c) where
  pub entries_few : length (node_entries c) ≤ library_limits.node_instances
  entries_few = omega (arith, meets.within.nodes, nodes_within of)

  -- A place of the table of children says what the bit's child entry says.
  held : (table : List ℕ) (k : ℕ) (x : Option ℕ) → ((j : ℕ) → x ≡ option.some j → j < length (node_entries c)) → k < length table → get_or table k 0 ≡ position_or x
      → child_at (length (node_entries c)) table k ≡ x
  unfolding child_at position_or
  held table k none p h g = let z : length (node_entries c) ≤ get_or table k 0 = omega (arith, entries_few) in simp (lt-ltb _ _ h, le-ltb _ _ z)
  held table k (option.some j) p h g = let z : get_or table k 0 ≡ j = g in simp (lt-ltb _ _ h, z, lt-ltb _ _ (p j refl))

  table_child : (i b : ℕ) (e : NodeEntry) → at i (node_entries c) ≡ e ∷ [] → b < 64 → (rest : List ℕ)
      → child_at (length (node_entries c)) (child_column c ++ rest) (i * 64 + b) ≡ child_position c (child_for b e.instance)
  unfolding child_for all_children
  table_child i b e q l rest =
      let p = rows_place (λ e. child_places c e.instance) (λ e. row-length c e.instance) rest (node_entries c) i q b l in
      held (child_column c ++ rest) (i * 64 + b) _
      (λ j w. child_inside c b e.instance.children (every_at _ i (node_entries c) (every-gathered_out _ _ (node_entries c) meets.present.children) q) w)
      p.1 (p.0 ∙ row_place c e.instance b l)

  -- By the keys, a name in a rule has the word and the faults that it has by the chip.
  pub word_same : (words : List ℕ) (n : Named) → Fitting n → word_in (register_keys c) words n.id n.number ≡ word_for c words n.id n.number
  unfolding word_in word_for register_position
  word_same words n h = ap (λ k. get_or words k 0) (register_position_in c meets.fields n.id n.number h.0 h.1)

  pub unread_same : (read : List ℕ) (n : Named) → Fitting n → unread_in (register_keys c) read n ≡ unread_faults c read n
  unfolding unread_in unread_faults has_value register_position
  unread_same read n h = rw (register_position_in c meets.fields n.id n.number h.0 h.1)

  rule-unread : (read : List ℕ) (r : Rule) → ExprFits r.expression → unread_by (register_keys c) read r.expression ≡ rule_unread c read r
  unfolding unread_by rule_unread
  rule-unread read r h =
      gathered_same _ _ (named_by r.expression) (every_map _ _ (unread_same read) (named_by r.expression) (names_fit r.expression h))

  rule_value : (words : List ℕ) (r : Rule) → ExprFits r.expression
      → value_within levels 64 (word_in (register_keys c) words) r.expression ≡ value_within levels 64 (word_for c words) r.expression
  rule_value words r h =
      value_same 64 _ _ levels r.expression (every_map _ _ (word_same words) (named_by r.expression) (names_fit r.expression h))

  rule-bit : (words read : List ℕ) (b : ℕ) (r : Rule) → ExprFits r.expression
      → bit_of 64 (expr_word (register_keys c) words read r.expression) b ≡ rule_active c words read b r
  unfolding expr_word rule_active faulty
  rule-bit words read b r h = rw (rule-unread read r h, rule_value words r h) (go (rule_unread c read r))
    where
      v : ℕ
      v = value_within levels 64 (word_for c words) r.expression

      go : (fs : List Fault) → bit_of 64 (cond (faulty fs) 0 v) b ≡ is_none fs && bit_of 64 v b
      go [] = refl
      go (f ∷ fs) = zero_bit 64 b

  -- The expressions of a node instance fit.
  abbrev RulesFit : NodeEntry → Type 0
  RulesFit e = Every (λ r. ExprFits r.expression) e.instance.rules

  pub rules_fit : Every RulesFit (node_entries c)
  unfolding all_rules
  rules_fit = every-gathered_out _ _ (node_entries c) meets.fields.expressions

  module _ (attention : ℕ) (words read : List ℕ) where
    entry_none : (b : ℕ) (e : NodeEntry) → rule_for attention e.instance ≡ [] → entry_active c attention words read b e ≡ false
    unfolding entry_active
    entry_none b e q = some_none _ q

    entry_one : (b : ℕ) (e : NodeEntry) (r : Rule) → rule_for attention e.instance ≡ r ∷ [] → entry_active c attention words read b e ≡ rule_active c words read b r
    unfolding entry_active
    entry_one b e r q = ap (some (rule_active c words read b)) q ∙ some_one (rule_active c words read b) r

    -- The bits of a node instance's word are its active bits.
    entry-bit : (b : ℕ) (e : NodeEntry) → RulesFit e → bit_of 64 (active_word (register_keys c) words read attention e) b ≡ entry_active c attention words read b e
    entry-bit b e h =
        ⊎_elim
        (λ z.
        ap (λ x. bit_of 64 x b) (no_rule (register_keys c) words read attention e z).0 ∙ zero_bit 64 b ∙ sym (entry_none b e z))
        (λ z.
        ap (λ x. bit_of 64 x b) (one_rule (register_keys c) words read attention e z.0 z.2).0 ∙ rule-bit words read b z.0 z.1
        ∙ sym (entry_one b e z.0 z.2))
        (rule_cases (λ r. ExprFits r.expression) attention e.instance h)

    -- A table of active bits, and one of children with anything behind them.
    module _ (act ch rest : List ℕ) (act-is : act ≡ map (active_word (register_keys c) words read attention) (node_entries c))
        (ch-is : ch ≡ child_column c ++ rest) where
      pub act-length : length act ≡ length (node_entries c)
      act-length = ap length act-is ∙ length-map (node_entries c) (active_word (register_keys c) words read attention)

      pub act_size : table_size act ≡ length (node_entries c)
      unfolding table_size
      act_size = omega (arith, act-length, entries_few)

      act-bit : (i b : ℕ) → i < table_size act → ltb i (table_size act) && bit_of 64 (get_or act i 0) b ≡ some (entry_active c attention words read b) (at i (node_entries c))
      act-bit i b h =
          let d = at_inside i (node_entries c) (omega (arith, act_size)) in
          let e = d.0 in
          let w : get_or act i 0 ≡ active_word (register_keys c) words read attention e =
          ap (λ t. get_or t i 0) act-is ∙ column_at (active_word (register_keys c) words read attention) (node_entries c) i d.1 in
          rw (lt-ltb _ _ h, w, d.1)
          (entry-bit b e (every_at RulesFit i (node_entries c) rules_fit d.1) ∙ sym (some_one (entry_active c attention words read b) e))

      ch_child : (i b : ℕ) → i < table_size act → b < 64
          → cond (ltb i (table_size act) && ltb b 64) (child_at (table_size act) ch (i * 64 + b)) none ≡ entry_child c b (at i (node_entries c))
      unfolding entry_child
      ch_child i b h l =
          let d = at_inside i (node_entries c) (omega (arith, act_size)) in
          rw (lt-ltb _ _ h, lt-ltb b 64 l, act_size, ch-is, d.1)
          (table_child i b d.0 d.1 l rest)

      -- They give the chip's graph.
      pub tables_agree : Agree (table_graph act ch) (chip_graph c attention words read) (λ i. i < (table_graph act ch).size)
      unfolding table_graph chip_graph
      tables_agree = record { size = act_size; active = λ i b h l. act-bit i b h; child = ch_child }

      -- So the answer is the chip's.
      module _ (root : ℕ) (inside : root < length (node_entries c)) where
        pub root_in_tables : root < (table_graph act ch).size
        unfolding table_graph
        root_in_tables = omega (arith, act_size)

        agree : Agree (table_graph act ch) (chip_graph c attention words read) (λ i. reached_from (table_graph act ch) root i ≡ true)
        agree = agree_reached _ _ (table_sound act ch) root root_in_tables tables_agree

        pub tables_reached : (i : ℕ) → reached_from (table_graph act ch) root i ≡ reached_from (chip_graph c attention words read) root i
        tables_reached = reached_same _ _ (table_sound act ch) (chip_sound c meets.present attention words read) root agree

        pub tables_listing : listing (table_graph act ch) root ≡ listing (chip_graph c attention words read) root
        tables_listing = listing_same _ _ (table_sound act ch) (chip_sound c meets.present attention words read) root agree

        pub tables_count : reached_count (table_graph act ch) root ≡ reached_count (chip_graph c attention words read) root
        tables_count = count_reached_same _ _ (table_sound act ch) (chip_sound c meets.present attention words read) root agree

  -- What a node instance's rule names without a value, by the keys.
  pub entry-unread : (attention : ℕ) (read : List ℕ) (e : NodeEntry) → RulesFit e
      → gathered (λ r. unread_by (register_keys c) read r.expression) (rule_for attention e.instance) ≡ entry_unread c attention read e
  unfolding entry_unread gathered
  entry-unread attention read e h =
      ⊎_elim
      (λ z. rw z)
      (λ z.
      rw z.2
      (gathered_one (λ r. unread_by (register_keys c) read r.expression) z.0 ∙ rule-unread read z.0 z.1 ∙ sym (gathered_one (rule_unread c read) z.0)))
      (rule_cases (λ r. ExprFits r.expression) attention e.instance h)
