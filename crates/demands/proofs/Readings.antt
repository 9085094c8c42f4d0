-- What a reading may change: nothing, where it is of no register that a reached rule names.
use Prim.Native.Nat.{ℕ, ◌*◌, ◌/◌}
use mathlib.Core.Bool.{Bool, true, false, cond, ◌&&◌}
use mathlib.Core.List.{List, [], ◌∷◌, ◌++◌}
use mathlib.Core.Logic.{⊎_elim}
use mathlib.Core.Path.{◌≡◌, refl, sym, ◌∙◌, ap, subst}
use lib.Dec.{leb}
use lib.ListN.{length, drop}
use lib.Seq.{take_at}
use Rattle.limits.specs.declared.LimitSet.{LimitSet}
use Rattle.limits.specs.Limits.{Limits, levels, limits_of}
use Rattle.numbers.specs.Bits.{bit_of}
use Rattle.numbers.specs.BigEndian.{Bytes}
use Rattle.graph.specs.Chains.{Graph, Sound, below, reached_from, reached_count}
use Rattle.graph.proofs.ChainsLaws.{reached_by_chains}
use Rattle.format.specs.Finding.{root_for}
use Rattle.format.specs.Lookup.{at, gathered, NodeEntry, node_entries, node_position}
use Rattle.format.specs.Meaning.{value_within}
use Rattle.format.specs.Parsed.{Parsed, done, refused}
use Rattle.format.specs.References.{Fault, Named, named_by}
use Rattle.format.specs.Rules.{Meets}
use Rattle.format.specs.Tree.{Rule, Root, Chip}
use Rattle.format.specs.Verdict.{verdict}
use Rattle.format.proofs.FaultsLaws.{some_none}
use Rattle.format.proofs.GatheredLaws.{gathered_one, gathered_same}
use Rattle.format.proofs.MeaningLaws.{value_same}
use Rattle.format.proofs.PositionsLaws.{at_inside, some_one}
use Rattle.isolation.specs.ChipGraph.{rule_unread, is_none, rule_active, entry_active, chip_graph}
use Rattle.isolation.specs.Outcome.{refused_outcome, done_outcome, entry_unread, reached_unread, Findings, stopped, found, found_from, all_read, from_root, find_in, find, written, in_list, isolate}
use Rattle.isolation.specs.Readings.{has_value, word_for, unread_faults}
use Rattle.listing.specs.Records.{record_size, listing}
use Rattle.isolation.proofs.ChipLaws.{chip_sound}
use Rattle.isolation.proofs.GraphsLaws.{Agree, every_below, reached_below, reached_same, count_reached_same, listing_same}
use Rattle.isolation.proofs.OutcomeLaws.{found-length}
use Rattle.demands.specs.Rows.{In}
use Rattle.demands.specs.Demand2.{Accepted}
use Rattle.demands.specs.Demand3.{RootAt, read_byte}
use Rattle.demands.specs.Readings.{AgreeOn, Alike, SameAnswer, ReadingsSettle}
use Rattle.demands.proofs.RowsLaws.{in_every}
use Rattle.demands.proofs.ReachedLaws.{rule_cases, rule_valued, entry_one, entry_none}
use Rattle.demands.proofs.Demand2.{accepted_out}
use Rattle.demands.proofs.Demand3.{root_out, root_below, fit_in}

-- A rule whose registers agree

module _ (c : Chip) (words read words' read' : List ℕ) (r : Rule)
    (agree : (n : Named) → In n (named_by r.expression) → AgreeOn c words read words' read' n) where
  unread_same : rule_unread c read r ≡ rule_unread c read' r
  unfolding rule_unread unread_faults has_value read_byte
  unread_same =
      gathered_same _ _ (named_by r.expression) (in_every _ (named_by r.expression) (λ n i. rw (agree n i).byte))

  active_same : (b : ℕ) → rule_active c words read b r ≡ rule_active c words' read' b r
  unfolding rule_active
  active_same b = rw (← unread_same) (go (rule_unread c read r) refl)
    where
      go : (fs : List Fault) → rule_unread c read r ≡ fs
          → is_none fs && bit_of 64 (value_within levels 64 (word_for c words) r.expression) b ≡ is_none fs && bit_of 64 (value_within levels 64 (word_for c words') r.expression) b
      go [] e =
          ap (λ v. bit_of 64 v b)
          (value_same 64 (word_for c words) (word_for c words') levels r.expression
          (in_every _ (named_by r.expression) (λ n i. (agree n i).value (rule_valued c read r e n i))))
      go (f ∷ fs) e = refl

-- What is found is settled by the listing and the count.
found_by : (c : Chip) (slot attention root : ℕ) (g h : Graph) → listing g root ≡ listing h root → reached_count g root ≡ reached_count h root
    → found_from c slot attention g root ≡ found_from c slot attention h root
unfolding found_from
found_by c slot attention root g h e d = rw (e, d)

-- Two graphs of one chip

module _ {limits : Limits} (c : Chip) (m : Meets limits c) (attention : ℕ) (words read words' read' : List ℕ) (alike : Alike c attention words read words' read') (root : ℕ)
    (rooted : RootAt c attention root) where
  abbrev g : Graph
  g = chip_graph c attention words read

  abbrev h : Graph
  h = chip_graph c attention words' read'

  g_sound : Sound g
  g_sound = chip_sound c m.present attention words read

  h_sound : Sound h
  h_sound = chip_sound c m.present attention words' read'

  -- What is reached, by its entry.
  entry_at : (i : ℕ) → reached_from g root i ≡ true → (e : NodeEntry) × (at i (node_entries c) ≡ e ∷ [])
  unfolding chip_graph
  entry_at i t = at_inside i (node_entries c) (reached_below g g_sound root (root_below c m attention root rooted) i t)

  names_agree : (i : ℕ) → reached_from g root i ≡ true → (e : NodeEntry) → at i (node_entries c) ≡ e ∷ [] → (r : Rule) → In r e.instance.rules
      → r.attention ≡ attention → (n : Named) → In n (named_by r.expression) → AgreeOn c words read words' read' n
  names_agree i t e q r k w n l =
      alike.agree root rooted n
      (record {
        rule = r;
        reached = record {
          position = i;
          reached = (reached_by_chains g g_sound root i).0 t;
          rule = record { entry = e; stands = q; own = k; wanted = w };
        };
        names = l;
      })

  entry-active : (i : ℕ) → reached_from g root i ≡ true → (e : NodeEntry) → at i (node_entries c) ≡ e ∷ [] → (b : ℕ)
      → entry_active c attention words read b e ≡ entry_active c attention words' read' b e
  unfolding entry_active
  entry-active i t e q b =
      ⊎_elim (λ z. some_none (rule_active c words read b) z ∙ sym (some_none (rule_active c words' read' b) z))
      (λ z. rw z.1
      (some_one (rule_active c words read b) z.0
      ∙ active_same c words read words' read' z.0 (names_agree i t e q z.0 z.2 z.3) b
      ∙ sym (some_one (rule_active c words' read' b) z.0)))
      (rule_cases attention e.instance)

  entry-unread : (i : ℕ) → reached_from g root i ≡ true → (e : NodeEntry) → at i (node_entries c) ≡ e ∷ []
      → entry_unread c attention read e ≡ entry_unread c attention read' e
  entry-unread i t e q =
      ⊎_elim (λ z. entry_none c read attention e z ∙ sym (entry_none c read' attention e z))
      (λ z. entry_one c read attention e z.1
      ∙ unread_same c words read words' read' z.0 (names_agree i t e q z.0 z.2 z.3)
      ∙ sym (entry_one c read' attention e z.1))
      (rule_cases attention e.instance)

  graphs_agree : Agree g h (λ i. reached_from g root i ≡ true)
  unfolding chip_graph
  graphs_agree =
      record {
        size = refl;
        active = λ i b t l. let x = entry_at i t in rw x.1
            (some_one (entry_active c attention words read b) x.0
            ∙ entry-active i t x.0 x.1 b
            ∙ sym (some_one (entry_active c attention words' read' b) x.0));
        child = λ i b t l. refl;
      }

  reached-unread : reached_unread c attention read g root ≡ reached_unread c attention read' h root
  unfolding reached_unread
  reached-unread =
      gathered_same _ _ (below g.size) (every_below _ g.size (λ i l. rw (← reached_same g h g_sound h_sound root graphs_agree i) (go i (reached_from g root i) refl)))
      ∙ ap (λ n. gathered (λ i. cond (reached_from h root i) (gathered (entry_unread c attention read') (at i (node_entries c))) []) (below n)) graphs_agree.size
    where
      go : (i : ℕ) (t : Bool) → reached_from g root i ≡ t
          → cond t (gathered (entry_unread c attention read) (at i (node_entries c))) [] ≡ cond t (gathered (entry_unread c attention read') (at i (node_entries c))) []
      go i true t =
          let x = entry_at i t in
          rw x.1
          (gathered_one (entry_unread c attention read) x.0
          ∙ entry-unread i t x.0 x.1
          ∙ sym (gathered_one (entry_unread c attention read') x.0))
      go i false t = refl

  found_same : (slot : ℕ) → found_from c slot attention g root ≡ found_from c slot attention h root
  found_same slot =
      found_by c slot attention root g h (listing_same g h g_sound h_sound root graphs_agree) (count_reached_same g h g_sound h_sound root graphs_agree)

  findings_same : (slot : ℕ)
      → all_read (reached_unread c attention read g root) (found_from c slot attention g root) ≡ all_read (reached_unread c attention read' h root) (found_from c slot attention h root)
  findings_same slot = rw (reached-unread, found_same slot)

-- What is found, and the whole answer

finds_same : (of : LimitSet) (file : List ℕ) → Bytes file → (attention : ℕ) (words read words' read' : List ℕ)
    → ((c : Chip) → Accepted of file c → Alike c attention words read words' read')
    → (slot : ℕ) → find (limits_of of) slot file attention words read ≡ find (limits_of of) slot file attention words' read'
unfolding find find_in from_root
finds_same of file bytes attention words read words' read' same slot = go (verdict (limits_of of) file) refl
  where
    rooted : (c : Chip) → Meets (limits_of of) c → Alike c attention words read words' read' → (ts : List Root) → root_for attention c ≡ ts
        → from_root c slot attention words read ts ≡ from_root c slot attention words' read' ts
    rooted c m a [] e = refl
    rooted c m a (t ∷ ts) e =
        rw (fit_in c words read a.first, fit_in c words' read' a.second)
        (findings_same c m attention words read words' read' a (node_position c t.id t.number) (root_out c attention e) slot)

    go : (r : Parsed Chip) → verdict (limits_of of) file ≡ r → find_in slot attention words read r ≡ find_in slot attention words' read' r
    go (refused n p) e = refl
    go (done c end) e =
        let a = accepted_out of file bytes e in rw (rooted c a.meets (same c a) (root_for attention c) refl)

answers_same : (of : LimitSet) (file : List ℕ) → Bytes file → (attention : ℕ) (words read words' read' : List ℕ)
    → ((c : Chip) → Accepted of file c → Alike c attention words read words' read')
    → (list : List ℕ) → isolate (limits_of of) file attention words read list ≡ isolate (limits_of of) file attention words' read' list
unfolding isolate
answers_same of file bytes attention words read words' read' same list = ap (in_list list) (finds_same of file bytes attention words read words' read' same 0)

-- Two lists of one length

module _ (list list' : List ℕ) (size : length list ≡ length list') where
  refused-answer : (n p : ℕ) → SameAnswer (refused_outcome n p list) (refused_outcome n p list')
  refused-answer n p = record { number = refl; place = refl; records = refl; steps = refl; written = refl }

  written-answer : (count : ℕ) (rs : List ℕ) (steps : ℕ) → length rs ≡ count * 16 → SameAnswer (written count rs steps list) (written count rs steps list')
  unfolding written record_size
  written-answer count rs steps e = rw (← size) (go (leb count (length list / 16)))
    where
      go : (t : Bool) → SameAnswer
          (cond t (done_outcome count steps (rs ++ drop (count * 16) list)) (refused_outcome 19 count list))
          (cond t (done_outcome count steps (rs ++ drop (count * 16) list')) (refused_outcome 19 count list'))
      go true =
          record {
            number = refl;
            place = refl;
            records = refl;
            steps = refl;
            written = take_at rs (drop (count * 16) list) (count * 16) e ∙ sym (take_at rs (drop (count * 16) list') (count * 16) e);
          }
      go false = refused-answer 19 count

  room_answer : (of : LimitSet) (file : List ℕ) (attention : ℕ) (words read : List ℕ)
      → SameAnswer (isolate (limits_of of) file attention words read list) (isolate (limits_of of) file attention words read list')
  unfolding isolate in_list record_size
  room_answer of file attention words read = go (find (limits_of of) 0 file attention words read) refl
    where
      go : (f : Findings) → find (limits_of of) 0 file attention words read ≡ f → SameAnswer (in_list list f) (in_list list' f)
      go (stopped n p) e = refused-answer n p
      go (found count rs steps) e = written-answer count rs steps (found-length of 0 file attention words read e)

pub readings_settle : (of : LimitSet) (file : List ℕ) → Bytes file → (attention : ℕ) (words read words' read' : List ℕ) → ReadingsSettle of file attention words read words' read'
unfolding ReadingsSettle
readings_settle of file bytes attention words read words' read' alike =
    let same = answers_same of file bytes attention words read words' read' alike in
    record {
      same = same;
      room = λ list list' e. subst (λ o. SameAnswer (isolate (limits_of of) file attention words read list) o) (same list') (room_answer list list' e of file attention words read);
    }
