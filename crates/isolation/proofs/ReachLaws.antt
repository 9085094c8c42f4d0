-- Tables that are filled as node instances are taken: for a walk and for what is done they are the whole tables.
use Prim.Native.Nat.{ℕ, zero, suc, ◌+◌, ◌≤◌, ◌<◌}
use mathlib.Core.Bool.{Bool, true, false, cond}
use mathlib.Core.List.{List, [], ◌∷◌}
use mathlib.Core.Logic.{⊎_elim}
use mathlib.Core.Path.{◌≡◌, refl, sym, ◌∙◌, ap, fun_ext}
use native.Mathlib.Omega.{arith}
use lib.Dec.{ltb, eqb}
use lib.ListN.{length, get_or, set, length-map, length-set, get_or-eq_default}
use lib.Seq.{get_or-set_same, get_or-set_other}
use borrow.Author.Tests.{lt-ltb, le-ltb, ltb-true, ltb-false, eq-eqb, eqb-true}
use Rattle.limits.proofs.LimitsLaws.{nodes_within}
use Rattle.limits.specs.Limits.{library_limits, limits_of}
use Rattle.limits.specs.declared.LimitSet.{LimitSet}
use Rattle.numbers.specs.BigEndian.{Bytes}
use Rattle.numbers.proofs.Bools.{either, same?}
use Rattle.graph.specs.Chains.{reached_from}
use Rattle.format.specs.Lookup.{at, NodeEntry, node_entries}
use Rattle.format.specs.Parsed.{done}
use Rattle.format.specs.Rules.{Meets}
use Rattle.format.specs.Tree.{Chip}
use Rattle.format.specs.Verdict.{verdict}
use Rattle.format.proofs.Acceptance.{verdict_meets, read_to_end}
use Rattle.format.proofs.PositionsLaws.{at_inside, every_at}
use Rattle.tables.proofs.ColumnLaws.{column_at}
use Rattle.walk.specs.declared.Walked.{Walked}
use Rattle.walk.specs.Marks.{first_waiting, waits, mark_after, stepped, started, finished}
use Rattle.walk.specs.TableGraph.{table_size, table_graph}
use Rattle.walk.proofs.RunLaws.{run_start, run_ready, run_step, run_end}
use Rattle.walk.proofs.Tables.{table_sound}
use Rattle.walk.proofs.WalkLaws.{Walking, started_at, length_started, walked_others}
use Rattle.listing.specs.Records.{listing, records_of}
use Rattle.listing.specs.Rows.{is_done, key_id, key_number, table_links, table_records}
use Rattle.isolation.specs.declared.Activity.{Activity}
use Rattle.isolation.specs.Activity.{RulesAgain, active_word, unread_place, unread_at, first_unread, active_column, unread_column, SameDone}
use Rattle.isolation.specs.Ready.{Tabled}
use Rattle.isolation.proofs.UnreadLaws.{entries_rules}
use Rattle.isolation.proofs.GraphsLaws.{Agree, linked_same, reached_same, listing_same, reached_below, DoneReached, rows_listing, rows_records_listing}

-- Two tables of one length

module _ (a b ch : List ℕ) (lengths : length a ≡ length b) where
  sizes : table_size a ≡ table_size b
  unfolding table_size
  sizes = rw lengths

  -- Their graphs agree where the tables do.
  table_agree : Agree (table_graph a ch) (table_graph b ch) (λ i. get_or a i 0 ≡ get_or b i 0)
  unfolding table_graph
  table_agree = record { size = sizes; active = λ i k p l. rw (sizes, p); child = λ i k p l. rw sizes }

  marks_same : (m : List ℕ) (k : ℕ) → get_or a k 0 ≡ get_or b k 0 → mark_after (table_graph a ch) m k ≡ mark_after (table_graph b ch) m k
  unfolding mark_after
  marks_same m k e = fun_ext (λ j. rw (linked_same (table_graph a ch) (table_graph b ch) table_agree k j e))

  waits_same : (m : List ℕ) → waits (table_graph a ch) m ≡ waits (table_graph b ch) m
  unfolding waits table_graph
  waits_same m = rw sizes

  -- A step depends on the taken node instance's word alone.
  pub step_same : (m : List ℕ) → get_or a (first_waiting m) 0 ≡ get_or b (first_waiting m) 0 → stepped (table_graph a ch) m ≡ stepped (table_graph b ch) m
  unfolding stepped
  step_same m e = rw (waits_same m, marks_same m (first_waiting m) e)

  -- Done marks: what is listed of them depends on their words alone.
  module _ (root : ℕ) (inside : root < (table_graph a ch).size) (marks : List ℕ) (done : DoneReached (table_graph a ch) root marks) (same : SameDone marks b a) where
    reached_word : (i : ℕ) → reached_from (table_graph a ch) root i ≡ true → get_or a i 0 ≡ get_or b i 0
    reached_word i e = sym (same i ((done i (reached_below (table_graph a ch) (table_sound a ch) root inside i e)).1 e))

    agree_done : Agree (table_graph a ch) (table_graph b ch) (λ i. reached_from (table_graph a ch) root i ≡ true)
    agree_done =
        let g = table_agree in
        record { size = g.size; active = λ i k e. g.active i k (reached_word i e); child = λ i k e. g.child i k (reached_word i e) }

    done_other : DoneReached (table_graph b ch) root marks
    done_other i l =
        let r = reached_same (table_graph a ch) (table_graph b ch) (table_sound a ch) (table_sound b ch) root agree_done i in
        let h : i < (table_graph a ch).size = rw table_agree.size l in
        rw (← r) (done i h)

    listings : listing (table_graph a ch) root ≡ listing (table_graph b ch) root
    listings = listing_same (table_graph a ch) (table_graph b ch) (table_sound a ch) (table_sound b ch) root agree_done

    pub links_same : table_links marks b ch ≡ table_links marks a ch
    unfolding table_links table_graph
    links_same = rows_listing (table_graph b ch) root marks done_other ∙ sym listings ∙ sym (rows_listing (table_graph a ch) root marks done)

    module _ (c : Chip) (slot attention : ℕ) (keys : List ℕ) (size : (table_graph a ch).size ≡ length (node_entries c))
        (tells : (i : ℕ) (e : NodeEntry) → at i (node_entries c) ≡ e ∷ [] → (key_id (get_or keys i 0) ≡ e.id) × (key_number (get_or keys i 0) ≡ e.instance.number))
        (model-fits : c.model < 0x1_0000_0000) (slot-fits : slot < 256) where
      size_other : (table_graph b ch).size ≡ length (node_entries c)
      size_other = sym table_agree.size ∙ size

      pub records_same : table_records c.model slot attention keys marks b ch ≡ table_records c.model slot attention keys marks a ch
      unfolding table_records table_graph
      records_same =
          rows_records_listing (table_graph b ch) root marks done_other c slot attention keys size_other tells model-fits slot-fits (table_size b) size_other
          ∙ ap (records_of c slot attention) (sym listings)
          ∙ sym (rows_records_listing (table_graph a ch) root marks done c slot attention keys size tells model-fits slot-fits (table_size a) size)

-- The first unread register of done node instances depends on their places alone.
module _ (marks u v : List ℕ) (same : SameDone marks u v) where
  at_same : (i : ℕ) → unread_at marks u i ≡ unread_at marks v i
  unfolding unread_at is_done
  at_same i = ⊎_elim (λ e. rw (e, same i (eqb-true _ 2 e))) (λ e. rw e) (either (is_done marks i))

  pub first_same : (n : ℕ) → first_unread marks u n ≡ first_unread marks v n
  unfolding first_unread
  first_same zero = refl
  first_same (suc n) = rw (first_same n, at_same n)

-- The walk with tables that are filled on the way

-- So far it is a walk over the whole tables, and what is done stands in those of the code.
pub record Reaching (whole places ch : List ℕ) (root : ℕ) (marks active unread : List ℕ) (steps : ℕ) : Type 0 where
  pub walking : Walking (table_graph whole ch) root marks steps
  pub words : SameDone marks active whole
  pub gaps : SameDone marks unread places

module _ (whole places ch : List ℕ) (root n : ℕ) (size : n ≡ length whole) (few : n ≤ library_limits.node_instances) (root_in : root < n) where
  n_is : n ≡ table_size whole
  unfolding table_size
  n_is = omega (arith, size, few)

  inside : root < (table_graph whole ch).size
  unfolding table_graph
  inside = omega (arith, n_is)

  going : (m : List ℕ) → first_waiting m < n → waits (table_graph whole ch) m ≡ true
  unfolding waits table_graph
  going m h = rw (← n_is) (lt-ltb _ _ h)

  pub reach_start : {m : List ℕ} → m ≡ started root → (active unread : List ℕ) → Reaching whole places ch root m active unread 0
  reach_start {m} e active unread =
      record {
        walking = run_start whole ch root n n_is root_in e;
        words = λ i d. absurd (undone i (sym (ap (λ x. get_or x i 0) e) ∙ d));
        gaps = λ i d. absurd (undone i (sym (ap (λ x. get_or x i 0) e) ∙ d));
      }
    where
      small : (t : Bool) → ◌≡◌ {A = ℕ} (cond t 1 0) 2 → ⊥
      small true d = omega arith
      small false d = omega arith

      undone : (i : ℕ) → get_or (started root) i 0 ≡ 2 → ⊥
      undone i d =
          ⊎_elim
          (λ l. small (eqb i root) (sym (started_at root i (ltb-true _ _ l)) ∙ d))
          (λ l. let z : get_or (started root) i 0 ≡ 0 = get_or-eq_default (started root) 0 (rw (length_started root) (ltb-false _ _ l)) in omega arith)
          (either (ltb i library_limits.node_instances))

  module _ {m active unread : List ℕ} {s : ℕ} (r : Reaching whole places ch root m active unread s) where
    pub reach_step : {k : ℕ} → k ≡ first_waiting m → k < n → length active ≡ n → length unread ≡ n → {x y : ℕ} → x ≡ get_or whole k 0 → y ≡ get_or places k 0
        → {m' : List ℕ} → m' ≡ stepped (table_graph (set active k x) ch) m → Reaching whole places ch root m' (set active k x) (set unread k y) (s + 1)
    reach_step {k} e h la lu {x} {y} p q {m'} d =
        let l : length (set active k x) ≡ length whole = length-set active k x ∙ la ∙ size in
        let w : get_or (set active k x) k 0 ≡ get_or whole k 0 = get_or-set_same active k x 0 (omega arith) ∙ p in
        let g : m' ≡ stepped (table_graph whole ch) m = d ∙ step_same (set active k x) whole ch l m (rw (← e) w) in
        record {
          walking = run_step whole ch root n n_is root_in r.walking refl waiting g;
          words = λ i o. kept active whole (omega arith) x p r.words g i o;
          gaps = λ i o. kept unread places (omega arith) y q r.gaps g i o;
        }
      where
        waiting : ltb (first_waiting m) n ≡ true
        waiting = lt-ltb (first_waiting m) n (omega arith)

        kept : (t u : List ℕ) → k < length t → (z : ℕ) → z ≡ get_or u k 0 → SameDone m t u → m' ≡ stepped (table_graph whole ch) m → SameDone m' (set t k z) u
        kept t u b z f same g i o =
            ⊎_elim
            (λ c. rw c (get_or-set_same t k z 0 b ∙ f))
            (λ c. get_or-set_other t k i z 0 c ∙ same i (eqb-true _ 2 (sym (walked_others (table_graph whole ch) (table_sound whole ch) root inside m s r.walking (going m (omega arith)) i (λ j. c (j ∙ sym e))) ∙ eq-eqb _ 2 (sym (ap (λ v. get_or v i 0) g) ∙ o))))
            (same? i k)

    pub reach_end : n ≤ first_waiting m → ◌≡◌ {A = Walked} (record { marks = m; steps = s }) (finished (table_graph whole ch) root)
    reach_end h = run_end whole ch root n n_is root_in r.walking refl (le-ltb _ _ h)

    pub reach_full : n ≤ s → ◌≡◌ {A = Walked} (record { marks = m; steps = s }) (finished (table_graph whole ch) root)
    reach_full h =
        ⊎_elim
        (λ e. absurd (let z = run_ready whole ch root n n_is root_in r.walking refl e in omega arith))
        (λ e. run_end whole ch root n n_is root_in r.walking refl e)
        (either (ltb (first_waiting m) n))

-- The tables of an accepted file

-- The rules of a node instance are read again at their places.
pub entry_again : (of : LimitSet) (file : List ℕ) → Bytes file → (c : Chip) (end : ℕ) → verdict (limits_of of) file ≡ done c end → (k : ℕ) (e : NodeEntry) → at k (node_entries c) ≡ e ∷ [] → RulesAgain file e
entry_again of file bytes c end v k e q = every_at (RulesAgain file) k (node_entries c) (entries_rules of file bytes c (v ∙ ap (done c) (read_to_end (limits_of of) file bytes v))) q

module _ (of : LimitSet) (file : List ℕ) (bytes : Bytes file) (attention : ℕ) (words read keys index nodes places ch : List ℕ) (t : Tabled of file keys index nodes places ch) (root : ℕ) (root_in : root < length places) where
  abbrev whole : List ℕ
  whole = active_column keys words read attention t.chip

  abbrev gaps : List ℕ
  gaps = unread_column keys read attention t.chip

  size : length places ≡ length (node_entries t.chip)
  size = ap length t.places_are ∙ length-map (node_entries t.chip) _

  size_whole : length places ≡ length whole
  size_whole = size ∙ sym (length-map (node_entries t.chip) _)

  few : length places ≤ library_limits.node_instances
  few = let m : Meets (limits_of of) t.chip = verdict_meets (limits_of of) file bytes t.accepted in omega (arith, size, m.within.nodes, nodes_within of)

  pub taken_start : {m : List ℕ} → m ≡ started root → (active unread : List ℕ) → Reaching whole gaps ch root m active unread 0
  taken_start e active unread = reach_start whole gaps ch root (length places) size_whole few root_in e active unread

  module _ {m active unread : List ℕ} {s : ℕ} (r : Reaching whole gaps ch root m active unread s) where
    pub taken_step : {k : ℕ} → k ≡ first_waiting m → k < length places → length active ≡ length places → length unread ≡ length places → {x : Activity}
        → ((c : Chip) (end k' : ℕ) (e : NodeEntry) → verdict (limits_of of) file ≡ done c end → at k' (node_entries c) ≡ e ∷ [] → get_or places k 0 ≡ e.instance.place
        → (x.word ≡ active_word keys words read attention e) × (x.unread ≡ unread_place keys read attention e))
        → {active' unread' : List ℕ} → active' ≡ set active k x.word → unread' ≡ set unread k x.unread → {m' : List ℕ} → m' ≡ stepped (table_graph active' ch) m
        → Reaching whole gaps ch root m' active' unread' (s + 1)
    taken_step {k} e h la lu gives v u d =
        let i = at_inside k (node_entries t.chip) (omega (arith, size)) in
        let p : get_or places k 0 ≡ i.0.instance.place = ap (λ x. get_or x k 0) t.places_are ∙ column_at _ (node_entries t.chip) k i.1 in
        let g = gives t.chip t.end k i.0 t.accepted i.1 p in
        rw (v, u)
        (reach_step whole gaps ch root (length places) size_whole few root_in r e h la lu
        (g.0 ∙ sym (column_at (active_word keys words read attention) (node_entries t.chip) k i.1))
        (g.1 ∙ sym (column_at (unread_place keys read attention) (node_entries t.chip) k i.1)) (d ∙ ap (λ a. stepped (table_graph a ch) m) v))

    pub taken_end : length places ≤ first_waiting m
        → (◌≡◌ {A = Walked} (record { marks = m; steps = s }) (finished (table_graph whole ch) root)) × SameDone m active whole × SameDone m unread gaps
    taken_end h = (reach_end whole gaps ch root (length places) size_whole few root_in r h, r.words, r.gaps)

    pub taken_full : library_limits.node_instances ≤ s
        → (◌≡◌ {A = Walked} (record { marks = m; steps = s }) (finished (table_graph whole ch) root)) × SameDone m active whole × SameDone m unread gaps
    taken_full h = (reach_full whole gaps ch root (length places) size_whole few root_in r (omega (arith, few)), r.words, r.gaps)
