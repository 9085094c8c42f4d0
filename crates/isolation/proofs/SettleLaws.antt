-- What the code finds in the tables of an accepted file decides.
use Prim.Native.Nat.{ℕ, ◌≤◌, ◌<◌}
use mathlib.Core.List.{List, [], ◌∷◌}
use mathlib.Core.Path.{◌≡◌, refl, sym, ◌∙◌, ap, subst}
use native.Mathlib.Omega.{arith}
use lib.ListN.{length, get_or, length-map}
use Rattle.limits.proofs.LimitsLaws.{nodes_within}
use Rattle.limits.specs.Limits.{library_limits, limits_of}
use Rattle.limits.specs.declared.LimitSet.{LimitSet}
use Rattle.numbers.specs.BigEndian.{Bytes}
use Rattle.format.specs.Lookup.{at, NodeEntry, register_entries, node_entries}
use Rattle.format.specs.Rules.{Meets}
use Rattle.format.specs.Tree.{Chip}
use Rattle.format.proofs.Acceptance.{verdict_meets}
use Rattle.format.proofs.FindingLaws.{first_out, root_inside}
use Rattle.format.specs.Finding.{root_for}
use Rattle.tables.specs.Keys.{register_keys}
use Rattle.tables.proofs.ColumnLaws.{column_at}
use Rattle.walk.specs.declared.Walked.{Walked}
use Rattle.walk.specs.Marks.{finished}
use Rattle.walk.proofs.Tables.{size_few}
use Rattle.walk.specs.TableGraph.{table_size, table_graph}
use Rattle.isolation.specs.Activity.{unread_place, first_unread, active_column, unread_column, SameDone}
use Rattle.isolation.specs.Outcome.{stopped, found, find}
use Rattle.isolation.specs.Ready.{Ready}
use Rattle.listing.specs.Rows.{table_links, table_records}
use Rattle.isolation.proofs.AnswerLaws.{keys_tell, unread_refused, all_found}
use Rattle.isolation.proofs.GraphsLaws.{DoneReached, finished_done}
use Rattle.isolation.proofs.ReachLaws.{links_same, records_same, first_same}

pub size_within : (act : List ℕ) {n : ℕ} → length act ≡ n → table_size act ≤ n
size_within act e = omega (arith, (size_few act).1, e)

module _ (of : LimitSet) (file : List ℕ) (bytes : Bytes file) (attention : ℕ) (words read keys index nodes places children : List ℕ) (root : ℕ)
    (ready : Ready of file attention words read keys index nodes places children root) where
  abbrev chip : Chip
  chip = ready.tabled.chip

  meets : Meets (limits_of of) chip
  meets = verdict_meets (limits_of of) file bytes ready.tabled.accepted

  few : length (node_entries chip) ≤ library_limits.node_instances
  few = omega (arith, meets.within.nodes, nodes_within of)

  pub size_is : length places ≡ length (node_entries chip)
  size_is = ap length ready.tabled.places_are ∙ length-map (node_entries chip) _

  inside : root < length (node_entries chip)
  unfolding root_for
  inside =
      let f = first_out _ chip.roots ready.rooted in
      subst (λ x. x < length (node_entries chip)) (sym ready.root_is) (root_inside chip meets.present _ f.0)

  pub root_in : root < length places
  root_in = omega (arith, inside, size_is)

  abbrev whole : List ℕ
  whole = active_column (register_keys chip) words read attention chip

  whole_length : length whole ≡ length (node_entries chip)
  whole_length = length-map (node_entries chip) _

  whole_size : (table_graph whole children).size ≡ length (node_entries chip)
  unfolding table_graph table_size
  whole_size = omega (arith, whole_length, few)

  unread_is : (i : ℕ) (e : NodeEntry) → at i (node_entries chip) ≡ e ∷ [] → get_or (unread_column (register_keys chip) read attention chip) i 0 ≡ unread_place (register_keys chip) read attention e
  unread_is i e q = column_at (unread_place (register_keys chip) read attention) (node_entries chip) i q

  -- The walk.
  module _ {w : Walked} (is : w ≡ finished (table_graph (active_column keys words read attention chip) children) root) where
    walked : w ≡ finished (table_graph whole children) root
    walked = is ∙ ap (λ k. finished (table_graph (active_column k words read attention chip) children) root) ready.tabled.keys_are

    root_inside_graph : root < (table_graph whole children).size
    root_inside_graph = omega (arith, inside, whole_size)

    done : DoneReached (table_graph whole children) root w.marks
    done =
        subst (λ x. DoneReached (table_graph whole children) root x.marks) (sym walked)
        (finished_done (table_graph whole children) root root_inside_graph (omega (arith, whole_size, few)))

    -- The places of unread registers that it fills.
    module _ (slot : ℕ) (unread : List ℕ) (gaps : SameDone w.marks unread (unread_column keys read attention chip)) where
      places_done : SameDone w.marks unread (unread_column (register_keys chip) read attention chip)
      places_done = subst (λ k. SameDone w.marks unread (unread_column k read attention chip)) ready.tabled.keys_are gaps

      first_is : {p : ℕ} → p ≡ first_unread w.marks unread (length places) → p ≡ first_unread w.marks (unread_column (register_keys chip) read attention chip) (length places)
      first_is d = d ∙ first_same w.marks unread _ places_done (length places)

      pub settled_unread : {p : ℕ} → p ≡ first_unread w.marks unread (length places) → (p ≡ 0 → ⊥) → stopped 18 p ≡ find (limits_of of) slot file attention words read
      settled_unread d e =
          let t = ready.tabled in
          unread_refused of slot file attention words read chip t.end t.accepted ready.known ready.first ready.others ready.rooted (length (register_entries chip)) refl
          bytes ready.fits root ready.root_is whole children t.rest refl t.children_are _ unread_is w.marks (ap (λ x. x.marks) walked) (length places) size_is (first_is d) e

      -- And the words of active bits.
      module _ (active : List ℕ) (la : length active ≡ length places) (same : SameDone w.marks active (active_column keys words read attention chip)) {p : ℕ}
          (d : p ≡ first_unread w.marks unread (length places)) (z : p ≡ 0) (slot-fits : slot < 256) where
        words_done : SameDone w.marks active whole
        words_done = subst (λ k. SameDone w.marks active (active_column k words read attention chip)) ready.tabled.keys_are same

        lengths : length whole ≡ length active
        lengths = omega (arith, whole_length, la, size_is)

        links : table_links w.marks active children ≡ table_links w.marks whole children
        links = links_same whole active children lengths root root_inside_graph w.marks done words_done

        records_whole : table_records chip.model slot attention nodes w.marks active children ≡ table_records chip.model slot attention nodes w.marks whole children
        records_whole =
            records_same whole active children lengths root root_inside_graph w.marks done words_done chip slot attention nodes whole_size (keys_tell of chip meets nodes ready.tabled.nodes_are)
            meets.fields.model slot-fits

        pub settled_found : {model : ℕ} → model ≡ chip.model → {count : ℕ} → count ≡ length (table_links w.marks active children)
            → {records : List ℕ} → records ≡ table_records model slot attention nodes w.marks active children
            → found count records w.steps ≡ find (limits_of of) slot file attention words read
        settled_found m {count} k {records} h =
            let t = ready.tabled in
            let s : w.steps ≡ (finished (table_graph whole children) root).steps = ap (λ x. x.steps) walked in
            ap (found count records) s
            ∙ all_found of slot file attention words read chip t.end t.accepted ready.known ready.first ready.others ready.rooted (length (register_entries chip)) refl
            bytes ready.fits root ready.root_is whole children t.rest refl t.children_are _ unread_is w.marks (ap (λ x. x.marks) walked) (length places) size_is
            (sym (first_is d) ∙ z) nodes t.nodes_are slot-fits (k ∙ ap length links)
            (h ∙ ap (λ x. table_records x slot attention nodes w.marks active children) m ∙ records_whole)
