-- What isolation finds, in the code's own terms: what the tables, the walk and the rows say of an accepted file decides it.
use Prim.Native.Nat.{ℕ, ◌^◌, ◌≤◌, ◌<◌}
use mathlib.Core.Bool.{true, false}
use mathlib.Core.List.{List, [], ◌∷◌, ◌++◌, map}
use mathlib.Core.Path.{◌≡◌, sym, ◌∙◌, ap, subst}
use native.Mathlib.Omega.{arith}
use lib.ListN.{length, get_or}
use Rattle.limits.specs.Limits.{library_limits, limits_of}
use Rattle.limits.specs.declared.LimitSet.{LimitSet}
use Rattle.numbers.specs.BigEndian.{Bytes}
use Rattle.graph.specs.Chains.{reached_count}
use Rattle.format.specs.Fields.{known_attention}
use Rattle.format.specs.Lookup.{at, NodeEntry, register_entries, node_entries, node_position}
use Rattle.format.specs.Parsed.{done, refused}
use Rattle.format.specs.Rules.{Meets}
use Rattle.format.specs.Tree.{Root, Chip}
use Rattle.format.specs.Verdict.{verdict}
use Rattle.format.proofs.Acceptance.{acceptance, read_to_end}
use Rattle.format.proofs.PositionsLaws.{every_at}
use Rattle.tables.specs.Tables.{key_of}
use Rattle.walk.specs.Marks.{finished}
use Rattle.walk.specs.TableGraph.{table_size, table_graph}
use Rattle.walk.proofs.WalkLaws.{steps_reached}
use Rattle.tables.specs.Keys.{register_keys, node_keys}
use Rattle.reader.specs.Columns.{child_column}
use Rattle.tables.proofs.ColumnLaws.{column_at}
use Rattle.tables.proofs.KeysLaws.{nodes_fit}
use Rattle.format.specs.Finding.{root_for}
use Rattle.isolation.specs.ChipGraph.{chip_graph}
use Rattle.isolation.specs.Outcome.{reached_unread, stopped, found, found_from, all_read, from_root, find_in, find}
use Rattle.isolation.specs.Readings.{readings_fit}
use Rattle.listing.specs.Records.{listing, records_of}
use Rattle.listing.specs.Rows.{key_id, key_number, table_links, table_records}
use Rattle.isolation.specs.Activity.{active_word, unread_place, first_unread, fitting}
use Rattle.format.proofs.FindingLaws.{first_out, root_inside}
use Rattle.isolation.proofs.GraphsLaws.{DoneReached, finished_done, rows_listing, rows_records_listing}
use Rattle.isolation.proofs.TablesLaws.{entries_few, act_size, root_in_tables, tables_listing, tables_count}
use Rattle.isolation.proofs.UnreadLaws.{unread_none, unread_some}

-- A node instance's key holds its ID and its number.
key-id : (id number : ℕ) → id < 65536 → number < 256 → key_id (key_of id number) ≡ id
unfolding key_id key_of
key-id id number hi hn = omega arith

key-number : (id number : ℕ) → number < 256 → key_number (key_of id number) ≡ number
unfolding key_number key_of
key-number id number hn = omega arith

pub keys_tell : (of : LimitSet) (c : Chip) → Meets (limits_of of) c → (nodes : List ℕ) → nodes ≡ node_keys c → (i : ℕ) (e : NodeEntry) → at i (node_entries c) ≡ e ∷ []
    → (key_id (get_or nodes i 0) ≡ e.id) × (key_number (get_or nodes i 0) ≡ e.instance.number)
keys_tell of c m nodes n i e q =
    let k : get_or nodes i 0 ≡ key_of e.id e.instance.number = ap (λ t. get_or t i 0) n ∙ column_at (λ e. key_of e.id e.instance.number) (node_entries c) i q in
    let h : e.id < 65536 = every_at (λ e. e.id < 256 ^ 2) i (node_entries c) (nodes_fit c m.fields) q in
    let g = every_at _ i (node_entries c) m.fields.node_instances q in
    rw k (key-id e.id e.instance.number h g.0, key-number e.id e.instance.number g.0)

-- The marks of a walk that has come to its end.
module _ (act ch : List ℕ) (root : ℕ) (marks : List ℕ) (marks-are : marks ≡ (finished (table_graph act ch) root).marks) where
  marks_done : root < (table_graph act ch).size → (table_graph act ch).size ≤ library_limits.node_instances → DoneReached (table_graph act ch) root marks
  marks_done h l = subst (DoneReached (table_graph act ch) root) (sym marks-are) (finished_done (table_graph act ch) root h l)

-- What is found

module _ (of : LimitSet) (slot : ℕ) (file : List ℕ) (attention : ℕ) (words read : List ℕ) where
  -- 1 to 14
  pub file_refused : {n p : ℕ} → verdict (limits_of of) file ≡ refused n p → stopped n p ≡ find (limits_of of) slot file attention words read
  unfolding find find_in
  file_refused e = rw e

  module _ (c : Chip) (end : ℕ) (accepted : verdict (limits_of of) file ≡ done c end) where
    -- 15
    pub type_refused : known_attention attention ≡ false → stopped 15 0 ≡ find (limits_of of) slot file attention words read
    unfolding find find_in
    type_refused k = rw (accepted, k)

    -- 16
    pub root_refused : known_attention attention ≡ true → root_for attention c ≡ [] → stopped 16 0 ≡ find (limits_of of) slot file attention words read
    unfolding find find_in from_root
    root_refused k r = rw (accepted, k, r)

    fitting_is : (m : ℕ) → m ≡ length (register_entries c) → fitting m words read ≡ readings_fit c words read
    unfolding fitting readings_fit
    fitting_is m e = rw e

    module _ (known : known_attention attention ≡ true) (t : Root) (ts : List Root) (rooted : root_for attention c ≡ t ∷ ts) (m : ℕ) (m-is : m ≡ length (register_entries c)) where
      -- 17
      pub readings_refused : fitting m words read ≡ false → stopped 17 0 ≡ find (limits_of of) slot file attention words read
      unfolding find find_in from_root
      readings_refused f = rw (accepted, known, rooted, sym (fitting_is m m-is) ∙ f)

      -- The root's position, the tables, and the marks after the walk.
      module _ (bytes : Bytes file) (fit : fitting m words read ≡ true) (root : ℕ) (root_is : root ≡ node_position c t.id t.number) (act ch rest : List ℕ)
          (act-is : act ≡ map (active_word (register_keys c) words read attention) (node_entries c))
          (ch-is : ch ≡ child_column c ++ rest)
          (unread : List ℕ) (unread_is : (i : ℕ) (e : NodeEntry) → at i (node_entries c) ≡ e ∷ [] → get_or unread i 0 ≡ unread_place (register_keys c) read attention e)
          (marks : List ℕ) (marks-are : marks ≡ (finished (table_graph act ch) root).marks) (n : ℕ) (n_is : n ≡ length (node_entries c)) where
        whole : verdict (limits_of of) file ≡ done c (length file)
        whole = accepted ∙ ap (done c) (read_to_end (limits_of of) file bytes accepted)

        meets : Meets (limits_of of) c
        meets = ((acceptance (limits_of of) file bytes c).0 whole).2

        inside : root < length (node_entries c)
        unfolding root_for
        inside =
            let f = first_out _ c.roots rooted in
            subst (λ x. x < length (node_entries c)) (sym root_is) (root_inside c meets.present _ f.0)

        inside_tables : root < (table_graph act ch).size
        inside_tables = root_in_tables of c meets attention words read act ch rest act-is ch-is root inside

        size : (table_graph act ch).size ≡ length (node_entries c)
        unfolding table_graph
        size = act_size of c meets attention words read act ch rest act-is ch-is

        reached : DoneReached (table_graph act ch) root marks
        reached = marks_done act ch root marks marks-are inside_tables (omega (arith, size, entries_few of c meets))

        find_is : find (limits_of of) slot file attention words read
            ≡ all_read (reached_unread c attention read (chip_graph c attention words read) root) (found_from c slot attention (chip_graph c attention words read) root)
        unfolding find find_in from_root
        find_is = rw (accepted, known, rooted, sym (fitting_is m m-is) ∙ fit, root_is)

        -- 18
        pub unread_refused : {p : ℕ} → p ≡ first_unread marks unread n → (p ≡ 0 → ⊥) → stopped 18 p ≡ find (limits_of of) slot file attention words read
        unread_refused d e =
            sym (find_is ∙ unread_some of file bytes c whole attention words read act ch rest act-is ch-is root inside marks reached unread unread_is n n_is d e _)

        -- Every register is read. The code's rows are what is found.
        module _ (valued : first_unread marks unread n ≡ 0) (nodes : List ℕ) (nodes_are : nodes ≡ node_keys c) (slot-fits : slot < 256) where
          found_is : find (limits_of of) slot file attention words read ≡ found_from c slot attention (chip_graph c attention words read) root
          unfolding all_read
          found_is =
              find_is
              ∙ rw (unread_none of file bytes c whole attention words read act ch rest act-is ch-is root inside marks reached unread unread_is n n_is valued)

          listing_is : table_links marks act ch ≡ listing (chip_graph c attention words read) root
          unfolding table_graph table_links
          listing_is = rows_listing (table_graph act ch) root marks reached ∙ tables_listing of c meets attention words read act ch rest act-is ch-is root inside

          records_are : table_records c.model slot attention nodes marks act ch ≡ records_of c slot attention (listing (chip_graph c attention words read) root)
          unfolding table_records
          records_are =
              rows_records_listing (table_graph act ch) root marks reached c slot attention nodes size (keys_tell of c meets nodes nodes_are) meets.fields.model slot-fits
              (table_size act) (act_size of c meets attention words read act ch rest act-is ch-is)
              ∙ ap (records_of c slot attention) (tables_listing of c meets attention words read act ch rest act-is ch-is root inside)

          steps_are : (finished (table_graph act ch) root).steps ≡ reached_count (chip_graph c attention words read) root
          steps_are = steps_reached (table_graph act ch) root inside_tables ∙ tables_count of c meets attention words read act ch rest act-is ch-is root inside

          -- Success
          pub all_found : {count : ℕ} → count ≡ length (table_links marks act ch) → {records : List ℕ} → records ≡ table_records c.model slot attention nodes marks act ch
              → found count records (finished (table_graph act ch) root).steps ≡ find (limits_of of) slot file attention words read
          unfolding found_from
          all_found d e = sym (found_is ∙ rw (d, e, listing_is, records_are, steps_are))
