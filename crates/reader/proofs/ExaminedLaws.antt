-- A file in lent tables: room, the answer, and what the tables hold.
use Prim.Native.Nat.{ℕ, ◌*◌, ◌/◌, ◌≤◌, ◌<◌}
use mathlib.Core.Bool.{Bool, true, false, cond, ◌&&◌}
use mathlib.Core.List.{List, map}
use mathlib.Core.Logic.{◌⊎◌, inl, inr}
use mathlib.Core.Path.{◌≡◌, refl, sym, ◌∙◌, ap, subst}
use native.Mathlib.Omega.{arith}
use lib.Dec.{leb}
use lib.ListN.{length, take, drop}
use lib.Seq.{length-take-le}
use borrow.Author.Tests.{le-leb, lt-leb, leb-true}
use Rattle.limits.specs.Limits.{limits_of}
use Rattle.limits.proofs.LimitsLaws.{registers_within}
use Rattle.limits.specs.declared.LimitSet.{LimitSet}
use Rattle.numbers.specs.BigEndian.{Bytes}
use Rattle.numbers.proofs.Bools.{and_left, and_right, same_truth}
use Rattle.format.specs.FileLayout.{file_at}
use Rattle.format.specs.Lookup.{gathered, entries_of, register_entries, node_entries}
use Rattle.format.specs.Parsed.{Parsed, done, refused, making}
use Rattle.format.specs.declared.Refusal.{Refusal}
use Rattle.format.specs.Refusals.{CheckValues, number_of}
use Rattle.format.specs.Tree.{Chip}
use Rattle.format.specs.Verdict.{verdict, counts_of}
use Rattle.format.proofs.Acceptance.{verdict_meets}
use Rattle.format.proofs.ParsedLaws.{never}
use Rattle.fields.proofs.Parsing.{missed}
use Rattle.tables.specs.Indexed.{IndexOf}
use Rattle.tables.specs.Keys.{register_keys, node_keys}
use Rattle.tables.specs.Tables.{written}
use Rattle.tables.proofs.TablesLaws.{written_front, written-length}
use Rattle.index.specs.Columns.{TablesOf, node_places}
use Rattle.index.specs.Rows.{Rows, filled, register_row, pair, entry_children}
use Rattle.node_pass.specs.Section.{NodesKept, IndexKept}
use Rattle.links.specs.Links.{child_row}
use Rattle.reader.specs.declared.Layout.{Layout}
use Rattle.reader.specs.declared.LayoutRead.{LayoutRead}
use Rattle.reader.specs.Columns.{child_column}
use Rattle.reader.specs.Entries.{EntriesIn, EntriesOf}
use Rattle.reader.specs.Examined.{Lengths, room_of, room_for_layout, room_for, Examined}
use Rattle.reader.specs.Layout.{Summary, laid_out, layout_parsed, layout_values, whole_at}
use Rattle.reader.proofs.ChildPlacesLaws.{places-length}
use Rattle.reader.proofs.ColumnsLaws.{child-column}
use Rattle.reader.proofs.ExamineLaws.{examined_refused}
use Rattle.reader.proofs.FaultsLaws.{Laid, laid, column, register-keys, register-kinds, node_tables}
use Rattle.reader.proofs.WholeLaws.{whole_out}

-- Room

-- Whole rows of 64.
by_rows : (n c : ℕ) → leb n (c / 64) ≡ leb (n * 64) c
by_rows n c =
    same_truth (leb n (c / 64)) (leb (n * 64) c)
    (λ e. let h : n ≤ c / 64 = leb-true _ _ e in le-leb (n * 64) c (omega arith))
    (λ e. let h : n * 64 ≤ c = leb-true _ _ e in le-leb n (c / 64) (omega arith))

module _ (t : Lengths) (m n : ℕ) where
  pub room_keys : t.keys < m → false ≡ room_of t m n
  unfolding room_of
  room_keys h = rw (lt-leb _ _ h)

  module _ (a : m ≤ t.keys) where
    pub room-kinds : t.kinds < m → false ≡ room_of t m n
    unfolding room_of
    room-kinds h = rw (le-leb _ _ a, lt-leb _ _ h)

    module _ (b : m ≤ t.kinds) where
      pub room_names : t.names < n → false ≡ room_of t m n
      unfolding room_of
      room_names h = rw (le-leb _ _ a, le-leb _ _ b, lt-leb _ _ h)

      module _ (d : n ≤ t.names) where
        pub room_wanted : t.wanted < n → false ≡ room_of t m n
        unfolding room_of
        room_wanted h = rw (le-leb _ _ a, le-leb _ _ b, le-leb _ _ d, lt-leb _ _ h)

        module _ (e : n ≤ t.wanted) where
          pub room_places : t.places < n → false ≡ room_of t m n
          unfolding room_of
          room_places h = rw (le-leb _ _ a, le-leb _ _ b, le-leb _ _ d, le-leb _ _ e, lt-leb _ _ h)

          pub room_child : n ≤ t.places → leb n (t.child / 64) ≡ room_of t m n
          unfolding room_of
          room_child h = rw (le-leb _ _ a, le-leb _ _ b, le-leb _ _ d, le-leb _ _ e, le-leb _ _ h) (by_rows n t.child)

  -- What tables with room have.
  pub record Roomy : Type 0 where
    pub keys : m ≤ t.keys
    pub kinds : m ≤ t.kinds
    pub names : n ≤ t.names
    pub wanted : n ≤ t.wanted
    pub places : n ≤ t.places
    pub child : n * 64 ≤ t.child

  pub roomy : true ≡ room_of t m n → Roomy
  unfolding room_of
  roomy e =
      let r₀ = sym e in
      let r₁ = and_right (leb m t.keys) _ r₀ in
      let r₂ = and_right (leb m t.kinds) _ r₁ in
      let r₃ = and_right (leb n t.names) _ r₂ in
      let r₄ = and_right (leb n t.wanted) _ r₃ in
      record {
        keys = leb-true _ _ (and_left _ _ r₀);
        kinds = leb-true _ _ (and_left _ _ r₁);
        names = leb-true _ _ (and_left _ _ r₂);
        wanted = leb-true _ _ (and_left _ _ r₃);
        places = leb-true _ _ (and_left _ _ r₄);
        child = leb-true _ _ (and_right (leb n t.places) _ r₄);
      }

-- Tables that keep their lengths have the same room.
pub same_room : (child : ℕ) {a b d f g t u x y z : ℕ} → t ≡ f → u ≡ g → x ≡ a → y ≡ b → z ≡ d → (m n : ℕ)
    → room_of (record { keys = t; kinds = u; names = x; wanted = y; places = z; child = child }) m n ≡ room_of (record { keys = f; kinds = g; names = a; wanted = b; places = d; child = child }) m n
same_room child h i j k l m n = rw (h, i, j, k, l)

-- The answer

module _ (of : LimitSet) (t : Lengths) (s : List ℕ) where
  room_refused : {n p : ℕ} → refused n p ≡ whole_at (limits_of of) s → room_for (limits_of of) t s ≡ true
  unfolding room_for room_for_layout
  room_refused e = rw (← e)

  pub room_laid : {l : Summary} {end : ℕ} → done l end ≡ whole_at (limits_of of) s → room_for (limits_of of) t s ≡ room_of t l.register_instances l.node_instances
  unfolding room_for room_for_layout
  room_laid e = rw (← e)

  -- A layout that is refused.
  pub in_refused : {n p : ℕ} → refused n p ≡ whole_at (limits_of of) s → refused n p ≡ cond (room_for (limits_of of) t s) (making counts_of (verdict (limits_of of) s)) (refused 43 0)
  in_refused e = rw (room_refused e) (examined_refused (limits_of of) s e)

  module _ {l : Summary} {end : ℕ} (w : done l end ≡ whole_at (limits_of of) s) where
    -- A table that is too short.
    pub in_short : {b : Bool} → b ≡ room_of t l.register_instances l.node_instances → b ≡ false → refused 43 0 ≡ cond (room_for (limits_of of) t s) (making counts_of (verdict (limits_of of) s)) (refused 43 0)
    in_short r e = rw (room_laid w ∙ sym r ∙ e)

    -- Tables with room.
    pub in_roomy : {b : Bool} → b ≡ room_of t l.register_instances l.node_instances → b ≡ true → {x : Parsed CheckValues} → x ≡ making counts_of (verdict (limits_of of) s)
        → x ≡ cond (room_for (limits_of of) t s) (making counts_of (verdict (limits_of of) s)) (refused 43 0)
    in_roomy r e d = rw (room_laid w ∙ sym r ∙ e) d

  -- What an answer says of the room and of the verdict.
  module _ {r : LayoutRead} (is : making layout_values (layout_parsed r) ≡ cond (room_for (limits_of of) t s) (making counts_of (verdict (limits_of of) s)) (refused 43 0)) where
    pub done_room : {l : Layout} → r ≡ LayoutRead.Done l → room_for (limits_of of) t s ≡ true
    unfolding making
    done_room {l} e = go (room_for (limits_of of) t s) (sym (ap (λ r. making layout_values (layout_parsed r)) e) ∙ is)
      where
        go : (b : Bool) → done (layout_values (laid_out l)) l.end ≡ cond b (making counts_of (verdict (limits_of of) s)) (refused 43 0) → b ≡ true
        go true e = refl
        go false e = never (sym e)

    pub refused_room : {x : Refusal} → r ≡ LayoutRead.Refused x
        → ((room_for (limits_of of) t s ≡ true) × (verdict (limits_of of) s ≡ refused (number_of x.kind) x.place)) ⊎ ((room_for (limits_of of) t s ≡ false) × (number_of x.kind ≡ 43) × (x.place ≡ 0))
    unfolding making
    refused_room {x} e = go (room_for (limits_of of) t s) (sym (ap (λ r. making layout_values (layout_parsed r)) e) ∙ is)
      where
        go : (b : Bool) → refused (number_of x.kind) x.place ≡ cond b (making counts_of (verdict (limits_of of) s)) (refused 43 0)
            → ((b ≡ true) × (verdict (limits_of of) s ≡ refused (number_of x.kind) x.place)) ⊎ ((b ≡ false) × (number_of x.kind ≡ 43) × (x.place ≡ 0))
        go true e = inl (refl, missed counts_of (verdict (limits_of of) s) e)
        go false e = inr (refl, (let z : number_of x.kind ≡ 43 = cc in z), (let z : x.place ≡ 0 = cc in z))

-- The tables

-- The rows of a layout's instances are the tables of its chip.
pub laid_tables : (of : LimitSet) {s : List ℕ} {l : Summary} {end : ℕ} {c : Chip} → Laid (limits_of of) s l end c → (keys₀ kinds₀ names₀ wanted₀ places₀ : List ℕ) (child : ℕ) {keys kinds names wanted places : List ℕ}
    → Roomy (record { keys = length keys₀; kinds = length kinds₀; names = length names₀; wanted = length wanted₀; places = length places₀; child = child }) l.register_instances l.node_instances
    → pair keys kinds ≡ filled (pair keys₀ kinds₀) 0 (map register_row (gathered entries_of c.registers))
    → {m : ℕ} {a b e d : List ℕ} {fits : Bool} → NodesKept m a b (record { keys = names₀; kinds = wanted₀; places = places₀ }) e (record { keys = names; kinds = wanted; places = places }) d fits c.nodes
    → TablesOf c (take l.register_instances keys) (take l.register_instances kinds) (take l.node_instances names) (take l.node_instances wanted) (take l.node_instances places)
unfolding register_entries node_entries
laid_tables of {c = c} d keys₀ kinds₀ names₀ wanted₀ places₀ child r e f =
    let n = node_tables c f.base _ d.node_count (omega (arith, r.names, f.keys_sized)) (omega (arith, r.wanted, f.kinds_sized)) (omega (arith, r.places, f.places_sized)) f.rows in
    record {
      keys_are = register-keys c _ _ d.register_count e r.keys;
      kinds_are = register-kinds c _ _ d.register_count e r.kinds;
      nodes_are = n.0;
      wanted_are = n.1;
      places_are = n.2;
    }

-- What is kept of the children of a layout's node instances is that of its chip.
pub laid_entries : (of : LimitSet) {s : List ℕ} {l : Layout} {end : ℕ} {c : Chip} → Laid (limits_of of) s (laid_out l) end c → {keys kinds : List ℕ} {t : Rows} {e : List ℕ} {u : Rows} {d : List ℕ}
    → NodesKept l.register_instances keys kinds t e u d l.fits c.nodes → EntriesIn c l keys kinds d
unfolding node_entries
laid_entries of {l = l} {c = c} z {d = d} f =
    record {
      entries_are = λ g h.
          let q = f.names g in
          let w : length d ≡ length q.column = ap length q.entries_are ∙ written-length q.column 0 (map entry_children (node_entries c)) in
          column (node_entries c) entry_children l.node_instances q.column z.node_count (omega (arith, h, w)) q.entries_are;
      fit = λ g. (f.names g).fit;
    }

-- How many of them serve.
module _ (fits : Bool) (n entries : ℕ) where
  pub usable_all : fits ≡ true → n ≤ entries → n ≡ cond (fits && leb n entries) n 0
  usable_all f h = rw (f, le-leb n entries h)

  pub usable_short : fits ≡ true → entries < n → 0 ≡ cond (fits && leb n entries) n 0
  usable_short f h = rw (f, lt-leb n entries h)

  pub usable_none : fits ≡ false → 0 ≡ cond (fits && leb n entries) n 0
  usable_none f = rw f

  pub usable_out : {k : ℕ} → k ≡ cond (fits && leb n entries) n 0 → (k ≤ entries) × (0 < k → (fits ≡ true) × (k ≡ n))
  usable_out {k} e = go fits (leb n entries) refl e
    where
      go : (f b : Bool) → leb n entries ≡ b → k ≡ cond (f && b) n 0 → (k ≤ entries) × (0 < k → (f ≡ true) × (k ≡ n))
      go true true h e = let l : n ≤ entries = leb-true n entries h in (omega (arith, e), λ p. (refl, e))
      go true false h e = (omega (arith, e), λ p. absurd (omega (arith, e)))
      go false b h e = (omega (arith, e), λ p. absurd (omega (arith, e)))

-- The part of them that is handed on.
pub entries_part : (c : Chip) (l : Layout) (keys kinds entries : List ℕ) → EntriesIn c l keys kinds entries → (k : ℕ) → k ≡ cond (l.fits && leb l.node_instances (length entries)) l.node_instances 0
    → EntriesOf c (take l.register_instances keys) (take l.register_instances kinds) (take k entries)
entries_part c l keys kinds entries x k u =
    let h = usable_out l.fits l.node_instances (length entries) u in
    let w : length (take k entries) ≡ k = length-take-le k entries h.0 in
    record {
      entries_are = λ p.
          let q = h.1 (omega (arith, p, w)) in
          ap (λ n. take n entries) q.1 ∙ x.entries_are q.0 (omega (arith, h.0, q.1));
      fit = λ p. let q = h.1 (omega (arith, p, w)) in x.fit q.0;
    }

-- So few register instances have an index.
pub laid_index : (of : LimitSet) {s : List ℕ} {l : Summary} {end : ℕ} {c : Chip} → Laid (limits_of of) s l end c → {keys kinds index : List ℕ} → IndexKept l.register_instances keys kinds index
    → l.register_instances ≤ length keys → l.register_instances ≤ length kinds → IndexOf index (take l.register_instances keys)
laid_index of d x h g = x.indexed (omega (arith, d.register_count, d.register_room, registers_within of)) h g

module _ (of : LimitSet) (s : List ℕ) (bytes : Bytes s) (l : Layout) (w : done (laid_out l) l.end ≡ whole_at (limits_of of) s) where
  abbrev pub the_chip : Chip
  the_chip = (whole_out (limits_of of) s w).parts.chip

  pub file_is : file_at (limits_of of) s true 0 ≡ done the_chip l.end
  file_is = (whole_out (limits_of of) s w).parts.file

  pub laid_is : Laid (limits_of of) s (laid_out l) l.end the_chip
  laid_is = laid (limits_of of) s bytes the_chip (sym (whole_out (limits_of of) s w).layout) file_is

  children_room : (table : List ℕ) → l.node_instances * 64 ≤ length table → length (child_column the_chip) ≤ length table
  children_room table h = let k = places-length the_chip (node_entries the_chip) in let e = laid_is.node_count in omega arith

  -- The tables of an accepted file, as they are filled.
  pub examined : verdict (limits_of of) s ≡ done the_chip l.end → {keys index names places child : List ℕ} (table : List ℕ)
      → l.register_instances ≤ length keys → l.node_instances ≤ length names → l.node_instances ≤ length places → l.node_instances * 64 ≤ length table
      → take l.register_instances keys ≡ register_keys the_chip → IndexOf index (take l.register_instances keys)
      → take l.node_instances names ≡ node_keys the_chip → take l.node_instances places ≡ node_places the_chip
      → child ≡ written table 0 (gathered (λ e. child_row (node_keys the_chip) e.instance) (node_entries the_chip))
      → Examined of s l keys index names places child
  examined v table a b d h k i n p e =
      record {
        chip = the_chip;
        end = l.end;
        accepted = v;
        whole = w;
        model = ap (λ x. x.model) (whole_out (limits_of of) s w).parts.summed;
        registers = laid_is.register_count;
        nodes = laid_is.node_count;
        roots = laid_is.roots;
        registers-in = a;
        nodes-in = b;
        places_in = d;
        keys_are = k;
        indexed = i;
        names_are = n;
        places_are = p;
        rest = drop (length (child_column the_chip)) table;
        children_are =
            e ∙ ap (written table 0) (child-column of the_chip (verdict_meets (limits_of of) s bytes v)) ∙ written_front table (child_column the_chip) (children_room table h);
      }

-- Two answers that are one hold the same tables.
pub same_layout : (of : LimitSet) (s : List ℕ) {l k : Layout} → LayoutRead.Done l ≡ LayoutRead.Done k → {keys index names places child : List ℕ} → Examined of s l keys index names places child
    → Examined of s k keys index names places child
same_layout of s {l} {k} e {keys} {index} {names} {places} {child} x = let z : l ≡ k = cc in subst (λ l. Examined of s l keys index names places child) z x
