-- Graphs that agree have the same answer; and what is written of done marks is the listing.
use Prim.Native.Nat.{ℕ, zero, suc, ◌*◌, ◌≤◌, ◌<◌}
use mathlib.Core.Bool.{Bool, true, false, cond, ◌&&◌}
use mathlib.Core.List.{List, [], ◌∷◌, map}
use mathlib.Core.Logic.{◌↔◌}
use mathlib.Core.Option.{Option, none, some}
use mathlib.Core.Path.{◌≡◌, refl, sym, ◌∙◌, ap}
use native.Mathlib.Omega.{arith}
use lib.Dec.{eqb}
use lib.ListN.{length, get_or, length-append}
use borrow.Author.Tests.{eq-eqb, eqb-true, lt-ltb}
use Rattle.numbers.proofs.Bools.{clash, same_truth}
use Rattle.graph.specs.Below.{count}
use Rattle.graph.specs.Paths.{Reached, here, next}
use Rattle.graph.specs.Chains.{Graph, Sound, Link, link, silent, none_or, nothing_below, linked, reached_from, listable, listed, below, kept, listed_of, reached_count}
use Rattle.graph.proofs.BelowLaws.{any_same, count_same}
use Rattle.graph.proofs.ChainsLaws.{reached-in, child_reached}
use Rattle.format.specs.Lookup.{at, gathered, NodeEntry, node_entries}
use Rattle.format.specs.Rules.{Every}
use Rattle.format.specs.Tree.{Chip}
use Rattle.format.proofs.EveryLaws.{every_all, every_map, every-append_in, every-gathered_in, every-list_in}
use Rattle.format.proofs.GatheredLaws.{gathered_one, gathered-map, gathered-gathered, gathered_same}
use Rattle.format.proofs.PositionsLaws.{at_inside}
use Rattle.walk.specs.Marks.{mark_count, finished}
use Rattle.walk.proofs.Step.{get_d_tabulate}
use Rattle.walk.proofs.WalkLaws.{reached_inside}
use Rattle.listing.specs.Records.{record_of, record_bytes, listing, link_record, records_of}
use Rattle.listing.specs.Rows.{bits_to, is_done, row_links, rows_to, key_id, key_number, head_of, head_record, bit_records, row_records, rows_records}
use Rattle.listing.proofs.WriteLaws.{record-length}
use Rattle.isolation.proofs.HeadLaws.{head-record}

-- The numbers below n, and what a test keeps

pub below_every : (n : ℕ) → Every (λ i. i < n) (below n)
unfolding below Every
below_every zero = tt
below_every (suc n) =
    every-append_in _ (below n) (n ∷ []) (every_map (λ i. i < n) (λ i. i < suc n) (λ i h. omega arith) (below n) (below_every n)) (omega arith, tt)

pub kept_same : (p q : ℕ → Bool) (xs : List ℕ) → Every (λ x. p x ≡ q x) xs → kept p xs ≡ kept q xs
unfolding kept Every
kept_same p q [] h = refl
kept_same p q (x ∷ xs) h = rw (h.0, kept_same p q xs h.1)

kept_none : (p : ℕ → Bool) (xs : List ℕ) → ((x : ℕ) → p x ≡ false) → kept p xs ≡ []
unfolding kept
kept_none p [] h = refl
kept_none p (x ∷ xs) h = rw (h x) (kept_none p xs h)

-- What holds below n holds of every number below n.
pub every_below : (P : ℕ → Type 0) (n : ℕ) → ((i : ℕ) → i < n → P i) → Every P (below n)
every_below P n f = every_map (λ i. i < n) P f (below n) (below_every n)

-- Two graphs

-- They have the same node instances, and those of which P holds have the same active bits and the same children.
pub record Agree (g h : Graph) (P : ℕ → Type 0) : Type 0 where
  pub size : g.size ≡ h.size
  pub active : (i b : ℕ) → P i → b < 64 → g.active i b ≡ h.active i b
  pub child : (i b : ℕ) → P i → b < 64 → g.child i b ≡ h.child i b

pub linked_same : (g h : Graph) {P : ℕ → Type 0} → Agree g h P → (i j : ℕ) → P i → linked g i j ≡ linked h i j
unfolding linked
linked_same g h a i j p = any_same 64 _ _ (λ b l. rw (a.active i b p l, a.child i b p l))

-- It is enough that they agree where the first is reached.
module _ (g h : Graph) (gs : Sound g) (hs : Sound h) (root : ℕ) (a : Agree g h (λ i. reached_from g root i ≡ true)) where
  abbrev R : Graph → ℕ → Type 0
  R k i = Reached (λ j. eqb j root) (linked k) i

  there : {i : ℕ} → R g i → R h i
  there (here e) = here e
  there (next {i = i} {j = j} r e) = next (there r) (sym (linked_same g h a i j ((reached-in g gs root i).1 r)) ∙ e)

  back : {i : ℕ} → R h i → R g i
  back (here e) = here e
  back (next {i = i} {j = j} r e) =
      let q = back r in next q (linked_same g h a i j ((reached-in g gs root i).1 q) ∙ e)

  pub reached_same : (i : ℕ) → reached_from g root i ≡ reached_from h root i
  reached_same i =
      same_truth _ _ (λ e. (reached-in h hs root i).1 (there ((reached-in g gs root i).0 e)))
      (λ e. (reached-in g gs root i).1 (back ((reached-in h hs root i).0 e)))

  silent_same : (j : ℕ) → reached_from g root j ≡ true → silent g j ≡ silent h j
  unfolding silent
  silent_same j e = rw (any_same 64 (h.active j) (g.active j) (λ b l. a.active j b e l))

  listable_same : (i b : ℕ) → reached_from g root i ≡ true → b < 64 → listable g i b ≡ listable h i b
  unfolding listable nothing_below
  listable_same i b e l = go (g.active i b) refl (g.child i b) refl ∙ rw (a.active i b e l, a.child i b e l)
    where
      go : (t : Bool) → g.active i b ≡ t → (o : Option ℕ) → g.child i b ≡ o → t && none_or (silent g) o ≡ t && none_or (silent h) o
      go true d none c = refl
      go true d (some j) c = silent_same j (child_reached g gs root i b j e d c)
      go false d o c = refl

  pub listed_same : (i b : ℕ) → b < 64 → listed g root i b ≡ listed h root i b
  unfolding listed
  listed_same i b l = go (reached_from g root i) refl
    where
      go : (t : Bool) → reached_from g root i ≡ t → t && listable g i b ≡ reached_from h root i && listable h i b
      go true e = rw (← reached_same i, e) (listable_same i b e l)
      go false e = rw (← reached_same i, e)

  pub listed_of_same : (i : ℕ) → listed_of g root i ≡ listed_of h root i
  unfolding listed_of
  listed_of_same i = kept_same _ _ (below 64) (every_below _ 64 (listed_same i))

  pub count_reached_same : reached_count g root ≡ reached_count h root
  unfolding reached_count
  count_reached_same =
      count_same g.size (reached_from h root) (reached_from g root) (λ i l. reached_same i) ∙ ap (λ n. count n (reached_from h root)) a.size

  pub listing_same : listing g root ≡ listing h root
  unfolding listing
  listing_same =
      gathered_same _ _ (below g.size) (every_below _ g.size (λ i l. ap (map (link i)) (listed_of_same i)))
      ∙ ap (λ n. gathered (λ i. map (link i) (listed_of h root i)) (below n)) a.size

-- What is reached from a root of the graph is in the graph.
pub reached_below : (g : Graph) → Sound g → (root : ℕ) → root < g.size → (i : ℕ) → reached_from g root i ≡ true → i < g.size
reached_below g s root h i e = reached_inside g s root h ((reached-in g s root i).0 e)

-- Graphs that agree below their size agree where the first is reached.
pub agree_reached : (g h : Graph) → Sound g → (root : ℕ) → root < g.size → Agree g h (λ i. i < g.size)
    → Agree g h (λ i. reached_from g root i ≡ true)
agree_reached g h s root l a =
    record {
      size = a.size;
      active = λ i b e. a.active i b (reached_below g s root l i e);
      child = λ i b e. a.child i b (reached_below g s root l i e);
    }

-- Records

bytes_is : (model slot attention bit : ℕ) (e : NodeEntry) → record_bytes model slot attention bit e ≡ record_of model slot attention bit e.id e.instance.number
unfolding record_bytes
bytes_is model slot attention bit e = refl

records-gathered : (c : Chip) (slot attention : ℕ) (f : ℕ → List Link) (xs : List ℕ)
    → gathered (λ i. records_of c slot attention (f i)) xs ≡ records_of c slot attention (gathered f xs)
unfolding records_of
records-gathered c slot attention f xs = sym (gathered-gathered (link_record c slot attention) f xs)

-- The listing, node instance after node instance

module _ (g : Graph) (root : ℕ) where
  listed_is : (i b : ℕ) {t : Bool} → reached_from g root i ≡ t → listed g root i b ≡ t && listable g i b
  unfolding listed
  listed_is i b e = rw e

  -- Of what is reached, listed is what is listable; of the rest nothing is.
  pub listed-of : (i : ℕ) → listed_of g root i ≡ cond (reached_from g root i) (bits_to g i 64) []
  unfolding listed_of bits_to
  listed-of i = go (reached_from g root i) refl
    where
      go : (t : Bool) → reached_from g root i ≡ t → kept (listed g root i) (below 64) ≡ cond t (kept (listable g i) (below 64)) []
      go true e = kept_same _ _ (below 64) (every_below _ 64 (λ b l. listed_is i b e))
      go false e = kept_none _ (below 64) (λ b. listed_is i b e)

  -- Every link is one of the graph's node instances.
  pub listing_inside : Every (λ l. l.instance < g.size) (listing g root)
  unfolding listing
  listing_inside =
      every-gathered_in _ _ (below g.size)
      (every_below _ g.size (λ i h. every-list_in _ (link i) (listed_of g root i) (every_all _ (λ b. h) (listed_of g root i))))

-- Marks that are done exactly where the root reaches.
abbrev pub DoneReached : Graph → ℕ → List ℕ → Type 0
DoneReached g root m = (i : ℕ) → i < g.size → (get_or m i 0 ≡ 2) ↔ (reached_from g root i ≡ true)

-- The walk ends with such marks.
pub finished_done : (g : Graph) (root : ℕ) → root < g.size → g.size ≤ mark_count → DoneReached g root (finished g root).marks
unfolding finished
finished_done g root h l i k = rw (lt-ltb root _ h, get_d_tabulate mark_count _ i (omega arith)) (go (reached_from g root i))
  where
    other : (t : Bool) → ◌≡◌ {A = ℕ} (cond t 1 0) 2 → false ≡ true
    other true d = absurd (omega arith)
    other false d = absurd (omega arith)

    go : (t : Bool) → (◌≡◌ {A = ℕ} (cond t 2 (cond (eqb i root) 1 0)) 2) ↔ (t ≡ true)
    go true = (λ _. refl, λ _. refl)
    go false = (other (eqb i root), λ d. clash d refl)

module _ (g : Graph) (root : ℕ) (m : List ℕ) (done : DoneReached g root m) where
  pub done_is : (i : ℕ) → i < g.size → is_done m i ≡ reached_from g root i
  unfolding is_done
  done_is i l = same_truth _ _ (λ e. (done i l).0 (eqb-true _ 2 e)) (λ e. eq-eqb _ 2 ((done i l).1 e))

  row_is : (i : ℕ) → i < g.size → row_links g m i ≡ map (link i) (listed_of g root i)
  unfolding row_links
  row_is i l = rw (listed-of g root i, done_is i l) (go (reached_from g root i))
    where
      go : (t : Bool) → cond t (map (link i) (bits_to g i 64)) [] ≡ map (link i) (cond t (bits_to g i 64) [])
      go true = refl
      go false = refl

  -- The links of all done node instances are the listing.
  pub rows_listing : rows_to g m g.size ≡ listing g root
  unfolding rows_to listing
  rows_listing = gathered_same _ _ (below g.size) (every_below _ g.size row_is)

  -- A table of keys that hold the IDs and numbers of a chip's node instances, and the chip's slot.
  module _ (c : Chip) (slot attention : ℕ) (keys : List ℕ) (size : g.size ≡ length (node_entries c))
      (tells : (i : ℕ) (e : NodeEntry) → at i (node_entries c) ≡ e ∷ [] → (key_id (get_or keys i 0) ≡ e.id) × (key_number (get_or keys i 0) ≡ e.instance.number))
      (model-fits : c.model < 0x1_0000_0000) (slot-fits : slot < 256) where
    abbrev head_at : ℕ → ℕ
    head_at i = head_of c.model slot (get_or keys i 0)

    link_is : (i b : ℕ) → i < g.size → link_record c slot attention (link i b) ≡ head_record attention (head_at i) b
    unfolding link_record
    link_is i b l =
        let r = at_inside i (node_entries c) (omega arith) in
        let t = tells i r.0 r.1 in
        rw (r.1, head-record c.model slot (get_or keys i 0) model-fits slot-fits attention b, t.0, t.1)
        (gathered_one (record_bytes c.model slot attention b) r.0 ∙ bytes_is c.model slot attention b r.0)

    bits_are : (i : ℕ) → i < g.size → (bs : List ℕ) → bit_records attention (head_at i) bs ≡ gathered (λ b. link_record c slot attention (link i b)) bs
    unfolding bit_records
    bits_are i l bs = gathered_same _ _ bs (every_all _ (λ b. sym (link_is i b l)) bs)

    row-records : (i : ℕ) → i < g.size → row_records c.model slot attention keys g m i ≡ records_of c slot attention (map (link i) (listed_of g root i))
    unfolding row_records records_of gathered
    row-records i l =
        rw (listed-of g root i, done_is i l)
        (go (reached_from g root i)
        ∙ sym (gathered-map (link_record c slot attention) (link i) (cond (reached_from g root i) (bits_to g i 64) [])))
      where
        go : (t : Bool) → cond t (bit_records attention (head_at i) (bits_to g i 64)) []
            ≡ gathered (λ b. link_record c slot attention (link i b)) (cond t (bits_to g i 64) [])
        go true = bits_are i l (bits_to g i 64)
        go false = refl

    -- The records of all done node instances are those of the listing.
    pub rows_records_listing : (n : ℕ) → n ≡ length (node_entries c) → rows_records c.model slot attention keys g m n ≡ records_of c slot attention (listing g root)
    unfolding rows_records listing
    rows_records_listing n e =
        ap (λ k. gathered (row_records c.model slot attention keys g m) (below k)) (e ∙ sym size)
        ∙ gathered_same _ _ (below g.size) (every_below _ g.size row-records)
        ∙ records-gathered c slot attention (λ i. map (link i) (listed_of g root i)) (below g.size)

-- Every record has 16 bytes.

module _ (c : Chip) (slot attention : ℕ) where
  link-length : (l : Link) → l.instance < length (node_entries c) → length (link_record c slot attention l) ≡ 16
  unfolding link_record record_bytes
  link-length l h =
      let r = at_inside l.instance (node_entries c) h in
      rw r.1 (ap length (gathered_one (record_bytes c.model slot attention l.bit) r.0) ∙ record-length c.model slot attention l.bit _ _)

  pub records_of-length : (ls : List Link) → Every (λ l. l.instance < length (node_entries c)) ls → length (records_of c slot attention ls) ≡ length ls * 16
  unfolding records_of gathered Every
  records_of-length [] h = refl
  records_of-length (l ∷ ls) h =
      length-append (link_record c slot attention l) (records_of c slot attention ls) ∙ omega (arith, link-length l h.0, records_of-length ls h.1)

  -- So those of the listing, where the graph's node instances are the chip's.
  pub listing-length : (g : Graph) (root : ℕ) → g.size ≡ length (node_entries c)
      → length (records_of c slot attention (listing g root)) ≡ length (listing g root) * 16
  listing-length g root e =
      records_of-length (listing g root) (every_map _ _ (λ l h. omega arith) (listing g root) (listing_inside g root))
