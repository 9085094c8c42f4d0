-- The slots of a board and the records of a slot: what isolation finds for a slot is what it finds for slot 0, with the slot's number in each record.
use Prim.Native.Nat.{ℕ, zero, suc, ◌+◌, ◌*◌, ◌/◌, ◌%◌, ◌^◌, ◌≤◌, ◌<◌}
use mathlib.Core.Bool.{Bool, true, false, cond}
use mathlib.Core.List.{List, [], ◌∷◌, ◌++◌, map, map-append, map-map, append_assoc, append-nil}
use mathlib.Core.Logic.{⊎_elim}
use mathlib.Core.Path.{◌≡◌, refl, sym, ◌∙◌, ap}
use native.Mathlib.Omega.{arith}
use lib.Dec.{eqb}
use lib.ListN.{length, get_or, take, drop, length-append, length-drop, length-map}
use lib.Seq.{length-take-le, take_at, drop_at, get_or_at, drop-drop}
use borrow.Author.Tests.{eq-eqb, ne_eqb}
use Rattle.limits.specs.Limits.{Limits}
use Rattle.numbers.specs.BigEndian.{bytes_of}
use Rattle.numbers.proofs.Bools.{same?}
use Rattle.graph.specs.Chains.{Graph, Link, below, reached_count}
use Rattle.format.specs.Fields.{known_attention}
use Rattle.format.specs.Finding.{root_for}
use Rattle.format.specs.Lookup.{gathered, node_entries, node_position}
use Rattle.format.specs.Parsed.{Parsed, done, refused}
use Rattle.format.specs.References.{Fault}
use Rattle.format.specs.Rules.{Every}
use Rattle.format.specs.Tree.{Root, Chip}
use Rattle.format.specs.Verdict.{verdict}
use Rattle.format.proofs.EveryLaws.{every_all, every_map, every-list_in}
use Rattle.format.proofs.GatheredLaws.{gathered_one, gathered-map}
use Rattle.format.proofs.PositionsLaws.{at_inside}
use Rattle.listing.specs.Records.{bit_bytes, record_of, record_bytes, listing, link_record, records_of}
use Rattle.isolation.specs.ChipGraph.{chip_graph}
use Rattle.isolation.specs.Outcome.{reached_unread, Findings, stopped, found, found_from, all_read, from_root, find_in, find}
use Rattle.isolation.specs.Readings.{readings_fit}
use Rattle.isolation.proofs.GraphsLaws.{listing_inside, records_of-length, listing-length}
use Rattle.isolation.proofs.OutcomeLaws.{finds_in, found_out}
use Rattle.board.specs.Board.{Board, total, Slot, slots_from, slots_of}
use Rattle.board.proofs.JoinLaws.{gathered_last}
use Rattle.demands.specs.Boards.{slot_count, part, records_in, with_slot, of_slot}

-- Records in bytes

abbrev pub Whole : List ℕ → Type 0
Whole r = length r ≡ 16

-- The bytes of records are these records.
pub records_rows : (rs : List (List ℕ)) (rest : List ℕ) → Every Whole rs → records_in (length rs) (gathered (λ r. r) rs ++ rest) ≡ rs
unfolding records_in gathered Every
records_rows [] rest h = refl
records_rows (r ∷ rs) rest h =
    rw (append_assoc r (gathered (λ x. x) rs) rest)
    (rw (take_at r (gathered (λ x. x) rs ++ rest) 16 h.0, drop_at r (gathered (λ x. x) rs ++ rest) 16 h.0, records_rows rs rest h.1))

pub rows-length : (rs : List (List ℕ)) → Every Whole rs → length (gathered (λ r. r) rs) ≡ length rs * 16
unfolding gathered Every
rows-length [] h = refl
rows-length (r ∷ rs) h = length-append r (gathered (λ x. x) rs) ∙ omega (arith, h.0, rows-length rs h.1)

pub records_count : (n : ℕ) (list : List ℕ) → length (records_in n list) ≡ n
unfolding records_in
records_count zero list = refl
records_count (suc n) list = ap suc (records_count n (drop 16 list))

pub records_whole : (n : ℕ) (list : List ℕ) → n * 16 ≤ length list → Every Whole (records_in n list)
unfolding records_in Every
records_whole zero list h = tt
records_whole (suc n) list h = (length-take-le 16 list (omega arith), records_whole n (drop 16 list) (omega (arith, length-drop 16 list)))

-- The slot's byte

pub slot_whole : (k : ℕ) (r : List ℕ) → Whole r → Whole (with_slot k r)
unfolding with_slot
slot_whole k r h =
    length-append (take 9 r) (k ∷ drop 10 r) ∙ omega (arith, length-take-le 9 r (omega arith), length-drop 10 r)

pub slot-byte : (k : ℕ) (r : List ℕ) → Whole r → get_or (with_slot k r) 9 0 ≡ k
unfolding with_slot
slot-byte k r h = get_or_at (take 9 r) k (drop 10 r) 0 9 (length-take-le 9 r (omega arith))

record_slot : (k : ℕ) → k < 256 → (model attention bit id number : ℕ) → with_slot k (record_of model 0 attention bit id number) ≡ record_of model k attention bit id number
unfolding with_slot record_of bit_bytes bytes_of
record_slot k h model attention bit id number =
    let e : k / 256 ^ 0 % 256 ≡ k = omega arith in
    ap (λ x. take 9 (record_of model 0 attention bit id number) ++ (x ∷ drop 10 (record_of model 0 attention bit id number))) (sym e)

-- Those of some records that have another slot, or this one.
of-append : (k : ℕ) (rs qs : List (List ℕ)) → of_slot k (rs ++ qs) ≡ of_slot k rs ++ of_slot k qs
unfolding of_slot
of-append k [] qs = refl
of-append k (r ∷ rs) qs = go (eqb (get_or r 9 0) k) (of-append k rs qs)
  where
    go : (t : Bool) → of_slot k (rs ++ qs) ≡ of_slot k rs ++ of_slot k qs
        → cond t (r ∷ of_slot k (rs ++ qs)) (of_slot k (rs ++ qs)) ≡ cond t (r ∷ of_slot k rs) (of_slot k rs) ++ of_slot k qs
    go true e = ap (λ x. r ∷ x) e
    go false e = e

of_own : (k : ℕ) (rs : List (List ℕ)) → Every (λ r. get_or r 9 0 ≡ k) rs → of_slot k rs ≡ rs
unfolding of_slot Every
of_own k [] h = refl
of_own k (r ∷ rs) h = rw (eq-eqb (get_or r 9 0) k h.0, of_own k rs h.1)

of_other : (k j : ℕ) → (j ≡ k → ⊥) → (rs : List (List ℕ)) → Every (λ r. get_or r 9 0 ≡ j) rs → of_slot k rs ≡ []
unfolding of_slot Every
of_other k j d [] h = refl
of_other k j d (r ∷ rs) h = rw (ne_eqb (get_or r 9 0) k (λ e. d (sym h.0 ∙ e)), of_other k j d rs h.1)

module _ (f : ℕ → List (List ℕ)) (k : ℕ) where
  -- None of them has another number.
  pub of_none : (n : ℕ) → ((j : ℕ) → j < n → Every (λ r. get_or r 9 0 ≡ j) (f j)) → n ≤ k → of_slot k (gathered f (below n)) ≡ []
  unfolding below gathered of_slot
  of_none zero h l = refl
  of_none (suc n) h l =
      ap (of_slot k) (gathered_last f n) ∙ of-append k (gathered f (below n)) (f n)
      ∙ rw (of_none n (λ j i. h j (omega arith)) (omega arith), of_other k n (λ e. omega arith) (f n) (h n (omega arith)))

  -- Among the records of slots in order, those of slot k are its own.
  pub of_slots : (n : ℕ) → ((j : ℕ) → j < n → Every (λ r. get_or r 9 0 ≡ j) (f j)) → k < n → of_slot k (gathered f (below n)) ≡ f k
  of_slots zero h l = absurd (omega arith)
  of_slots (suc n) h l =
      ap (of_slot k) (gathered_last f n) ∙ of-append k (gathered f (below n)) (f n)
      ∙ ⊎_elim last (λ d. earlier d (of_slots n (λ j i. h j (omega arith)) (omega (arith, d)))) (same? k n)
    where
      last : k ≡ n → of_slot k (gathered f (below n)) ++ of_slot k (f n) ≡ f k
      last e =
          rw (of_none n (λ j i. h j (omega arith)) (omega arith), ← e)
          (of_own k (f k) (rw e (h n (omega arith))))

      earlier : (k ≡ n → ⊥) → of_slot k (gathered f (below n)) ≡ f k → of_slot k (gathered f (below n)) ++ of_slot k (f n) ≡ f k
      earlier d e = rw (e, of_other k n (λ q. d (sym q)) (f n) (h n (omega arith))) (append-nil (f k))

-- The records of a chip in a slot

module _ (c : Chip) (attention : ℕ) where
  link_whole : (slot : ℕ) (l : Link) → l.instance < length (node_entries c) → Whole (link_record c slot attention l)
  unfolding records_of Every
  link_whole slot l h = ap length (sym (gathered_one (link_record c slot attention) l)) ∙ records_of-length c slot attention (l ∷ []) (h, tt)

  link_slot : (k : ℕ) → k < 256 → (l : Link) → l.instance < length (node_entries c) → with_slot k (link_record c 0 attention l) ≡ link_record c k attention l
  unfolding link_record record_bytes
  link_slot k b l h =
      let r = at_inside l.instance (node_entries c) h in
      rw r.1
      (ap (with_slot k) (gathered_one (record_bytes c.model 0 attention l.bit) r.0)
      ∙ record_slot k b c.model attention l.bit r.0.id r.0.instance.number
      ∙ sym (gathered_one (record_bytes c.model k attention l.bit) r.0))

  abbrev Inside : Link → Type 0
  Inside l = l.instance < length (node_entries c)

  link_records : (ls : List Link) → Every Inside ls → records_in (length ls) (records_of c 0 attention ls) ≡ map (link_record c 0 attention) ls
  unfolding records_of
  link_records ls h =
      let rs = map (link_record c 0 attention) ls in
      let e : records_of c 0 attention ls ≡ gathered (λ r. r) rs ++ [] = sym (append-nil (gathered (λ r. r) rs) ∙ gathered-map (λ r. r) (link_record c 0 attention) ls) in
      ap (records_in (length ls)) e ∙ ap (λ n. records_in n (gathered (λ r. r) rs ++ [])) (sym (length-map ls (link_record c 0 attention)))
      ∙ records_rows rs [] (every-list_in Whole (link_record c 0 attention) ls (every_map Inside _ (link_whole 0) ls h))

  slot_links : (k : ℕ) → k < 256 → (ls : List Link) → Every Inside ls
      → gathered (λ r. r) (map (with_slot k) (map (link_record c 0 attention) ls)) ≡ records_of c k attention ls
  unfolding records_of gathered Every
  slot_links k b [] h = refl
  slot_links k b (l ∷ ls) h = rw (link_slot k b l h.0, slot_links k b ls h.1)

  slot_records : (k : ℕ) → k < 256 → (ls : List Link) → Every Inside ls
      → gathered (λ r. r) (map (with_slot k) (records_in (length ls) (records_of c 0 attention ls))) ≡ records_of c k attention ls
  slot_records k b ls h = ap (λ rs. gathered (λ r. r) (map (with_slot k) rs)) (link_records ls h) ∙ slot_links k b ls h

-- Findings for another slot

unfoldable pub reslot : ℕ → Findings → Findings
reslot k (stopped n p) = stopped n p
reslot k (found c rs s) = found c (gathered (λ r. r) (map (with_slot k) (records_in c rs))) s

module _ (k : ℕ) (b : k < 256) (attention : ℕ) (words read : List ℕ) where
  from_slot : (c : Chip) (root : ℕ) → found_from c k attention (chip_graph c attention words read) root ≡ reslot k (found_from c 0 attention (chip_graph c attention words read) root)
  unfolding found_from reslot chip_graph
  from_slot c root =
      let g = chip_graph c attention words read in
      ap (λ rs. found (length (listing g root)) rs (reached_count g root)) (sym (slot_records c attention k b (listing g root) (listing_inside g root)))

  read_slot : (c : Chip) (root : ℕ) (fs : List Fault)
      → all_read fs (found_from c k attention (chip_graph c attention words read) root) ≡ reslot k (all_read fs (found_from c 0 attention (chip_graph c attention words read) root))
  unfolding all_read reslot
  read_slot c root [] = from_slot c root
  read_slot c root (f ∷ fs) = refl

  root_slot : (c : Chip) (ts : List Root) → from_root c k attention words read ts ≡ reslot k (from_root c 0 attention words read ts)
  unfolding from_root reslot
  root_slot c [] = refl
  root_slot c (t ∷ ts) = go (readings_fit c words read)
    where
      g : Graph
      g = chip_graph c attention words read

      p : ℕ
      p = node_position c t.id t.number

      go : (q : Bool) → cond q (all_read (reached_unread c attention read g p) (found_from c k attention g p)) (stopped 17 0)
          ≡ reslot k (cond q (all_read (reached_unread c attention read g p) (found_from c 0 attention g p)) (stopped 17 0))
      go true = read_slot c p (reached_unread c attention read g p)
      go false = refl

  in_slot : (r : Parsed Chip) → find_in k attention words read r ≡ reslot k (find_in 0 attention words read r)
  unfolding find_in reslot
  in_slot (refused n p) = refl
  in_slot (done c end) = go (known_attention attention)
    where
      go : (q : Bool) → cond q (from_root c k attention words read (root_for attention c)) (stopped 15 0)
          ≡ reslot k (cond q (from_root c 0 attention words read (root_for attention c)) (stopped 15 0))
      go true = root_slot c (root_for attention c)
      go false = refl

  -- What is found for a slot is what is found for slot 0, with the slot's number.
  pub find_slot : (limits : Limits) (file : List ℕ) → find limits k file attention words read ≡ reslot k (find limits 0 file attention words read)
  unfolding find
  find_slot limits file = in_slot (verdict limits file)

-- Every record that is found has its whole size.
pub found_whole : (limits : Limits) (file : List ℕ) (attention : ℕ) (words read : List ℕ) {count : ℕ} {records : List ℕ} {steps : ℕ}
    → find limits 0 file attention words read ≡ found count records steps → length records ≡ count * 16
unfolding chip_graph
found_whole limits file attention words read {count} {records} {steps} e =
    let s = found_out limits file attention words read 0 e in
    let g = chip_graph s.chip attention words read in
    let p = node_position s.chip s.root.id s.root.number in
    let i : found count records steps ≡ found (length (listing g p)) (records_of s.chip 0 attention (listing g p)) (reached_count g p) =
    sym e ∙ finds_in limits file attention words read 0 s in
    let c : count ≡ length (listing g p) = cc in
    let r : records ≡ records_of s.chip 0 attention (listing g p) = cc in
    ap length r ∙ listing-length s.chip 0 attention g p refl ∙ ap (λ n. n * 16) (sym c)

-- The slots of a board

abbrev slot_with : ℕ → List ℕ → List ℕ → List ℕ → Slot
slot_with k file words read = record { number = k; file = file; words = words; read = read }

abbrev pub slot_at : Board → ℕ → Slot
slot_at b k = slot_with k (part k b.file_lengths b.files) (part k b.word_lengths b.words) (part k b.read_lengths b.read)

below_first : (n : ℕ) → below (suc n) ≡ 0 ∷ map suc (below n)
unfolding below
below_first zero = refl
below_first (suc n) = ap (λ xs. xs ++ (suc n ∷ [])) (below_first n) ∙ ap (λ xs. 0 ∷ xs) (sym (map-append suc (below n) (n ∷ [])))

pub map_every : {A B : Type 0} (f g : A → B) (xs : List A) → Every (λ x. f x ≡ g x) xs → map f xs ≡ map g xs
unfolding Every
map_every f g [] h = refl
map_every f g (x ∷ xs) h = rw (h.0, map_every f g xs h.1)

part_first : (n : ℕ) (ns lent : List ℕ) → part 0 (n ∷ ns) lent ≡ take n lent
unfolding part total
part_first n ns lent = refl

part_more : (n i : ℕ) (ns lent : List ℕ) → part (suc i) (n ∷ ns) lent ≡ part i ns (drop n lent)
unfolding part total
part_more n i ns lent = ap (take (get_or ns i 0)) (sym (drop-drop (total (take i ns)) n lent))

slots-from : (k : ℕ) (fs ws rs files words read : List ℕ) → length ws ≡ length fs → length rs ≡ length fs
    → slots_from k fs ws rs files words read ≡ map (λ i. slot_with (k + i) (part i fs files) (part i ws words) (part i rs read)) (below (length fs))
unfolding slots_from below
slots-from k [] ws rs files words read e d = refl
slots-from k (f ∷ fs) [] rs files words read e d = absurd (omega arith)
slots-from k (f ∷ fs) (w ∷ ws) [] files words read e d = absurd (omega arith)
slots-from k (f ∷ fs) (w ∷ ws) (r ∷ rs) files words read e d =
    let h : ℕ → Slot = λ i. slot_with (k + i) (part i (f ∷ fs) files) (part i (w ∷ ws) words) (part i (r ∷ rs) read) in
    let t : ℕ → Slot = λ i. slot_with (suc k + i) (part i fs (drop f files)) (part i ws (drop w words)) (part i rs (drop r read)) in
    let tail : map h (map suc (below (length fs))) ≡ map t (below (length fs)) =
    map-map h suc (below (length fs)) ∙ map_every (λ i. h (suc i)) t (below (length fs)) (every_all _ more (below (length fs))) in
    let first : slot_with k (take f files) (take w words) (take r read) ≡ h 0 = here in
    rw (slots-from (suc k) fs ws rs (drop f files) (drop w words) (drop r read) (omega arith) (omega arith))
    (ap (λ x. x ∷ map t (below (length fs))) first ∙ ap (λ xs. h 0 ∷ xs) (sym tail) ∙ ap (map h) (sym (below_first (length fs))))
  where
    here : slot_with k (take f files) (take w words) (take r read) ≡ slot_with (k + 0) (part 0 (f ∷ fs) files) (part 0 (w ∷ ws) words) (part 0 (r ∷ rs) read)
    here = let e : k + 0 ≡ k = omega arith in rw (e, part_first f fs files, part_first w ws words, part_first r rs read)

    more : (i : ℕ) → slot_with (k + suc i) (part (suc i) (f ∷ fs) files) (part (suc i) (w ∷ ws) words) (part (suc i) (r ∷ rs) read)
        ≡ slot_with (suc k + i) (part i fs (drop f files)) (part i ws (drop w words)) (part i rs (drop r read))
    more i = let e : k + suc i ≡ suc k + i = omega arith in rw (e, part_more f i fs files, part_more w i ws words, part_more r i rs read)

pub slots_are : (b : Board) → length b.word_lengths ≡ slot_count b → length b.read_lengths ≡ slot_count b → slots_of b ≡ map (slot_at b) (below (slot_count b))
unfolding slots_of
slots_are b w r =
    slots-from 0 b.file_lengths b.word_lengths b.read_lengths b.files b.words b.read w r
    ∙ map_every _ (slot_at b) (below (slot_count b)) (every_all _ (λ i. let e : 0 + i ≡ i = omega arith in rw e) (below (slot_count b)))
