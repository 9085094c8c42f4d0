-- The laws of writing: records one after another, and the rest of the list as it was.
use Rattle.std.specs.Prelude.{Ok, Err}
use mathlib.Core.Path.{◌≡◌, refl, sym, ap, ◌∙◌}
use mathlib.Core.Bool.{true, cond}
use mathlib.Core.List.{List, [], ◌∷◌, ◌++◌, append_assoc}
use Prim.Native.Nat.{ℕ, ◌+◌, ◌-◌, ◌*◌, ◌/◌, ◌≤◌, ◌<◌}
use native.Mathlib.Nat.{zero-add}
use native.Mathlib.Omega.{arith}
use borrow.Author.Tests.{le-leb, lt-leb}
use lib.ListN.{length, get_or, take, drop, length-append, length-take, take-append-drop}
use lib.Dec.{leb}
use lib.Seq.{take_at, drop-append-add, drop-drop}
use Rattle.numbers.specs.Bits.{bit_of}
use Rattle.numbers.proofs.BigEndianLaws.{length_bytes}
use Rattle.graph.specs.Chains.{below, kept}
use Rattle.format.specs.declared.Kind.TheVariants.{NoRoom}
use Rattle.format.specs.Lookup.{gathered}
use Rattle.listing.specs.Records.{bit_bytes, record_of, record_size}
use Rattle.listing.specs.Rows.{set_to, key_id, key_number, head_model, head_slot, head_record, bit_records, word_records, Row, rows_of, first_rows, kept_count, kept_records, Wrote, listing_values, has_room, listing_for, list_after}
use Rattle.format.proofs.GatheredLaws.{gathered-append, gathered_one}
use Rattle.listing.proofs.KeptLaws.{rows_all, rows_next, records_one, count_next, count_mono}
use Rattle.listing.proofs.WordLaws.{set_more, set_mono}

pub record-length : (model slot attention bit id number : ℕ) → length (record_of model slot attention bit id number) ≡ 16
unfolding record_of bit_bytes
record-length model slot attention bit id number = simp (length-append, length_bytes)

head-length : (attention h bit : ℕ) → length (head_record attention h bit) ≡ 16
unfolding head_record
head-length attention h bit = record-length (head_model h) (head_slot h) attention bit (key_id h) (key_number h)

pub records-length : (attention h : ℕ) (bits : List ℕ) → length (bit_records attention h bits) ≡ 16 * length bits
unfolding bit_records gathered
records-length attention h [] = refl
records-length attention h (b ∷ bits) =
    length-append (head_record attention h b) (bit_records attention h bits)
    ∙ omega (arith, head-length attention h b, records-length attention h bits)

-- Nothing was written.
pub wrote_none : (list : List ℕ) (at : ℕ) → Wrote list list at at []
wrote_none list at = record { content = sym (take-append-drop at list); ends = omega arith; same = refl }

-- Bytes after bytes.
pub wrote_more : {old mid new : List ℕ} {at k next : ℕ} {xs ys : List ℕ} → Wrote old mid at k xs → Wrote mid new k next ys → next ≤ length old
    → Wrote old new at next (xs ++ ys)
wrote_more {old} {mid} {new} {at} {k} {next} {xs} {ys} a b h =
    let l : length (take at old ++ xs) ≡ k = omega (arith, length-append (take at old) xs, length-take at old, a.ends, b.ends) in
    let m : mid ≡ (take at old ++ xs) ++ drop k old = a.content ∙ sym (append_assoc (take at old) xs (drop k old)) in
    let front : take k mid ≡ take at old ++ xs = ap (take k) m ∙ take_at (take at old ++ xs) (drop k old) k l in
    let e : next ≡ k + length ys = b.ends in
    let back : drop next mid ≡ drop next old =
    ap (drop next) m ∙ ap (λ q. drop q ((take at old ++ xs) ++ drop k old)) (let w : next ≡ length (take at old ++ xs) + length ys = omega (arith, l) in w)
    ∙ drop-append-add (take at old ++ xs) (drop k old) (length ys) ∙ drop-drop (length ys) k old ∙ ap (λ q. drop q old) (sym e) in
    record {
      content = b.content ∙ rw (front, back) (append_assoc (take at old) xs (ys ++ drop next old) ∙ ap (λ q. take at old ++ q) (sym (append_assoc xs ys (drop next old))));
      ends = omega (arith, length-append xs ys, a.ends, b.ends);
      same = b.same ∙ a.same;
    }

module _ (attention head word : ℕ) where
  -- Bit after bit of a word.
  pub bits_started : {old : List ℕ} (at : ℕ) → Wrote old old at at (bit_records attention head (set_to word 0))
  unfolding set_to kept bit_records gathered below
  bits_started {old} at = wrote_none old at

  pub bits_wrote : (b : ℕ) {old mid new : List ℕ} {at k : ℕ} → bit_of 64 word b ≡ true → Wrote old mid at k (bit_records attention head (set_to word b))
      → new ≡ take k mid ++ (head_record attention head b ++ drop (k + 16) mid) → length new ≡ length mid → k + 16 ≤ length old
      → Wrote old new at (k + 16) (bit_records attention head (set_to word (b + 1)))
  unfolding bit_records
  bits_wrote b on x c s h =
      rw (set_more word b on, gathered-append (head_record attention head) (set_to word b) (b ∷ []), gathered_one)
      (wrote_more x (record { content = c; ends = omega (arith, head-length attention head b); same = s }) h)

  -- While there is room for all bits of the word, there is room for the next.
  pub room_next : (b : ℕ) {old mid : List ℕ} {at k : ℕ} → b < 64 → bit_of 64 word b ≡ true → at + 16 * length (set_to word 64) ≤ length old
      → Wrote old mid at k (bit_records attention head (set_to word b))
      → k + 16 ≤ length old
  room_next b {k = k} h on r w =
      let e : b + 1 + (63 - b) ≡ 64 = omega arith in
      let m : length (set_to word (b + 1)) ≤ length (set_to word 64) = rw e at (set_mono word (b + 1) (63 - b)) in
      omega (
        arith,
        m,
        w.ends,
        records-length attention head (set_to word b),
        ap length (set_more word b on),
        length-append (set_to word b) (b ∷ []),
      )

-- Row after row.
module _ (attention : ℕ) where
  pub kept-length : (rs : List Row) → length (kept_records attention rs) ≡ 16 * kept_count rs
  unfolding kept_records kept_count gathered word_records
  kept-length [] = refl
  kept-length (r ∷ rs) =
      length-append (word_records attention r.head r.word) (kept_records attention rs)
      ∙ omega (
        arith,
        records-length attention r.head (set_to r.word 64),
        kept-length rs,
        length-append (set_to r.word 64) (gathered (λ q. set_to q.word 64) rs),
      )

  pub kept_started : (heads words : List ℕ) {old : List ℕ} → Wrote old old 0 0 (kept_records attention (first_rows 0 heads words))
  unfolding first_rows rows_of kept_records gathered
  kept_started heads words {old} = wrote_none old 0

  pub word-length : (head word : ℕ) → length (word_records attention head word) ≡ 16 * length (set_to word 64)
  unfolding word_records
  word-length head word = records-length attention head (set_to word 64)

  module _ (heads words : List ℕ) (i : ℕ) (in_heads : i < length heads) (in_words : i < length words) {h w : ℕ} (head_is : h ≡ get_or heads i 0) (word_is : w ≡ get_or words i 0)
      (same : length heads ≡ length words) {old mid : List ℕ} {k : ℕ} (room : 16 * kept_count (rows_of heads words) ≤ length old) (before : Wrote old mid 0 k (kept_records attention (first_rows i heads words))) where
    fits : k + 16 * length (set_to w 64) ≤ length old
    fits =
        rw word_is
        (omega (
          arith,
          room,
          before.ends,
          kept-length (first_rows i heads words),
          count_next heads words i in_heads in_words,
          count_mono heads words (i + 1) (length heads) (omega arith),
          ap kept_count (rows_all heads words same (length heads) (omega arith)),
        ))

    -- While there is room for all rows, there is room for the next.
    pub kept_room : k + 16 * length (set_to w 64) ≤ length mid
    kept_room = omega (arith, fits, before.same)

    pub kept_wrote : {new : List ℕ} {next : ℕ} → Wrote mid new k next (word_records attention h w) → Wrote old new 0 next (kept_records attention (first_rows (i + 1) heads words))
    kept_wrote y =
        rw (rows_next heads words i in_heads in_words, ← head_is, ← word_is, records_one attention (first_rows i heads words))
        (wrote_more before y (omega (arith, fits, y.ends, word-length h w)))

-- What was written from the front on.
written_front : {old new bs : List ℕ} {next : ℕ} → Wrote old new 0 next bs → new ≡ bs ++ drop (length bs) old
written_front {old} {new} {bs} w = w.content ∙ ap (λ q. bs ++ drop q old) (let e : _ ≡ length bs = w.ends ∙ zero-add (length bs) in e)

-- Room

module _ (heads words hs ws : List ℕ) (rows : rows_of hs ws ≡ rows_of heads words) {c : ℕ} (e : c ≡ kept_count (rows_of hs ws)) where
  count_is : c ≡ kept_count (rows_of heads words)
  count_is = rw (← rows) e

  pub room_yes : (bytes : ℕ) → c ≤ bytes / 16 → listing_values (Ok c) ≡ listing_for (kept_count (rows_of heads words)) bytes
  unfolding listing_for has_room record_size
  room_yes bytes h = rw (← count_is, le-leb _ _ h)

  pub room_no : (bytes : ℕ) → bytes / 16 < c → listing_values (Err (record { kind = NoRoom; place = c })) ≡ listing_for (kept_count (rows_of heads words)) bytes
  unfolding listing_for has_room record_size
  room_no bytes h = rw (← count_is, lt-leb _ _ h)

  pub list_written : (attention : ℕ) {list new : List ℕ} {next : ℕ} → c ≤ length list / 16 → Wrote list new 0 next (kept_records attention (rows_of hs ws))
      → new ≡ list_after attention (rows_of heads words) list
  unfolding list_after has_room record_size
  list_written attention {list} {next = next} h w =
      written_front {bs = kept_records attention (rows_of heads words)} {next = next} (rw (← rows) w)
      ∙ ap (λ t. cond t (kept_records attention (rows_of heads words) ++ drop (length (kept_records attention (rows_of heads words))) list) list) (sym (ap (λ x. leb x (length list / 16)) (sym count_is) ∙ le-leb _ _ h))

  pub list_kept : (attention : ℕ) (list : List ℕ) → length list / 16 < c → list ≡ list_after attention (rows_of heads words) list
  unfolding list_after has_room record_size
  list_kept attention list h = rw (← count_is, lt-leb _ _ h)
