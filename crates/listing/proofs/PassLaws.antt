-- The two passes: the listable bits of a node instance gathered into a word, and the records of a word's bits, one bit after another.
use mathlib.Core.Path.{◌≡◌, sym, ◌∙◌}
use mathlib.Core.Bool.{false, cond}
use mathlib.Core.List.{List, ◌++◌}
use Prim.Native.Nat.{ℕ, ◌+◌, ◌*◌, ◌^◌, ◌≤◌, ◌<◌}
use native.Mathlib.Omega.{arith}
use lib.ListN.{length, get_or, take, drop}
use Rattle.numbers.specs.Bits.{bit_of}
use Rattle.numbers.specs.NextBit.{next_bit, without_next, with_bit}
use Rattle.numbers.proofs.TakenLaws.{Taken, taken_none, taken_in, taken-set, taken_next, taken_up, taken_all}
use Rattle.graph.specs.Chains.{listable}
use Rattle.walk.specs.TableGraph.{table_size, table_graph}
use Rattle.listing.specs.Rows.{listed_word, set_to, head_record, bit_records, word_records, Wrote}
use Rattle.listing.proofs.RowsLaws.{listable_off}
use Rattle.listing.proofs.WordLaws.{word_to, word_started, word_skip, word_step, word_full, set_same}
use Rattle.listing.proofs.WriteLaws.{bits_started, bits_wrote, room_next}

-- The first pass

-- The word has those of the bits that were taken that are listable, and `rest` has the other bits.
abbrev pub Gathered : List ℕ → List ℕ → ℕ → ℕ → ℕ → Type 0
Gathered act ch i word rest = Taken 64 (get_or act i 0) rest (λ b. word ≡ word_to (listable (table_graph act ch) i) b)

module _ (act ch : List ℕ) (n i : ℕ) (size : n ≡ table_size act) (h : i < n) where
  -- A bit that is not active is not listable.
  pass_over : {word : ℕ} (b : ℕ) → b < 64 → bit_of 64 (get_or act i 0) b ≡ false → word ≡ word_to (listable (table_graph act ch) i) b → word ≡ word_to (listable (table_graph act ch) i) (b + 1)
  pass_over b l off e = e ∙ word_skip (listable (table_graph act ch) i) b (sym (listable_off act ch n i b size h l off))

  pub gathered_none : get_or act i 0 < 2 ^ 64 → Gathered act ch i 0 (get_or act i 0)
  gathered_none l = taken_none 64 _ _ l (word_started (listable (table_graph act ch) i))

  module _ {word rest : ℕ} (t : Gathered act ch i word rest) where
    pub gathered_next : (rest ≡ 0 → ⊥) → {c : ℕ} → c ≡ next_bit 64 rest → {w : ℕ} → w ≡ cond (listable (table_graph act ch) i c) (with_bit 64 c word) word
        → {r : ℕ} → r ≡ without_next 64 rest → Gathered act ch i w r
    gathered_next some {c} e k d = taken_next t some e d (word_step (listable (table_graph act ch) i) c (taken_up t pass_over some e) k)

    pub gathered_all : rest ≡ 0 → word ≡ listed_word (table_graph act ch) i
    unfolding listed_word
    gathered_all e = taken_all t pass_over e ∙ word_full (listable (table_graph act ch) i)

-- The second pass

-- The records of those of the word's bits that were taken have been written, and `rest` has the other bits.
abbrev pub Recorded : ℕ → ℕ → ℕ → List ℕ → List ℕ → ℕ → ℕ → ℕ → Type 0
Recorded attention head word old new at place rest = Taken 64 word rest (λ b. Wrote old new at place (bit_records attention head (set_to word b)))

module _ (attention head word : ℕ) {old : List ℕ} (at : ℕ) where
  pub recorded_none : word < 2 ^ 64 → Recorded attention head word old old at at word
  recorded_none l = taken_none 64 _ _ l (bits_started attention head word at)

  skip : {mid : List ℕ} {place : ℕ} (b : ℕ) → b < 64 → bit_of 64 word b ≡ false → Wrote old mid at place (bit_records attention head (set_to word b))
      → Wrote old mid at place (bit_records attention head (set_to word (b + 1)))
  skip b l off w = rw (set_same word b off) w

  module _ {mid : List ℕ} {place rest : ℕ} (t : Recorded attention head word old mid at place rest) where
    module _ (room : at + 16 * length (set_to word 64) ≤ length old) (some : rest ≡ 0 → ⊥) {c : ℕ} (e : c ≡ next_bit 64 rest) where
      up : Wrote old mid at place (bit_records attention head (set_to word c))
      up = taken_up t skip some e

      enough : place + 16 ≤ length old
      enough = room_next attention head word c (taken_in t some e) (taken-set t some e) room up

      -- There is room for the next.
      pub recorded_room : place + 16 ≤ length mid
      recorded_room = omega (arith, enough, up.same)

      pub recorded_next : {new : List ℕ} {r : ℕ} → new ≡ take place mid ++ (head_record attention head c ++ drop (place + 16) mid) → length new ≡ length mid → r ≡ without_next 64 rest
          → Recorded attention head word old new at (place + 16) r
      recorded_next w s d = taken_next t some e d (bits_wrote attention head word c (taken-set t some e) up w s enough)

    pub recorded_all : rest ≡ 0 → Wrote old mid at place (word_records attention head word)
    unfolding word_records
    recorded_all e = taken_all t skip e
