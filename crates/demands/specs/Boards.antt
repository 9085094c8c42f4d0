-- Document 02 (vi), "Sixteen chips on a board": a board's answer in terms of the single calls' answers for its slots, and that slots do not change each other's records. By any limits.
use Rattle.std.specs.Prelude.{ℕ, zero, suc, ◌*◌, ◌/◌, ◌≤◌, ◌<◌, cond, List, [], ◌∷◌, ◌++◌, map, ◌↔◌, ◌⊎◌, ◌≡◌, eqb, length, get_or, take, drop, replicate}
use Rattle.limits.specs.Limits.{Limits}
use Rattle.graph.specs.Chains.{below}
use Rattle.format.specs.Lookup.{gathered}
use Rattle.isolation.specs.Outcome.{Outcome, refused_outcome, done_outcome, isolate}
use Rattle.board.specs.Board.{Board, board_of, total, board_outcome, board}
use Rattle.demands.specs.Demand1.{RefusedBoardCall}

-- The slots of a board are numbered from 0 up.
abbrev pub slot_count : Board → ℕ
slot_count b = length b.file_lengths

-- "A board call takes 1 to 16 slots": all that refusal 20 asks.
pub record Fits (b : Board) : Type 0 where
  pub least : 1 ≤ slot_count b
  pub most : slot_count b ≤ 16
  -- "One list longer than another".
  pub word_lists : length b.word_lengths ≡ slot_count b
  pub read_lists : length b.read_lengths ≡ slot_count b
  -- "Lengths that don't add up".
  pub files : total b.file_lengths ≡ length b.files
  pub words : total b.word_lengths ≡ length b.words
  pub reads : total b.read_lengths ≡ length b.read

-- What slot k has of something "lent end to end .. with a list of lengths": as many as its length says, after those of the slots before it.
unfoldable pub part : ℕ → List ℕ → List ℕ → List ℕ
part k lengths lent = take (get_or lengths k 0) (drop (total (take k lengths)) lent)

-- The first n records of a list, 16 bytes each.
unfoldable pub records_in : ℕ → List ℕ → List (List ℕ)
records_in zero list = []
records_in (suc n) list = take 16 list ∷ records_in n (drop 16 list)

-- A record with the slot k: "model/level (4), attention type, bit, node ID (2), instance, slot, six zeros".
unfoldable pub with_slot : ℕ → List ℕ → List ℕ
with_slot k r = take 9 r ++ (k ∷ drop 10 r)

-- Those of some records whose slot is k.
unfoldable pub of_slot : ℕ → List (List ℕ) → List (List ℕ)
of_slot k [] = []
of_slot k (r ∷ rs) = cond (eqb (get_or r 9 0) k) (r ∷ of_slot k rs) (of_slot k rs)

-- The records of slot k that an answer lists.
unfoldable pub listed_for : ℕ → Outcome → List (List ℕ)
listed_for k o = of_slot k (records_in o.records o.list)

module _ (limits : Limits) (attention : ℕ) (b : Board) where
  -- The single call for slot k: on its file and readings, with some list.
  unfoldable pub single : ℕ → List ℕ → Outcome
  single k list = isolate limits (part k b.file_lengths b.files) attention (part k b.word_lengths b.words) (part k b.read_lengths b.read) list

  -- Its answer with a list for just its records: an empty list is refused by 19 with the records needed as the place, or none are needed and the place is 0.
  unfoldable pub slot_answer : ℕ → Outcome
  slot_answer k = single k (replicate ((single k []).place * 16) 0)

  -- Slot k is "refused 1 to 18", by number n at place p: so its single call answers, whatever the list.
  pub record RefusedSlot (k n p : ℕ) : Type 0 where
    pub inside : k < slot_count b
    pub least : 1 ≤ n
    pub most : n ≤ 18
    pub number : (list : List ℕ) → (single k list).number ≡ n
    pub place : (list : List ℕ) → (single k list).place ≡ p

  -- "The first slot refused 1 to 18".
  pub record FirstRefused (k n p : ℕ) : Type 0 where
    pub refused : RefusedSlot k n p
    pub first : (j m q : ℕ) → j < k → RefusedSlot j m q → ⊥

  -- No slot is refused 1 to 18.
  abbrev pub NoneRefused : Type 0
  NoneRefused = (k n p : ℕ) → RefusedSlot k n p → ⊥

  -- The records that the slots need, and their steps "added up".
  unfoldable pub needed : ℕ
  needed = total (map (λ k. (slot_answer k).records) (below (slot_count b)))

  unfoldable pub steps_in_all : ℕ
  steps_in_all = total (map (λ k. (slot_answer k).steps) (below (slot_count b)))

  -- The records of slot k: those of its single call, with its number.
  unfoldable pub records_for : ℕ → List (List ℕ)
  records_for k = map (with_slot k) (records_in (slot_answer k).records (slot_answer k).list)

  -- "The lists are joined in slot order": the bytes of all slots' records.
  unfoldable pub joined_lists : List ℕ
  joined_lists = gathered (λ k. gathered (λ r. r) (records_for k)) (below (slot_count b))

  module _ (list : List ℕ) where
    -- The board is refused by number n, one of 1 to 18, at place p, and slot k is named.
    pub record BoardRefused (k n p : ℕ) : Type 0 where
      pub least : 1 ≤ n
      pub most : n ≤ 18
      pub number : (board limits attention b list).answer.number ≡ n
      pub place : (board limits attention b list).answer.place ≡ p
      pub slot : (board limits attention b list).slot ≡ k

    -- "Another slot count, one list longer than another, or lengths that don't add up, is refusal 20, place 0, before all else", with slot 0.
    pub record Unfit : Type 0 where
      pub refused : (Fits b → ⊥) → board limits attention b list ≡ board_outcome 0 (refused_outcome 20 0 list)
      pub only : (board limits attention b list).answer.number ≡ 20 → Fits b → ⊥

    -- "The first slot refused 1 to 18 refuses the whole board and is named."
    pub record FirstDecides : Type 0 where
      pub exactly : (k n p : ℕ) → BoardRefused k n p ↔ FirstRefused k n p
      -- Then there are zero records and zero steps, and the list keeps its bytes.
      pub keeps : (k n p : ℕ) → FirstRefused k n p → board limits attention b list ≡ board_outcome k (refused_outcome n p list)
      -- Which slot is refused does not depend on a list: a single call with one list tells.
      pub any_list : (k : ℕ) → k < slot_count b → 1 ≤ (single k list).number → (single k list).number ≤ 18
          → RefusedSlot k (single k list).number (single k list).place

    -- "Otherwise the lists are joined in slot order, steps added up, and 19 counts 16-byte places, as in the single call."
    pub record Joins : Type 0 where
      -- 19, with the records needed as its place, and slot 0: exactly where they are more than the places.
      pub full : (board limits attention b list ≡ board_outcome 0 (refused_outcome 19 needed list)) ↔ (length list / 16 < needed)
      pub room : needed ≤ length list / 16 → board limits attention b list ≡ board_outcome 0 (done_outcome needed steps_in_all (joined_lists ++ drop (needed * 16) list))
      -- A slot's records and steps are those of its single call with any list that has room for them, as this one has.
      pub alone : (k : ℕ) → k < slot_count b → (slot_answer k).records ≤ length list / 16
          → single k list ≡ done_outcome (slot_answer k).records (slot_answer k).steps ((slot_answer k).list ++ drop ((slot_answer k).records * 16) list)

    -- Where the board succeeds, no slot is refused, and the records in the list with a slot's number are that slot's.
    pub record Succeeded : Type 0 where
      pub fits : Fits b
      pub none : NoneRefused
      pub own : (k : ℕ) → k < slot_count b → listed_for k (board limits attention b list).answer ≡ records_for k
      -- No record has another number.
      pub no_other : (k : ℕ) → slot_count b ≤ k → listed_for k (board limits attention b list).answer ≡ []

    -- What document 02 (vi) says of a board's answer, and demand 1 of the minutes.
    pub record Boards : Type 0 where
      -- Whether the board fits or not: the call succeeds or is refused, and the list keeps its length.
      pub ends : ((board limits attention b list).answer.number ≡ 0) ⊎ RefusedBoardCall list (board limits attention b list).answer
      pub sized : length (board limits attention b list).answer.list ≡ length list
      pub unfit : Unfit
      pub decides : Fits b → FirstDecides
      pub otherwise : Fits b → NoneRefused → Joins
      pub succeeded : (board limits attention b list).answer.number ≡ 0 → Succeeded

-- Two boards have the same in slot k: "its number, file and readings".
pub record SameSlot (b b' : Board) (k : ℕ) : Type 0 where
  pub inside : k < slot_count b
  pub inside' : k < slot_count b'
  pub file : part k b.file_lengths b.files ≡ part k b'.file_lengths b'.files
  pub words : part k b.word_lengths b.words ≡ part k b'.word_lengths b'.words
  pub read : part k b.read_lengths b.read ≡ part k b'.read_lengths b'.read

-- "Unless the board is refused, a slot's records depend only on its number, file and readings and the type": whatever the other slots, and their count, and the lists.
abbrev pub Independent : Limits → ℕ → Type 0
Independent limits attention =
    (b b' : Board) (list list' : List ℕ) (k : ℕ) → SameSlot b b' k
    → (board limits attention b list).answer.number ≡ 0 → (board limits attention b' list').answer.number ≡ 0
    → listed_for k (board limits attention b list).answer ≡ listed_for k (board limits attention b' list').answer

-- A board with one chip.
abbrev pub one_chip : List ℕ → List ℕ → List ℕ → Board
one_chip file words read = board_of file (length file ∷ []) words (length words ∷ []) read (length read ∷ [])

-- "The single-chip call writes slot 0": it answers as the call for a board with this chip in slot 0 and no other.
abbrev pub OneSlot : Limits → ℕ → Type 0
OneSlot limits attention =
    (file words read list : List ℕ) → board limits attention (one_chip file words read) list ≡ board_outcome 0 (isolate limits file attention words read list)
