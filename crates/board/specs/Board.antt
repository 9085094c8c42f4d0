-- A board of chips (document 02 (vi)): "Sixteen chips on a board."
use Rattle.std.specs.Prelude.{ℕ, suc, ◌+◌, Bool, cond, ◌&&◌, List, [], ◌∷◌, ◌++◌, leb, eqb, length, take, drop}
use Rattle.limits.specs.Limits.{Limits, slots}
use Rattle.isolation.specs.Outcome.{Outcome, refused_outcome, outcome_of, Findings, stopped, found, find, written}
use Rattle.board.specs.declared.Boarded.{Boarded}

-- "files, words and read bytes lent end to end, each with a list of lengths"
pub record Board : Type 0 where
  pub files : List ℕ
  pub file_lengths : List ℕ
  pub words : List ℕ
  pub word_lengths : List ℕ
  pub read : List ℕ
  pub read_lengths : List ℕ

abbrev pub board_of : List ℕ → List ℕ → List ℕ → List ℕ → List ℕ → List ℕ → Board
board_of files file_lengths words word_lengths read read_lengths =
    record { files = files; file_lengths = file_lengths; words = words; word_lengths = word_lengths; read = read; read_lengths = read_lengths }

-- What some lengths add up to, an exact number.
unfoldable pub total : List ℕ → ℕ
total [] = 0
total (n ∷ ns) = n + total ns

-- "A board call takes 1 to 16 slots ..; another slot count, one list longer than another, or lengths that don't add up, is refusal 20".
unfoldable pub board_fits : Board → Bool
board_fits b =
    leb 1 (length b.file_lengths) && (leb (length b.file_lengths) slots
    && (eqb (length b.word_lengths) (length b.file_lengths) && (eqb (length b.read_lengths) (length b.file_lengths)
    && (eqb (total b.file_lengths) (length b.files) && (eqb (total b.word_lengths) (length b.words) && eqb (total b.read_lengths) (length b.read))))))

-- A slot: its number, its file and its readings.
pub record Slot : Type 0 where
  pub number : ℕ
  pub file : List ℕ
  pub words : List ℕ
  pub read : List ℕ

-- The slots from a number on, by their lengths, from what was lent end to end.
unfoldable pub slots_from : ℕ → List ℕ → List ℕ → List ℕ → List ℕ → List ℕ → List ℕ → List Slot
slots_from k [] ws rs files words read = []
slots_from k (f ∷ fs) [] rs files words read = []
slots_from k (f ∷ fs) (w ∷ ws) [] files words read = []
slots_from k (f ∷ fs) (w ∷ ws) (r ∷ rs) files words read =
    record { number = k; file = take f files; words = take w words; read = take r read } ∷ slots_from (suc k) fs ws rs (drop f files) (drop w words) (drop r read)

unfoldable pub slots_of : Board → List Slot
slots_of b = slots_from 0 b.file_lengths b.word_lengths b.read_lengths b.files b.words b.read

-- What slots find together: a refusal by 1 to 18, with its number, its place and its slot; or how many bits are listed, their records, and the steps.
pub data Together : Type 0 where
  stopped_at : ℕ → ℕ → ℕ → Together
  joined : ℕ → List ℕ → ℕ → Together

-- "Otherwise the lists are joined in slot order, steps added up".
unfoldable pub before : ℕ → List ℕ → ℕ → Together → Together
before count records steps (stopped_at n p k) = stopped_at n p k
before count records steps (joined c rs s) = joined (count + c) (records ++ rs) (steps + s)

-- "The first slot refused 1 to 18 refuses the whole board and is named".
unfoldable pub join_one : ℕ → Findings → Together → Together
join_one k (stopped n p) rest = stopped_at n p k
join_one k (found count records steps) rest = before count records steps rest

unfoldable pub join : Limits → ℕ → List Slot → Together
join limits attention [] = joined 0 [] 0
join limits attention (s ∷ ss) = join_one s.number (find limits s.number s.file attention s.words s.read) (join limits attention ss)

-- The answer: as that of one chip, and the slot that is refused; "slot 0 with 19 and 20", and with success.
pub record BoardOutcome : Type 0 where
  pub answer : Outcome
  pub slot : ℕ

abbrev pub board_outcome : ℕ → Outcome → BoardOutcome
board_outcome k o = record { answer = o; slot = k }

-- "19 counts 16-byte places, as in the single call."
unfoldable pub in_board_list : List ℕ → Together → BoardOutcome
in_board_list list (stopped_at n p k) = board_outcome k (refused_outcome n p list)
in_board_list list (joined count records steps) = board_outcome 0 (written count records steps list)

-- The whole answer: "refusal 20, place 0, before all else".
unfoldable pub board : Limits → ℕ → Board → List ℕ → BoardOutcome
board limits attention b list =
    cond (board_fits b) (in_board_list list (join limits attention (slots_of b))) (board_outcome 0 (refused_outcome 20 0 list))

-- The paper's values of the code's answer, with what the list holds after the call.
abbrev pub board_outcome_of : Boarded → List ℕ → BoardOutcome
board_outcome_of r list = board_outcome r.slot (outcome_of r.answer list)
