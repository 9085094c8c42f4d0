-- The answers as lists of numbers.
use Rattle.std.specs.Prelude.{ℕ, cond, List, [], ◌∷◌, ◌++◌, leb, length, drop}
use Rattle.format.specs.Refusals.{CheckValues, AddressValues}
use Rattle.isolation.specs.Outcome.{Outcome}
use Rattle.board.specs.Board.{BoardOutcome}
use Rattle.writer.specs.Writing.{Answer}

-- A lent list after some numbers were put at its front; a list that is too short keeps what it has.
unfoldable pub answered : List ℕ → List ℕ → List ℕ
answered xs out = cond (leb (length xs) (length out)) (xs ++ drop (length xs) out) out

-- The values of the checker's answer, of the address query's, of isolation's, of a board's and of a writer's and a reader's of records, in the order in which they are put.
abbrev pub check_list : CheckValues → List ℕ
check_list v =
    v.number ∷ v.place ∷ v.model ∷ v.registers ∷ v.register_instances ∷ v.nodes ∷ v.node_instances ∷ v.roots ∷ []

abbrev pub address_list : AddressValues → List ℕ
address_list v = v.number ∷ v.place ∷ v.offset ∷ v.size ∷ []

abbrev pub isolate_list : Outcome → List ℕ
isolate_list o = o.number ∷ o.place ∷ o.records ∷ o.steps ∷ []

abbrev pub board_list : BoardOutcome → List ℕ
board_list o = o.answer.number ∷ o.answer.place ∷ o.answer.records ∷ o.answer.steps ∷ o.slot ∷ []

abbrev pub output_list : Answer → List ℕ
output_list a = a.number ∷ a.place ∷ a.length ∷ []
