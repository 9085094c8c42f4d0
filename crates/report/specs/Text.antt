-- The text that the station prints, in ASCII. Document 01: the program "prints the list, all numbers decimal"; its samples show the lines.
use Rattle.std.specs.Prelude.{ℕ, zero, suc, ◌+◌, ◌/◌, ◌%◌, cond, List, [], ◌∷◌, ◌++◌, ltb, eqb, ◌≡◌, length, drop}
use Rattle.numbers.specs.Field.{field}
use Rattle.tables.specs.Tables.{written}
use Rattle.isolation.specs.Outcome.{Outcome}
use Rattle.listing.specs.Records.{record_size}

-- The decimal digits of a number that has at most k of them, without zeros in front.
unfoldable pub spelled : ℕ → ℕ → List ℕ
spelled zero n = []
spelled (suc k) n = cond (ltb n 10) ((48 + n) ∷ []) (spelled k (n / 10) ++ ((48 + n % 10) ∷ []))

-- A number below 2^64 has at most 20 digits.
unfoldable pub decimal : ℕ → List ℕ
decimal n = spelled 20 n

-- "type ", " node ", " inst ", " bit ", "steps ", "refused ", " place " and the end of a line.
unfoldable pub type_word : List ℕ
type_word = 0x74 ∷ 0x79 ∷ 0x70 ∷ 0x65 ∷ 0x20 ∷ []

unfoldable pub node_word : List ℕ
node_word = 0x20 ∷ 0x6e ∷ 0x6f ∷ 0x64 ∷ 0x65 ∷ 0x20 ∷ []

unfoldable pub inst_word : List ℕ
inst_word = 0x20 ∷ 0x69 ∷ 0x6e ∷ 0x73 ∷ 0x74 ∷ 0x20 ∷ []

unfoldable pub bit_word : List ℕ
bit_word = 0x20 ∷ 0x62 ∷ 0x69 ∷ 0x74 ∷ 0x20 ∷ []

unfoldable pub steps_word : List ℕ
steps_word = 0x73 ∷ 0x74 ∷ 0x65 ∷ 0x70 ∷ 0x73 ∷ 0x20 ∷ []

unfoldable pub refused_word : List ℕ
refused_word = 0x72 ∷ 0x65 ∷ 0x66 ∷ 0x75 ∷ 0x73 ∷ 0x65 ∷ 0x64 ∷ 0x20 ∷ []

unfoldable pub place_word : List ℕ
place_word = 0x20 ∷ 0x70 ∷ 0x6c ∷ 0x61 ∷ 0x63 ∷ 0x65 ∷ 0x20 ∷ []

unfoldable pub line_end : List ℕ
line_end = 0x0a ∷ []

-- A word and a number.
unfoldable pub named : List ℕ → ℕ → List ℕ
named word n = word ++ decimal n

-- A line: "type 3 node 1 inst 0 bit 0".
unfoldable pub bit_line : ℕ → ℕ → ℕ → ℕ → List ℕ
bit_line attention id number bit =
    named type_word attention ++ (named node_word id ++ (named inst_word number ++ (named bit_word bit ++ line_end)))

-- The line of the record that some bytes begin with: "model/level (4), attention type, bit, node ID (2), instance, slot, six zeros". Neither the model nor the slot is printed.
unfoldable pub record_line : List ℕ → List ℕ
record_line r = bit_line (field r 4 1) (field r 6 2) (field r 8 1) (field r 5 1)

-- The lines of the first n records of a list.
unfoldable pub record_lines : ℕ → List ℕ → List ℕ
record_lines zero list = []
record_lines (suc n) list = record_line list ++ record_lines n (drop record_size list)

-- "steps 1".
unfoldable pub steps_line : ℕ → List ℕ
steps_line n = named steps_word n ++ line_end

-- "refused 15 place 0".
unfoldable pub refused_line : ℕ → ℕ → List ℕ
refused_line n p = named refused_word n ++ (named place_word p ++ line_end)

-- The whole text of an answer.
unfoldable pub text_of : Outcome → List ℕ
text_of o = cond (eqb o.number 0) (record_lines o.records o.list ++ steps_line o.steps) (refused_line o.number o.place)

-- A lent text after some bytes were put to it from a place on, and the place after them. What stands beyond its end is left out.
pub record Put (before : List ℕ) (at : ℕ) (part after : List ℕ) (next : ℕ) : Type 0 where
  pub text : after ≡ written before at part
  pub place : next ≡ at + length part
