-- Document 02 (ii), "Write chip data files", in its own words, over the definitions of what a writer and a reader of records answer. By any limits, for files and records that are bytes and a model/level of 4 bytes.
use Rattle.std.specs.Prelude.{ℕ, ◌+◌, ◌*◌, ◌^◌, ◌≤◌, ◌<◌, List, ◌++◌, ◌↔◌, ◌⊎◌, ◌≡◌, length, take, get_or}
use Rattle.limits.specs.Limits.{Limits}
use Rattle.numbers.specs.BigEndian.{Bytes}
use Rattle.format.specs.Encoding.{encode}
use Rattle.format.specs.Parsed.{done, refused}
use Rattle.format.specs.Placing.{Placed}
use Rattle.format.specs.Rules.{Meets}
use Rattle.format.specs.Tree.{Chip}
use Rattle.format.specs.Verdict.{check}
use Rattle.records.specs.declared.Before.{Before}
use Rattle.records.specs.Elements.{records}
use Rattle.records.specs.Fits.{Fits}
use Rattle.records.specs.Grammar.{grammar}
use Rattle.writer.specs.Writing.{Answer, refused_answer, written_answer, write, read}

-- Records

-- Some bytes are the records of a tree whose numbers fit their fields: "one for each register, instance, node, node instance, capture, rule, expression, child and root, in the file's order".
pub record RecordsOf (s : List ℕ) (c : Chip) : Type 0 where
  pub fits : Fits c
  pub are : s ≡ records c

-- They are the records of no such tree.
abbrev pub NoTree : List ℕ → Type 0
NoTree s = (c : Chip) → RecordsOf s c → ⊥

-- Some such tree's records begin with these bytes.
pub record Begins (t : List ℕ) : Type 0 where
  pub tree : Chip
  pub fits : Fits tree
  pub more : List ℕ
  pub whole : records tree ≡ t ++ more

-- The place of 40, without the grammar: "the first record that those before it don't allow, cut short, of unknown kind or expression type, past its count field's largest value, or with a nonzero unused byte (place: its first byte; the input's length where whole records end with an expression still owed)".
pub record FirstWrong (s : List ℕ) (p : ℕ) : Type 0 where
  pub none : NoTree s
  -- "its first byte", or the input's length
  pub start : (k : ℕ) × (p ≡ k * 16)
  pub inside : p ≤ length s
  -- "the first": the records before it are the beginning of some tree's.
  pub before : Begins (take p s)
  -- "that those before it don't allow": with it they are the beginning of no tree's. Where fewer than 16 bytes are left it is cut short.
  pub wrong : p + 16 ≤ length s → Begins (take (p + 16) s) → ⊥
  -- "where whole records end with an expression still owed": where none are left, whatever completes the records begins with an expression.
  pub owed : p ≡ length s → (t : Begins s) → get_or t.more 0 0 ≡ 7

-- What refusal 40 asks of some records.
pub record Grammars (s : List ℕ) : Type 0 where
  -- The grammar takes exactly the records of the trees whose numbers fit.
  pub takes : ((b : Before) × (at : ℕ) × (grammar s ≡ done b at)) ↔ ((c : Chip) × RecordsOf s c)
  -- Its refusals are 40 at the first wrong record.
  pub refuses : (n p : ℕ) → (grammar s ≡ refused n p) ↔ ((n ≡ 40) × FirstWrong s p)
  -- All else has a first wrong record, and one only.
  pub some : ((c : Chip) × RecordsOf s c) ⊎ ((p : ℕ) × FirstWrong s p)
  pub one : (p q : ℕ) → FirstWrong s p → FirstWrong s q → p ≡ q

-- Answers

-- "Every refusal leaves the lent buffers unchanged": what an answer leaves of the output that was lent.
pub record Lent (out : List ℕ) (a : Answer) : Type 0 where
  pub refusal : (a.number ≡ 0 → ⊥) → a ≡ refused_answer a.number a.place out
  -- Success writes some bytes, and changes no further byte.
  pub success : a.number ≡ 0 → (bytes : List ℕ) × (length bytes ≤ length out) × (a ≡ written_answer bytes out)
  pub sized : length a.output ≡ length out

-- The bytes that an answer wrote.
abbrev pub bytes_in : Answer → List ℕ
bytes_in a = take a.length a.output

-- An answer is these bytes; or, where the output is too short for them, "41, output too short (place: bytes needed)".
pub record Gives (bytes out : List ℕ) (a : Answer) : Type 0 where
  pub room : length bytes ≤ length out → a ≡ written_answer bytes out
  pub short : length out < length bytes → a ≡ refused_answer 41 (length bytes) out

-- Accepted by the rules, with this tree: as in demand 2.
pub record Accepted (limits : Limits) (file : List ℕ) (c : Chip) : Type 0 where
  pub encoded : file ≡ encode c
  pub placed : Placed c
  pub meets : Meets limits c

-- "The checker's number and place" for a file where it refuses it; otherwise these bytes, or 41.
pub record CheckedFirst (limits : Limits) (file bytes out : List ℕ) (a : Answer) : Type 0 where
  pub refused : ((check limits file).number ≡ 0 → ⊥) → a ≡ refused_answer (check limits file).number (check limits file).place out
  pub accepted : (check limits file).number ≡ 0 → Gives bytes out a

-- Writing

-- A tree with another model/level, which is in none of its records.
abbrev pub with_model : ℕ → Chip → Chip
with_model m c = record { model = m; registers = c.registers; nodes = c.nodes; roots = c.roots }

-- "The file that would result": the encoding of the tree that the records are those of, with the model/level that is given.
abbrev pub file_with : ℕ → Chip → List ℕ
file_with m c = encode (with_model m c)

module _ (limits : Limits) (m : ℕ) (s out : List ℕ) where
  -- "Refusals, in this order: 40 ..; the checker's number and place for the file that would result ..; 41, output too short (place: bytes needed)."
  pub record Writes : Type 0 where
    pub wrong : (p : ℕ) → (write limits m s out ≡ refused_answer 40 p out) ↔ FirstWrong s p
    -- 40 comes with the records of no tree, and with no others.
    pub none : ((write limits m s out).number ≡ 40) ↔ NoTree s
    pub otherwise : (c : Chip) → RecordsOf s c → CheckedFirst limits (file_with m c) (file_with m c) out (write limits m s out)
    -- It succeeds exactly with the records of a tree whose file is accepted and has room.
    pub succeeds : ((write limits m s out).number ≡ 0)
        ↔ ((c : Chip) × RecordsOf s c × ((d : Chip) × Accepted limits (file_with m c) d) × (length (file_with m c) ≤ length out))
    pub lent : Lent out (write limits m s out)

  -- "Writing and reading back gives the same records": the file that was written is accepted, has the model/level, and is read as the records.
  pub record ReadBack : Type 0 where
    pub accepted : (check limits (bytes_in (write limits m s out))).number ≡ 0
    pub model : (check limits (bytes_in (write limits m s out))).model ≡ m
    pub same : (room : List ℕ) → Gives s room (read limits (bytes_in (write limits m s out)) room)

-- Reading

-- "Reading into records has the checker's refusals, then 41." An accepted file is read as the records of its tree.
pub record Reads (limits : Limits) (file out : List ℕ) : Type 0 where
  -- The checker refuses exactly the files that are not accepted.
  pub accepts : ((check limits file).number ≡ 0) ↔ ((c : Chip) × Accepted limits file c)
  pub refused : ((check limits file).number ≡ 0 → ⊥) → read limits file out ≡ refused_answer (check limits file).number (check limits file).place out
  pub accepted : (c : Chip) → Accepted limits file c → RecordsOf (records c) c × Gives (records c) out (read limits file out)
  -- It succeeds exactly with an accepted file whose records have room.
  pub succeeds : ((read limits file out).number ≡ 0) ↔ ((c : Chip) × Accepted limits file c × (length (records c) ≤ length out))
  pub lent : Lent out (read limits file out)

-- "Reading an accepted file and writing it gives the same bytes", the model/level among them: the records of its tree, and those that were read from it, are written as the file.
pub record WrittenBack (limits : Limits) (file : List ℕ) : Type 0 where
  pub tree : (c : Chip) → Accepted limits file c → (room : List ℕ) → Gives file room (write limits c.model (records c) room)
  pub same : (out : List ℕ) → (read limits file out).number ≡ 0
      → (room : List ℕ) → Gives file room (write limits (check limits file).model (bytes_in (read limits file out)) room)

-- The sentences of document 02 (ii).
pub record RoundTrips (limits : Limits) : Type 0 where
  pub grammars : (s : List ℕ) → Bytes s → Grammars s
  pub writes : (m : ℕ) (s out : List ℕ) → m < 256 ^ 4 → Bytes s → Writes limits m s out
  pub reads : (file out : List ℕ) → Bytes file → Reads limits file out
  pub read_back : (m : ℕ) (s out : List ℕ) → m < 256 ^ 4 → Bytes s → (write limits m s out).number ≡ 0 → ReadBack limits m s out
  pub written_back : (file : List ℕ) → Bytes file → WrittenBack limits file
