-- The grammar as the code goes through it.
use Rattle.std.specs.Prelude.{ℕ, suc, ◌+◌, ◌^◌, ◌≡◌, Bool, cond, ◌&&◌, List, Result, Ok, Err, leb, eqb, length}
use Rattle.format.specs.Parsed.{Parsed, done, refused, and_then, require}
use Rattle.format.specs.declared.Refusal.{Refusal}
use Rattle.format.specs.Refusals.{number_of}
use Rattle.records.specs.declared.Record.{Record}
use Rattle.records.specs.declared.Before.{Before}
use Rattle.records.specs.declared.grammar.Largest.{Largest}
use Rattle.records.specs.Grammar.{Widths, before_of, judge}

-- The place after the records, or a refusal.
abbrev pub judged_parsed : Result ℕ Refusal → Parsed (Unit {0})
judged_parsed (Ok at) = done tt at
judged_parsed (Err r) = refused (number_of r.kind) r.place

-- The largest value of each field in so many bytes.
pub record LargestOf (w : Widths) (m : Largest) : Type 0 where
  pub form : suc m.form ≡ 256 ^ w.form
  pub amount : suc m.amount ≡ 256 ^ w.amount
  pub number : suc m.number ≡ 256 ^ w.number
  pub id : suc m.id ≡ 256 ^ w.id
  pub value : suc m.value ≡ 256 ^ w.value

-- No field is above these values.
unfoldable pub within : ℕ → ℕ → ℕ → ℕ → ℕ → Record → Bool
within f a n i v r = leb r.form f && (leb r.amount a && (leb r.number n && (leb r.id i && leb r.value v)))

-- The same with another number of owed expressions.
abbrev pub with_owed : ℕ → Before → Before
with_owed o b =
    before_of b.last b.form o b.registers b.register_instances b.nodes b.node_instances b.captures b.rules b.children b.roots

-- With so many records left, owing one more than these stands for owing more.
unfoldable pub capped : ℕ → Before → Before
capped left b = cond (leb b.owed left) b (with_owed (left + 1) b)

-- The end of whole records, and the rest of some records with it.
unfoldable pub finish : List ℕ → Before → ℕ → Parsed (Unit {0})
finish s b at = require (leb (length s) at) 40 at λ _. require (eqb b.owed 0) 40 at λ _. done tt at

unfoldable pub rest : List ℕ → Before → ℕ → List Record → Parsed (Unit {0})
rest s b at rs = and_then (judge b at rs) λ c end. finish s c end
