-- The value of an expression from its head and the values of its operands, one after another.
use Rattle.std.specs.Prelude.{ℕ, true, false, cond, ◌||◌, List, [], ◌∷◌}
use Rattle.numbers.specs.Bits.{Bits, bit_of, word_of, not_word, and_word, or_word, left_word, right_word}
use Rattle.format.specs.Lookup.{gathered}
use Rattle.format.specs.Meaning.{value_within}
use Rattle.format.specs.Tree.{Expr}
use Rattle.expressions.specs.declared.Head.{Head}
use Rattle.expressions.specs.declared.Head.TheVariants.{Reading, Constant, All, Any, Inverse, Left, Right}
use Rattle.evaluation.specs.declared.Value.{Value}
use Rattle.expressions.specs.Names.{own_names}
use Rattle.evaluation.specs.Value.{word_in, unread_in, faulty, first_place}

-- The bits of a head before any operand: those of a reading or a constant, all for AND, and none for the others.
abbrev pub own_bits : (ℕ → ℕ → ℕ) → Head → Bits
own_bits env (Reading id n) = bit_of 64 (env id n)
own_bits env (Constant v) = bit_of 64 v
own_bits env (All n) = λ i. true
own_bits env (Any n) = λ i. false
own_bits env Inverse = λ i. false
own_bits env (Left k) = λ i. false
own_bits env (Right k) = λ i. false

-- The word after one more operand, which is x.
abbrev pub combined : Head → ℕ → ℕ → ℕ
combined (Reading id n) acc x = acc
combined (Constant v) acc x = acc
combined (All n) acc x = and_word 64 acc x
combined (Any n) acc x = or_word 64 acc x
combined Inverse acc x = not_word 64 x
combined (Left k) acc x = left_word 64 k x
combined (Right k) acc x = right_word 64 k x

-- The word after some more operands, each with so many levels left.
unfoldable pub folded : ℕ → (ℕ → ℕ → ℕ) → Head → ℕ → List Expr → ℕ
folded k env h acc [] = acc
folded k env h acc (e ∷ es) = folded k env h (combined h acc (value_within k 64 env e)) es

-- What a head that names no register gives before any operand.
abbrev pub plain_value : ℕ → ℕ → Value
plain_value word next = record { word = word; unread = false; place = 0; next = next }

-- What a head that stands at `start` gives before any operand; `next` is the place after it.
unfoldable pub own_value : List ℕ → List ℕ → List ℕ → ℕ → Head → ℕ → Value
own_value keys words read start h next =
    record {
      word = word_of 64 (own_bits (word_in keys words) h);
      unread = faulty (gathered (unread_in keys read) (own_names start h));
      place = first_place (gathered (unread_in keys read) (own_names start h));
      next = next;
    }

-- What is known after one more operand, which gives x: the first unread register of both, and the place after the operand.
unfoldable pub joined_value : Head → Value → Value → Value
joined_value h v x =
    record {
      word = combined h v.word x.word;
      unread = v.unread || x.unread;
      place = cond v.unread v.place x.place;
      next = x.next;
    }
