-- The value of an expression with readings, and the first register that it names without one.
use Rattle.std.specs.Prelude.{ℕ, Bool, true, false, List, [], ◌∷◌, eqb, get_or}
use Rattle.format.specs.Lookup.{gathered}
use Rattle.format.specs.Meaning.{value_within}
use Rattle.format.specs.References.{Named, Fault, unless, named_by}
use Rattle.format.specs.Tree.{Expr}
use Rattle.tables.specs.Faults.{position_in}
use Rattle.evaluation.specs.declared.Value.{Value}

-- The reading of a register instance by the keys of the register instances in file order, and whether it has one.
unfoldable pub word_in : List ℕ → List ℕ → ℕ → ℕ → ℕ
word_in keys words id number = get_or words (position_in keys id number) 0

unfoldable pub unread_in : List ℕ → List ℕ → Named → List Fault
unread_in keys read n = unless (eqb (get_or read (position_in keys n.id n.number) 0) 1) 18 n.place

-- There is a fault.
unfoldable pub faulty : List Fault → Bool
faulty [] = false
faulty (f ∷ fs) = true

-- The place of the first fault; 0 where there is none.
unfoldable pub first_place : List Fault → ℕ
first_place [] = 0
first_place (f ∷ fs) = f.place

-- The word of 64 bits that an expression means with so many levels left, whether it names a register without a reading, the place of the first such, and the place
-- after the expression.
unfoldable pub valued : ℕ → List ℕ → List ℕ → List ℕ → Expr → ℕ → Value
valued levels keys words read e m =
    record {
      word = value_within levels 64 (word_in keys words) e;
      unread = faulty (gathered (unread_in keys read) (named_by e));
      place = first_place (gathered (unread_in keys read) (named_by e));
      next = m;
    }
