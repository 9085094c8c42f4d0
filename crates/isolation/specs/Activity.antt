-- What the node instances' rules for an attention type give with readings, by a table of the register instances' keys.
use Rattle.std.specs.Prelude.{ℕ, zero, suc, Bool, cond, not, ◌&&◌, List, [], ◌∷◌, map, ◌≡◌, ltb, eqb, length, get_or}
use Rattle.format.specs.ExpressionLayout.{expr_at}
use Rattle.limits.specs.Limits.{levels}
use Rattle.format.specs.Lookup.{some, gathered, NodeEntry, node_entries}
use Rattle.format.specs.Meaning.{value_within}
use Rattle.format.specs.Parsed.{done}
use Rattle.format.specs.References.{Fault, named_by}
use Rattle.format.specs.Rules.{Every}
use Rattle.format.specs.Tree.{Expr, Rule, Chip}
use Rattle.evaluation.specs.Value.{word_in, unread_in, faulty, first_place}
use Rattle.isolation.specs.declared.Activity.{Activity}
use Rattle.format.specs.Finding.{rule_for}
use Rattle.listing.specs.Rows.{is_done}

-- What an expression names without a reading, in byte order.
unfoldable pub unread_by : List ℕ → List ℕ → Expr → List Fault
unread_by keys read e = gathered (unread_in keys read) (named_by e)

-- The word that an expression means; 0 where it names an unread register.
unfoldable pub expr_word : List ℕ → List ℕ → List ℕ → Expr → ℕ
expr_word keys words read e = cond (faulty (unread_by keys read e)) 0 (value_within levels 64 (word_in keys words) e)

-- That word of a rule, if there is one; otherwise 0.
unfoldable pub rule_word : List ℕ → List ℕ → List ℕ → List Rule → ℕ
rule_word keys words read [] = 0
rule_word keys words read (r ∷ rs) = expr_word keys words read r.expression

-- The word of a node instance's active bits.
unfoldable pub active_word : List ℕ → List ℕ → List ℕ → ℕ → NodeEntry → ℕ
active_word keys words read attention e = rule_word keys words read (rule_for attention e.instance)

-- The place of the first reading without a value in a node instance's rule; 0 where there is none.
unfoldable pub unread_place : List ℕ → List ℕ → ℕ → NodeEntry → ℕ
unread_place keys read attention e = first_place (gathered (λ r. unread_by keys read r.expression) (rule_for attention e.instance))

-- Both of an expression, and both where there is no rule.
unfoldable pub activity_of : List ℕ → List ℕ → List ℕ → Expr → Activity
activity_of keys words read e = record { word = expr_word keys words read e; unread = first_place (unread_by keys read e) }

abbrev pub inactive : Activity
inactive = record { word = 0; unread = 0 }

-- A rule's expression is read again at its place, which is not 0.
pub record RuleAgain (s : List ℕ) (r : Rule) : Type 0 where
  pub next : ℕ
  pub read : expr_at s levels r.place ≡ done r.expression next
  pub placed : r.place ≡ 0 → ⊥

-- So are those of all rules of a node instance.
abbrev pub RulesAgain : List ℕ → NodeEntry → Type 0
RulesAgain s e = Every (RuleAgain s) e.instance.rules

-- The place that a table holds for the node instance i, if it is done; otherwise 0.
unfoldable pub unread_at : List ℕ → List ℕ → ℕ → ℕ
unread_at marks unread i = cond (is_done marks i) (get_or unread i 0) 0

-- The first of these that is not 0, of the first n node instances; 0 where there is none.
unfoldable pub first_unread : List ℕ → List ℕ → ℕ → ℕ
first_unread marks unread zero = 0
first_unread marks unread (suc n) = cond (eqb (first_unread marks unread n) 0) (unread_at marks unread n) (first_unread marks unread n)

-- Both lists of readings have m entries, and every read byte is 0 or 1.
unfoldable pub fitting : ℕ → List ℕ → List ℕ → Bool
fitting m words read = eqb (length words) m && (eqb (length read) m && not (some (ltb 1) read))

-- Columns

-- The words of active bits of all node instances, and the places of their first readings without a value.
abbrev pub active_column : List ℕ → List ℕ → List ℕ → ℕ → Chip → List ℕ
active_column keys words read attention c = map (active_word keys words read attention) (node_entries c)

abbrev pub unread_column : List ℕ → List ℕ → ℕ → Chip → List ℕ
unread_column keys read attention c = map (unread_place keys read attention) (node_entries c)

-- Two tables hold the same for every done node instance.
abbrev pub SameDone : List ℕ → List ℕ → List ℕ → Type 0
SameDone marks t u = (i : ℕ) → get_or marks i 0 ≡ 2 → get_or t i 0 ≡ get_or u i 0
