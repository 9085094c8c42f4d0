-- Which records may follow which: refusal 40 of document 02 (ii).
use Rattle.std.specs.Prelude.{ℕ, suc, ◌+◌, ◌-◌, ◌^◌, Bool, true, false, cond, ◌&&◌, List, [], ◌∷◌, leb, ltb, eqb, length}
use Rattle.format.specs.Parsed.{Parsed, done, and_then, require}
use Rattle.format.specs.Fields.{address_size}
use Rattle.records.specs.declared.Record.{Record}
use Rattle.records.specs.declared.Before.{Before}
use Rattle.records.specs.declared.Element.{Element}
use Rattle.records.specs.declared.Element.TheVariants.{Register, RegisterInstance, Node, NodeInstance, Capture, Rule, Reading, Constant, All, Any, Inverse, Left, Right, Child, Root, Unknown}
use Rattle.records.specs.Record.{record_size, records_in}

-- What a record is, by its kind and, of an expression, by its type: "of unknown kind or expression type".
unfoldable pub expression_of : ℕ → Element
expression_of form =
    cond (eqb form 0x01) Reading
    (cond (eqb form 0x02) Constant
    (cond (eqb form 0x10) All
    (cond (eqb form 0x11) Any
    (cond (eqb form 0x12) Inverse
    (cond (eqb form 0x13) Left
    (cond (eqb form 0x14) Right Unknown))))))

unfoldable pub element_of : ℕ → ℕ → Element
element_of kind form =
    cond (eqb kind 1) Register
    (cond (eqb kind 2) RegisterInstance
    (cond (eqb kind 3) Node
    (cond (eqb kind 4) NodeInstance
    (cond (eqb kind 5) Capture
    (cond (eqb kind 6) Rule
    (cond (eqb kind 7) (expression_of form)
    (cond (eqb kind 8) Child
    (cond (eqb kind 9) Root Unknown))))))))

abbrev pub element : Record → Element
element r = element_of r.kind r.form

-- How many bytes of each field a record uses.
pub record Widths : Type 0 where
  pub form : ℕ
  pub amount : ℕ
  pub number : ℕ
  pub id : ℕ
  pub value : ℕ

abbrev pub wide : ℕ → ℕ → ℕ → ℕ → ℕ → Widths
wide f a n i v = record { form = f; amount = a; number = n; id = i; value = v }

-- The table of docs/RECORDS.md; the type is that of the register before. "(unknown register types: 8 address bytes)"
abbrev pub widths : ℕ → Element → Widths
widths type Register = wide 1 1 0 3 0
widths type RegisterInstance = wide 0 0 1 0 (address_size type)
widths type Node = wide 1 0 0 2 0
widths type NodeInstance = wide 0 0 1 0 0
widths type Capture = wide 0 0 1 3 0
widths type Rule = wide 1 0 0 0 0
widths type Reading = wide 1 0 1 3 0
widths type Constant = wide 1 0 0 0 8
widths type All = wide 1 1 0 0 0
widths type Any = wide 1 1 0 0 0
widths type Inverse = wide 1 0 0 0 0
widths type Left = wide 1 1 0 0 0
widths type Right = wide 1 1 0 0 0
widths type Child = wide 0 1 1 2 0
widths type Root = wide 1 0 1 2 0
widths type Unknown = wide 0 0 0 0 0

-- "or with a nonzero unused byte": a field of so many bytes is below that power of 256.
unfoldable pub used_alone : Widths → Record → Bool
used_alone w r =
    ltb r.form (256 ^ w.form)
    && (ltb r.amount (256 ^ w.amount) && (ltb r.number (256 ^ w.number) && (ltb r.id (256 ^ w.id) && ltb r.value (256 ^ w.value))))

-- No expression is owed, and the last record that is none has a kind of these; 0 where there is none before.
unfoldable pub after : ℕ → ℕ → Before → Bool
after least most b = eqb b.owed 0 && (leb least b.last && leb b.last most)

unfoldable pub is_owed : Before → Bool
is_owed b = ltb 0 b.owed

-- The order of docs/RECORDS.md, "in the file's order": (register instance*)* (node (node-instance capture* (rule expression)* child*)*)* root*.
abbrev pub follows : Before → Element → Bool
follows b Register = after 0 2 b
follows b RegisterInstance = after 1 2 b
follows b Node = after 0 8 b
follows b NodeInstance = after 3 8 b
follows b Capture = after 4 5 b
follows b Rule = after 4 6 b
follows b Reading = is_owed b
follows b Constant = is_owed b
follows b All = is_owed b
follows b Any = is_owed b
follows b Inverse = is_owed b
follows b Left = is_owed b
follows b Right = is_owed b
follows b Child = after 4 8 b
follows b Root = after 0 9 b
follows b Unknown = false

-- One more is not "past its count field's largest value".
unfoldable pub one_more : ℕ → ℕ → Bool
one_more width n = ltb (suc n) (256 ^ width)

abbrev pub counted : Before → Element → Bool
counted b Register = one_more 3 b.registers
counted b RegisterInstance = one_more 1 b.register_instances
counted b Node = one_more 2 b.nodes
counted b NodeInstance = one_more 1 b.node_instances
counted b Capture = one_more 1 b.captures
counted b Rule = one_more 1 b.rules
counted b Reading = true
counted b Constant = true
counted b All = true
counted b Any = true
counted b Inverse = true
counted b Left = true
counted b Right = true
counted b Child = one_more 1 b.children
counted b Root = one_more 1 b.roots
counted b Unknown = false

-- "the first record that those before it don't allow"
unfoldable pub allowed_as : Element → Before → Record → Bool
allowed_as e b r = follows b e && (counted b e && used_alone (widths b.form e) r)

unfoldable pub allowed : Before → Record → Bool
allowed b r = allowed_as (element r) b r

-- By its fields, in their order.
abbrev pub before_of : ℕ → ℕ → ℕ → ℕ → ℕ → ℕ → ℕ → ℕ → ℕ → ℕ → ℕ → Before
before_of l f o r ri n ni c u k t =
    record {
      last = l;
      form = f;
      owed = o;
      registers = r;
      register_instances = ri;
      nodes = n;
      node_instances = ni;
      captures = c;
      rules = u;
      children = k;
      roots = t;
    }

-- Before the first record.
abbrev pub nothing : Before
nothing = before_of 0 0 0 0 0 0 0 0 0 0 0

-- After an expression: one paid, its operands owed.
abbrev pub paid : Before → ℕ → Before
paid b n =
    before_of b.last b.form (b.owed - 1 + n) b.registers b.register_instances b.nodes b.node_instances b.captures b.rules
    b.children b.roots

-- What is before the record behind this one. Every element counts for its parent, and the counts of what it holds itself start anew.
abbrev pub with_element : Before → Record → Element → Before
with_element b r Register =
    before_of 1 r.form b.owed (suc b.registers) 0 b.nodes b.node_instances b.captures b.rules b.children b.roots
with_element b r RegisterInstance =
    before_of 2 b.form b.owed b.registers (suc b.register_instances) b.nodes b.node_instances b.captures b.rules b.children
    b.roots
with_element b r Node =
    before_of 3 b.form b.owed b.registers b.register_instances (suc b.nodes) 0 b.captures b.rules b.children b.roots
with_element b r NodeInstance =
    before_of 4 b.form b.owed b.registers b.register_instances b.nodes (suc b.node_instances) 0 0 0 b.roots
with_element b r Capture =
    before_of 5 b.form b.owed b.registers b.register_instances b.nodes b.node_instances (suc b.captures) b.rules b.children
    b.roots
with_element b r Rule =
    before_of 6 b.form 1 b.registers b.register_instances b.nodes b.node_instances b.captures (suc b.rules) b.children b.roots
with_element b r Reading = paid b 0
with_element b r Constant = paid b 0
with_element b r All = paid b r.amount
with_element b r Any = paid b r.amount
with_element b r Inverse = paid b 1
with_element b r Left = paid b 1
with_element b r Right = paid b 1
with_element b r Child =
    before_of 8 b.form b.owed b.registers b.register_instances b.nodes b.node_instances b.captures b.rules (suc b.children)
    b.roots
with_element b r Root =
    before_of 9 b.form b.owed b.registers b.register_instances b.nodes b.node_instances b.captures b.rules b.children
    (suc b.roots)
with_element b r Unknown = b

unfoldable pub taken : Before → Record → Before
taken b r = with_element b r (element r)

-- What is before the end of some records; 40 at the first byte of the first that is not allowed.
unfoldable pub judge : Before → ℕ → List Record → Parsed Before
judge b at [] = done b at
judge b at (r ∷ rs) = require (allowed b r) 40 at λ _. judge (taken b r) (at + record_size) rs

-- "cut short": the place is the first byte of what is no whole record. "the input's length where whole records end with an expression still owed"
unfoldable pub grammar : List ℕ → Parsed Before
grammar s =
    and_then (judge nothing 0 (records_in s)) λ b at.
    require (leb (length s) at) 40 at λ _. require (eqb b.owed 0) 40 at λ _. done b at
