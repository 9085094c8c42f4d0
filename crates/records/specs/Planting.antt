-- The tree that some records are the records of. They are taken from the last to the first: an element takes those behind it that are not yet taken and belong to it.
use Rattle.std.specs.Prelude.{ℕ, List, [], ◌∷◌, take, drop}
use Rattle.format.specs.Tree.{Expr, reading, constant, all, any, inverse, left, right, gather, RegisterInstance, Register, Capture, Rule, Child, NodeInstance, Node, Root, Chip}
use Rattle.records.specs.declared.Record.{Record}
use Rattle.records.specs.declared.Element.{Element}
use Rattle.records.specs.declared.Element.TheVariants as element
use Rattle.records.specs.Grammar.{element}

-- What some records are, with those elements at the front whose parent stands before them.
pub record Forest : Type 0 where
  pub register_instances : List RegisterInstance
  pub registers : List Register
  pub expressions : List Expr
  pub captures : List Capture
  pub rules : List Rule
  pub children : List Child
  pub node_instances : List NodeInstance
  pub nodes : List Node
  pub roots : List Root

-- By its fields, in their order.
abbrev pub forest_of : List RegisterInstance → List Register → List Expr → List Capture → List Rule → List Child → List NodeInstance → List Node → List Root
    → Forest
forest_of ri r e c u k ni n t =
    record {
      register_instances = ri;
      registers = r;
      expressions = e;
      captures = c;
      rules = u;
      children = k;
      node_instances = ni;
      nodes = n;
      roots = t;
    }

abbrev pub bare : Forest
bare = forest_of [] [] [] [] [] [] [] [] []

-- The first operand; all records that the grammar takes have it where it is asked for.
abbrev pub operand : List Expr → Expr
operand [] = constant 0
operand (e ∷ es) = e

-- An expression in front, in the place of its operands.
abbrev pub express : Expr → ℕ → Forest → Forest
express e n f =
    forest_of f.register_instances f.registers (e ∷ drop n f.expressions) f.captures f.rules f.children f.node_instances f.nodes f.roots

-- One record more, in front. Places are left 0: neither the records nor the bytes of a tree have them.
abbrev pub plant_as : Element → Record → Forest → Forest
plant_as element.Register r f =
    forest_of []
    (record { id = r.id; type = r.form; flags = r.amount; instances = f.register_instances } ∷ f.registers)
    f.expressions f.captures f.rules f.children f.node_instances f.nodes f.roots
plant_as element.RegisterInstance r f =
    forest_of
    (record { number = r.number; place = 0; address = r.value } ∷ f.register_instances)
    f.registers f.expressions f.captures f.rules f.children f.node_instances f.nodes f.roots
plant_as element.Node r f =
    forest_of f.register_instances f.registers f.expressions f.captures f.rules f.children []
    (record { id = r.id; type = r.form; instances = f.node_instances } ∷ f.nodes)
    f.roots
plant_as element.NodeInstance r f =
    forest_of f.register_instances f.registers f.expressions [] [] []
    (record { place = 0; number = r.number; captures = f.captures; rules = f.rules; children = f.children } ∷ f.node_instances)
    f.nodes f.roots
plant_as element.Capture r f =
    forest_of f.register_instances f.registers f.expressions
    (record { place = 0; id = r.id; number = r.number } ∷ f.captures)
    f.rules f.children f.node_instances f.nodes f.roots
plant_as element.Rule r f =
    forest_of f.register_instances f.registers (drop 1 f.expressions) f.captures
    (record { attention = r.form; place = 0; expression = operand f.expressions } ∷ f.rules)
    f.children f.node_instances f.nodes f.roots
plant_as element.Reading r f = express (reading 0 r.id r.number) 0 f
plant_as element.Constant r f = express (constant r.value) 0 f
plant_as element.All r f = express (all (gather (take r.amount f.expressions))) r.amount f
plant_as element.Any r f = express (any (gather (take r.amount f.expressions))) r.amount f
plant_as element.Inverse r f = express (inverse (operand f.expressions)) 1 f
plant_as element.Left r f = express (left r.amount (operand f.expressions)) 1 f
plant_as element.Right r f = express (right r.amount (operand f.expressions)) 1 f
plant_as element.Child r f =
    forest_of f.register_instances f.registers f.expressions f.captures f.rules
    (record { place = 0; bit = r.amount; id = r.id; number = r.number } ∷ f.children)
    f.node_instances f.nodes f.roots
plant_as element.Root r f =
    forest_of f.register_instances f.registers f.expressions f.captures f.rules f.children f.node_instances f.nodes
    (record { place = 0; attention = r.form; id = r.id; number = r.number } ∷ f.roots)
plant_as element.Unknown r f = f

unfoldable pub plant : List Record → Forest
plant [] = bare
plant (r ∷ rs) = plant_as (element r) r (plant rs)

-- The chip of a model/level and some records.
unfoldable pub tree_of : ℕ → List Record → Chip
tree_of model rs = record { model = model; registers = (plant rs).registers; nodes = (plant rs).nodes; roots = (plant rs).roots }
