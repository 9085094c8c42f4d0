-- How many bytes an element has in a file.
use Rattle.std.specs.Prelude.{ℕ, ◌+◌}
use Rattle.records.specs.declared.Element.{Element}
use Rattle.records.specs.declared.Element.TheVariants.{Register, RegisterInstance, Node, NodeInstance, Capture, Rule, Reading, Constant, All, Any, Inverse, Left, Right, Child, Root, Unknown}

-- How many bytes of a file are an element itself, its counts among them; the size is that of an address.
abbrev pub own_size : ℕ → Element → ℕ
own_size size Register = 6
own_size size RegisterInstance = 1 + size
own_size size Node = 4
own_size size NodeInstance = 4
own_size size Capture = 4
own_size size Rule = 1
own_size size Reading = 5
own_size size Constant = 9
own_size size All = 2
own_size size Any = 2
own_size size Inverse = 1
own_size size Left = 2
own_size size Right = 2
own_size size Child = 4
own_size size Root = 4
own_size size Unknown = 0
