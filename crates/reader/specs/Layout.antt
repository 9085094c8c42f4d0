-- The layout of a whole file as the reader keeps it: what it holds, and where its sections begin.
use Rattle.std.specs.Prelude.{ℕ, true, List, length, leb}
use Rattle.limits.specs.Limits.{Limits}
use Rattle.format.specs.Parsed.{Parsed, done, and_then, making, require}
use Rattle.format.specs.RegisterLayout.{register_total, registers_at}
use Rattle.format.specs.NodeLayout.{node_total, nodes_at}
use Rattle.format.specs.FileLayout.{start_at, roots_at}
use Rattle.format.specs.Tree.{Register, Node, Root}
use Rattle.format.specs.Refusals.{CheckValues, accepted_with}
use Rattle.reader.specs.declared.Layout.{Layout}
use Rattle.reader.specs.declared.LayoutRead.{LayoutRead}
use Rattle.fields.specs.Views.{refused_by}

-- Counts, the places of the three section keywords, and the place after the last root.
pub record Summary : Type 0 where
  pub model : ℕ
  pub registers : ℕ
  pub register_instances : ℕ
  pub nodes : ℕ
  pub node_instances : ℕ
  pub roots : ℕ
  pub registers_place : ℕ
  pub nodes_place : ℕ
  pub roots_place : ℕ

abbrev pub laid_out : Layout → Summary
laid_out l =
    record { model = l.model; registers = l.registers; register_instances = l.register_instances; nodes = l.nodes; node_instances = l.node_instances; roots = l.roots; registers_place = l.registers_at; nodes_place = l.nodes_at; roots_place = l.roots_at }

abbrev pub layout_parsed : LayoutRead → Parsed Summary
layout_parsed (LayoutRead.Done l) = done (laid_out l) l.end
layout_parsed (LayoutRead.Refused r) = refused_by r

abbrev pub summary : ℕ → List Register → List Node → List Root → ℕ → ℕ → ℕ → Summary
summary m rs ns ts a b c =
    record { model = m; registers = length rs; register_instances = register_total rs; nodes = length ns; node_instances = node_total ns; roots = length ts; registers_place = a; nodes_place = b; roots_place = c }

-- The start, the registers, the nodes and the roots, one after another.
unfoldable pub layout_at : Limits → List ℕ → ℕ → Parsed Summary
layout_at limits s at =
    and_then (start_at s at) λ m a. and_then (registers_at limits.register_instances s true a) λ rs b.
    and_then (nodes_at limits.node_instances s true b) λ ns c.
    making (λ ts. summary m rs ns ts a b c) (roots_at s true c)

-- The checker's values of a layout.
abbrev pub layout_values : Summary → CheckValues
layout_values l = accepted_with l.model l.registers l.register_instances l.nodes l.node_instances l.roots

-- The layout of a whole file: 1 where it is too long, and 11 where bytes follow the last root.
unfoldable pub whole_at : Limits → List ℕ → Parsed Summary
whole_at limits s =
    require (leb (length s) limits.bytes) 1 0 λ _. and_then (layout_at limits s 0) λ l end. require (leb (length s) end) 11 end λ _. done l end
