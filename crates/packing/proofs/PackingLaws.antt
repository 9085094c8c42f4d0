-- The records of a tree are packed into the tree's encoding.
use Prim.Native.Nat.{ℕ}
use mathlib.Core.List.{List, [], ◌++◌, append_assoc, append-nil}
use mathlib.Core.Path.{◌≡◌}
use Rattle.format.specs.Encoding.{encode, encode_registers, encode_nodes, encode_roots}
use Rattle.format.specs.Tree.{Chip}
use Rattle.records.specs.Elements.{elements}
use Rattle.packing.specs.Packing.{file_of, registers_section, nodes_section, roots_section}
use Rattle.packing.proofs.ElementLaws.{roots_packed, nodes_packed, registers_packed}
use Rattle.packing.proofs.PartLaws.{of_the_registers, of_the_nodes, of_the_roots, registers_part, nodes_part, roots_part}

roots-section : (c : Chip) → roots_section (of_the_roots c) ≡ encode_roots c.roots
unfolding roots_section encode_roots
roots-section c = rw (roots_packed [] c.roots, append-nil)

nodes-section : (c : Chip) (behind : List ℕ) → nodes_section (of_the_nodes c) behind ≡ encode_nodes c.nodes ++ behind
unfolding nodes_section encode_nodes
nodes-section c behind = rw (nodes_packed behind c.nodes) (simp append_assoc)

registers-section : (c : Chip) (behind : List ℕ) → registers_section (of_the_registers c) behind ≡ encode_registers c.registers ++ behind
unfolding registers_section encode_registers
registers-section c behind = rw (registers_packed behind c.registers) (simp append_assoc)

pub packed_file : (c : Chip) → file_of c.model (elements c) ≡ encode c
unfolding file_of encode
packed_file c =
    rw (
      registers_part c,
      nodes_part c,
      roots_part c,
      registers-section c (nodes_section (of_the_nodes c) (roots_section (of_the_roots c))),
      nodes-section c (roots_section (of_the_roots c)),
      roots-section c,
    )
