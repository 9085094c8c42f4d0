-- The file by its sections: how long it is, and where their records stand.
use Prim.Native.Nat.{ℕ, ◌+◌, ◌-◌}
use mathlib.Core.List.{List, [], ◌++◌, append_assoc}
use mathlib.Core.Path.{◌≡◌, ◌∙◌}
use native.Mathlib.Omega.{arith}
use lib.ListN.{length, take, drop, length-append}
use Rattle.numbers.specs.BigEndian.{bytes_of}
use Rattle.numbers.proofs.BigEndianLaws.{length_bytes}
use Rattle.format.specs.Keywords.{chipdata, regs, node, root}
use Rattle.format.specs.Encoding.{encode_start}
use Rattle.records.specs.declared.Record.{Record}
use Rattle.records.specs.Record.{records_in}
use Rattle.packing.specs.declared.Parts.{Parts}
use Rattle.packing.specs.Packing.{packed_of, pack, none, roots_section, nodes_section, registers_section, of_registers, of_roots, count_by, file_of}
use Rattle.packing.specs.Writing.{sizes, file_size, Split, parts_size, parts_file}
use Rattle.packing.proofs.SizeLaws.{pack_size, pack_behind}

start-length : (model : ℕ) → length (encode_start model) ≡ 13
unfolding encode_start chipdata
start-length model = simp (length-append, length_bytes)

-- The length of a section, with what stands behind it.
section-length : (word : List ℕ) (k count : ℕ) (rs : List Record) (behind : List ℕ)
    → length (word ++ (bytes_of k count ++ (pack 0 rs (packed_of none behind)).bytes)) ≡ length word + (k + (sizes 0 rs + length behind))
section-length word k count rs behind =
    let bytes = (pack 0 rs (packed_of none behind)).bytes in
    length-append word (bytes_of k count ++ bytes)
    ∙ omega (arith, length-append (bytes_of k count) bytes, length_bytes k count, pack_size 0 rs (packed_of none behind))

pub roots-length : (rs : List Record) → length (roots_section rs) ≡ 5 + sizes 0 rs
unfolding roots_section root
roots-length rs = section-length root 1 (pack 0 rs (packed_of none [])).counts.roots rs [] ∙ omega arith

pub nodes-length : (rs : List Record) (behind : List ℕ) → length (nodes_section rs behind) ≡ 6 + (sizes 0 rs + length behind)
unfolding nodes_section node
nodes-length rs behind = section-length node 2 (pack 0 rs (packed_of none behind)).counts.nodes rs behind ∙ omega arith

pub registers-length : (rs : List Record) (behind : List ℕ) → length (registers_section rs behind) ≡ 7 + (sizes 0 rs + length behind)
unfolding registers_section regs
registers-length rs behind = section-length regs 3 (pack 0 rs (packed_of none behind)).counts.registers rs behind ∙ omega arith

pub size_of : (model : ℕ) (rs : List Record) → length (file_of model rs) ≡ file_size rs
unfolding file_of file_size
size_of model rs =
    let first = count_by of_registers rs in
    let last = length rs - count_by of_roots rs in
    let roots = roots_section (drop last rs) in
    let nodes = nodes_section (take (last - first) (drop first rs)) roots in
    length-append (encode_start model) (registers_section (take first rs) nodes)
    ∙ omega (
      arith,
      start-length model,
      registers-length (take first rs) nodes,
      nodes-length (take (last - first) (drop first rs)) roots,
      roots-length (drop last rs),
    )

-- What stands behind a section is no part of it.
nodes_apart : (rs : List Record) (behind : List ℕ) → nodes_section rs behind ≡ nodes_section rs [] ++ behind
unfolding nodes_section
nodes_apart rs behind = rw (pack_behind 0 rs none [] behind) (simp append_assoc)

registers_apart : (rs : List Record) (behind : List ℕ) → registers_section rs behind ≡ registers_section rs [] ++ behind
unfolding registers_section
registers_apart rs behind = rw (pack_behind 0 rs none [] behind) (simp append_assoc)

-- A file by the records of its sections.
module _ (rs : List Record) (p : Parts) (h : Split rs p) where
  pub size_parts : file_size rs ≡ parts_size p
  unfolding file_size
  size_parts = rw (← h.registers, ← h.others, ← h.roots)

  pub file_parts : (model : ℕ) → file_of model rs ≡ parts_file model p
  unfolding file_of
  file_parts model =
      rw (
        ← h.registers,
        ← h.others,
        ← h.roots,
        registers_apart (records_in p.registers.now) (nodes_section (records_in p.others.now) (roots_section (records_in p.roots.now))),
        nodes_apart (records_in p.others.now) (roots_section (records_in p.roots.now)),
      )
