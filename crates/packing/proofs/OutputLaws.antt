-- The laws of the sections and of the file in the output.
use Prim.Native.Nat.{ℕ, ◌+◌, ◌≤◌, ◌<◌}
use mathlib.Core.List.{List, [], ◌++◌, append_assoc}
use mathlib.Core.Path.{◌≡◌, refl, sym, ◌∙◌, ap}
use native.Mathlib.Omega.{arith}
use borrow.Author.Tests.{le-leb, lt-leb}
use lib.ListN.{length}
use Rattle.numbers.specs.BigEndian.{bytes_of}
use Rattle.format.specs.Keywords.{regs, node, root}
use Rattle.records.specs.declared.Record.{Record}
use Rattle.records.specs.Record.{records_in, at_front}
use Rattle.packing.specs.declared.Parts.{Parts}
use Rattle.packing.specs.declared.Written.{Written}
use Rattle.packing.specs.Packing.{packed_of, pack, none, roots_section, nodes_section, registers_section, file_of}
use Rattle.packing.specs.declared.Section.{Section}
use Rattle.packing.specs.Writing.{packed_in, sizes, Split, Back, PartBack, section_of, head_size, parts_size, parts_file}
use Rattle.packing.proofs.BackLaws.{back_same, back_more}
use Rattle.packing.proofs.SizeLaws.{pack_size}
use Rattle.packing.proofs.FileLaws.{roots-length, nodes-length, registers-length, size_of, size_parts, file_parts}

-- The keywords as numbers.
root_letters : bytes_of 4 0x524f_4f54 ≡ root
unfolding bytes_of root
root_letters = refl

node_letters : bytes_of 4 0x4e4f_4445 ≡ node
unfolding bytes_of node
node_letters = refl

regs_letters : bytes_of 4 0x5245_4753 ≡ regs
unfolding bytes_of regs
regs_letters = refl

-- A section: its elements, and then its keyword and its count before them.
module _ {rs : List Record} {old mid : List ℕ} {at : ℕ} {w : Written} (p : PartBack rs old mid at w) where
  -- There is room for the keyword and the count.
  pub head_room : (k : ℕ) → k + sizes 0 rs ≤ at → (k ≤ w.at) × (w.at ≤ length mid)
  head_room k h =
      let l = pack_size 0 rs (packed_of none []) in (
        omega (arith, p.bytes.starts, l, h),
        omega (arith, p.bytes.starts, p.bytes.within, back_same p.bytes),
      )

  module _ {new : List ℕ} {to : ℕ} where
    headed : (word : List ℕ) (k count : ℕ) → Back mid new w.at to (word ++ bytes_of k count)
        → Back old new at to (word ++ (bytes_of k count ++ (pack 0 rs (packed_of none [])).bytes))
    headed word k count h = rw append_assoc at (back_more p.bytes h)

    pub roots_back : Back mid new w.at to (bytes_of 4 0x524f_4f54 ++ bytes_of 1 w.counts.roots) → Back old new at to (roots_section rs)
    unfolding roots_section
    roots_back h = headed root 1 (pack 0 rs (packed_of none [])).counts.roots (rw (root_letters, p.counts) at h)

    pub nodes_back : Back mid new w.at to (bytes_of 4 0x4e4f_4445 ++ bytes_of 2 w.counts.nodes) → Back old new at to (nodes_section rs [])
    unfolding nodes_section
    nodes_back h = headed node 2 (pack 0 rs (packed_of none [])).counts.nodes (rw (node_letters, p.counts) at h)

    pub registers_back : Back mid new w.at to (bytes_of 4 0x5245_4753 ++ bytes_of 3 w.counts.registers) → Back old new at to (registers_section rs [])
    unfolding registers_section
    registers_back h = headed regs 3 (pack 0 rs (packed_of none [])).counts.registers (rw (regs_letters, p.counts) at h)

-- A section's length.
pub section-length : (x : Section) (rs : List Record) → length (section_of x rs) ≡ head_size x + sizes 0 rs
section-length Section.Registers rs = registers-length rs [] ∙ omega arith
section-length Section.Nodes rs = nodes-length rs [] ∙ omega arith
section-length Section.Roots rs = roots-length rs

-- The output.
module _ (model : ℕ) (s : List ℕ) {p : Parts} {size : ℕ} (split : Split (records_in s) p) (is : size ≡ parts_size p) where
  pub file-size : size ≡ length (file_of model (records_in s))
  file-size = is ∙ sym (size_parts (records_in s) p split) ∙ sym (size_of model (records_in s))

  pub no_room : (out : List ℕ) → length out < size → out ≡ packed_in model s out
  unfolding packed_in at_front
  no_room out h =
      let l : length out < length (file_of model (records_in s)) = omega (arith, h, file-size) in
      sym (rw (lt-leb (length (file_of model (records_in s))) (length out) l))

  pub has-room : {old new : List ℕ} {to : ℕ} → size ≤ length old → Back old new size to (parts_file model p) → new ≡ packed_in model s old
  unfolding packed_in at_front
  has-room {old} {new} {to} h b =
      let file = file_of model (records_in s) in
      let l : length file ≤ length old = omega (arith, h, file-size) in
      let z : to ≡ 0 = omega (arith, b.starts, file-size, ap length (file_parts (records_in s) p split model)) in
      b.content ∙ rw (← file_parts (records_in s) p split model, le-leb (length file) (length old) l, z, ← file-size)
