-- The records of a tree's encoding are the tree's records.
use Prim.Native.Nat.{ℕ, zero, suc, ◌+◌, ◌-◌, ◌^◌, ◌≤◌, ◌<◌}
use mathlib.Core.List.{List, [], ◌∷◌, ◌++◌, map}
use mathlib.Core.Path.{◌≡◌, refl, sym, ◌∙◌, ap, subst}
use native.Mathlib.Omega.{arith}
use lib.Dec.{lit<}
use lib.ListN.{length}
use lib.Seq.{take-length}
use Rattle.numbers.specs.BigEndian.{bytes_of}
use Rattle.numbers.proofs.BigEndianLaws.{length_bytes}
use Rattle.format.specs.Keywords.{chipdata, regs, node, root}
use Rattle.format.specs.Tree.{Register, Node, Root, Chip}
use Rattle.format.specs.Lookup.{gathered}
use Rattle.format.specs.Encoding.{encode_start, encode_register, encode_registers, encode_node, encode_nodes, encode_root, encode_roots, encode}
use Rattle.format.specs.Rules.{Every}
use Rattle.format.proofs.Spelling.{Spell, spell_split}
use Rattle.records.specs.declared.Record.{Record}
use Rattle.records.specs.Elements.{register_records, node_records, root_record, elements}
use Rattle.records.specs.Fits.{Fits}
use Rattle.unpacking.specs.declared.Left.{Left}
use Rattle.unpacking.specs.Unpacking.{value_at, element_next, run_of, run, run_registers, run_nodes, run_roots, unpacked}
use Rattle.format.proofs.GatheredLaws.{gathered_each}
use Rattle.unpacking.proofs.Steps.{turns, turns-length, ahead, ahead_end, value-in, Goes, goes_row}
use Rattle.unpacking.proofs.NodeRuns.{nodes_left, NodeFine, goes_node}
use Rattle.unpacking.proofs.FineParts.{registers_fine, nodes_fine, roots_fine}
use Rattle.unpacking.proofs.RegisterRuns.{registers_left, roots_left, RegisterFine, RootFine, last_type, goes_registers, goes_root}

module _ (s : List ℕ) where
  -- A run that passes all there is to come.
  all_of : (at : ℕ) (l : Left) (rs : List Record) (m : ℕ) (d : Left) → Goes s at l rs m d → ((k : ℕ) → run s k m d ≡ run_of [] m) → m ≤ length s
      → run s (length s) at l ≡ run_of rs m
  all_of at l rs m d g e h =
      let k = length s - length rs in
      let w : turns rs k ≡ length s = omega (arith, turns-length rs k, g.few) in
      ap (λ n. run s n at l) (sym w) ∙ g.goes k ∙ ap (ahead rs) (e k) ∙ ahead_end rs m

  registers_end : (f m k : ℕ) → run s k m (registers_left f 0 0) ≡ run_of [] m
  unfolding run element_next
  registers_end f m zero = refl
  registers_end f m (suc k) = refl

  nodes_end : (m k : ℕ) → run s k m (nodes_left 0 0 0 0 0) ≡ run_of [] m
  unfolding run element_next
  nodes_end m zero = refl
  nodes_end m (suc k) = refl

  roots_end : (m k : ℕ) → run s k m (roots_left 0) ≡ run_of [] m
  unfolding run element_next
  roots_end m zero = refl
  roots_end m (suc k) = refl

  -- A section: its keyword of four letters, its count, and its elements behind these.
  section : (at n count : ℕ) {m : ℕ} (word bs : List ℕ) → length word ≡ 4 → 0 < n → count < 256 ^ n → Spell s at m (word ++ (bytes_of n count ++ bs))
      → (value_at s (at + 4) n ≡ count) × Spell s (at + 4 + n) m bs
  section at n count {m} word bs w z h a =
      let b = spell_split s word (bytes_of n count ++ bs) a in
      let c = spell_split s (bytes_of n count) bs b.1 in
      let p : at + length word ≡ at + 4 = omega arith in
      let q : at + length word + length (bytes_of n count) ≡ at + 4 + n = omega (arith, length_bytes n count) in
      (value-in s (at + 4) n count z c.0 p h, subst (λ x. Spell s x m bs) q c.1)

  -- The three sections, where their bytes stand.
  registers_run : (rs : List Register) {m : ℕ} → Every RegisterFine rs → length rs < 256 ^ 3 → Spell s 13 m (encode_registers rs) → m ≤ length s
      → run_registers s ≡ run_of (gathered register_records rs) m
  unfolding run_registers encode_registers regs
  registers_run rs {m} f h a l =
      let b = section 13 3 (length rs) regs (gathered encode_register rs) refl (lit< tt) h a in
      let v : value_at s 17 3 ≡ length rs = b.0 in
      rw v (all_of 20 (registers_left 0 0 (length rs)) (gathered register_records rs) m _ (goes_registers s rs 0 20 f b.1) (registers_end (last_type 0 rs) m) l)

  nodes_run : (ns : List Node) (at : ℕ) {m : ℕ} → Every NodeFine ns → length ns < 256 ^ 2 → Spell s at m (encode_nodes ns) → m ≤ length s
      → run_nodes s at ≡ run_of (gathered node_records ns) m
  unfolding run_nodes encode_nodes node
  nodes_run ns at {m} f h a l =
      let b = section at 2 (length ns) node (gathered encode_node ns) refl (lit< tt) h a in
      let v : value_at s (at + 4) 2 ≡ length ns = b.0 in
      let w : at + 4 + 2 ≡ at + 6 = omega arith in
      let g : Goes s (at + 6) (nodes_left 0 0 0 0 (length ns)) (gathered node_records ns) m (nodes_left 0 0 0 0 0) =
      goes_row s NodeFine encode_node node_records (λ j. nodes_left 0 0 0 0 j) (goes_node s) ns (at + 6) f
      (subst (λ p. Spell s p m (gathered encode_node ns)) w b.1) in
      rw v (all_of (at + 6) (nodes_left 0 0 0 0 (length ns)) (gathered node_records ns) m _ g (nodes_end m) l)

  roots_run : (ts : List Root) (at : ℕ) {m : ℕ} → Every RootFine ts → length ts < 256 → Spell s at m (encode_roots ts) → m ≤ length s
      → run_roots s at ≡ run_of (map root_record ts) m
  unfolding run_roots encode_roots root
  roots_run ts at {m} f h a l =
      let b = section at 1 (length ts) root (gathered encode_root ts) refl (lit< tt) h a in
      let v : value_at s (at + 4) 1 ≡ length ts = b.0 in
      let w : at + 4 + 1 ≡ at + 5 = omega arith in
      let g : Goes s (at + 5) (roots_left (length ts)) (gathered (λ t. root_record t ∷ []) ts) m (roots_left 0) =
      goes_row s RootFine encode_root (λ t. root_record t ∷ []) roots_left (goes_root s) ts (at + 5) f
      (subst (λ p. Spell s p m (gathered encode_root ts)) w b.1) in
      rw (v, ← gathered_each root_record ts) (all_of (at + 5) (roots_left (length ts)) (gathered (λ t. root_record t ∷ []) ts) m _ g (roots_end m) l)

start-length : (m : ℕ) → length (encode_start m) ≡ 13
unfolding encode_start chipdata bytes_of
start-length m = refl

pub unpacked_tree : (c : Chip) → Fits c → unpacked (encode c) ≡ elements c
unfolding unpacked elements encode
unpacked_tree c fits =
    let s = encode c in
    let a : Spell s 0 (length s) (encode c) = record { here = take-length s; ends = omega arith } in
    let b = spell_split s (encode_start c.model) _ a in
    let d = spell_split s (encode_registers c.registers) _ b.1 in
    let e = spell_split s (encode_nodes c.nodes) (encode_roots c.roots) d.1 in
    let w : 0 + length (encode_start c.model) ≡ 13 = omega (arith, start-length c.model) in
    let p = 0 + length (encode_start c.model) + length (encode_registers c.registers) in
    let q = p + length (encode_nodes c.nodes) in
    let lq : length s ≡ q + length (encode_roots c.roots) = e.1.ends in
    let r : run_registers s ≡ run_of (gathered register_records c.registers) p =
    registers_run s c.registers (registers_fine c fits) fits.fields.register_count
    (subst (λ x. Spell s x p (encode_registers c.registers)) w d.0) (omega arith) in
    let n : run_nodes s p ≡ run_of (gathered node_records c.nodes) q =
    nodes_run s c.nodes p (nodes_fine c fits) fits.fields.node_count e.0 (omega arith) in
    let t : run_roots s q ≡ run_of (map root_record c.roots) (length s) =
    roots_run s c.roots q (roots_fine c fits) fits.fields.root_count e.1 (omega arith) in
    rw (r, n, t)

-- One encoding has one list of records.
pub same_records : (c d : Chip) → Fits c → Fits d → encode c ≡ encode d → elements c ≡ elements d
same_records c d f g e = sym (unpacked_tree c f) ∙ ap unpacked e ∙ unpacked_tree d g
