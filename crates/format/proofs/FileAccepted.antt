-- A file is read to a tree exactly when it starts with the tree's encoding and the tree meets the rules of the layout.
use Prim.Native.Nat.{ℕ, ◌+◌, ◌^◌, ◌<◌}
use mathlib.Core.Bool.{true}
use mathlib.Core.List.{List, [], ◌++◌, map}
use mathlib.Core.Path.{◌≡◌, refl, sym, ap, subst}
use native.Mathlib.Omega.{arith}
use lib.Dec.{lit<}
use lib.ListN.{length}
use borrow.Author.Tests.{eqb-true}
use Rattle.limits.specs.Limits.{Limits}
use Rattle.numbers.specs.BigEndian.{bytes_of, Bytes}
use Rattle.format.specs.Keywords.{chipdata, root}
use Rattle.format.specs.Parsed.{done}
use Rattle.format.specs.Fields.{known_attention, attention_at}
use Rattle.format.specs.Tree.{Root, Chip}
use Rattle.format.specs.FileLayout.{start_at, root_at, roots_at, file_at}
use Rattle.format.specs.Encoding.{encode_root, encode_start, encode_registers, encode_nodes, encode_roots, encode}
use Rattle.format.specs.Placing.{PlacedRow, PlacedRoot}
use Rattle.format.specs.Rules.{Every, Distinct}
use Rattle.format.proofs.ParsedLaws.{then_out, then_in, making_out, making_in, requiring_out, requiring_in}
use Rattle.format.proofs.Spelling.{Spell, spell_join, spell_split, field_out, field_in, keyword_out, keyword_in, Row, Reads, section_out, section_in}
use Rattle.format.proofs.RowLaws.{Among, among_out, among_in}
use Rattle.format.proofs.RegistersAccepted.{RegistersFine, registers_out, registers-in}
use Rattle.format.proofs.NodesAccepted.{NodesFine, nodes_out, nodes-in}
use Rattle.format.proofs.NodePartsAccepted.{attention_small}

-- What reading needs of a root alone, and among the others.
pub record RootAlone (t : Root) : Type 0 where
  pub attention : known_attention t.attention ≡ true
  pub id : t.id < 256 ^ 2
  pub number : t.number < 256

abbrev RootFine : List Root → ℕ → Root → Type 0
RootFine = Among encode_root PlacedRoot RootAlone (λ t. t.attention)

pub record RootsFine (at : ℕ) (ts : List Root) : Type 0 where
  pub placed : PlacedRow PlacedRoot encode_root (at + 5) ts
  pub count : length ts < 256
  pub some : 0 < length ts
  pub each : Every RootAlone ts
  pub unique : Distinct (map (λ t. t.attention) ts)

module _ (s : List ℕ) (bytes : Bytes s) where
  root-reads : Reads RootFine encode_root s (root_at s true)
  unfolding root_at attention_at encode_root PlacedRoot
  root-reads =
      record {
        sound = λ before at {x} {m} e.
            let t = then_out _ _ e in
            let q = requiring_out _ _ _ _ t.2 in
            let p = requiring_out _ _ _ _ q.0 in
            let c = then_out _ _ t.3 in
            let g = making_out _ _ c.3 in
            let a = field_out s bytes at 1 p.0 in
            let i = field_out s bytes t.1 2 c.2 in
            let n = field_out s bytes c.1 1 g.1 in
            subst (λ k. Spell s at m (encode_root k) × RootFine before at k) g.2 (
              spell_join s a.0 (spell_join s i.0 n.0),
              record { placed = refl; alone = record { attention = p.1; id = i.1; number = n.1 }; new = q.1 },
            );
        complete = λ before at {x} {m} a h.
            let b = spell_split s (bytes_of 1 x.attention) (bytes_of 2 x.id ++ bytes_of 1 x.number) a in
            let c = spell_split s (bytes_of 2 x.id) (bytes_of 1 x.number) b.1 in
            let k = h.alone in
            then_in _ _
            (requiring_in _ _ _ _
            (requiring_in _ _ _ _ (field_in s bytes at 1 (lit< tt) b.0 (attention_small _ k.attention)) k.attention) h.new)
            (then_in _ _ (field_in s bytes _ 2 (lit< tt) c.0 k.id)
            (making_in _ _ (field_in s bytes _ 1 (lit< tt) c.1 k.number)
            (ap (λ p. record { place = p; attention = x.attention; id = x.id; number = x.number }) (sym h.placed))));
      }

  roots_out : (at : ℕ) {ts : List Root} {m : ℕ} → roots_at s true at ≡ done ts m → Spell s at m (encode_roots ts) × RootsFine at ts
  unfolding roots_at encode_roots root
  roots_out at {ts} e =
      let t = section_out s bytes RootFine encode_root (root_at s true) root-reads root 1 at e in
      let a = among_out encode_root PlacedRoot RootAlone (λ x. x.attention) (at + 5) ts
      (subst (λ p. Row RootFine encode_root [] p ts) (let w : at + 4 + 1 ≡ at + 5 = omega arith in w) t.3) in
      (t.0, record { placed = a.0; count = t.2; some = t.1; each = a.1; unique = a.2 })

  roots-in : (at : ℕ) (ts : List Root) {m : ℕ} → Spell s at m (encode_roots ts) → RootsFine at ts → roots_at s true at ≡ done ts m
  unfolding roots_at encode_roots root
  roots-in at ts a h =
      section_in s bytes RootFine encode_root (root_at s true) root-reads root 1 (lit< tt) (lit< tt) at ts a h.some h.count
      (subst (λ p. Row RootFine encode_root [] p ts) (let w : at + 5 ≡ at + 4 + 1 = omega arith in w)
      (among_in encode_root PlacedRoot RootAlone (λ x. x.attention) (at + 5) ts h.placed h.each h.unique))

  start_out : (at : ℕ) {m k : ℕ} → start_at s at ≡ done m k → Spell s at k (encode_start m) × (m < 256 ^ 4)
  unfolding start_at encode_start
  start_out at {m} {k} e =
      let t = then_out _ _ e in
      let c = then_out _ _ t.3 in
      let g = making_out _ _ c.3 in
      let q = requiring_out _ _ _ _ g.1 in
      let w = keyword_out s at chipdata t.2 in
      let f = field_out s bytes t.1 4 c.2 in
      let v = field_out s bytes c.1 1 q.0 in
      let one : g.0 ≡ 1 = sym (eqb-true 1 g.0 q.1) in
      subst (λ x. Spell s at k (chipdata ++ (bytes_of 4 x ++ bytes_of 1 1)) × (x < 256 ^ 4)) g.2
      (spell_join s w (spell_join s f.0 (subst (λ x. Spell s c.1 k (bytes_of 1 x)) one v.0)), f.1)

  start_in : (at m : ℕ) {k : ℕ} → Spell s at k (encode_start m) → m < 256 ^ 4 → start_at s at ≡ done m k
  unfolding start_at encode_start chipdata
  start_in at m a h =
      let b = spell_split s chipdata (bytes_of 4 m ++ bytes_of 1 1) a in
      let c = spell_split s (bytes_of 4 m) (bytes_of 1 1) b.1 in
      then_in _ _ (keyword_in s at chipdata (lit< tt) b.0)
      (then_in _ _ (field_in s bytes _ 4 (lit< tt) c.0 h)
      (making_in _ _ (requiring_in _ _ _ _ (field_in s bytes _ 1 (lit< tt) c.1 (lit< tt)) refl) refl))

-- What reading needs of a whole file.
pub record FileFine (limits : Limits) (c : Chip) : Type 0 where
  pub model : c.model < 256 ^ 4
  pub registers : RegistersFine limits.register_instances (length (encode_start c.model)) c.registers
  pub nodes : NodesFine limits.node_instances (length (encode_start c.model) + length (encode_registers c.registers)) c.nodes
  pub roots : RootsFine
      (length (encode_start c.model) + length (encode_registers c.registers) + length (encode_nodes c.nodes))
      c.roots

module _ (limits : Limits) (s : List ℕ) (bytes : Bytes s) where
  pub file_out : {c : Chip} {end : ℕ} → file_at limits s true 0 ≡ done c end → Spell s 0 end (encode c) × FileFine limits c
  unfolding file_at encode
  file_out {c} {end} e =
      let t = then_out _ _ e in
      let u = then_out _ _ t.3 in
      let v = then_out _ _ u.3 in
      let g = making_out _ _ v.3 in
      let m = start_out s bytes 0 t.2 in
      let r = registers_out limits.register_instances s bytes t.1 u.2 in
      let n = nodes_out limits.node_instances s bytes u.1 v.2 in
      let q = roots_out s bytes v.1 g.1 in
      let wr : t.1 ≡ length (encode_start t.0) = omega (arith, m.0.ends) in
      let wn : u.1 ≡ length (encode_start t.0) + length (encode_registers u.0) = omega (arith, wr, r.0.ends) in
      let wq : v.1 ≡ length (encode_start t.0) + length (encode_registers u.0) + length (encode_nodes v.0) = omega (arith, wn, n.0.ends) in
      subst (λ x. Spell s 0 end (encode x) × FileFine limits x) g.2 (
        spell_join s m.0 (spell_join s r.0 (spell_join s n.0 q.0)),
        record {
          model = m.1;
          registers = subst (λ p. RegistersFine limits.register_instances p u.0) wr r.1;
          nodes = subst (λ p. NodesFine limits.node_instances p v.0) wn n.1;
          roots = subst (λ p. RootsFine p g.0) wq q.1;
        },
      )

  pub file_in : (c : Chip) {end : ℕ} → Spell s 0 end (encode c) → FileFine limits c → file_at limits s true 0 ≡ done c end
  unfolding file_at encode
  file_in c {end} a h =
      let b = spell_split s (encode_start c.model) _ a in
      let d = spell_split s (encode_registers c.registers) _ b.1 in
      let e = spell_split s (encode_nodes c.nodes) _ d.1 in
      let z : length (encode_start c.model) ≡ 0 + length (encode_start c.model) = omega arith in
      then_in _ _ (start_in s bytes 0 c.model b.0 h.model)
      (then_in _ _ (registers-in limits.register_instances s bytes _ c.registers d.0 (subst (λ p. RegistersFine limits.register_instances p c.registers) z h.registers))
      (then_in _ _
      (nodes-in limits.node_instances s bytes _ c.nodes e.0 (subst (λ p. NodesFine limits.node_instances (p + length (encode_registers c.registers)) c.nodes) z h.nodes))
      (making_in _ _
      (roots-in s bytes _ c.roots e.1
      (subst (λ p. RootsFine (p + length (encode_registers c.registers) + length (encode_nodes c.nodes)) c.roots) z h.roots))
      refl)))
