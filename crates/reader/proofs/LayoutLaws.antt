-- The layout of a file and the file's tree.
use Prim.Native.Nat.{ℕ}
use mathlib.Core.Path.{◌≡◌, refl, sym, ◌∙◌, ap, subst}
use mathlib.Core.Bool.{true}
use mathlib.Core.List.{List}
use native.Mathlib.Omega.{arith}
use lib.ListN.{length}
use Rattle.limits.specs.Limits.{Limits}
use Rattle.format.specs.declared.Refusal.{Refusal}
use Rattle.format.specs.Parsed.{Parsed, done, and_then, making}
use Rattle.format.specs.Lookup.{register_entries, node_entries}
use Rattle.format.specs.RegisterLayout.{register_total, registers_at}
use Rattle.format.specs.NodeLayout.{node_total, nodes_at}
use Rattle.format.specs.FileLayout.{start_at, roots_at, file_at}
use Rattle.format.specs.Tree.{Register, Node, Root, Chip}
use Rattle.format.specs.Verdict.{counts_of}
use Rattle.fields.specs.declared.SectionRead.{SectionRead}
use Rattle.fields.specs.declared.ByteRead.{ByteRead}
use Rattle.index.specs.Rows.{Rows}
use Rattle.node_pass.specs.declared.SectionPass.{SectionPass}
use Rattle.node_pass.specs.declared.section.NodesRead.{NodesRead}
use Rattle.node_pass.specs.Section.{nodes_parsed, NodesKept, IndexKept}
use Rattle.reader.specs.declared.Layout.{Layout}
use Rattle.reader.specs.declared.LayoutRead.{LayoutRead}
use Rattle.reader.specs.Layout.{Summary, summary, layout_at, layout_values}
use Rattle.fields.specs.Views.{Section, refused_by, byte_parsed, section_parsed}
use Rattle.format.proofs.Grouping.{register-count, node-count}
use Rattle.registers.specs.Registers.{register_section}
use Rattle.nodes.specs.Nodes.{node_section}
use Rattle.fields.proofs.Parsing.{Found, found, missed, followed, making_after, making_making}

-- A section, of which the counts are kept, and what follows it.
module _ {A B : Type 0} (g : A → Section) (p : Parsed A) (f : A → ℕ → Parsed B) {x : SectionRead} {y : Parsed B} where
  pub section_then : {e i n : ℕ} → section_parsed x ≡ making g p → x ≡ SectionRead.Section e i n → ((a : A) → g a ≡ record { elements = e; instances = i } → y ≡ f a n) → y ≡ and_then p f
  unfolding and_then
  section_then {e} {i} {n} h j k =
      let d : Found {B = Section} g p (record { elements = e; instances = i }) n = found g p (sym (ap section_parsed j) ∙ h) in
      k d.value d.made ∙ sym (ap (λ q. and_then q f) d.is)

  pub section_stop : {r : Refusal} → section_parsed x ≡ making g p → x ≡ SectionRead.Refused r → y ≡ refused_by r → y ≡ and_then p f
  unfolding and_then
  section_stop h j k = k ∙ sym (ap (λ q. and_then q f) (missed g p (sym (ap section_parsed j) ∙ h)))

-- The nodes section, of which the counts are kept, and what follows it.
module _ {A B : Type 0} (g : A → Section) (p : Parsed A) (f : A → ℕ → Parsed B) {x : NodesRead} {y : Parsed B} where
  pub nodes_then : {q : SectionPass} → nodes_parsed x ≡ making g p → x ≡ NodesRead.Section q → ((a : A) → g a ≡ record { elements = q.nodes; instances = q.total } → y ≡ f a q.next) → y ≡ and_then p f
  unfolding and_then
  nodes_then {q} h j k =
      let d : Found {B = Section} g p (record { elements = q.nodes; instances = q.total }) q.next = found g p (sym (ap nodes_parsed j) ∙ h) in
      k d.value d.made ∙ sym (ap (λ z. and_then z f) d.is)

  pub nodes_stop : {r : Refusal} → nodes_parsed x ≡ making g p → x ≡ NodesRead.Refused r → y ≡ refused_by r → y ≡ and_then p f
  unfolding and_then
  nodes_stop h j k = k ∙ sym (ap (λ z. and_then z f) (missed g p (sym (ap nodes_parsed j) ∙ h)))

-- The last section, of which the count is kept.
module _ {A B : Type 0} (g : A → ℕ) (h : A → B) (p : Parsed A) {x : ByteRead} {y : Parsed B} where
  pub last_makes : {t n : ℕ} → byte_parsed x ≡ making g p → x ≡ ByteRead.Byte t n → ((a : A) → g a ≡ t → y ≡ done (h a) n) → y ≡ making h p
  unfolding making
  last_makes {t} {n} e j k =
      let d : Found g p t n = found g p (sym (ap byte_parsed j) ∙ e) in
      k d.value d.made ∙ sym (ap (making h) d.is)

  pub last_no : {r : Refusal} → byte_parsed x ≡ making g p → x ≡ ByteRead.Refused r → y ≡ refused_by r → y ≡ making h p
  unfolding making
  last_no e j k = k ∙ sym (ap (making h) (missed g p (sym (ap byte_parsed j) ∙ e)))

-- The counts are those of the elements.
pub summary_is : (m : ℕ) (rs : List Register) (ns : List Node) (ts : List Root) (a b c end : ℕ) {e i f j t : ℕ}
    → register_section rs ≡ record { elements = e; instances = i } → node_section ns ≡ record { elements = f; instances = j } → length ts ≡ t
    → ◌≡◌ {A = Parsed Summary}
    (done (record { model = m; registers = e; register_instances = i; nodes = f; node_instances = j; roots = t; registers_place = a; nodes_place = b; roots_place = c }) end)
    (done (summary m rs ns ts a b c) end)
summary_is m rs ns ts a b c end {e} {i} {f} {j} {t} p q r =
    let pe : length rs ≡ e = ap (λ x. x.elements) p in
    let pi : register_total rs ≡ i = ap (λ x. x.instances) p in
    let qe : length ns ≡ f = ap (λ x. x.elements) q in
    let qi : node_total ns ≡ j = ap (λ x. x.instances) q in
    rw (pe, pi, qe, qi, r)

-- The layout is the file's tree, summarised: the same refusals, the same end, and the checker's values.
pub layout_file : (limits : Limits) (s : List ℕ) (at : ℕ) → making layout_values (layout_at limits s at) ≡ making counts_of (file_at limits s true at)
unfolding layout_at file_at register_entries node_entries
layout_file limits s at = simp (making_after, making_making, register-count, node-count)

-- A layout that was read: the file's tree, and its sections at the places that the layout names.
pub record Sections (limits : Limits) (s : List ℕ) (at : ℕ) (l : Summary) (end : ℕ) : Type 0 where
  pub chip : Chip
  pub file : file_at limits s true at ≡ done chip end
  pub start : start_at s at ≡ done chip.model l.registers_place
  pub registers : registers_at limits.register_instances s true l.registers_place ≡ done chip.registers l.nodes_place
  pub nodes : nodes_at limits.node_instances s true l.nodes_place ≡ done chip.nodes l.roots_place
  pub roots : roots_at s true l.roots_place ≡ done chip.roots end
  pub summed : l ≡ summary chip.model chip.registers chip.nodes chip.roots l.registers_place l.nodes_place l.roots_place

read_is : (limits : Limits) (s : List ℕ) (at m : ℕ) (rs : List Register) (ns : List Node) (ts : List Root) (a b c : ℕ) {l : Summary} {end : ℕ}
    → start_at s at ≡ done m a → registers_at limits.register_instances s true a ≡ done rs b → nodes_at limits.node_instances s true b ≡ done ns c → roots_at s true c ≡ done ts end
    → summary m rs ns ts a b c ≡ l → Sections limits s at l end
unfolding file_at and_then making
read_is limits s at m rs ns ts a b c {l} {end} p q r t e =
    rw (← e)
    (record { chip = record { model = m; registers = rs; nodes = ns; roots = ts }; file = rw (p, q, r, t); start = p; registers = q; nodes = r; roots = t; summed = refl })

pub sections : (limits : Limits) (s : List ℕ) (at : ℕ) {l : Summary} {end : ℕ} → layout_at limits s at ≡ done l end → Sections limits s at l end
unfolding layout_at
sections limits s at {l} {end} e =
    let d = followed (start_at s at) _ e in
    let c = followed (registers_at limits.register_instances s true d.place) _ d.next in
    let b = followed (nodes_at limits.node_instances s true c.place) _ c.next in
    let f : Found (λ ts. summary d.value c.value b.value ts d.place c.place b.place) (roots_at s true b.place) l end = found _ _ (sym b.next) in
    read_is limits s at d.value c.value b.value f.value d.place c.place b.place d.is c.is b.is f.is f.made

-- Two answers that are one hold one layout, and a refusal is no layout.
abbrev nodes_place_of : LayoutRead → ℕ
nodes_place_of (LayoutRead.Done l) = l.nodes_at
nodes_place_of (LayoutRead.Refused r) = 0

pub same_nodes : (limit : ℕ) (s : List ℕ) {l k : Layout} → LayoutRead.Done l ≡ LayoutRead.Done k → (ns : List Node) (m : ℕ) → nodes_at limit s true k.nodes_at ≡ done ns m
    → nodes_at limit s true l.nodes_at ≡ done ns m
same_nodes limit s e ns m d = ap (nodes_at limit s true) (ap nodes_place_of e) ∙ d

abbrev registers_place_of : LayoutRead → ℕ
registers_place_of (LayoutRead.Done l) = l.registers_at
registers_place_of (LayoutRead.Refused r) = 0

pub same_registers : (limit : ℕ) (s : List ℕ) {l k : Layout} → LayoutRead.Done l ≡ LayoutRead.Done k → (rs : List Register) (m : ℕ) → registers_at limit s true k.registers_at ≡ done rs m
    → registers_at limit s true l.registers_at ≡ done rs m
same_registers limit s e rs m d = ap (registers_at limit s true) (ap registers_place_of e) ∙ d

pub no_layout : {A : Type 0} {r : Refusal} {l : Layout} → LayoutRead.Refused r ≡ LayoutRead.Done l → A
no_layout e = let z : ◌≡◌ {A = ℕ} 0 1 = cc in absurd (omega arith)

-- What is kept of the nodes section by one of two layouts that are one.
pub same_kept : {l k : Layout} → LayoutRead.Done l ≡ LayoutRead.Done k → {keys kinds : List ℕ} {t : Rows} {c : List ℕ} {u : Rows} {d : List ℕ} {ns : List Node}
    → NodesKept l.register_instances keys kinds t c u d l.fits ns → NodesKept k.register_instances keys kinds t c u d k.fits ns
same_kept {l} {k} e {keys} {kinds} {t} {c} {u} {d} {ns} x = let z : l ≡ k = cc in subst (λ l. NodesKept l.register_instances keys kinds t c u d l.fits ns) z x

pub same_index : {l k : Layout} → LayoutRead.Done l ≡ LayoutRead.Done k → {keys kinds index : List ℕ} → IndexKept l.register_instances keys kinds index → IndexKept k.register_instances keys kinds index
same_index {l} {k} e {keys} {kinds} {index} x = let z : l ≡ k = cc in subst (λ l. IndexKept l.register_instances keys kinds index) z x
