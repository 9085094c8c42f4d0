-- What reading needs of a file, element by element, is what the rules say, number by number.
use Prim.Native.Nat.{◌<◌}
use mathlib.Core.List.{List, [], ◌∷◌}
use mathlib.Core.Path.{◌≡◌, refl}
use lib.ListN.{length, length-append, length-map}
use Rattle.limits.specs.Limits.{Limits}
use Rattle.format.specs.Tree.{Register, Node, Chip}
use Rattle.format.specs.Lookup.{gathered, RegisterEntry, entries_of, register_entries, NodeEntry, node_entries_of, node_entries}
use Rattle.format.specs.RegisterLayout.{register_total}
use Rattle.format.specs.NodeLayout.{node_total}
use Rattle.format.specs.Placing.{Placed}
use Rattle.format.specs.Rules.{Every, all_captures, all_rules, all_children, FieldsFit, CountsNotZero, ValuesKnown, NamesUnique, WithinLimits, ExpressionsSound, Meets}
use Rattle.format.proofs.EveryLaws.{every_map, every_both, every-gathered_out, every-gathered_in, every-list_out, every-list_in}
use Rattle.format.proofs.NodePartsAccepted.{CaptureAlone, RuleAlone, ChildAlone}
use Rattle.format.proofs.NodeInstancesAccepted as nodes
use Rattle.format.proofs.FileAccepted.{FileFine}

-- The rules of the layout.
pub record LayoutMeets (limits : Limits) (c : Chip) : Type 0 where
  pub fields : FieldsFit c
  pub counts : CountsNotZero c
  pub known : ValuesKnown c
  pub unique : NamesUnique c
  pub within : WithinLimits limits c
  pub expressions : ExpressionsSound c
  pub bits : Every (λ k. k.bit < 64) (all_children c)

-- The rules of the layout are some of the rules.
pub layout_of : (limits : Limits) {c : Chip} → Meets limits c → LayoutMeets limits c
layout_of limits m =
    record {
      fields = m.fields;
      counts = m.counts;
      known = m.known;
      unique = m.unique;
      within = m.within;
      expressions = m.expressions;
      bits = m.bits;
    }

pub register-count : (rs : List Register) → length (gathered entries_of rs) ≡ register_total rs
unfolding gathered entries_of register_total
register-count [] = refl
register-count (r ∷ rs) = rw (length-append, length-map, register-count rs)

pub node-count : (ns : List Node) → length (gathered node_entries_of ns) ≡ node_total ns
unfolding gathered node_entries_of node_total
node-count [] = refl
node-count (n ∷ ns) = rw (length-append, length-map, node-count ns)

-- From elements to entries, and back.

module _ (P : RegisterEntry → Type 0) where
  register_entries_in : (rs : List Register)
      → Every (λ r. Every (λ i. P (record { id = r.id; type = r.type; flags = r.flags; instance = i })) r.instances) rs → Every P (gathered entries_of rs)
  unfolding entries_of
  register_entries_in rs h = every-gathered_in P entries_of rs (every_map _ _ (λ r k. every-list_in P _ r.instances k) rs h)

  register_entries_out : (rs : List Register) → Every P (gathered entries_of rs)
      → Every (λ r. Every (λ i. P (record { id = r.id; type = r.type; flags = r.flags; instance = i })) r.instances) rs
  unfolding entries_of
  register_entries_out rs h = every_map _ _ (λ r k. every-list_out P _ r.instances k) rs (every-gathered_out P entries_of rs h)

module _ (P : NodeEntry → Type 0) where
  node_entries_in : (ns : List Node) → Every (λ n. Every (λ i. P (record { id = n.id; type = n.type; instance = i })) n.instances) ns
      → Every P (gathered node_entries_of ns)
  unfolding node_entries_of
  node_entries_in ns h = every-gathered_in P node_entries_of ns (every_map _ _ (λ n k. every-list_in P _ n.instances k) ns h)

  node_entries_out : (ns : List Node) → Every P (gathered node_entries_of ns)
      → Every (λ n. Every (λ i. P (record { id = n.id; type = n.type; instance = i })) n.instances) ns
  unfolding node_entries_of
  node_entries_out ns h = every_map _ _ (λ n k. every-list_out P _ n.instances k) ns (every-gathered_out P node_entries_of ns h)

module _ (limits : Limits) (c : Chip) where
  abbrev Each : NodeEntry → Type 0
  Each e = nodes.InstanceAlone e.instance

  pub layout_out : FileFine limits c → Placed c × LayoutMeets limits c
  unfolding register_entries node_entries all_captures all_rules all_children
  layout_out f =
      let rs = f.registers in
      let ns = f.nodes in
      let ts = f.roots in
      let es : Every Each (gathered node_entries_of c.nodes) = node_entries_in Each c.nodes (every_map _ _ (λ n k. k.each) c.nodes ns.each) in
      let cs : Every CaptureAlone (all_captures c) = every-gathered_in _ _ _ (every_map _ _ (λ e k. k.captures) _ es) in
      let us : Every RuleAlone (all_rules c) = every-gathered_in _ _ _ (every_map _ _ (λ e k. k.rules) _ es) in
      let ks : Every ChildAlone (all_children c) = every-gathered_in _ _ _ (every_map _ _ (λ e k. k.children) _ es) in (
        record { registers = rs.placed; nodes = ns.placed; roots = ts.placed },
        record {
          fields = record {
            model = f.model;
            register_count = rs.count;
            registers = every_map _ _ (λ r k. (k.id, k.flags, k.count)) _ rs.each;
            register_instances = register_entries_in _ c.registers
                (every_map _ _ (λ r k. every_map _ _ (λ i a. (a.number, a.address)) r.instances k.each) c.registers rs.each);
            node_count = ns.count;
            nodes = every_map _ _ (λ n k. (k.id, k.count)) _ ns.each;
            node_instances = every_map _ _ (λ e k. (k.number, k.capture_count, k.rule_count, k.child_count)) _ es;
            captures = every_map _ _ (λ k a. (a.id, a.number)) _ cs;
            expressions = every_map _ _ (λ r a. a.fits) _ us;
            children = every_map _ _ (λ k a. (a.id, a.number)) _ ks;
            root_count = ts.count;
            roots = every_map _ _ (λ t a. (a.id, a.number)) _ ts.each;
          };
          counts = record {
            registers = rs.some;
            register_instances = every_map _ _ (λ r k. k.some) _ rs.each;
            nodes = ns.some;
            node_instances = every_map _ _ (λ n k. k.some) _ ns.each;
            rules = every_map _ _ (λ e k. k.some) _ es;
            roots = ts.some;
          };
          known = record {
            registers = every_map _ _ (λ r k. (k.type, k.known)) _ rs.each;
            nodes = every_map _ _ (λ n k. k.type) _ ns.each;
            rules = every_map _ _ (λ r a. a.attention) _ us;
            roots = every_map _ _ (λ t a. a.attention) _ ts.each;
          };
          unique = record {
            registers = rs.unique;
            register_instances = every_map _ _ (λ r k. k.unique) _ rs.each;
            nodes = ns.unique;
            node_instances = every_map _ _ (λ n k. k.unique) _ ns.each;
            rules = every_map _ _ (λ e k. k.attentions) _ es;
            children = every_map _ _ (λ e k. k.bits) _ es;
            roots = ts.unique;
          };
          within = record { registers = rw register-count rs.room; nodes = rw node-count ns.room };
          expressions = record { counted = every_map _ _ (λ r a. a.counted) _ us; nested = every_map _ _ (λ r a. a.nested) _ us };
          bits = every_map _ _ (λ k a. a.bit) _ ks;
        },
      )

  pub layout_in : Placed c → LayoutMeets limits c → FileFine limits c
  unfolding register_entries node_entries all_captures all_rules all_children
  layout_in p m =
      let f = m.fields in
      let cs : Every CaptureAlone (all_captures c) = every_map _ _ (λ k a. record { id = a.0; number = a.1 }) _ f.captures in
      let us : Every RuleAlone (all_rules c) =
      every_map _ _ (λ r a. record { attention = a.0.0; fits = a.0.1; counted = a.1.0; nested = a.1.1 }) _
      (every_both _ _ _ (every_both _ _ _ m.known.rules f.expressions) (every_both _ _ _ m.expressions.counted m.expressions.nested)) in
      let ks : Every ChildAlone (all_children c) =
      every_map _ _ (λ k a. record { bit = a.0; id = a.1.0; number = a.1.1 }) _ (every_both _ _ _ m.bits f.children) in
      let es : Every Each (gathered node_entries_of c.nodes) =
      every_map _ _
      (λ e a. record {
        number = a.0.0.0;
        capture_count = a.0.0.1;
        rule_count = a.0.0.2;
        some = a.0.1;
        child_count = a.0.0.3;
        captures = a.1.0.0;
        rules = a.1.0.1;
        attentions = a.1.1.0;
        children = a.1.1.1.0;
        bits = a.1.1.1.1;
      })
      _
      (every_both _ _ _ (every_both _ _ _ f.node_instances m.counts.rules)
      (every_both _ _ _
      (every_both _ _ _ (every-gathered_out _ _ _ cs) (every-gathered_out _ _ _ us))
      (every_both _ _ _ m.unique.rules (every_both _ _ _ (every-gathered_out _ _ _ ks) m.unique.children)))) in
      record {
        model = f.model;
        registers = record {
          placed = p.registers;
          count = f.register_count;
          some = m.counts.registers;
          each = every_map _ _
              (λ r a. record {
                id = a.0.0.0;
                type = a.0.1.0;
                flags = a.0.0.1;
                known = a.0.1.1;
                count = a.0.0.2;
                some = a.1.0;
                each = every_map _ _ (λ i b. record { number = b.0; address = b.1 }) r.instances a.1.1.0;
                unique = a.1.1.1;
              })
              _
              (every_both _ _ _ (every_both _ _ _ f.registers m.known.registers)
              (every_both _ _ _ m.counts.register_instances
              (every_both _ _ _ (register_entries_out _ c.registers f.register_instances) m.unique.register_instances)));
          unique = m.unique.registers;
          room = rw register-count at m.within.registers;
        };
        nodes = record {
          placed = p.nodes;
          count = f.node_count;
          some = m.counts.nodes;
          each = every_map _ _
              (λ n a. record { id = a.0.0.0; type = a.0.1; count = a.0.0.1; some = a.1.0; each = a.1.1.0; unique = a.1.1.1 })
              _
              (every_both _ _ _ (every_both _ _ _ f.nodes m.known.nodes)
              (every_both _ _ _ m.counts.node_instances (every_both _ _ _ (node_entries_out Each c.nodes es) m.unique.node_instances)));
          unique = m.unique.nodes;
          room = rw node-count at m.within.nodes;
        };
        roots = record {
          placed = p.roots;
          count = f.root_count;
          some = m.counts.roots;
          each = every_map _ _ (λ t a. record { attention = a.0; id = a.1.0; number = a.1.1 }) _ (every_both _ _ _ m.known.roots f.roots);
          unique = m.unique.roots;
        };
      }
