-- A tree fits where its elements do, each with what it holds.
use Prim.Native.Nat.{◌^◌, ◌<◌}
use mathlib.Core.List.{List}
use lib.ListN.{length}
use Rattle.format.specs.Lookup.{gathered, RegisterEntry, entries_of, register_entries, NodeEntry, node_entries_of, node_entries}
use Rattle.format.specs.Rules.{Every, all_captures, all_rules, all_children}
use Rattle.format.specs.Tree.{Register, Node, Chip}
use Rattle.format.proofs.EveryLaws.{every_map, every-gathered_in, every-list_in}
use Rattle.records.specs.Fits.{Fits}
use Rattle.records.proofs.ElementFits.{RegisterFits, CaptureFits, RuleFits, ChildFits, NodeInstanceFits, NodeFits, RootFits}

pub record ChipFits (c : Chip) : Type 0 where
  pub model : c.model < 256 ^ 4
  pub register_count : length c.registers < 256 ^ 3
  pub registers : Every RegisterFits c.registers
  pub node_count : length c.nodes < 256 ^ 2
  pub nodes : Every NodeFits c.nodes
  pub root_count : length c.roots < 256
  pub roots : Every RootFits c.roots

-- From elements to entries.

register-entries : (P : RegisterEntry → Type 0) (rs : List Register)
    → Every (λ r. Every (λ i. P (record { id = r.id; type = r.type; flags = r.flags; instance = i })) r.instances) rs → Every P (gathered entries_of rs)
unfolding entries_of
register-entries P rs h = every-gathered_in P entries_of rs (every_map _ _ (λ r k. every-list_in P _ r.instances k) rs h)

node-entries : (P : NodeEntry → Type 0) (ns : List Node)
    → Every (λ n. Every (λ i. P (record { id = n.id; type = n.type; instance = i })) n.instances) ns → Every P (gathered node_entries_of ns)
unfolding node_entries_of
node-entries P ns h = every-gathered_in P node_entries_of ns (every_map _ _ (λ n k. every-list_in P _ n.instances k) ns h)

abbrev Each : NodeEntry → Type 0
Each e = NodeInstanceFits e.instance

pub chip_fits : (c : Chip) → ChipFits c → Fits c
unfolding register_entries node_entries all_captures all_rules all_children
chip_fits c f =
    let es : Every Each (gathered node_entries_of c.nodes) = node-entries Each c.nodes (every_map _ _ (λ n k. k.each) c.nodes f.nodes) in
    let cs : Every CaptureFits (all_captures c) = every-gathered_in _ _ _ (every_map _ _ (λ e k. k.captures) _ es) in
    let us : Every RuleFits (all_rules c) = every-gathered_in _ _ _ (every_map _ _ (λ e k. k.rules) _ es) in
    let ks : Every ChildFits (all_children c) = every-gathered_in _ _ _ (every_map _ _ (λ e k. k.children) _ es) in
    record {
      fields = record {
        model = f.model;
        register_count = f.register_count;
        registers = every_map _ _ (λ r k. (k.id, k.flags, k.count)) _ f.registers;
        register_instances = register-entries _ c.registers
            (every_map _ _ (λ r k. every_map _ _ (λ i a. (a.number, a.address)) r.instances k.each) c.registers f.registers);
        node_count = f.node_count;
        nodes = every_map _ _ (λ n k. (k.id, k.count)) _ f.nodes;
        node_instances = every_map _ _ (λ e k. (k.number, k.capture_count, k.rule_count, k.child_count)) _ es;
        captures = every_map _ _ (λ k a. (a.id, a.number)) _ cs;
        expressions = every_map _ _ (λ r a. a.expression) _ us;
        children = every_map _ _ (λ k a. (a.id, a.number)) _ ks;
        root_count = f.root_count;
        roots = every_map _ _ (λ t a. (a.id, a.number)) _ f.roots;
      };
      register_types = every_map _ _ (λ r k. k.type) _ f.registers;
      node_types = every_map _ _ (λ n k. k.type) _ f.nodes;
      attentions = every_map _ _ (λ r a. a.attention) _ us;
      bits = every_map _ _ (λ k a. a.bit) _ ks;
      root_attentions = every_map _ _ (λ t a. a.attention) _ f.roots;
    }
