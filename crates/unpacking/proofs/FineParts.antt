-- In a tree that fits, every number of every element fits its field.
use mathlib.Core.List.{List}
use Rattle.format.specs.Tree.{Register, Node, Chip}
use Rattle.format.specs.Lookup.{gathered, RegisterEntry, entries_of, register_entries, NodeEntry, node_entries_of, node_entries}
use Rattle.format.specs.Rules.{Every, all_captures, all_rules, all_children}
use Rattle.format.proofs.EveryLaws.{every_map, every_both, every-gathered_out, every-list_out}
use Rattle.records.specs.Fits.{Fits}
use Rattle.unpacking.proofs.NodeRuns.{CaptureFine, RuleFine, ChildFine, InstanceFine, NodeFine}
use Rattle.unpacking.proofs.RegisterRuns.{RegisterFine, RootFine}

-- From entries to elements.
module _ (P : RegisterEntry → Type 0) where
  of-registers : (rs : List Register) → Every P (gathered entries_of rs)
      → Every (λ r. Every (λ i. P (record { id = r.id; type = r.type; flags = r.flags; instance = i })) r.instances) rs
  unfolding entries_of
  of-registers rs h = every_map _ _ (λ r k. every-list_out P _ r.instances k) rs (every-gathered_out P entries_of rs h)

module _ (P : NodeEntry → Type 0) where
  of_nodes : (ns : List Node) → Every P (gathered node_entries_of ns)
      → Every (λ n. Every (λ i. P (record { id = n.id; type = n.type; instance = i })) n.instances) ns
  unfolding node_entries_of
  of_nodes ns h = every_map _ _ (λ n k. every-list_out P _ n.instances k) ns (every-gathered_out P node_entries_of ns h)

module _ (c : Chip) (fits : Fits c) where
  pub registers_fine : Every RegisterFine c.registers
  unfolding register_entries
  registers_fine =
      every_map _ _
      (λ r a. record {
        id = a.0.0;
        type = a.1.0;
        flags = a.0.1;
        count = a.0.2;
        each = every_map _ _ (λ i b. record { number = b.0; address = b.1 }) r.instances a.1.1;
      })
      _
      (every_both _ _ _ fits.fields.registers (every_both _ _ _ fits.register_types (of-registers _ c.registers fits.fields.register_instances)))

  captures_fine : Every CaptureFine (all_captures c)
  captures_fine = every_map _ _ (λ k a. record { id = a.0; number = a.1 }) _ fits.fields.captures

  rules_fine : Every RuleFine (all_rules c)
  rules_fine = every_map _ _ (λ r a. record { attention = a.0; expression = a.1 }) _ (every_both _ _ _ fits.attentions fits.fields.expressions)

  children_fine : Every ChildFine (all_children c)
  children_fine = every_map _ _ (λ k a. record { bit = a.0; id = a.1.0; number = a.1.1 }) _ (every_both _ _ _ fits.bits fits.fields.children)

  instances_fine : Every (λ e. InstanceFine e.instance) (node_entries c)
  unfolding all_captures all_rules all_children
  instances_fine =
      every_map _ _
      (λ e a. record {
        number = a.0.0;
        capture_count = a.0.1;
        rule_count = a.0.2;
        child_count = a.0.3;
        captures = a.1.0;
        rules = a.1.1.0;
        children = a.1.1.1;
      })
      _
      (every_both _ _ _ fits.fields.node_instances
      (every_both _ _ _ (every-gathered_out _ _ _ captures_fine)
      (every_both _ _ _ (every-gathered_out _ _ _ rules_fine) (every-gathered_out _ _ _ children_fine))))

  pub nodes_fine : Every NodeFine c.nodes
  unfolding node_entries
  nodes_fine =
      every_map _ _
      (λ n a. record { id = a.0.0; type = a.1.0; count = a.0.1; each = a.1.1 })
      _
      (every_both _ _ _ fits.fields.nodes (every_both _ _ _ fits.node_types (of_nodes (λ e. InstanceFine e.instance) c.nodes instances_fine)))

  pub roots_fine : Every RootFine c.roots
  roots_fine =
      every_map _ _ (λ t a. record { attention = a.0; id = a.1.0; number = a.1.1 }) _ (every_both _ _ _ fits.root_attentions fits.fields.roots)
