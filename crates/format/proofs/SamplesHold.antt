-- Every sample of the table holds.
use mathlib.Core.Path.{refl}
use Rattle.format.specs.Cycles.{leads, child_edge, cycles_from, cycle_faults}
use Rattle.format.specs.ExpressionLayout.{operation_of, reading_at, operands_at, shifted_at, body_at, expr_at}
use Rattle.format.specs.Fields.{field_at, same, keyword_at, count_at, known_type, type_at, address_size, known_flags, flags_at, readable, known_attention, attention_at, member, fresh}
use Rattle.format.specs.FileLayout.{start_at, root_at, roots_at, file_at}
use Rattle.limits.specs.Limits.{levels}
use Rattle.format.specs.Keywords.{chipdata, regs, node, root}
use Rattle.format.specs.Lookup.{some, position, at, gathered, entries_of, register_entries, register_named, node_entries_of, node_entries, node_named, register_position, node_position}
use Rattle.format.specs.Meaning.{bits_within, value_within}
use Rattle.format.specs.NodeLayout.{capture_at, rule_at, child_at, instance_head_at, node_instance_at, node_total, node_head_at, node_at, nodes_at}
use Rattle.format.specs.Parsed.{and_then, making, require, requiring, row_at}
use Rattle.format.specs.References.{named_by, unless, fits, has_register, has_register_that, register_faults, has_node, capture_faults, named_faults, rule_faults, child_faults, instance_faults, has_rule, root_faults, reference_faults}
use Rattle.format.specs.RegisterLayout.{register_total, register_instance_at, register_head_at, register_at, registers_at}
use Rattle.format.specs.Samples.{b1, self_child, capturing, samples, AllHold}
use Rattle.format.specs.Tree.{gather}
use Rattle.format.specs.Verdict.{judged, verdict, check_of, check}
use Rattle.graph.specs.Below.{any}
use Rattle.graph.specs.Paths.{reached_in, reached, on_cycle}
use Rattle.numbers.specs.BigEndian.{big_endian}
use Rattle.numbers.specs.Bits.{bit_of, word_of, not_bits}
use Rattle.numbers.specs.Field.{present, field}

pub samples_hold : AllHold samples
unfolding levels chipdata regs node root and_then making require requiring row_at field_at same keyword_at count_at known_type type_at address_size known_flags flags_at readable known_attention attention_at member fresh operation_of reading_at operands_at shifted_at body_at expr_at register_total register_instance_at register_head_at register_at registers_at capture_at rule_at child_at instance_head_at node_instance_at node_total node_head_at node_at nodes_at start_at root_at roots_at file_at some position at gathered entries_of register_entries register_named node_entries_of node_entries node_named register_position node_position gather named_by unless fits has_register has_register_that register_faults has_node capture_faults named_faults rule_faults child_faults instance_faults has_rule root_faults reference_faults leads child_edge cycles_from cycle_faults judged verdict check_of check bits_within value_within b1 self_child capturing present field big_endian bit_of word_of not_bits reached_in reached on_cycle any
samples_hold =
    ((refl, refl), ((refl, refl), ((refl, refl), ((refl, refl), ((refl, refl), ((refl, refl), ((refl, refl), ((refl, refl), (refl, tt)))))))))
