-- Every sample of the table holds.
use mathlib.Core.Path.{refl}
use Rattle.format.specs.Cycles.{leads, child_edge, OnCycle, cycles_from, cycle_faults}
use Rattle.format.specs.ExpressionLayout.{operation_of, reading_at, operands_at, shifted_at, body_at, expr_at}
use Rattle.format.specs.Fields.{field_at, same, keyword_at, count_at, known_type, type_at, address_size, known_flags, flags_at, readable, known_attention, attention_at, member, fresh}
use Rattle.format.specs.FileLayout.{start_at, root_at, roots_at, file_at}
use Rattle.limits.specs.Limits.{levels}
use Rattle.format.specs.Keywords.{chipdata, regs, node, root}
use Rattle.format.specs.Lookup.{some, position, at, gathered, entries_of, register_entries, register_named, node_entries_of, node_entries, node_named, register_position, node_position}
use Rattle.format.specs.Meaning.{value_within, bits_within}
use Rattle.format.specs.NodeLayout.{capture_at, rule_at, child_at, instance_head_at, node_instance_at, node_total, node_head_at, node_at, nodes_at}
use Rattle.format.specs.Parsed.{and_then, making, require, requiring, row_at}
use Rattle.format.specs.References.{unless, fits, has_rule, has_register, has_register_that, register_faults, has_node, capture_faults, named_faults, rule_faults, child_faults, instance_faults, root_faults, reference_faults, named_by}
use Rattle.format.specs.RegisterLayout.{register_total, register_instance_at, register_head_at, register_at, registers_at}
use Rattle.format.specs.Samples.{b1, self_child, capturing}
use Rattle.format.specs.Tree.{gather}
use Rattle.format.specs.Verdict.{judged, verdict, check_of, check}
use Rattle.graph.specs.Below.{any, count}
use Rattle.graph.specs.Chains.{silent, nothing_below, linked, reached_from, listable, listed, below, kept, listed_of, reached_count}
use Rattle.graph.specs.Paths.{reached_in, reached, on_cycle}
use Rattle.format.specs.Finding.{first_of, rule_for, root_for, child_for, child_position}
use Rattle.isolation.specs.ChipGraph.{rule_unread, rule_active, entry_active, entry_child, chip_graph}
use Rattle.isolation.specs.Outcome.{entry_unread, reached_unread, found_from, all_read, from_root, find_in, find, written, in_list, isolate}
use Rattle.isolation.specs.Readings.{readings_fit, has_value, word_for, unread_faults}
use Rattle.listing.specs.Records.{record_size, bit_bytes, record_of, record_bytes, listing, link_record, records_of}
use Rattle.isolation.specs.Samples.{lent, two_nodes}
use Rattle.numbers.specs.BigEndian.{big_endian, bytes_of}
use Rattle.numbers.specs.Bits.{bit_of, word_of, not_bits, and_bits, or_bits, left_bits, right_bits}
use Rattle.numbers.specs.Field.{present, field}
use Rattle.isolation.specs.Samples.{AllHold, samples}

pub samples_hold : AllHold samples
unfolding leads child_edge OnCycle cycles_from cycle_faults operation_of reading_at operands_at shifted_at body_at expr_at field_at same keyword_at count_at known_type type_at address_size known_flags flags_at readable known_attention attention_at member fresh start_at root_at roots_at file_at levels chipdata regs node root some position at gathered entries_of register_entries register_named node_entries_of node_entries node_named register_position node_position value_within bits_within capture_at rule_at child_at instance_head_at node_instance_at node_total node_head_at node_at nodes_at and_then making require requiring row_at unless fits has_rule has_register has_register_that register_faults has_node capture_faults named_faults rule_faults child_faults instance_faults root_faults reference_faults named_by register_total register_instance_at register_head_at register_at registers_at b1 self_child capturing gather judged verdict check_of check any count silent nothing_below linked reached_from listable listed below kept listed_of reached_count reached_in reached on_cycle first_of rule_for root_for child_for rule_unread rule_active entry_active child_position entry_child chip_graph entry_unread reached_unread found_from all_read from_root find_in find written in_list isolate readings_fit has_value word_for unread_faults record_size bit_bytes record_of record_bytes listing link_record records_of lent two_nodes big_endian bytes_of bit_of word_of not_bits and_bits or_bits left_bits right_bits present field
samples_hold =
    ((refl, refl), ((refl, refl), ((refl, refl), ((refl, refl), ((refl, refl), ((refl, refl), ((refl, refl), ((refl, refl), (refl, ((refl, refl), ((refl, refl), ((refl, refl), ((refl, refl), ((refl, refl), ((refl, refl), ((refl, refl), ((refl, refl), tt)))))))))))))))))
