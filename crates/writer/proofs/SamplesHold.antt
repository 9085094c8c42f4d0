-- Every sample of writing and reading holds.
use mathlib.Core.Path.{refl}
use Rattle.format.specs.Cycles.{leads, child_edge, OnCycle, cycles_from, cycle_faults}
use Rattle.format.specs.ExpressionLayout.{operation_of, reading_at, operands_at, shifted_at, body_at, expr_at}
use Rattle.format.specs.Fields.{field_at, same, keyword_at, count_at, known_type, type_at, address_size, known_flags, flags_at, readable, known_attention, attention_at, member, fresh}
use Rattle.format.specs.FileLayout.{start_at, root_at, roots_at, file_at}
use Rattle.limits.specs.Limits.{levels}
use Rattle.format.specs.Keywords.{chipdata, regs, node, root}
use Rattle.format.specs.Lookup.{some, position, at, gathered, entries_of, register_entries, register_named, node_entries_of, node_entries, node_named, register_position, node_position}
use Rattle.format.specs.NodeLayout.{capture_at, rule_at, child_at, instance_head_at, node_instance_at, node_total, node_head_at, node_at, nodes_at}
use Rattle.format.specs.Parsed.{and_then, making, require, requiring, row_at}
use Rattle.format.specs.References.{unless, fits, has_rule, has_register, has_register_that, register_faults, has_node, capture_faults, named_faults, rule_faults, child_faults, instance_faults, root_faults, reference_faults, named_by}
use Rattle.format.specs.RegisterLayout.{register_total, register_instance_at, register_head_at, register_at, registers_at}
use Rattle.format.specs.Samples.{b1}
use Rattle.format.specs.Tree.{gather}
use Rattle.format.specs.Verdict.{judged, verdict}
use Rattle.graph.specs.Below.{any, count}
use Rattle.graph.specs.Paths.{reached_in, reached, on_cycle}
use Rattle.numbers.specs.BigEndian.{big_endian, bytes_of}
use Rattle.numbers.specs.Bits.{bit_of, word_of, not_bits, and_bits, or_bits, left_bits, right_bits}
use Rattle.numbers.specs.Field.{present, field}
use Rattle.format.specs.Encoding.{operand_count, encode_expr, encode_exprs, encode_register_instance, encode_register, encode_capture, encode_rule, encode_child, encode_node_instance, encode_node, encode_root, encode_start, encode_registers, encode_nodes, encode_roots, encode}
use Rattle.records.specs.Record.{record_bytes, record_at, records_from, whole_records, records_in}
use Rattle.records.specs.Elements.{expr_records, exprs_records, register_instance_record, register_records, rule_records, capture_record, child_record, node_instance_records, node_records, root_record, elements, records}
use Rattle.records.specs.Grammar.{expression_of, element_of, used_alone, after, is_owed, one_more, allowed_as, allowed, taken, judge, grammar}
use Rattle.records.specs.Planting.{plant, tree_of}
use Rattle.writer.specs.Writing.{in_output, file_from, written, write, read}
use Rattle.writer.specs.Samples.{b1_records, every_file, every_records, lent, AllHold, samples}

pub samples_hold : AllHold samples
unfolding leads child_edge OnCycle cycles_from cycle_faults operation_of reading_at operands_at shifted_at body_at expr_at field_at same keyword_at count_at known_type type_at address_size known_flags flags_at readable known_attention attention_at member fresh start_at root_at roots_at file_at levels chipdata regs node root some position at gathered entries_of register_entries register_named node_entries_of node_entries node_named register_position node_position capture_at rule_at child_at instance_head_at node_instance_at node_total node_head_at node_at nodes_at and_then making require requiring row_at unless fits has_rule has_register has_register_that register_faults has_node capture_faults named_faults rule_faults child_faults instance_faults root_faults reference_faults named_by register_total register_instance_at register_head_at register_at registers_at b1 gather judged verdict any count reached_in reached on_cycle big_endian bytes_of bit_of word_of not_bits and_bits or_bits left_bits right_bits present field operand_count encode_expr encode_exprs encode_register_instance encode_register encode_capture encode_rule encode_child encode_node_instance encode_node encode_root encode_start encode_registers encode_nodes encode_roots encode record_bytes record_at records_from whole_records records_in expr_records exprs_records register_instance_record register_records rule_records capture_record child_record node_instance_records node_records root_record elements records expression_of element_of used_alone after is_owed one_more allowed_as allowed taken judge grammar plant tree_of in_output file_from written write read b1_records every_file every_records lent
samples_hold = (refl, (refl, (refl, (refl, (refl, (refl, (refl, (refl, (refl, (refl, (refl, (refl, (refl, (refl, tt))))))))))))))
