use mathlib.Core.Path.{refl}
use Rattle.reader.specs.Layout.{layout_at}
use Rattle.fields.proofs.Steps.{number_then, number_stop}
use Rattle.reader.proofs.LayoutLaws.{section_then, section_stop, nodes_then, nodes_stop, last_makes, last_no, summary_is, same_nodes, same_registers, same_kept, same_index, no_layout}
use Rattle.reader.proofs.file.layout.Goals as goal

pub shape_of-keys-in-Byte : goal.shape_of-keys-in-Byte
shape_of-keys-in-Byte c = c.keys-1.given

pub shape_of-kinds-in-Byte : goal.shape_of-kinds-in-Byte
shape_of-kinds-in-Byte c = c.kinds-1.given

pub shape_of-index-in-Byte : goal.shape_of-index-in-Byte
shape_of-index-in-Byte c = c.index-1.given

pub shape_of-names-in-Byte : goal.shape_of-names-in-Byte
shape_of-names-in-Byte c = c.names-1.given

pub shape_of-wanted-in-Byte : goal.shape_of-wanted-in-Byte
shape_of-wanted-in-Byte c = c.wanted-1.given

pub shape_of-places-in-Byte : goal.shape_of-places-in-Byte
shape_of-places-in-Byte c = c.places-1.given

pub shape_of-entries-in-Byte : goal.shape_of-entries-in-Byte
shape_of-entries-in-Byte c = c.entries-1.given

pub returns-in-Byte : goal.returns-in-Byte
unfolding layout_at
returns-in-Byte c = record {
  result_value = number_then _ _ c.start_at-start.ensures c.in-Number.is
      (section_then _ _ _ c.registers_at-first.ensures.result_value c.in-Section.is λ rs p.
      nodes_then _ _ _ c.nodes_at-second.ensures.result_value c.in-Section-second.is λ ns q.
      last_makes _ _ _ c.roots_at-third.ensures c.in-Byte.is λ ts r. summary_is _ rs ns ts _ _ _ _ p q r);
  nodes_kept = (λ l ns m e d. same_kept e (c.nodes_at-second.ensures.nodes_kept _ ns m c.in-Section-second.is (same_nodes _ _ e ns m d)));
  kinds_after = (λ l rs m e d. c.registers_at-first.ensures.kinds_after rs m (same_registers _ _ e rs m d));
  index_kept = λ l e. same_index e c.nodes_at-second.ensures.index_kept;
}

pub shape_of-keys-in-Refused-third : goal.shape_of-keys-in-Refused-third
shape_of-keys-in-Refused-third c = c.keys-1.given

pub shape_of-kinds-in-Refused-third : goal.shape_of-kinds-in-Refused-third
shape_of-kinds-in-Refused-third c = c.kinds-1.given

pub shape_of-index-in-Refused-third : goal.shape_of-index-in-Refused-third
shape_of-index-in-Refused-third c = c.index-1.given

pub shape_of-names-in-Refused-third : goal.shape_of-names-in-Refused-third
shape_of-names-in-Refused-third c = c.names-1.given

pub shape_of-wanted-in-Refused-third : goal.shape_of-wanted-in-Refused-third
shape_of-wanted-in-Refused-third c = c.wanted-1.given

pub shape_of-places-in-Refused-third : goal.shape_of-places-in-Refused-third
shape_of-places-in-Refused-third c = c.places-1.given

pub shape_of-entries-in-Refused-third : goal.shape_of-entries-in-Refused-third
shape_of-entries-in-Refused-third c = c.entries-1.given

pub returns-in-Refused-third : goal.returns-in-Refused-third
unfolding layout_at
returns-in-Refused-third c = record {
  result_value = number_then _ _ c.start_at-start.ensures c.in-Number.is
      (section_then _ _ _ c.registers_at-first.ensures.result_value c.in-Section.is λ rs p.
      nodes_then _ _ _ c.nodes_at-second.ensures.result_value c.in-Section-second.is λ ns q.
      last_no _ _ _ c.roots_at-third.ensures c.in-Refused-third.is refl);
  nodes_kept = (λ l ns m e d. no_layout e);
  kinds_after = (λ l rs m e d. no_layout e);
  index_kept = λ l e. no_layout e;
}

pub shape_of-keys-in-Refused-second : goal.shape_of-keys-in-Refused-second
shape_of-keys-in-Refused-second c = c.keys-1.given

pub shape_of-kinds-in-Refused-second : goal.shape_of-kinds-in-Refused-second
shape_of-kinds-in-Refused-second c = c.kinds-1.given

pub shape_of-index-in-Refused-second : goal.shape_of-index-in-Refused-second
shape_of-index-in-Refused-second c = c.index-1.given

pub shape_of-names-in-Refused-second : goal.shape_of-names-in-Refused-second
shape_of-names-in-Refused-second c = c.names-1.given

pub shape_of-wanted-in-Refused-second : goal.shape_of-wanted-in-Refused-second
shape_of-wanted-in-Refused-second c = c.wanted-1.given

pub shape_of-places-in-Refused-second : goal.shape_of-places-in-Refused-second
shape_of-places-in-Refused-second c = c.places-1.given

pub shape_of-entries-in-Refused-second : goal.shape_of-entries-in-Refused-second
shape_of-entries-in-Refused-second c = c.entries-1.given

pub returns-in-Refused-second : goal.returns-in-Refused-second
unfolding layout_at
returns-in-Refused-second c = record {
  result_value = number_then _ _ c.start_at-start.ensures c.in-Number.is
      (section_then _ _ _ c.registers_at-first.ensures.result_value c.in-Section.is λ rs p.
      nodes_stop _ _ _ c.nodes_at-second.ensures.result_value c.in-Refused-second.is refl);
  nodes_kept = (λ l ns m e d. no_layout e);
  kinds_after = (λ l rs m e d. no_layout e);
  index_kept = λ l e. no_layout e;
}

pub shape_of-keys-in-Refused-first : goal.shape_of-keys-in-Refused-first
shape_of-keys-in-Refused-first c = c.keys-1.given

pub shape_of-kinds-in-Refused-first : goal.shape_of-kinds-in-Refused-first
shape_of-kinds-in-Refused-first c = c.kinds-1.given

pub returns-in-Refused-first : goal.returns-in-Refused-first
unfolding layout_at
returns-in-Refused-first c = record {
  result_value = number_then _ _ c.start_at-start.ensures c.in-Number.is (section_stop _ _ _ c.registers_at-first.ensures.result_value c.in-Refused-first.is refl);
  nodes_kept = (λ l ns m e d. no_layout e);
  kinds_after = (λ l rs m e d. no_layout e);
  index_kept = λ l e. no_layout e;
}

pub returns-in-Refused : goal.returns-in-Refused
unfolding layout_at
returns-in-Refused c = record {
  result_value = number_stop _ _ c.start_at-start.ensures c.in-Refused.is refl;
  nodes_kept = (λ l ns m e d. no_layout e);
  kinds_after = (λ l rs m e d. no_layout e);
  index_kept = λ l e. no_layout e;
}
