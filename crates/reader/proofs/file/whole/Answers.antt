use mathlib.Core.Path.{refl, sym, ◌∙◌, ap}
use Rattle.reader.specs.Layout.{layout_parsed}
use Rattle.reader.proofs.LayoutLaws.{no_layout}
use Rattle.reader.proofs.WholeLaws.{whole_long, whole_refused, whole_more, whole_done}
use Rattle.reader.proofs.file.whole.Goals as goal

pub returns-then-bytes-s : goal.returns-then-bytes-s
returns-then-bytes-s c = record {
  result_value = whole_long _ _ c.bytes.ensures c.if-bytes-s.true refl;
  nodes_kept = (λ l ns m e d. no_layout e);
  kinds_after = (λ l rs m e d. no_layout e);
  index_kept = λ l e. no_layout e;
}

pub shape_of-keys-then-end-s : goal.shape_of-keys-then-end-s
shape_of-keys-then-end-s c = c.keys-1.given

pub shape_of-kinds-then-end-s : goal.shape_of-kinds-then-end-s
shape_of-kinds-then-end-s c = c.kinds-1.given

pub shape_of-index-then-end-s : goal.shape_of-index-then-end-s
shape_of-index-then-end-s c = c.index-1.given

pub shape_of-names-then-end-s : goal.shape_of-names-then-end-s
shape_of-names-then-end-s c = c.names-1.given

pub shape_of-wanted-then-end-s : goal.shape_of-wanted-then-end-s
shape_of-wanted-then-end-s c = c.wanted-1.given

pub shape_of-places-then-end-s : goal.shape_of-places-then-end-s
shape_of-places-then-end-s c = c.places-1.given

pub shape_of-entries-then-end-s : goal.shape_of-entries-then-end-s
shape_of-entries-then-end-s c = c.entries-1.given

pub returns-then-end-s : goal.returns-then-end-s
returns-then-end-s c = record {
  result_value = whole_more _ _ c.bytes.ensures c.if-bytes-s.false (sym (ap layout_parsed c.in-Done.is) ∙ c.layout-read.ensures.result_value) c.if-end-s.true refl;
  nodes_kept = (λ l ns m e d. no_layout e);
  kinds_after = (λ l rs m e d. no_layout e);
  index_kept = λ l e. no_layout e;
}

pub shape_of-keys-else-end-s : goal.shape_of-keys-else-end-s
shape_of-keys-else-end-s c = c.keys-1.given

pub shape_of-kinds-else-end-s : goal.shape_of-kinds-else-end-s
shape_of-kinds-else-end-s c = c.kinds-1.given

pub shape_of-index-else-end-s : goal.shape_of-index-else-end-s
shape_of-index-else-end-s c = c.index-1.given

pub shape_of-names-else-end-s : goal.shape_of-names-else-end-s
shape_of-names-else-end-s c = c.names-1.given

pub shape_of-wanted-else-end-s : goal.shape_of-wanted-else-end-s
shape_of-wanted-else-end-s c = c.wanted-1.given

pub shape_of-places-else-end-s : goal.shape_of-places-else-end-s
shape_of-places-else-end-s c = c.places-1.given

pub shape_of-entries-else-end-s : goal.shape_of-entries-else-end-s
shape_of-entries-else-end-s c = c.entries-1.given

pub returns-else-end-s : goal.returns-else-end-s
returns-else-end-s c = record {
  result_value = whole_done _ _ c.bytes.ensures c.if-bytes-s.false (sym (ap layout_parsed c.in-Done.is) ∙ c.layout-read.ensures.result_value) c.if-end-s.false refl;
  nodes_kept = (λ l ns m e d. c.layout-read.ensures.nodes_kept l ns m (c.in-Done.is ∙ e) d);
  kinds_after = (λ l rs m e d. c.layout-read.ensures.kinds_after l rs m (c.in-Done.is ∙ e) d);
  index_kept = λ l e. c.layout-read.ensures.index_kept l (c.in-Done.is ∙ e);
}

pub shape_of-keys-in-Refused : goal.shape_of-keys-in-Refused
shape_of-keys-in-Refused c = c.keys-1.given

pub shape_of-kinds-in-Refused : goal.shape_of-kinds-in-Refused
shape_of-kinds-in-Refused c = c.kinds-1.given

pub shape_of-index-in-Refused : goal.shape_of-index-in-Refused
shape_of-index-in-Refused c = c.index-1.given

pub shape_of-names-in-Refused : goal.shape_of-names-in-Refused
shape_of-names-in-Refused c = c.names-1.given

pub shape_of-wanted-in-Refused : goal.shape_of-wanted-in-Refused
shape_of-wanted-in-Refused c = c.wanted-1.given

pub shape_of-places-in-Refused : goal.shape_of-places-in-Refused
shape_of-places-in-Refused c = c.places-1.given

pub shape_of-entries-in-Refused : goal.shape_of-entries-in-Refused
shape_of-entries-in-Refused c = c.entries-1.given

pub returns-in-Refused : goal.returns-in-Refused
returns-in-Refused c = record {
  result_value = whole_refused _ _ c.bytes.ensures c.if-bytes-s.false (sym (ap layout_parsed c.in-Refused.is) ∙ c.layout-read.ensures.result_value) refl;
  nodes_kept = (λ l ns m e d. no_layout e);
  kinds_after = (λ l rs m e d. no_layout e);
  index_kept = λ l e. no_layout e;
}
