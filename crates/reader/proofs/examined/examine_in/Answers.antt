use mathlib.Core.Path.{sym, ◌∙◌, ap}
use native.Mathlib.Omega.{arith}
use Rattle.format.specs.Parsed.{making}
use Rattle.fields.specs.Views.{next_parsed}
use Rattle.reader.specs.Layout.{layout_parsed}
use Rattle.reader.proofs.ExamineLaws.{examined_faulty, examined_clean, clean_verdict}
use Rattle.reader.proofs.ExaminedLaws.{roomy, same_room, in_refused, in_short, in_roomy, laid_tables, laid_entries, laid_index, file_is, laid_is, examined, same_layout}
use Rattle.reader.proofs.FaultsLaws.{laid}
use Rattle.reader.proofs.LayoutLaws.{no_layout}
use Rattle.reader.proofs.examined.examine_in.Goals as goal

pub judge-f-requires : goal.judge-f-requires
judge-f-requires c =
    let r = roomy _ _ _ (sym c.if-has_room.true ∙ c.has_room.ensures) in
    (r.keys, r.kinds, r.names, r.wanted, r.places)

pub shape_of-keys-in-Next : goal.shape_of-keys-in-Next
shape_of-keys-in-Next c = c.keys-1.given

pub shape_of-kinds-in-Next : goal.shape_of-kinds-in-Next
shape_of-kinds-in-Next c = c.kinds-1.given

pub shape_of-index-in-Next : goal.shape_of-index-in-Next
shape_of-index-in-Next c = c.index-1.given

pub shape_of-names-in-Next : goal.shape_of-names-in-Next
shape_of-names-in-Next c = c.names-1.given

pub shape_of-wanted-in-Next : goal.shape_of-wanted-in-Next
shape_of-wanted-in-Next c = c.wanted-1.given

pub shape_of-places-in-Next : goal.shape_of-places-in-Next
shape_of-places-in-Next c = c.places-1.given

pub shape_of-node_index-in-Next : goal.shape_of-node_index-in-Next
shape_of-node_index-in-Next c = c.node_index-1.given

pub shape_of-child-in-Next : goal.shape_of-child-in-Next
shape_of-child-in-Next c = c.child-1.given

pub shape_of-entries-in-Next : goal.shape_of-entries-in-Next
shape_of-entries-in-Next c = c.entries-1.given

pub returns-in-Next : goal.returns-in-Next
unfolding making
returns-in-Next c =
    let w = sym (ap layout_parsed c.in-Done.is) ∙ c.whole-w.ensures.result_value in
    let room = c.has_room.ensures ∙ same_room _ c.keys-1.given c.kinds-1.given c.names-1.given c.wanted-1.given c.places-1.given _ _ in
    let r = roomy _ _ _ (sym c.if-has_room.true ∙ room) in
    let o = roomy _ _ _ (sym c.if-has_room.true ∙ c.has_room.ensures) in
    let clean = ap next_parsed c.in-Next.is in record {
      result_value = in_roomy _ _ _ w room c.if-has_room.true (examined_clean _ _ w (λ chip layout file.
          let d = laid _ _ (λ i. (c.type_inv.s i).fits) chip layout file in
          let n = c.whole-w.ensures.nodes_kept _ _ _ c.in-Done.is d.nodes in
          c.judge-f.ensures.result_value _ chip file d.roots (laid_tables _ d _ _ _ _ _ _ r (c.whole-w.ensures.kinds_after _ _ _ c.in-Done.is d.registers) n) (laid_entries _ d n) (laid_index _ d (c.whole-w.ensures.index_kept _ c.in-Done.is) o.keys o.kinds) (omega (arith, r.child, d.node_count))) clean);
      examined = λ k q.
          let d = laid_is _ _ (λ i. (c.type_inv.s i).fits) c.in-Done.l w in
          let v = clean_verdict _ _ w (λ chip layout file.
          let d = laid _ _ (λ i. (c.type_inv.s i).fits) chip layout file in
          let n = c.whole-w.ensures.nodes_kept _ _ _ c.in-Done.is d.nodes in
          c.judge-f.ensures.result_value _ chip file d.roots (laid_tables _ d _ _ _ _ _ _ r (c.whole-w.ensures.kinds_after _ _ _ c.in-Done.is d.registers) n) (laid_entries _ d n) (laid_index _ d (c.whole-w.ensures.index_kept _ c.in-Done.is) o.keys o.kinds) (omega (arith, r.child, d.node_count))) clean in
          let n = c.whole-w.ensures.nodes_kept _ _ _ c.in-Done.is d.nodes in
          let g = laid_tables _ d _ _ _ _ _ _ r (c.whole-w.ensures.kinds_after _ _ _ c.in-Done.is d.registers) n in
          let i = laid_index _ d (c.whole-w.ensures.index_kept _ c.in-Done.is) o.keys o.kinds in
          let z = c.judge-f.ensures.linked _ _ _ c.in-Next.is (file_is _ _ (λ i. (c.type_inv.s i).fits) c.in-Done.l w) g (laid_entries _ d n) i in
          same_layout _ _ q (examined _ _ (λ i. (c.type_inv.s i).fits) c.in-Done.l w v z.base o.keys o.names o.places (omega (arith, r.child, z.sized)) g.keys_are i g.nodes_are g.places_are z.children_are);
    }

pub shape_of-keys-in-Refused-f : goal.shape_of-keys-in-Refused-f
shape_of-keys-in-Refused-f c = c.keys-1.given

pub shape_of-kinds-in-Refused-f : goal.shape_of-kinds-in-Refused-f
shape_of-kinds-in-Refused-f c = c.kinds-1.given

pub shape_of-index-in-Refused-f : goal.shape_of-index-in-Refused-f
shape_of-index-in-Refused-f c = c.index-1.given

pub shape_of-names-in-Refused-f : goal.shape_of-names-in-Refused-f
shape_of-names-in-Refused-f c = c.names-1.given

pub shape_of-wanted-in-Refused-f : goal.shape_of-wanted-in-Refused-f
shape_of-wanted-in-Refused-f c = c.wanted-1.given

pub shape_of-places-in-Refused-f : goal.shape_of-places-in-Refused-f
shape_of-places-in-Refused-f c = c.places-1.given

pub shape_of-node_index-in-Refused-f : goal.shape_of-node_index-in-Refused-f
shape_of-node_index-in-Refused-f c = c.node_index-1.given

pub shape_of-child-in-Refused-f : goal.shape_of-child-in-Refused-f
shape_of-child-in-Refused-f c = c.child-1.given

pub shape_of-entries-in-Refused-f : goal.shape_of-entries-in-Refused-f
shape_of-entries-in-Refused-f c = c.entries-1.given

pub returns-in-Refused-f : goal.returns-in-Refused-f
unfolding making
returns-in-Refused-f c =
    let w = sym (ap layout_parsed c.in-Done.is) ∙ c.whole-w.ensures.result_value in
    let room = c.has_room.ensures ∙ same_room _ c.keys-1.given c.kinds-1.given c.names-1.given c.wanted-1.given c.places-1.given _ _ in
    let r = roomy _ _ _ (sym c.if-has_room.true ∙ room) in
    let o = roomy _ _ _ (sym c.if-has_room.true ∙ c.has_room.ensures) in record {
      result_value = in_roomy _ _ _ w room c.if-has_room.true (examined_faulty _ _ w (λ chip layout file.
          let d = laid _ _ (λ i. (c.type_inv.s i).fits) chip layout file in
          let n = c.whole-w.ensures.nodes_kept _ _ _ c.in-Done.is d.nodes in
          c.judge-f.ensures.result_value _ chip file d.roots (laid_tables _ d _ _ _ _ _ _ r (c.whole-w.ensures.kinds_after _ _ _ c.in-Done.is d.registers) n) (laid_entries _ d n) (laid_index _ d (c.whole-w.ensures.index_kept _ c.in-Done.is) o.keys o.kinds) (omega (arith, r.child, d.node_count))) (ap next_parsed c.in-Refused-f.is));
      examined = λ k q. no_layout q;
    }

pub shape_of-keys-else-has_room : goal.shape_of-keys-else-has_room
shape_of-keys-else-has_room c = c.keys-1.given

pub shape_of-kinds-else-has_room : goal.shape_of-kinds-else-has_room
shape_of-kinds-else-has_room c = c.kinds-1.given

pub shape_of-index-else-has_room : goal.shape_of-index-else-has_room
shape_of-index-else-has_room c = c.index-1.given

pub shape_of-names-else-has_room : goal.shape_of-names-else-has_room
shape_of-names-else-has_room c = c.names-1.given

pub shape_of-wanted-else-has_room : goal.shape_of-wanted-else-has_room
shape_of-wanted-else-has_room c = c.wanted-1.given

pub shape_of-places-else-has_room : goal.shape_of-places-else-has_room
shape_of-places-else-has_room c = c.places-1.given

pub shape_of-entries-else-has_room : goal.shape_of-entries-else-has_room
shape_of-entries-else-has_room c = c.entries-1.given

pub returns-else-has_room : goal.returns-else-has_room
unfolding making
returns-else-has_room c =
    let w = sym (ap layout_parsed c.in-Done.is) ∙ c.whole-w.ensures.result_value in
    record {
      result_value = in_short _ _ _ w (c.has_room.ensures ∙ same_room _ c.keys-1.given c.kinds-1.given c.names-1.given c.wanted-1.given c.places-1.given _ _) c.if-has_room.false;
      examined = λ k q. no_layout q;
    }

pub shape_of-keys-in-Refused : goal.shape_of-keys-in-Refused
shape_of-keys-in-Refused c = c.keys-1.given

pub shape_of-kinds-in-Refused : goal.shape_of-kinds-in-Refused
shape_of-kinds-in-Refused c = c.kinds-1.given

pub shape_of-index-in-Refused : goal.shape_of-index-in-Refused
shape_of-index-in-Refused c = c.index-1.given

pub shape_of-names-in-Refused : goal.shape_of-names-in-Refused
shape_of-names-in-Refused c = c.names-1.given

pub shape_of-wanted-in-Refused : goal.shape_of-wanted-in-Refused
shape_of-wanted-in-Refused c = c.wanted-1.given

pub shape_of-places-in-Refused : goal.shape_of-places-in-Refused
shape_of-places-in-Refused c = c.places-1.given

pub shape_of-entries-in-Refused : goal.shape_of-entries-in-Refused
shape_of-entries-in-Refused c = c.entries-1.given

pub returns-in-Refused : goal.returns-in-Refused
unfolding making
returns-in-Refused c = record {
  result_value = in_refused _ _ _ (sym (ap layout_parsed c.in-Refused.is) ∙ c.whole-w.ensures.result_value);
  examined = λ k q. no_layout q;
}
