use mathlib.Core.Bool.{not}
use mathlib.Core.Path.{refl, sym, ap}
use lib.Seq.{length-take-le}
use Rattle.node_pass.proofs.SectionLaws.{holds, holds_not, few_taken, kept_exact, kept_passed, parsed_passed}
use Rattle.node_pass.proofs.section.nodes_at.Goals as goal

pub returns-then-not-has_names : goal.returns-then-not-has_names
returns-then-not-has_names c = record {
  result_value = c.exact_at.ensures.result_value;
  nodes_kept = (λ p ns end q d. kept_exact _ _ _ _ _ _ ns refl refl refl (c.exact_at.ensures.fits_value p ns end q d));
  index_kept = record { indexed = λ f k l. holds_not _ _ _ c.has_names.ensures (ap not c.if-not-has_names.true) f k l };
}

pub slice_bounds-enter_all-end : goal.slice_bounds-enter_all-end
slice_bounds-enter_all-end c = sym (length-take-le _ _ (holds _ _ _ c.has_names.ensures (ap not c.if-not-has_names.false)).keys_in)

pub slice_bounds-pass_at-end : goal.slice_bounds-pass_at-end
slice_bounds-pass_at-end c = sym (length-take-le _ _ (holds _ _ _ c.has_names.ensures (ap not c.if-not-has_names.false)).keys_in)

pub slice_bounds-pass_at-end-2 : goal.slice_bounds-pass_at-end-2
slice_bounds-pass_at-end-2 c = sym (length-take-le _ _ (holds _ _ _ c.has_names.ensures (ap not c.if-not-has_names.false)).kinds_in)

pub returns-then-p-eq0 : goal.returns-then-p-eq0
returns-then-p-eq0 c =
    let h = holds c.args.m _ _ c.has_names.ensures (ap not c.if-not-has_names.false) in
    record {
      result_value = c.exact_at-then-p-eq0.ensures.result_value;
      nodes_kept = (λ p ns end q d. kept_exact _ _ _ _ _ _ ns c.names-2-1.given c.wanted-2-1.given c.places-2-1.given (c.exact_at-then-p-eq0.ensures.fits_value p ns end q d));
      index_kept = record { indexed = λ f k l. c.enter_all.ensures (few_taken c.args.m c.args.keys.now h.keys_in h.few) };
    }

pub returns : goal.returns
returns c =
    let h = holds c.args.m _ _ c.has_names.ensures (ap not c.if-not-has_names.false) in
    let n = c.enter_all.ensures (few_taken c.args.m c.args.keys.now h.keys_in h.few) in
    let q = c.pass_at-p.ensures n c.if-p-eq0.false in
    record {
      result_value = parsed_passed _ _ _ c.args.m c.args.keys.now c.args.kinds.now _ _ q;
      nodes_kept = (λ p ns end o d. kept_passed _ _ _ c.args.m c.args.keys.now c.args.kinds.now _ _ q h o ns end d);
      index_kept = record { indexed = λ f k l. n };
    }
