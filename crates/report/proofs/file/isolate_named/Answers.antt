use mathlib.Core.Path.{sym}
use native.Mathlib.Omega.{arith}
use lib.Seq.{length-take-le}
use Rattle.report.proofs.FileLaws.{decoded_is, first_in, readings_answer, readings_short, both_in}
use Rattle.report.proofs.file.isolate_named.Goals as goal

pub returns-then-keys-m : goal.returns-then-keys-m
returns-then-keys-m c = λ of x. absurd (omega (arith, x.registers-in, c.if-keys-m.true))

pub returns-then-not-both_fit : goal.returns-then-not-both_fit
returns-then-not-both_fit c = λ of x. readings_short _ _ _ c.both_fit.ensures _ _ _ c.if-not-both_fit.true

pub slice_bounds-decode_named-end : goal.slice_bounds-decode_named-end
slice_bounds-decode_named-end c = sym (length-take-le _ _ c.if-keys-m.false)

pub slice_bounds-answer-end : goal.slice_bounds-answer-end
slice_bounds-answer-end c =
    let b = both_in _ _ _ c.both_fit.ensures c.if-not-both_fit.false in
    let h = first_in c.args.keys.now c.if-keys-m.false b.0 in
    omega (arith, h, c.decode_named-k.ensures.few, c.words-1.given)

pub slice_bounds-answer-end-2 : goal.slice_bounds-answer-end-2
slice_bounds-answer-end-2 c =
    let b = both_in _ _ _ c.both_fit.ensures c.if-not-both_fit.false in
    let h = first_in c.args.keys.now c.if-keys-m.false b.0 in
    sym (length-take-le _ _ (omega (arith, h, c.decode_named-k.ensures.few, c.words-1.given)))

pub slice_bounds-answer-end-3 : goal.slice_bounds-answer-end-3
slice_bounds-answer-end-3 c =
    let b = both_in _ _ _ c.both_fit.ensures c.if-not-both_fit.false in
    let h = first_in c.args.keys.now c.if-keys-m.false b.1 in
    omega (arith, h, c.decode_named-k.ensures.few, c.read-1.given)

pub slice_bounds-answer-end-4 : goal.slice_bounds-answer-end-4
slice_bounds-answer-end-4 c =
    let b = both_in _ _ _ c.both_fit.ensures c.if-not-both_fit.false in
    let h = first_in c.args.keys.now c.if-keys-m.false b.1 in
    sym (length-take-le _ _ (omega (arith, h, c.decode_named-k.ensures.few, c.read-1.given)))

pub returns : goal.returns
returns c =
    λ of x.
    let h = c.if-not-both_fit.false in
    let b = both_in _ _ _ c.both_fit.ensures h in
    readings_answer _ _ _ c.both_fit.ensures _ _ _ h
    (decoded_is _ _ (λ i. (c.type_inv.file i).fits) x.accepted _ _ x.keys_are _ _ _ (first_in c.args.keys.now c.if-keys-m.false b.0) (first_in c.args.keys.now c.if-keys-m.false b.1) c.decode_named-k.ensures.count c.decode_named-k.ensures.words c.decode_named-k.ensures.read)
    (c.answer.ensures of x)
