use mathlib.Core.Path.{sym}
use native.Mathlib.Omega.{arith}
use lib.Seq.{length-take-le}
use Rattle.isolation.specs.Outcome.{in_list}
use Rattle.isolation.proofs.WrittenLaws.{within_rows, few_rows, found_rows}
use Rattle.isolation.proofs.written.write_found.Goals.{then-heads-n-via-then-heads-n, then-heads-n-via-else-heads-n+then-words-n}
use Rattle.isolation.proofs.written.write_found.Goals as goal

pub returns-then-heads-n : goal.returns-then-heads-n
returns-then-heads-n c =
    λ h. let w = within_rows c.args.heads.now c.args.words.now c.in-Ok.is h in absurd (elim c.then-heads-n.branch [ then-heads-n-via-then-heads-n t ↦ omega (arith, w.1) | then-heads-n-via-else-heads-n+then-words-n t ↦ omega (arith, w.2) ])

pub slice_bounds-write_rows-end : goal.slice_bounds-write_rows-end
slice_bounds-write_rows-end c = sym (length-take-le _ _ c.if-heads-n.false)

pub slice_bounds-write_rows-end-in-Ok : goal.slice_bounds-write_rows-end-in-Ok
slice_bounds-write_rows-end-in-Ok c = sym (length-take-le _ _ c.if-words-n.false)

pub returns-else-words-n : goal.returns-else-words-n
returns-else-words-n c =
    λ h.
    let w = within_rows c.args.heads.now c.args.words.now c.in-Ok.is h in
    found_rows _ _ _ _ _ _ c.in-Ok.is (c.write_rows.ensures (few_rows _ _ w.0 w.1))

pub returns-in-Err : goal.returns-in-Err
unfolding in_list
returns-in-Err c = λ h. rw c.in-Err.is
