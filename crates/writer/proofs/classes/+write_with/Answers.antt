use Rattle.std.proofs.Common.{arith, ◌≡◌, sym, ap, ◌∙◌}
use Rattle.writer.specs.Building.{built_in}
use Rattle.writer.proofs.BuildingLaws.{class_exact, class_kept}
use Rattle.writer.proofs.classes.+write_with.Goals as goal
use Rattle.writer.proofs.classes.+write_with.Goals.{in-1, in-2, in_default}

pub returns-then-is_exact : goal.returns-then-is_exact
returns-then-is_exact t c =
    let exact = sym c.is_exact.ensures ∙ c.if-is_exact.true in
    elim c.match-larger.branch [
      | in-1 w ↦ rw (w.w-is, w.out-is) (class_exact _ 65536 _ _ _ _ _ w.write_sized-w.ensures (omega arith) (rw w.w-is at exact))
      | in-2 w ↦ rw (w.w-is, w.out-is) (class_exact _ 4096 _ _ _ _ _ w.write_sized-w-in-2.ensures (omega arith) (rw w.w-is at exact))
      | in_default w ↦ rw (w.w-is, w.out-is) (class_exact _ 256 _ _ _ _ _ w.write_sized-w-in_default.ensures (omega arith) (rw w.w-is at exact))
    ]

pub returns : goal.returns
returns t c =
    let short = sym c.is_exact.ensures ∙ c.if-is_exact.false in
    let kept : c.match-larger.out ≡ c.args.out.now = elim c.match-larger.branch [
      | in-1 w ↦ w.out-is ∙ class_kept _ 65536 0 _ _ _ _ w.write_sized-w.ensures (rw w.w-is at short)
      | in-2 w ↦ w.out-is ∙ class_kept _ 4096 0 _ _ _ _ w.write_sized-w-in-2.ensures (rw w.w-is at short)
      | in_default w ↦ w.out-is ∙ class_kept _ 256 0 _ _ _ _ w.write_sized-w-in_default.ensures (rw w.w-is at short)
    ] in
    c.write_with.ensures ∙ ap (built_in _ _ _) kept
