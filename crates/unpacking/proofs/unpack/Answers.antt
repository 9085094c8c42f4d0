use Rattle.std.proofs.Common.{arith}
use Rattle.unpacking.proofs.OutputLaws.{unpacked-le, needs_none, needs_all, keeps_none, keeps_short, puts_all}
use Rattle.unpacking.proofs.unpack.Goals as goal

pub returns-then-file-gt-BYTES : goal.returns-then-file-gt-BYTES
returns-then-file-gt-BYTES c = record { needed = needs_none _ c.if-file-gt-BYTES.true; output = keeps_none _ _ c.if-file-gt-BYTES.true }

pub overflow_mul-needed : goal.overflow_mul-needed
overflow_mul-needed c = omega (arith, c.put_all-needed.ensures.count, unpacked-le c.args.file.now)

pub returns-then-out-needed : goal.returns-then-out-needed
returns-then-out-needed c =
    let n = needs_all _ c.if-file-gt-BYTES.false c.put_all-needed.ensures.count in
    record { needed = n; output = keeps_short _ _ n c.if-out-needed.true }

pub returns : goal.returns
returns c =
    let n = needs_all _ c.if-file-gt-BYTES.false c.put_all-needed.ensures.count in
    record { needed = n; output = puts_all _ _ c.if-file-gt-BYTES.false n c.if-out-needed.false c.put_all.ensures.output }
