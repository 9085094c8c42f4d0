use Rattle.std.proofs.Common.{◌≡◌, length, arith}
use Rattle.isolation.proofs.ActivityLaws.{read_other, both-fit}
use Rattle.isolation.proofs.active.readings_fit.Goals as goal

pub returns-then-read-m : goal.returns-then-read-m
returns-then-read-m c =
    let words : length c.args.words.now ≡ c.args.m = omega arith in
    read_other _ _ _ words c.if-read-m.true

pub returns : goal.returns
returns c =
    let words : length c.args.words.now ≡ c.args.m = omega arith in
    let read : length c.args.read.now ≡ c.args.m = omega arith in
    both-fit _ _ _ words read c.all_known.ensures
