use Rattle.std.proofs.Common.{arith, ◌≡◌, ◌-◌}
use Rattle.packing.proofs.BackLaws.{number_none, rest_all, number_next, rest_next}
use Rattle.packing.proofs.put_back.Goals as goal

pub loop-place-init : goal.loop-place-init
loop-place-init c = record { back = number_none _ _ _ c.requires.1; rest = rest_all _ _; within = omega arith }

pub loop-place-preserved : goal.loop-place-preserved
loop-place-preserved c =
    let some = c.loop-place.invariant in
    record {
      back = number_next c.args.v (omega arith) some.back some.rest;
      rest = rest_next c.args.v (omega arith) some.back some.rest;
      within = omega arith;
    }

pub returns : goal.returns
returns c =
    let start : c.loop-place.place ≡ c.args.at - c.args.n = omega arith in
    let all : c.args.at - c.loop-place.place ≡ c.args.n = omega arith in
    rw (all, start) at c.loop-place.invariant.back
