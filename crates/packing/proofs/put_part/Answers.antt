use Rattle.std.proofs.Common.{arith}
use Rattle.records.specs.Record.{records_in, whole_records}
use Rattle.packing.proofs.OwnLaws.{few_weaker}
use Rattle.packing.proofs.BackwardLaws.{backward_none, backward_known, backward_room, backward_within, backward_next, backward_all}
use Rattle.packing.proofs.put_part.Goals as goal

pub loop-i-init : goal.loop-i-init
loop-i-init c = backward_none _ _ _ _ _ c.requires.1

pub form_before-near-requires : goal.form_before-near-requires
form_before-near-requires c = (omega (arith, c.loop-i.invariant.below), backward_known c.loop-i.invariant (omega arith))

pub put_own-place-requires : goal.put_own-place-requires
unfolding records_in whole_records
put_own-place-requires c = (
  backward_room c.loop-i.invariant (omega arith) (omega arith) c.form_before-near.ensures (omega arith) c.record_at-r.ensures c.element_of-e.ensures c.address_size.ensures c.requires.0,
  backward_within c.loop-i.invariant,
)

pub counting-counts-requires : goal.counting-counts-requires
counting-counts-requires c = few_weaker c.loop-i.invariant.few (omega (arith, c.loop-i.invariant.below))

pub loop-i-preserved : goal.loop-i-preserved
loop-i-preserved c =
    backward_next c.loop-i.invariant (omega arith) (omega arith) c.form_before-near.ensures (omega arith) c.record_at-r.ensures c.element_of-e.ensures
    c.address_size.ensures c.put_own-place.ensures c.counting-counts.ensures

pub returns : goal.returns
unfolding records_in whole_records
returns c = backward_all c.loop-i.invariant (omega arith)
