use Rattle.std.proofs.Common.{◌≡◌, ◌-◌, ◌/◌, ◌^◌, ◌≤◌}
use Rattle.numbers.specs.BigEndian.{bytes_of}
use Rattle.packing.specs.Writing.{Back}
use Rattle.packing.proofs.put_back.Given as goal

abbrev pub invariant-loop-place : goal.invariant-loop-place
invariant-loop-place l = record {
  back : Back l.initial.out l.out l.at l.place (bytes_of (l.at - l.place) l.v);
  rest : l.rest ≡ l.v / 256 ^ (l.at - l.place);
  within : l.at - l.n ≤ l.place;
}
