-- The invariant: the value so far and the bytes that follow make the whole number.
use Rattle.std.proofs.Common.{◌≡◌, ◌<◌, ◌^◌, drop}
use Rattle.numbers.specs.BigEndian.{big_endian}
use Rattle.numbers.proofs.BigEndianLaws.{onward}
use Rattle.numbers.proofs.big_endian.Given as goal

abbrev pub invariant-loop-b : goal.invariant-loop-b
invariant-loop-b l = record { below : l.value < 256 ^ l.b-index; whole : onward l.value (drop l.b-index l.s) ≡ big_endian l.s }
