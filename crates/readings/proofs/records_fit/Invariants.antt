-- The invariant: the records passed are ones for their keys, so that those to come decide.
use Rattle.std.proofs.Common.{◌*◌, ◌≡◌, length}
use Rattle.std.specs.Iterator.Adapters.{zip_first, zip_second}
use Rattle.std.specs.Slice.Iter.{iter_rest, chunks_exact_rest, chunks_exact_size}
use Rattle.readings.specs.ReadingsFile.{records_fit}
use Rattle.readings.proofs.records_fit.Given as goal

abbrev pub invariant-loop-key : goal.invariant-loop-key
invariant-loop-key l = record {
  sixteen : chunks_exact_size (zip_second l.key-iterator) ≡ 16;
  many : length (chunks_exact_rest (zip_second l.key-iterator)) ≡ 16 * length (iter_rest (zip_first l.key-iterator));
  rest : records_fit (iter_rest (zip_first l.key-iterator)) (chunks_exact_rest (zip_second l.key-iterator)) ≡ records_fit l.keys l.bytes;
}
