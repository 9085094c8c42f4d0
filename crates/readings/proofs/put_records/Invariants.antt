-- The invariant: with what the records to come give, the lists are what they are to be.
use Rattle.std.proofs.Common.{◌+◌, ◌*◌, ◌≡◌, length, drop}
use Rattle.std.specs.Iterator.Adapters.{enumerate_source, enumerate_count}
use Rattle.std.specs.Slice.Iter.{chunks_exact_rest, chunks_exact_size}
use Rattle.tables.specs.Tables.{written}
use Rattle.readings.specs.ReadingsFile.{words_of, read_of}
use Rattle.readings.proofs.put_records.Given as goal

abbrev pub invariant-loop-i : goal.invariant-loop-i
invariant-loop-i l = record {
  sixteen : chunks_exact_size (enumerate_source l.i-iterator) ≡ 16;
  many : 16 * enumerate_count l.i-iterator + length (chunks_exact_rest (enumerate_source l.i-iterator)) ≡ 16 * length l.keys;
  words : written l.words (enumerate_count l.i-iterator) (words_of (drop (enumerate_count l.i-iterator) l.keys) (chunks_exact_rest (enumerate_source l.i-iterator)))
      ≡ written l.initial.words 0 (words_of l.keys l.bytes);
  read : written l.read (enumerate_count l.i-iterator) (read_of (drop (enumerate_count l.i-iterator) l.keys) (chunks_exact_rest (enumerate_source l.i-iterator)))
      ≡ written l.initial.read 0 (read_of l.keys l.bytes);
}
