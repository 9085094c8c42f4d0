-- A record of 16 bytes: "headerless house records of 16 bytes, one for each register, instance, node, node instance, capture, rule, expression, child and root" (document 02 (ii)). Its fields are fixed in docs/RECORDS.md.
use Rattle.std.specs.Prelude.{ℕ, zero, suc, ◌+◌, ◌/◌, cond, List, [], ◌∷◌, ◌++◌, leb, length, take, drop}
use Rattle.numbers.specs.BigEndian.{bytes_of}
use Rattle.numbers.specs.Field.{present, field}
use Rattle.records.specs.declared.Record.{Record}

-- How many bytes a record has.
abbrev pub record_size : ℕ
record_size = 16

-- The bytes of a record: kind, type, amount and number in one byte each, the ID in four, the value in eight.
unfoldable pub record_bytes : Record → List ℕ
record_bytes r =
    bytes_of 1 r.kind ++ (bytes_of 1 r.form ++ (bytes_of 1 r.amount ++ (bytes_of 1 r.number ++ (bytes_of 4 r.id ++ bytes_of 8 r.value))))

-- The record whose bytes stand at a place.
unfoldable pub record_at : List ℕ → ℕ → Record
record_at s at =
    record {
      kind = field s at 1;
      form = field s (at + 1) 1;
      amount = field s (at + 2) 1;
      number = field s (at + 3) 1;
      id = field s (at + 4) 4;
      value = field s (at + 8) 8;
    }

-- So many records from a place on.
unfoldable pub records_from : List ℕ → ℕ → ℕ → List Record
records_from s zero at = []
records_from s (suc n) at = record_at s at ∷ records_from s n (at + record_size)

-- How many whole records some bytes are, and these records.
unfoldable pub whole_records : List ℕ → ℕ
whole_records s = length s / record_size

unfoldable pub records_in : List ℕ → List Record
records_in s = records_from s (whole_records s) 0

-- The record at a place where 16 bytes stand; elsewhere one of zeros, which is no element.
unfoldable pub record_within : List ℕ → ℕ → Record
record_within s at =
    cond (present s at record_size) (record_at s at) (record { kind = 0; form = 0; amount = 0; number = 0; id = 0; value = 0 })

-- Some bytes with a record at a place, where there is room for it; elsewhere as they are.
unfoldable pub put_record : List ℕ → ℕ → Record → List ℕ
put_record s at r = cond (present s at record_size) (take at s ++ (record_bytes r ++ drop (at + record_size) s)) s

-- Some bytes at the front of an output that has room for all of them; otherwise the output as it is.
unfoldable pub at_front : List ℕ → List ℕ → List ℕ
at_front bytes out = cond (leb (length bytes) (length out)) (bytes ++ drop (length bytes) out) out
