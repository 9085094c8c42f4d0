-- The list's records (document 02 (vi)): "List records grow to 16 bytes: model/level (4), attention type, bit, node ID (2), instance, slot, six zeros." Their numbers are big-endian.
use Rattle.std.specs.Prelude.{ℕ, List, ◌++◌, map}
use Rattle.numbers.specs.BigEndian.{bytes_of}
use Rattle.graph.specs.Chains.{Graph, Link, link, below, listed_of}
use Rattle.format.specs.Lookup.{at, gathered, NodeEntry, node_entries}
use Rattle.format.specs.Tree.{Chip}

-- The bytes of a record.
unfoldable pub record_size : ℕ
record_size = 16

-- The bytes that name an active bit of a chip: attention type, bit, node ID (2), instance.
unfoldable pub bit_bytes : ℕ → ℕ → ℕ → ℕ → List ℕ
bit_bytes attention bit id number = bytes_of 1 attention ++ (bytes_of 1 bit ++ (bytes_of 2 id ++ bytes_of 1 number))

unfoldable pub record_of : ℕ → ℕ → ℕ → ℕ → ℕ → ℕ → List ℕ
record_of model slot attention bit id number = bytes_of 4 model ++ (bit_bytes attention bit id number ++ (bytes_of 1 slot ++ bytes_of 6 0))

-- The layout of document 01, which chains keep (document 02 (xiv)): "attention type, bit, node ID (2), instance, three zeros".
unfoldable pub short_record_of : ℕ → ℕ → ℕ → ℕ → List ℕ
short_record_of attention bit id number = bit_bytes attention bit id number ++ bytes_of 3 0

unfoldable pub record_bytes : ℕ → ℕ → ℕ → ℕ → NodeEntry → List ℕ
record_bytes model slot attention bit e = record_of model slot attention bit e.id e.instance.number

-- "Order: node instances as they stand in the file, then bits from 0 up."
unfoldable pub listing : Graph → ℕ → List Link
listing g root = gathered (λ i. map (link i) (listed_of g root i)) (below g.size)

unfoldable pub link_record : Chip → ℕ → ℕ → Link → List ℕ
link_record c slot attention l = gathered (record_bytes c.model slot attention l.bit) (at l.instance (node_entries c))

-- The records of all listed bits of the chip in a slot.
unfoldable pub records_of : Chip → ℕ → ℕ → List Link → List ℕ
records_of c slot attention ls = gathered (link_record c slot attention) ls
