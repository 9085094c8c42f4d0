-- The listing as the code goes through it: node instances from 0 up, and of each done one the bits from 0 up.
use Rattle.std.specs.Prelude.{ℕ, ◌+◌, ◌*◌, ◌/◌, ◌%◌, Bool, cond, List, [], ◌∷◌, ◌++◌, map, ◌≡◌, eqb, leb, length, get_or, take, drop, Result, Ok, Err}
use Rattle.numbers.specs.Bits.{bit_of, word_of}
use Rattle.graph.specs.Chains.{Graph, Link, link, listable, below, kept}
use Rattle.format.specs.declared.Refusal.{Refusal}
use Rattle.format.specs.Lookup.{gathered}
use Rattle.format.specs.Refusals.{number_of}
use Rattle.walk.specs.TableGraph.{table_size, table_graph}
use Rattle.listing.specs.Records.{record_of, record_size}

-- Those of the first n bits of i that are listed if i is reached.
unfoldable pub bits_to : Graph → ℕ → ℕ → List ℕ
bits_to g i n = kept (listable g i) (below n)

-- A node instance is done.
unfoldable pub is_done : List ℕ → ℕ → Bool
is_done marks i = eqb (get_or marks i 0) 2

-- The links of the node instance i, if it is done.
unfoldable pub row_links : Graph → List ℕ → ℕ → List Link
row_links g marks i = cond (is_done marks i) (map (link i) (bits_to g i 64)) []

-- Those of the first n node instances.
unfoldable pub rows_to : Graph → List ℕ → ℕ → List Link
rows_to g marks n = gathered (row_links g marks) (below n)

-- The word of the bits of i that are listed if i is reached: a bit is set exactly where it is one of them.
unfoldable pub listed_word : Graph → ℕ → ℕ
listed_word g i = word_of 64 (listable g i)

-- The same, if i is done; otherwise a word without a bit.
unfoldable pub row_word : Graph → List ℕ → ℕ → ℕ
row_word g marks i = cond (is_done marks i) (listed_word g i) 0

-- Those of the first n bits that a word has.
unfoldable pub set_to : ℕ → ℕ → List ℕ
set_to word n = kept (bit_of 64 word) (below n)

-- The node ID and the instance number that a node instance's key holds.
unfoldable pub key_id : ℕ → ℕ
key_id k = k / 256 % 65536

unfoldable pub key_number : ℕ → ℕ
key_number k = k % 256

-- A head: what the records of a node instance have in common but the attention type, as one number. It holds the model, the slot and the node instance's key.
unfoldable pub head_of : ℕ → ℕ → ℕ → ℕ
head_of model slot key = model % 0x1_0000_0000 * 0x1_0000_0000 + slot * 0x100_0000 + key % 0x100_0000

unfoldable pub head_model : ℕ → ℕ
head_model h = h / 0x1_0000_0000

unfoldable pub head_slot : ℕ → ℕ
head_slot h = h / 0x100_0000 % 256

-- The record of a bit, and those of some bits, of a node instance with this head.
unfoldable pub head_record : ℕ → ℕ → ℕ → List ℕ
head_record attention h bit = record_of (head_model h) (head_slot h) attention bit (key_id h) (key_number h)

unfoldable pub bit_records : ℕ → ℕ → List ℕ → List ℕ
bit_records attention h bits = gathered (head_record attention h) bits

-- The records of the bits of a word.
unfoldable pub word_records : ℕ → ℕ → ℕ → List ℕ
word_records attention h word = bit_records attention h (set_to word 64)

-- The records of the node instance i, if it is done, from a table of the node instances' keys.
unfoldable pub row_records : ℕ → ℕ → ℕ → List ℕ → Graph → List ℕ → ℕ → List ℕ
row_records model slot attention keys g marks i = cond (is_done marks i) (bit_records attention (head_of model slot (get_or keys i 0)) (bits_to g i 64)) []

-- Those of the first n node instances.
unfoldable pub rows_records : ℕ → ℕ → ℕ → List ℕ → Graph → List ℕ → ℕ → List ℕ
rows_records model slot attention keys g marks n = gathered (row_records model slot attention keys g marks) (below n)

-- A row: the head of a node instance and the word of its listed bits. Two tables hold rows, one the heads and one the words.
pub record Row : Type 0 where
  pub head : ℕ
  pub word : ℕ

abbrev pub row : ℕ → ℕ → Row
row h w = record { head = h; word = w }

unfoldable pub rows_of : List ℕ → List ℕ → List Row
rows_of [] words = []
rows_of (h ∷ heads) [] = []
rows_of (h ∷ heads) (w ∷ words) = row h w ∷ rows_of heads words

-- The first k of them.
unfoldable pub first_rows : ℕ → List ℕ → List ℕ → List Row
first_rows k heads words = rows_of (take k heads) (take k words)

-- How many bits some rows have, and the records of these.
unfoldable pub kept_count : List Row → ℕ
kept_count rs = length (gathered (λ r. set_to r.word 64) rs)

unfoldable pub kept_records : ℕ → List Row → List ℕ
kept_records attention rs = gathered (λ r. word_records attention r.head r.word) rs

-- Some rows have the listed bits of the first n node instances, as far as these are done.
pub record RowsKept (model slot : ℕ) (keys : List ℕ) (g : Graph) (marks : List ℕ) (n : ℕ) (rs : List Row) : Type 0 where
  pub count : kept_count rs ≡ length (rows_to g marks n)
  pub records : (attention : ℕ) → kept_records attention rs ≡ rows_records model slot attention keys g marks n

-- Some bytes were written at a place: the list before and after, and the place after them.
pub record Wrote (old new : List ℕ) (at next : ℕ) (bs : List ℕ) : Type 0 where
  pub content : new ≡ take at old ++ (bs ++ drop next old)
  pub ends : next ≡ at + length bs
  pub same : length new ≡ length old

-- The answer in the paper's numbers: number 0 is success, with how many records were written; a refusal has its number and place, and zero records.
pub record ListingValues : Type 0 where
  pub number : ℕ
  pub place : ℕ
  pub records : ℕ

abbrev pub written_with : ℕ → ListingValues
written_with count = record { number = 0; place = 0; records = count }

abbrev pub no_room_with : ℕ → ℕ → ListingValues
no_room_with n p = record { number = n; place = p; records = 0 }

abbrev pub listing_values : Result ℕ Refusal → ListingValues
listing_values (Ok count) = written_with count
listing_values (Err r) = no_room_with (number_of r.kind) r.place

-- A list of so many bytes has "a whole record's place" for each of so many records.
unfoldable pub has_room : ℕ → ℕ → Bool
has_room count bytes = leb count (bytes / record_size)

-- What is answered of so many records: 19 "counts 16-byte places", and its place is the "records needed".
unfoldable pub listing_for : ℕ → ℕ → ListingValues
listing_for count bytes = cond (has_room count bytes) (written_with count) (no_room_with 19 count)

-- The links of two tables' node instances that a table of marks has as done. One without a mark is not done.
unfoldable pub table_links : List ℕ → List ℕ → List ℕ → List Link
table_links marks act ch = rows_to (table_graph act ch) marks (table_size act)

-- Their records. A node instance without a key has the key 0.
unfoldable pub table_records : ℕ → ℕ → ℕ → List ℕ → List ℕ → List ℕ → List ℕ → List ℕ
table_records model slot attention keys marks act ch = rows_records model slot attention keys (table_graph act ch) marks (table_size act)

-- The list after the call: "its first places are their records and every byte after those is as it was lent"; a refusal keeps every byte.
unfoldable pub list_after : ℕ → List Row → List ℕ → List ℕ
list_after attention rs list =
    cond (has_room (kept_count rs) (length list)) (kept_records attention rs ++ drop (length (kept_records attention rs)) list) list
