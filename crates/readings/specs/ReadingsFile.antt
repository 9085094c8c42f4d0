-- The readings file. Document 01: "The readings file has records of one fixed size, no header: 16 bytes each, being register ID (3), instance, read byte, three
-- zeros, value (8; zero if unread), in the register instances' file order. Its numbers and the list's are big-endian."
use Rattle.std.specs.Prelude.{ℕ, Result, Ok, Err, ◌*◌, ◌^◌, ◌<◌, Bool, true, false, cond, ◌&&◌, ◌||◌, List, [], ◌∷◌, ◌++◌, map, ◌≡◌, leb, ltb, eqb, length, get_or, drop}
use Rattle.numbers.specs.BigEndian.{bytes_of}
use Rattle.numbers.specs.Field.{field}
use Rattle.format.specs.Lookup.{RegisterEntry, register_entries, some}
use Rattle.format.specs.declared.Refusal.{Refusal}
use Rattle.format.specs.Refusals.{number_of}
use Rattle.format.specs.Tree.{Chip}

-- "Records of one fixed size, no header: 16 bytes each".
abbrev pub reading_size : ℕ
reading_size = 16

-- Writing

-- "Register ID (3), instance": the four bytes that name a register instance.
unfoldable pub name_of : RegisterEntry → List ℕ
name_of e = bytes_of 3 e.id ++ bytes_of 1 e.instance.number

-- A record: a name, "read byte, three zeros, value (8)".
unfoldable pub reading_record : List ℕ → ℕ → ℕ → List ℕ
reading_record name read word = name ++ (bytes_of 1 read ++ (bytes_of 3 0 ++ bytes_of 8 word))

-- A record for each name, in order.
unfoldable pub file_of : List (List ℕ) → List ℕ → List ℕ → List ℕ
file_of [] words read = []
file_of (n ∷ names) words read = reading_record n (get_or read 0 0) (get_or words 0 0) ++ file_of names (drop 1 words) (drop 1 read)

-- The file of a chip's readings: "in the register instances' file order".
unfoldable pub chip_file : Chip → List ℕ → List ℕ → List ℕ
chip_file c words read = file_of (map name_of (register_entries c)) words read

-- The same by the keys of the register instances: a key is written in four bytes.
unfoldable pub key_file : List ℕ → List ℕ → List ℕ → List ℕ
key_file keys words read = file_of (map (bytes_of 4) keys) words read

-- Readings that a file for n register instances can hold: an entry for each, every read byte 0 or 1, an unread word zero, and no word above 64 bits.
pub record Holdable (n : ℕ) (words read : List ℕ) : Type 0 where
  pub words_many : length words ≡ n
  pub read_many : length read ≡ n
  pub read_bytes : some (ltb 1) read ≡ false
  pub unread-zero : (i : ℕ) → get_or read i 0 ≡ 0 → get_or words i 0 ≡ 0
  pub words_small : (i : ℕ) → get_or words i 0 < 256 ^ 8

-- Reading

-- The read byte and the value of the record that some bytes begin with.
unfoldable pub read_byte : List ℕ → ℕ
read_byte bs = field bs 4 1

unfoldable pub value_in : List ℕ → ℕ
value_in bs = field bs 8 8

-- The record that some bytes begin with is one for a key: the key, a read byte of 0 or 1, three zeros, and a value that is "zero if unread".
unfoldable pub record_fits : ℕ → List ℕ → Bool
record_fits key bs = eqb (field bs 0 4) key && (leb (read_byte bs) 1 && (eqb (field bs 5 3) 0 && (eqb (read_byte bs) 1 || eqb (value_in bs) 0)))

-- Every key's record is one for it.
unfoldable pub records_fit : List ℕ → List ℕ → Bool
records_fit [] bytes = true
records_fit (k ∷ keys) bytes = record_fits k bytes && records_fit keys (drop reading_size bytes)

-- A file for these keys. Document 01, number 17: "for the readings file also a wrong size, ID, instance, zero byte or unread value".
unfoldable pub file_fits : List ℕ → List ℕ → Bool
file_fits keys bytes = eqb (length bytes) (reading_size * length keys) && records_fit keys bytes

-- What is wanted of each key's record.
unfoldable pub each_record : (List ℕ → ℕ) → List ℕ → List ℕ → List ℕ
each_record want [] bytes = []
each_record want (k ∷ keys) bytes = want bytes ∷ each_record want keys (drop reading_size bytes)

-- The value of each key's record, and its read byte.
abbrev pub words_of : List ℕ → List ℕ → List ℕ
words_of = each_record value_in

abbrev pub read_of : List ℕ → List ℕ → List ℕ
read_of = each_record read_byte

-- Decoding

-- Both lent lists have a place for each key.
unfoldable pub places_for : List ℕ → List ℕ → List ℕ → Bool
places_for keys words read = leb (length keys) (length words) && leb (length keys) (length read)

-- Decoding succeeds: there is room, and the file fits.
unfoldable pub decodes : List ℕ → List ℕ → List ℕ → List ℕ → Bool
decodes keys bytes words read = places_for keys words read && file_fits keys bytes

-- The answer in the paper's numbers: number 0, or a refusal.
pub record DecodedValues : Type 0 where
  pub number : ℕ
  pub place : ℕ

abbrev pub decoded_values : Result (Unit {0}) Refusal → DecodedValues
decoded_values (Ok u) = record { number = 0; place = 0 }
decoded_values (Err r) = record { number = number_of r.kind; place = r.place }

-- 43 where a lent list has no place for each key, then 17 where the file does not fit.
unfoldable pub decoding : List ℕ → List ℕ → List ℕ → List ℕ → DecodedValues
decoding keys bytes words read =
    cond (places_for keys words read)
    (cond (file_fits keys bytes) (record { number = 0; place = 0 }) (record { number = 17; place = 0 }))
    (record { number = 43; place = 0 })

-- A lent list after decoding: what was decoded in its first places and the others as they were, or all as it was.
unfoldable pub lent_after : Bool → List ℕ → List ℕ → List ℕ
lent_after true xs lent = xs ++ drop (length xs) lent
lent_after false xs lent = lent
