-- The file of a chip by ID and number, and by keys: a key in four bytes is the ID and the number.
use Prim.Native.Nat.{ℕ, ◌+◌, ◌*◌, ◌/◌, ◌%◌, ◌^◌, ◌<◌}
use mathlib.Core.Bool.{true}
use mathlib.Core.List.{List, [], ◌∷◌, map}
use mathlib.Core.Path.{◌≡◌, refl, sym, ◌∙◌, ap}
use native.Mathlib.Omega.{arith}
use lib.ListN.{length, length-map}
use Rattle.numbers.specs.BigEndian.{bytes_of, Bytes}
use Rattle.format.specs.Lookup.{RegisterEntry, register_entries}
use Rattle.format.specs.Rules.{Every}
use Rattle.format.specs.Tree.{Chip}
use Rattle.tables.specs.Keys.{register_keys}
use Rattle.tables.specs.Tables.{key_of}
use Rattle.readings.specs.ReadingsFile.{name_of, file_of, chip_file, key_file, Holdable, file_fits, words_of, read_of}
use Rattle.readings.proofs.DecodedLaws.{decoded_holdable}
use Rattle.readings.proofs.RoundTripLaws.{written_fits, written_words, written_read_bytes, read_is_written}

-- The key of a register instance.
abbrev pub entry_key : RegisterEntry → ℕ
entry_key e = key_of e.id e.instance.number

-- A number of one byte.
abbrev pub Numbered : RegisterEntry → Type 0
Numbered e = e.instance.number < 256

name_key : (e : RegisterEntry) → Numbered e → bytes_of 4 (entry_key e) ≡ name_of e
unfolding name_of bytes_of key_of
name_key e h =
    let i = e.id in
    let n = e.instance.number in
    let k : ℕ = i % 0x1000000 * 256 + n in
    let a : k / 16777216 % 256 ≡ i / 65536 % 256 = omega arith in
    let b : k / 65536 % 256 ≡ i / 256 % 256 = omega arith in
    let c : k / 256 % 256 ≡ i / 1 % 256 = omega arith in
    let d : k / 1 % 256 ≡ n / 1 % 256 = omega arith in
    rw (a, b, c, d)

names_keys : (es : List RegisterEntry) → Every Numbered es → map (bytes_of 4) (map entry_key es) ≡ map name_of es
unfolding Every
names_keys [] h = refl
names_keys (e ∷ es) h = rw (name_key e h.0, names_keys es h.1)

keys_small : (es : List RegisterEntry) → Every Numbered es → Every (λ k. k < 256 ^ 4) (map entry_key es)
unfolding Every key_of
keys_small [] h = tt
keys_small (e ∷ es) h = (let n : e.instance.number < 256 = h.0 in omega arith, keys_small es h.1)

module _ (c : Chip) (numbered : Every Numbered (register_entries c)) where
  -- The file of a chip is the file by its keys.
  pub chip-file : (words read : List ℕ) → key_file (register_keys c) words read ≡ chip_file c words read
  unfolding chip_file key_file
  chip-file words read = ap (λ names. file_of names words read) (names_keys (register_entries c) numbered)

  keys_many : length (register_keys c) ≡ length (register_entries c)
  keys_many = length-map (register_entries c) entry_key

  -- A file that fits gives readings for all register instances of the chip, and is the file of these readings.
  pub chip_decoded : (bytes : List ℕ) → Bytes bytes → file_fits (register_keys c) bytes ≡ true
      → Holdable (length (register_entries c)) (words_of (register_keys c) bytes) (read_of (register_keys c) bytes)
      × (chip_file c (words_of (register_keys c) bytes) (read_of (register_keys c) bytes) ≡ bytes)
  chip_decoded bytes h e = (
    rw keys_many at (decoded_holdable (register_keys c) bytes h e),
    sym (chip-file (words_of (register_keys c) bytes) (read_of (register_keys c) bytes)) ∙ read_is_written (register_keys c) bytes h e,
  )

  -- The file of readings for all register instances fits, and gives them back.
  pub chip_encoded : (words read : List ℕ) → Holdable (length (register_entries c)) words read
      → (file_fits (register_keys c) (chip_file c words read) ≡ true) × (words_of (register_keys c) (chip_file c words read) ≡ words) × (read_of (register_keys c) (chip_file c words read) ≡ read)
  chip_encoded words read h =
      let k : Holdable (length (register_keys c)) words read = rw keys_many h in
      let s = keys_small (register_entries c) numbered in
      rw (← chip-file words read)
      (written_fits (register_keys c) words read s k, written_words (register_keys c) words read s k, written_read_bytes (register_keys c) words read s k)
