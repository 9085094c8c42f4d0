-- A record in a lent output.
use Rattle.std.proofs.Common.{ℕ, ◌+◌, ◌-◌, ◌/◌, ◌%◌, ◌≤◌, ◌<◌, ◌≡◌, List, [], ◌∷◌, ◌++◌, append_assoc, ap, ◌∙◌, length, take, drop, length-append, length-take, length-drop, arith}
use borrow.Rule.Slice.PartMut.{put_mid}
use lib.Seq.{drop-drop}
use Rattle.std.proofs.lemmas.Slice.{take-put_mid, drop-put_mid}
use Rattle.std.specs.Int.{bytes_high_first}
use Rattle.numbers.specs.BigEndian.{bytes_of}
use Rattle.numbers.proofs.FieldLaws.{present_yes}
use Rattle.records.specs.declared.Record.{Record}
use Rattle.records.specs.Record.{record_bytes, put_record}

-- The bytes of numbers, as the library writes them.

one_byte : (n : ℕ) → n < 256 → bytes_of 1 n ≡ n ∷ []
unfolding bytes_of
one_byte n h = let e : n / 1 % 256 ≡ n = omega arith in rw e

four_bytes : (n : ℕ) → bytes_high_first 4 (n % 0x1_0000_0000) ≡ bytes_of 4 n
unfolding bytes_of
four_bytes n =
    let a : n % 0x1_0000_0000 / 0x100_0000 % 256 ≡ n / 0x100_0000 % 256 = omega arith in
    let b : n % 0x1_0000_0000 / 0x1_0000 % 256 ≡ n / 0x1_0000 % 256 = omega arith in
    let c : n % 0x1_0000_0000 / 256 % 256 ≡ n / 256 % 256 = omega arith in
    let d : n % 0x1_0000_0000 % 256 ≡ n / 1 % 256 = omega arith in
    rw (a, b, c, d)

eight_bytes : (n : ℕ) → bytes_high_first 8 n ≡ bytes_of 8 n
unfolding bytes_of
eight_bytes n = let e : n % 256 ≡ n / 1 % 256 = omega arith in rw e

-- A part that was written leaves the length as it was.
length_put : (s : List ℕ) (at k : ℕ) (xs : List ℕ) → at + k ≤ length s → length xs ≡ k → length (put_mid at k s xs) ≡ length s
length_put s at k xs l e = simp (length-append, length-take, length-drop) (omega arith)

-- Three parts, one behind another.
three_parts : (s : List ℕ) (at : ℕ) (xs ys zs : List ℕ) → at + 16 ≤ length s → length xs ≡ 4 → length ys ≡ 4
    → put_mid (at + 8) (at + 16 - (at + 8)) (put_mid (at + 4) (at + 8 - (at + 4)) (put_mid at (at + 4 - at) s xs) ys) zs
    ≡ take at s ++ (xs ++ (ys ++ (zs ++ drop (at + 16) s)))
three_parts s at xs ys zs l ex ey =
    let one = put_mid at (at + 4 - at) s xs in
    let two = put_mid (at + 4) (at + 8 - (at + 4)) one ys in
    let len : length one ≡ length s = length_put s at (at + 4 - at) xs (omega arith) (omega arith) in
    let first : take (at + 4) one ≡ take at s ++ xs = take-put_mid at (at + 4 - at) s xs (at + 4) (omega arith) (omega arith) in
    let second : take (at + 8) two ≡ take (at + 4) one ++ ys = take-put_mid (at + 4) (at + 8 - (at + 4)) one ys (at + 8) (omega arith) (omega arith) in
    let sum : at + 8 + (at + 16 - (at + 8)) ≡ at + 16 = omega arith in
    let behind : drop (at + 16 - (at + 8)) (drop (at + 8) two) ≡ drop (at + 16) s =
    drop-drop (at + 16 - (at + 8)) (at + 8) two ∙ ap (λ k. drop k two) sum
    ∙ drop-put_mid (at + 4) (at + 8 - (at + 4)) one ys (at + 16) (omega arith) (omega arith) (omega arith)
    ∙ drop-put_mid at (at + 4 - at) s xs (at + 16) (omega arith) (omega arith) (omega arith) in
    rw (behind, second, first) (simp append_assoc)

-- They are a whole record.
pub record_put : (s : List ℕ) (at : ℕ) (r : Record) {xs ys zs : List ℕ} → at + 16 ≤ length s → r.kind < 256 → r.form < 256 → r.amount < 256 → r.number < 256
    → xs ≡ r.kind ∷ r.form ∷ r.amount ∷ r.number ∷ [] → ys ≡ bytes_high_first 4 (r.id % 0x1_0000_0000) → zs ≡ bytes_high_first 8 r.value
    → put_mid (at + 8) (at + 16 - (at + 8)) (put_mid (at + 4) (at + 8 - (at + 4)) (put_mid at (at + 4 - at) s xs) ys) zs ≡ put_record s at r
unfolding put_record record_bytes
record_put s at r {xs} {ys} {zs} l hk hf ha hn ex ey ez =
    rw (three_parts s at xs ys zs l (rw ex) (rw ey), present_yes s at 16 l, one_byte r.kind hk, one_byte r.form hf, one_byte r.amount ha, one_byte r.number hn, ← four_bytes r.id, ← eight_bytes r.value, ex, ey, ez)
