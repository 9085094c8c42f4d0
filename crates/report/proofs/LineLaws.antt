-- The laws of the lines.
use Prim.Native.Nat.{ℕ, zero, suc, ◌+◌, ◌*◌, ◌^◌, ◌≤◌, ◌<◌}
use mathlib.Core.List.{List, ◌++◌, append_assoc, append-nil}
use mathlib.Core.Path.{◌≡◌, refl, sym, ◌∙◌, ap}
use native.Mathlib.Omega.{arith}
use lib.Dec.{lit≤}
use lib.ListN.{length, drop, get_or, length-append}
use lib.Seq.{drop-drop}
use Rattle.numbers.specs.Field.{field}
use Rattle.numbers.specs.BigEndian.{Bytes}
use Rattle.numbers.proofs.BigEndianLaws.{bytes_drop}
use Rattle.numbers.proofs.FieldLaws.{field_lt, field-byte, field_two, field-drop}
use Rattle.listing.specs.Records.{record_size}
use Rattle.tables.specs.Tables.{written}
use Rattle.report.specs.Text.{Put, decimal, named, type_word, node_word, inst_word, bit_word, line_end, bit_line, record_line, record_lines}
use Rattle.report.proofs.DecimalLaws.{decimal_short}
use Rattle.report.proofs.TextLaws.{put_then, put_as}

-- The line of the record at a place, by its bytes.
pub line_at : (s : List ℕ) (at : ℕ) → at + 16 ≤ length s
    → bit_line (get_or s (at + 4) 0) (get_or s (at + 6) 0 * 256 + get_or s (at + 7) 0) (get_or s (at + 8) 0) (get_or s (at + 5) 0) ≡ record_line (drop at s)
unfolding record_line
line_at s at h =
    let a : field (drop at s) 4 1 ≡ get_or s (at + 4) 0 = field-drop s at 4 1 ∙ field-byte s (at + 4) (omega arith) in
    let b : field (drop at s) 5 1 ≡ get_or s (at + 5) 0 = field-drop s at 5 1 ∙ field-byte s (at + 5) (omega arith) in
    let e : suc (at + 6) ≡ at + 7 = omega arith in
    let d : field (drop at s) 6 2 ≡ get_or s (at + 6) 0 * 256 + get_or s (at + 7) 0 =
    field-drop s at 6 2 ∙ field_two s (at + 6) (omega arith) ∙ ap (λ k. get_or s (at + 6) 0 * 256 + get_or s k 0) e in
    let f : field (drop at s) 8 1 ≡ get_or s (at + 8) 0 = field-drop s at 8 1 ∙ field-byte s (at + 8) (omega arith) in
    rw (a, b, d, f)

-- A line has at most 37 bytes.
named_short : (w : List ℕ) (k n : ℕ) → 1 ≤ k → n < 10 ^ k → length (named w n) ≤ length w + k
unfolding named
named_short w k n l h = rw (length-append w (decimal n)) (omega (arith, decimal_short k n l h))

pub line_short : (r : List ℕ) → Bytes r → length (record_line r) ≤ 37
unfolding record_line bit_line type_word node_word inst_word bit_word line_end
line_short r h =
    let one : (k : ℕ) → field r k 1 < 10 ^ 3 = λ k. omega (arith, field_lt r k 1 h) in
    let two : field r 6 2 < 10 ^ 5 = omega (arith, field_lt r 6 2 h) in
    let a = named_short type_word 3 (field r 4 1) (lit≤ tt) (one 4) in
    let b = named_short node_word 5 (field r 6 2) (lit≤ tt) two in
    let d = named_short inst_word 3 (field r 8 1) (lit≤ tt) (one 8) in
    let e = named_short bit_word 3 (field r 5 1) (lit≤ tt) (one 5) in
    simp length-append (omega (arith, a, b, d, e))

pub lines_short : (n : ℕ) (list : List ℕ) → Bytes list → length (record_lines n list) ≤ 37 * n
unfolding record_lines record_size
lines_short zero list h = omega arith
lines_short (suc n) list h =
    rw (length-append (record_line list) (record_lines n (drop 16 list)))
    (omega (arith, line_short list h, lines_short n (drop 16 list) (bytes_drop 16 list h)))

-- One line more.
lines_more : (i : ℕ) (list : List ℕ) → record_lines (suc i) list ≡ record_lines i list ++ record_line (drop (i * 16) list)
unfolding record_lines record_size
lines_more zero list = append-nil (record_line list)
lines_more (suc i) list =
    let e : 16 + i * 16 ≡ suc i * 16 = omega arith in
    ap (λ u. record_line list ++ u) (lines_more i (drop 16 list) ∙ ap (λ u. record_lines i (drop 16 list) ++ record_line u) (drop-drop (i * 16) 16 list ∙ ap (λ k. drop k list) e))
    ∙ sym (append_assoc (record_line list) (record_lines i (drop 16 list)) (record_line (drop (suc i * 16) list)))

-- The lines of records hang on their bytes alone.
pub lines_same : (n : ℕ) (s t : List ℕ) → n * 16 ≤ length s → n * 16 ≤ length t → ((k : ℕ) → k < n * 16 → get_or s k 0 ≡ get_or t k 0) → record_lines n s ≡ record_lines n t
unfolding record_lines
lines_same zero s t a b h = refl
lines_same (suc n) s t a b h =
    let x = n * 16 in
    let e : bit_line (get_or s (x + 4) 0) (get_or s (x + 6) 0 * 256 + get_or s (x + 7) 0) (get_or s (x + 8) 0) (get_or s (x + 5) 0)
    ≡ bit_line (get_or t (x + 4) 0) (get_or t (x + 6) 0 * 256 + get_or t (x + 7) 0) (get_or t (x + 8) 0) (get_or t (x + 5) 0) =
    rw (h (x + 4) (omega arith), h (x + 5) (omega arith), h (x + 6) (omega arith), h (x + 7) (omega arith), h (x + 8) (omega arith)) in
    let l : record_line (drop x s) ≡ record_line (drop x t) = sym (line_at s x (omega arith)) ∙ e ∙ line_at t x (omega arith) in
    let r : record_lines n s ≡ record_lines n t = lines_same n s t (omega arith) (omega arith) (λ k i. h k (omega arith)) in
    lines_more n s ∙ ap (λ u. u ++ record_line (drop x s)) r ∙ ap (λ u. record_lines n t ++ u) l ∙ sym (lines_more n t)

module _ (list : List ℕ) {t : List ℕ} where
  pub lines_begin : Put t 0 (record_lines 0 list) t 0
  unfolding record_lines written
  lines_begin = record { text = refl; place = refl }

  pub lines_next : (i : ℕ) {at k : ℕ} {u v : List ℕ} → Put t 0 (record_lines i list) u at → Put u at (record_line (drop (i * 16) list)) v k → Put t 0 (record_lines (i + 1) list) v k
  lines_next i p q = put_as (put_then p q) (sym (lines_more i list) ∙ ap (λ n. record_lines n list) (let e : suc i ≡ i + 1 = omega arith in e))

  pub lines_end : (i n : ℕ) {at : ℕ} {u : List ℕ} → i ≤ n → n ≤ i → Put t 0 (record_lines i list) u at → Put t 0 (record_lines n list) u at
  lines_end i n l h p = put_as p (ap (λ k. record_lines k list) (let e : i ≡ n = omega arith in e))
