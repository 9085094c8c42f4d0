-- Rows one after another in two tables: how many bits they have, and their records.
use mathlib.Core.Path.{◌≡◌, refl, sym, ap, ◌∙◌}
use mathlib.Core.Bool.{Bool, true, false, cond}
use mathlib.Core.List.{List, [], ◌∷◌, ◌++◌, append-nil}
use Prim.Native.Nat.{ℕ, zero, suc, ◌+◌, ◌*◌, ◌^◌, ◌≤◌, ◌<◌, min}
use native.Mathlib.Numerals.{add-one}
use native.Mathlib.Omega.{arith}
use borrow.Author.Tests.{eqb-true, eq-eqb, ne_eqb}
use lib.Count.{ones}
use lib.Dec.{eqb}
use lib.ListN.{length, get_or, set, take, length-append}
use lib.Seq.{take-suc, take-suc-set, take-nil, take_all, length-take-le}
use Rattle.limits.specs.Limits.{slots, board_node_instances}
use Rattle.graph.specs.Chains.{Graph, below}
use Rattle.format.specs.Lookup.{gathered}
use Rattle.format.proofs.GatheredLaws.{gathered-append, gathered_one}
use Rattle.walk.specs.TableGraph.{table_size, table_graph}
use Rattle.listing.specs.Rows.{row_links, rows_to, row_word, set_to, head_of, word_records, row_records, rows_records, Row, row, rows_of, first_rows, kept_count, kept_records, RowsKept, table_links, table_records}
use Rattle.listing.proofs.RowsLaws.{rows_none, rows_more}
use Rattle.listing.proofs.WordLaws.{set-ones, set_none, set_few, word_none, row-set, row-records}

-- Rows of two tables

-- Two tables have as many rows as the shorter one has places.
pub rows_least : (heads words : List ℕ) (n : ℕ) → min (length heads) (length words) ≤ n → rows_of (take n heads) (take n words) ≡ rows_of heads words
unfolding rows_of
rows_least [] words n l = rw (take-nil n)
rows_least (h ∷ heads) [] zero l = refl
rows_least (h ∷ heads) [] (suc n) l = refl
rows_least (h ∷ heads) (w ∷ words) zero l = absurd (omega arith)
rows_least (h ∷ heads) (w ∷ words) (suc n) l = ap (λ r. row h w ∷ r) (rows_least heads words n (omega arith))

-- All rows of two tables of one length.
pub rows_all : (heads words : List ℕ) → length heads ≡ length words → (n : ℕ) → length heads ≤ n → first_rows n heads words ≡ rows_of heads words
unfolding first_rows
rows_all heads words same n l = rw (take_all n heads (omega arith), take_all n words (omega arith))

pub rows_append : (a b c d : List ℕ) → length a ≡ length c → rows_of (a ++ b) (c ++ d) ≡ rows_of a c ++ rows_of b d
unfolding rows_of
rows_append [] b [] d e = refl
rows_append [] b (w ∷ c) d e = absurd (omega arith)
rows_append (h ∷ a) b [] d e = absurd (omega arith)
rows_append (h ∷ a) b (w ∷ c) d e = ap (λ r. row h w ∷ r) (rows_append a b c d (omega arith))

-- Their bits and records

pub count-append : (rs qs : List Row) → kept_count (rs ++ qs) ≡ kept_count rs + kept_count qs
unfolding kept_count
count-append rs qs = ap length (gathered-append (λ r. set_to r.word 64) rs qs) ∙ length-append (gathered (λ r. set_to r.word 64) rs) (gathered (λ r. set_to r.word 64) qs)

pub records-append : (attention : ℕ) (rs qs : List Row) → kept_records attention (rs ++ qs) ≡ kept_records attention rs ++ kept_records attention qs
unfolding kept_records
records-append attention rs qs = gathered-append (λ r. word_records attention r.head r.word) rs qs

count_row : (h w : ℕ) → kept_count (row h w ∷ []) ≡ length (set_to w 64)
unfolding kept_count
count_row h w = ap length (gathered_one (λ r. set_to r.word 64) (row h w))

records_row : (attention h w : ℕ) → kept_records attention (row h w ∷ []) ≡ word_records attention h w
unfolding kept_records
records_row attention h w = gathered_one (λ r. word_records attention r.head r.word) (row h w)

count_one : (rs : List Row) (h w : ℕ) → kept_count (rs ++ (row h w ∷ [])) ≡ kept_count rs + length (set_to w 64)
count_one rs h w = rw (count-append rs (row h w ∷ []), count_row h w)

pub records_one : (attention : ℕ) (rs : List Row) (h w : ℕ) → kept_records attention (rs ++ (row h w ∷ [])) ≡ kept_records attention rs ++ word_records attention h w
records_one attention rs h w = rw (records-append attention rs (row h w ∷ []), records_row attention h w)

no_count : kept_count [] ≡ 0
unfolding kept_count gathered
no_count = refl

no_records : (attention : ℕ) → kept_records attention [] ≡ []
unfolding kept_records gathered
no_records attention = refl

count-cons : (h w : ℕ) (rs : List Row) → kept_count (row h w ∷ rs) ≡ length (set_to w 64) + kept_count rs
count-cons h w rs = count-append (row h w ∷ []) rs ∙ ap (λ k. k + kept_count rs) (count_row h w)

pub count_mono : (heads words : List ℕ) (i n : ℕ) → i ≤ n → kept_count (first_rows i heads words) ≤ kept_count (first_rows n heads words)
unfolding first_rows rows_of
count_mono heads words zero n l = omega (arith, no_count)
count_mono heads words (suc i) zero l = absurd (omega arith)
count_mono [] words (suc i) (suc n) l = omega arith
count_mono (h ∷ heads) [] (suc i) (suc n) l = omega arith
count_mono (h ∷ heads) (w ∷ words) (suc i) (suc n) l =
    omega (
      arith,
      count_mono heads words i n (omega arith),
      count-cons h w (rows_of (take i heads) (take i words)),
      count-cons h w (rows_of (take n heads) (take n words)),
    )

one_row : (h w : ℕ) → rows_of (h ∷ []) (w ∷ []) ≡ row h w ∷ []
unfolding rows_of
one_row h w = refl

module _ (heads words : List ℕ) (i : ℕ) (in_heads : i < length heads) (in_words : i < length words) where
  same : length (take i heads) ≡ length (take i words)
  same = length-take-le i heads (omega arith) ∙ sym (length-take-le i words (omega arith))

  pub rows_next : first_rows (i + 1) heads words ≡ first_rows i heads words ++ (row (get_or heads i 0) (get_or words i 0) ∷ [])
  unfolding first_rows
  rows_next =
      rw (add-one, take-suc heads i 0 in_heads, take-suc words i 0 in_words, rows_append (take i heads) (get_or heads i 0 ∷ []) (take i words) (get_or words i 0 ∷ []) same, one_row)

  -- A row that is stored.
  pub rows-set : (h w : ℕ) → first_rows (i + 1) (set heads i h) (set words i w) ≡ first_rows i heads words ++ (row h w ∷ [])
  unfolding first_rows
  rows-set h w =
      rw (add-one, take-suc-set heads i h in_heads, take-suc-set words i w in_words, rows_append (take i heads) (h ∷ []) (take i words) (w ∷ []) same, one_row)

  pub count_next : kept_count (first_rows (i + 1) heads words) ≡ kept_count (first_rows i heads words) + length (set_to (get_or words i 0) 64)
  count_next = ap kept_count rows_next ∙ count_one (first_rows i heads words) (get_or heads i 0) (get_or words i 0)

-- A word without a bit makes no row.
pub row_passed : (heads words : List ℕ) (k h w : ℕ) → w ≡ 0 → first_rows k heads words ≡ first_rows k heads words ++ cond (eqb w 0) [] (row h w ∷ [])
row_passed heads words k h w e = rw (eq-eqb w 0 e) (sym (append-nil (first_rows k heads words)))

pub row_stored : (heads words : List ℕ) (k : ℕ) → k < length heads → k < length words → (h w : ℕ) → (w ≡ 0 → ⊥)
    → first_rows (k + 1) (set heads k h) (set words k w) ≡ first_rows k heads words ++ cond (eqb w 0) [] (row h w ∷ [])
row_stored heads words k a b h w n = rw (ne_eqb w 0 n) (rows-set heads words k a b h w)

-- The head of a node instance by its key.
pub head_keyed : (model slot : ℕ) (keys : List ℕ) (i : ℕ) {key head : ℕ} → key ≡ get_or keys i 0 → head ≡ head_of model slot key → head ≡ head_of model slot (get_or keys i 0)
head_keyed model slot keys i e d = d ∙ ap (head_of model slot) e

-- The first pass: node instance after node instance

word-count : (h w : ℕ) → kept_count (cond (eqb w 0) [] (row h w ∷ [])) ≡ length (set_to w 64)
word-count h w = go (eqb w 0) refl
  where
    go : (t : Bool) → eqb w 0 ≡ t → kept_count (cond t [] (row h w ∷ [])) ≡ length (set_to w 64)
    go true e = no_count ∙ sym (ap length (ap (λ x. set_to x 64) (eqb-true w 0 e) ∙ set_none))
    go false e = count_row h w

word-records : (attention h w : ℕ) → kept_records attention (cond (eqb w 0) [] (row h w ∷ [])) ≡ word_records attention h w
word-records attention h w = go (eqb w 0) refl
  where
    go : (t : Bool) → eqb w 0 ≡ t → kept_records attention (cond t [] (row h w ∷ [])) ≡ word_records attention h w
    go true e = no_records attention ∙ sym (ap (word_records attention h) (eqb-true w 0 e) ∙ word_none attention h)
    go false e = records_row attention h w

module _ (model slot : ℕ) (keys : List ℕ) (g : Graph) (marks : List ℕ) where
  records_more : (attention i : ℕ) → rows_records model slot attention keys g marks (i + 1) ≡ rows_records model slot attention keys g marks i ++ row_records model slot attention keys g marks i
  unfolding rows_records below
  records_more attention i = rw add-one (gathered-append (row_records model slot attention keys g marks) (below i) (i ∷ []) ∙ rw gathered_one)

  pub kept_none : (heads words : List ℕ) → RowsKept model slot keys g marks 0 (first_rows 0 heads words)
  unfolding first_rows rows_of rows_records below gathered
  kept_none heads words = record { count = no_count ∙ rows_none g marks; records = λ attention. no_records attention }

  pub kept_next : (i : ℕ) {head word : ℕ} {rs qs : List Row} → RowsKept model slot keys g marks i rs → word ≡ row_word g marks i → head ≡ head_of model slot (get_or keys i 0)
      → qs ≡ rs ++ cond (eqb word 0) [] (row head word ∷ []) → RowsKept model slot keys g marks (i + 1) qs
  kept_next i {head} {word} {rs} {qs} k w h e =
      record {
        count =
            ap kept_count e ∙ count-append rs _
            ∙ omega (
              arith,
              word-count head word,
              k.count,
              row-set g marks i w,
              ap length (rows_more g marks i),
              length-append (rows_to g marks i) (row_links g marks i),
            );
        records = λ attention.
            ap (kept_records attention) e ∙ records-append attention rs _
            ∙ rw (word-records attention head word, k.records attention, h, row-records model slot attention keys g marks i w) (sym (records_more attention i));
      }

-- The rows of two tables' graph.
pub table_kept : (model slot : ℕ) (keys marks act ch : List ℕ) (n : ℕ) → n ≡ table_size act → {rs : List Row} → RowsKept model slot keys (table_graph act ch) marks n rs
    → (kept_count rs ≡ length (table_links marks act ch)) × ((attention : ℕ) → kept_records attention rs ≡ table_records model slot attention keys marks act ch)
unfolding table_links table_records
table_kept model slot keys marks act ch n size k = rw (← size) (k.count, k.records)

-- A board's rows.
pub most_rows : board_node_instances ≡ 16384
unfolding board_node_instances slots
most_rows = refl

-- Counting: row after row.
pub count_none : (heads words : List ℕ) → 0 ≡ kept_count (first_rows 0 heads words)
unfolding first_rows rows_of
count_none heads words = sym no_count

pub count_few : (heads words : List ℕ) (n : ℕ) → n ≤ length heads → n ≤ length words → kept_count (first_rows n heads words) ≤ n * 64
count_few heads words zero a b = omega (arith, count_none heads words)
count_few heads words (suc n) a b =
    let e : kept_count (first_rows (suc n) heads words) ≡ kept_count (first_rows (n + 1) heads words) = ap (λ k. kept_count (first_rows k heads words)) (sym (add-one n)) in
    omega (arith, e, count_next heads words n (omega arith) (omega arith), set_few (get_or words n 0), count_few heads words n (omega arith) (omega arith))

-- The words of the rows, one after another.
module _ (heads words : List ℕ) (i : ℕ) (same : length heads ≡ length words) (within : i < length words)
    {count : ℕ} (counted : count ≡ kept_count (first_rows i heads words)) (fits : get_or words i 0 < 2 ^ 64) where
  pub counted_next : count + ones (get_or words i 0) ≡ kept_count (first_rows (i + 1) heads words)
  counted_next = omega (arith, counted, set-ones (get_or words i 0) fits, count_next heads words i (omega arith) within)

  pub counted_few : count + ones (get_or words i 0) ≤ length heads * 64
  counted_few = omega (arith, counted_next, count_few heads words (i + 1) (omega arith) (omega arith))
