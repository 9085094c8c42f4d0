-- The laws of the listing, node instance after node instance and bit after bit.
use mathlib.Core.Path.{◌≡◌, refl, sym, ◌∙◌}
use mathlib.Core.Bool.{Bool, true, false, cond}
use mathlib.Core.List.{List, [], ◌∷◌, ◌++◌, append_assoc}
use Prim.Native.Nat.{ℕ, suc, ◌+◌, ◌*◌, ◌/◌, ◌%◌, ◌^◌, ◌≤◌, ◌<◌}
use native.Mathlib.Omega.{arith}
use native.Mathlib.Numerals.{add-one}
use lib.Dec.{eqb, ltb}
use lib.Seq.{sets-eq}
use lib.ListN.{length, get_or, set, take, drop, get_or-eq_default}
use borrow.Author.Tests.{eqb-true, eq-eqb, lt-ltb}
use Rattle.numbers.specs.Bits.{bit_of}
use Rattle.numbers.specs.BigEndian.{bytes_of}
use Rattle.numbers.proofs.BitsLaws.{zero_bit, word_none}
use Rattle.numbers.proofs.Bools.{same_truth}
use Rattle.graph.specs.Chains.{Graph, Silent, silent, nothing_below, listable, below, kept}
use Rattle.graph.proofs.ChainsLaws.{silent_words}
use Rattle.format.specs.Lookup.{gathered}
use Rattle.format.proofs.GatheredLaws.{gathered-append, gathered_one}
use Rattle.walk.specs.TableGraph.{table_size, child_at, table_graph}
use Rattle.walk.specs.Fold.{or_else}
use Rattle.walk.proofs.Tables.{found_none, found_some, table_sound}
use Rattle.listing.specs.Records.{record_of, bit_bytes}
use Rattle.listing.specs.Rows.{is_done, row_links, rows_to, key_id, key_number, head_model, head_slot, head_record}

-- One bit

-- A node instance is silent exactly where its word is 0.
word_silent : (act ch : List ℕ) (c : ℕ) → c < table_size act → get_or act c 0 < 2 ^ 64 → eqb (get_or act c 0) 0 ≡ silent (table_graph act ch) c
unfolding table_graph
word_silent act ch c l w =
    let s = silent_words (table_graph act ch) (table_sound act ch) c in
    same_truth _ _ (λ e. s.1 (off (eqb-true _ 0 e))) (λ e. eq-eqb _ 0 (word_none 64 _ w (λ b h. zero b (s.0 e b))))
  where
    off : get_or act c 0 ≡ 0 → Silent (table_graph act ch) c
    off e b = simp (lt-ltb c _ l, e, zero_bit 64 b)

    zero : (b : ℕ) → (table_graph act ch).active c b ≡ false → bit_of 64 (get_or act c 0) b ≡ false
    zero b e = simp (lt-ltb c _ l) at e

module _ (act ch : List ℕ) (n i b : ℕ) (size : n ≡ table_size act) (h : i < n) (b64 : b < 64) where
  i_in : ltb i (table_size act) ≡ true
  i_in = rw (← size) (lt-ltb i n h)

  pub listable_off : bit_of 64 (get_or act i 0) b ≡ false → false ≡ listable (table_graph act ch) i b
  unfolding listable table_graph
  listable_off e = simp (i_in, e)

  module _ (on : bit_of 64 (get_or act i 0) b ≡ true) {c : ℕ} (found : c ≡ or_else n (child_at n ch (i * 64 + b))) where
    pub listable_childless : n ≤ c → true ≡ listable (table_graph act ch) i b
    unfolding listable nothing_below table_graph
    listable_childless l = simp (i_in, on, lt-ltb b 64 b64, found_none act ch n (i * 64 + b) size found l)

    pub listable_child : c < n → get_or act c 0 < 2 ^ 64 → eqb (get_or act c 0) 0 ≡ listable (table_graph act ch) i b
    unfolding listable nothing_below table_graph
    listable_child l w =
        simp (i_in, on, lt-ltb b 64 b64, found_some act ch n (i * 64 + b) size found l) (word_silent act ch c (omega (arith, size, l)) w)

-- A node instance that has no mark is not done.
pub done_none : (marks : List ℕ) (i : ℕ) → length marks ≤ i → false ≡ is_done marks i
unfolding is_done
done_none marks i h = rw (get_or-eq_default marks 0 h)

-- One bit more, and one node instance more

pub kept_append : (p : ℕ → Bool) (xs ys : List ℕ) → kept p (xs ++ ys) ≡ kept p xs ++ kept p ys
unfolding kept
kept_append p [] ys = refl
kept_append p (x ∷ xs) ys = go (p x) (kept_append p xs ys)
  where
    go : (t : Bool) {k : List ℕ} → k ≡ kept p xs ++ kept p ys → cond t (x ∷ k) k ≡ cond t (x ∷ kept p xs) (kept p xs) ++ kept p ys
    go true e = rw e
    go false e = e

pub kept_few : (p : ℕ → Bool) (xs : List ℕ) → length (kept p xs) ≤ length xs
unfolding kept
kept_few p [] = omega arith
kept_few p (x ∷ xs) = go (p x) (kept_few p xs)
  where
    go : (t : Bool) → length (kept p xs) ≤ length xs → length (cond t (x ∷ kept p xs) (kept p xs)) ≤ suc (length xs)
    go true h = omega arith
    go false h = omega arith

module _ (g : Graph) (marks : List ℕ) where
  pub rows_none : 0 ≡ length (rows_to g marks 0)
  unfolding rows_to below gathered
  rows_none = refl

  pub rows_more : (i : ℕ) → rows_to g marks (i + 1) ≡ rows_to g marks i ++ row_links g marks i
  unfolding rows_to below
  rows_more i = rw add-one (gathered-append (row_links g marks) (below i) (i ∷ []) ∙ rw gathered_one)

-- A record's sixteen bytes

record_is : (attention h bit : ℕ) → attention < 256 → h < 0x1_0000_0000_0000_0000 → bit < 256
    → h / 0x100_0000_0000_0000 ∷ h / 0x1_0000_0000_0000 % 256 ∷ h / 0x100_0000_0000 % 256 ∷ h / 0x1_0000_0000 % 256
    ∷ attention ∷ bit ∷ h / 0x1_0000 % 256 ∷ h / 256 % 256 ∷ h % 256 ∷ h / 0x100_0000 % 256 ∷ 0 ∷ 0 ∷ 0 ∷ 0 ∷ 0 ∷ 0 ∷ []
    ≡ head_record attention h bit
unfolding head_record head_model head_slot key_id key_number record_of bit_bytes bytes_of
record_is attention h bit ha hh hb =
    let m0 : h / 0x1_0000_0000 / 0x100_0000 % 256 ≡ h / 0x100_0000_0000_0000 = omega arith in
    let m1 : h / 0x1_0000_0000 / 0x1_0000 % 256 ≡ h / 0x1_0000_0000_0000 % 256 = omega arith in
    let m2 : h / 0x1_0000_0000 / 256 % 256 ≡ h / 0x100_0000_0000 % 256 = omega arith in
    let m3 : h / 0x1_0000_0000 / 1 % 256 ≡ h / 0x1_0000_0000 % 256 = omega arith in
    let a : attention / 1 % 256 ≡ attention = omega arith in
    let b : bit / 1 % 256 ≡ bit = omega arith in
    let i : h / 256 % 65536 / 256 % 256 ≡ h / 0x1_0000 % 256 = omega arith in
    let j : h / 256 % 65536 / 1 % 256 ≡ h / 256 % 256 = omega arith in
    let n : h % 256 / 1 % 256 ≡ h % 256 = omega arith in
    let s : h / 0x100_0000 % 256 / 1 % 256 ≡ h / 0x100_0000 % 256 = omega arith in
    sym (rw (m0, m1, m2, m3, a, b, i, j, n, s))

pub record_put : (list : List ℕ) (at attention h bit : ℕ) → at + 16 ≤ length list → attention < 256 → h < 0x1_0000_0000_0000_0000 → bit < 256
    → set (set (set (set (set (set (set (set (set (set (set (set (set (set (set (set list at (h / 0x100_0000_0000_0000)) (at + 1) (h / 0x1_0000_0000_0000 % 256)) (at + 2) (h / 0x100_0000_0000 % 256)) (at + 3) (h / 0x1_0000_0000 % 256))
    (at + 4) attention) (at + 5) bit) (at + 6) (h / 0x1_0000 % 256)) (at + 7) (h / 256 % 256)) (at + 8) (h % 256)) (at + 9) (h / 0x100_0000 % 256)) (at + 10) 0) (at + 11) 0) (at + 12) 0) (at + 13) 0) (at + 14) 0) (at + 15) 0
    ≡ take at list ++ (head_record attention h bit ++ drop (at + 16) list)
record_put list at attention h bit l ha hh hb =
    let vs : List ℕ =
    h / 0x100_0000_0000_0000 ∷ h / 0x1_0000_0000_0000 % 256 ∷ h / 0x100_0000_0000 % 256 ∷ h / 0x1_0000_0000 % 256 ∷ attention ∷ bit
    ∷ h / 0x1_0000 % 256 ∷ h / 256 % 256 ∷ h % 256 ∷ h / 0x100_0000 % 256 ∷ 0 ∷ 0 ∷ 0 ∷ 0 ∷ 0 ∷ 0 ∷ [] in
    let e1 : at + 1 ≡ suc at = omega arith in
    let e2 : at + 2 ≡ suc (suc at) = omega arith in
    let e3 : at + 3 ≡ suc (suc (suc at)) = omega arith in
    let e4 : at + 4 ≡ suc (suc (suc (suc at))) = omega arith in
    let e5 : at + 5 ≡ suc (suc (suc (suc (suc at)))) = omega arith in
    let e6 : at + 6 ≡ suc (suc (suc (suc (suc (suc at))))) = omega arith in
    let e7 : at + 7 ≡ suc (suc (suc (suc (suc (suc (suc at)))))) = omega arith in
    let e8 : at + 8 ≡ suc (suc (suc (suc (suc (suc (suc (suc at))))))) = omega arith in
    let e9 : at + 9 ≡ suc (suc (suc (suc (suc (suc (suc (suc (suc at)))))))) = omega arith in
    let e10 : at + 10 ≡ suc (suc (suc (suc (suc (suc (suc (suc (suc (suc at))))))))) = omega arith in
    let e11 : at + 11 ≡ suc (suc (suc (suc (suc (suc (suc (suc (suc (suc (suc at)))))))))) = omega arith in
    let e12 : at + 12 ≡ suc (suc (suc (suc (suc (suc (suc (suc (suc (suc (suc (suc at))))))))))) = omega arith in
    let e13 : at + 13 ≡ suc (suc (suc (suc (suc (suc (suc (suc (suc (suc (suc (suc (suc at)))))))))))) = omega arith in
    let e14 : at + 14 ≡ suc (suc (suc (suc (suc (suc (suc (suc (suc (suc (suc (suc (suc (suc at))))))))))))) = omega arith in
    let e15 : at + 15 ≡ suc (suc (suc (suc (suc (suc (suc (suc (suc (suc (suc (suc (suc (suc (suc at)))))))))))))) = omega arith in
    rw (e1, e2, e3, e4, e5, e6, e7, e8, e9, e10, e11, e12, e13, e14, e15, ← record_is attention h bit ha hh hb)
    (sets-eq vs list at l ∙ append_assoc (take at list) vs (drop (at + 16) list))
