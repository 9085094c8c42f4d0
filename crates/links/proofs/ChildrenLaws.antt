-- The laws of a node instance's children in a table.
use Prim.Native.Nat.{ℕ, zero, suc, ◌+◌, ◌-◌, ◌≤◌, ◌<◌}
use mathlib.Core.Bool.{true}
use mathlib.Core.List.{List, [], ◌∷◌, append-nil, append_assoc}
use mathlib.Core.Path.{◌≡◌, refl, sym, ◌∙◌, ap}
use native.Mathlib.Numerals.{add-one, sub-one}
use native.Mathlib.Omega.{arith}
use borrow.Author.Tests.{ltb-true}
use borrow.Rule.Slice.PartMut.{mid_of, put_mid}
use lib.ListN.{length, drop, set, length-set, length-replicate, length-drop, replicate-append-replicate, drop_of_length-le}
use lib.Seq.{set-set, set_comm, sets, sets-eq, length-take-le, drop-drop}
use Rattle.format.specs.NodeLayout.{child_at}
use Rattle.format.specs.Parsed.{done, row_at}
use Rattle.format.specs.Rules.{Every}
use Rattle.format.specs.Tree.{Child, NodeInstance}
use Rattle.format.proofs.ParsedLaws.{then_out, making_out, requiring_out}
use Rattle.tables.specs.Tables.{written}
use Rattle.tables.proofs.TablesLaws.{written_front, written-append, written-length}
use Rattle.tables.proofs.WritingLaws.{written_beyond}
use Rattle.index.proofs.RowsLaws.{row_every}
use Rattle.links.specs.Links.{child_number, children_put, childless, child_row}

-- The bit of a child that was read.
child_small : (s : List ℕ) (before : List Child) (at : ℕ) (k : Child) (m : ℕ) → child_at s true before at ≡ done k m → k.bit < 64
unfolding child_at
child_small s before at k m e =
    let t = then_out _ _ e in
    let q = requiring_out _ _ _ _ t.2 in
    let p = requiring_out _ _ _ _ q.0 in
    let c = then_out _ _ t.3 in
    let g = making_out _ _ c.3 in
    let b : t.0 ≡ k.bit = ap (λ x. x.bit) g.2 in
    let l : t.0 < 64 = ltb-true _ _ p.1 in
    omega arith

pub children_small : (s : List ℕ) (n : ℕ) (before : List Child) (at : ℕ) {ks : List Child} {m : ℕ} → row_at (child_at s true) n before at ≡ done ks m → Every (λ k. k.bit < 64) ks
children_small s n before at e = row_every (child_at s true) (λ k. k.bit < 64) (child_small s) n before at e

-- Places without a child.

pub childless-length : (n : ℕ) → length (childless n) ≡ n
unfolding childless
childless-length n = length-replicate n 0xFFFF

pub cleared_next : (t : List ℕ) (p left : ℕ) {u : List ℕ} → u ≡ set t p 0xFFFF → 0 < left → written u (p + 1) (childless (left - 1)) ≡ written t p (childless left)
unfolding childless written
cleared_next t p zero e h = absurd (omega arith)
cleared_next t p (suc n) e h = rw (e, add-one, sub-one)

pub cleared_end : (t : List ℕ) (p left : ℕ) → left ≤ 0 → written t p (childless left) ≡ t
unfolding childless written
cleared_end t p zero h = refl
cleared_end t p (suc n) h = absurd (omega arith)

-- A whole table, place after place.

pub cleared_whole : (t : List ℕ) → written t 0 (childless (length t - 0)) ≡ childless (length t)
cleared_whole t =
    let e : length t - 0 ≡ length t = omega arith in
    let l : length (childless (length t)) ≡ length t = childless-length (length t) in
    rw (e, written_front t (childless (length t)) (omega arith), drop_of_length-le t {i = length (childless (length t))} (omega arith)) (append-nil _)

pub cleared_on : (t : List ℕ) (p n : ℕ) {u : List ℕ} → u ≡ set t p 0xFFFF → p < n → written u (p + 1) (childless (n - (p + 1))) ≡ written t p (childless (n - p))
cleared_on t p n {u} e h =
    ap (λ k. written u (p + 1) (childless k)) (let d : n - (p + 1) ≡ n - p - 1 = omega arith in d) ∙ cleared_next t p (n - p) e (omega arith)

-- A part of a table, within it and up to its end.

written_sets : (t : List ℕ) (k : ℕ) (xs : List ℕ) → written t k xs ≡ sets t k xs
unfolding written
written_sets t k [] = refl
written_sets t k (x ∷ xs) = written_sets (set t k x) (suc k) xs

-- What is put in the place of a part is written there.
pub part_written : (t : List ℕ) (k n : ℕ) (u : List ℕ) → k + n ≤ length t → length u ≡ n → put_mid k n t u ≡ written t k u
part_written t k n u h e =
    let z : k + length u ≡ k + n = omega arith in
    rw (drop-drop n k t) (sym (written_sets t k u ∙ sets-eq u t k (omega arith) ∙ rw (z, append_assoc)))

pub part_length : (t : List ℕ) (k n : ℕ) → k + n ≤ length t → length (mid_of k n t) ≡ n
part_length t k n h = let d : length (drop k t) ≡ length t - k = length-drop k t in length-take-le n (drop k t) (omega arith)

pub cleared_part : (t : List ℕ) (k n : ℕ) {u : List ℕ} → k + n ≤ length t → u ≡ childless (length (mid_of k n t)) → put_mid k n t u ≡ written t k (childless n)
cleared_part t k n {u} h e =
    let i : u ≡ childless n = e ∙ ap childless (part_length t k n h) in
    part_written t k n u h (ap length i ∙ childless-length n) ∙ ap (written t k) i

pub cleared_most : (t : List ℕ) (k m n : ℕ) → length t ≤ k + m → m ≤ n → written t k (childless m) ≡ written t k (childless n)
unfolding childless
cleared_most t k m n h l =
    let e : m + (n - m) ≡ n = omega arith in
    let b : length (written t k (childless m)) ≤ k + length (childless m) = omega (arith, written-length t k (childless m), childless-length m) in
    sym (rw (← e, ← replicate-append-replicate {A = ℕ} m (n - m) 0xFFFF) (written-append t k (childless m) (childless (n - m)) ∙ written_beyond _ _ _ b))

-- Children in a table.

pub linked-length : (nodes t : List ℕ) (at : ℕ) (ks : List Child) → length (children_put nodes t at ks) ≡ length t
unfolding children_put
linked-length nodes t at [] = refl
linked-length nodes t at (k ∷ ks) = linked-length nodes (set t (at + k.bit) (child_number nodes k)) at ks ∙ length-set t (at + k.bit) (child_number nodes k)

pub child_row-length : (nodes : List ℕ) (i : NodeInstance) → length (child_row nodes i) ≡ 64
unfolding child_row
child_row-length nodes i = linked-length nodes (childless 64) 0 i.children ∙ childless-length 64

pub link_next : (nodes t : List ℕ) (at : ℕ) (k : Child) {u : List ℕ} → u ≡ set t (at + k.bit) (child_number nodes k)
    → (ks : List Child) → children_put nodes u at ks ≡ children_put nodes t at (k ∷ ks)
unfolding children_put
link_next nodes t at k e ks = rw e

pub linked_none : (nodes t : List ℕ) (at : ℕ) → t ≡ children_put nodes t at []
unfolding children_put
linked_none nodes t at = refl

-- A number before those that were written, and one of them.
set_before : (t : List ℕ) (k j x : ℕ) (xs : List ℕ) → j < k → set (written t k xs) j x ≡ written (set t j x) k xs
unfolding written
set_before t k j x [] h = refl
set_before t k j x (y ∷ xs) h =
    set_before (set t k y) (suc k) j x xs (omega arith) ∙ ap (λ u. written u (suc k) xs) (set_comm t k j y x (λ e. absurd (omega arith)))

set_written : (t : List ℕ) (k b x : ℕ) (row : List ℕ) → b < length row → set (written t k row) (k + b) x ≡ written t k (set row b x)
unfolding written
set_written t k b x [] h = absurd (omega arith)
set_written t k zero x (y ∷ row) h =
    ap (λ j. set (written (set t k y) (suc k) row) j x) (let e : k + 0 ≡ k = omega arith in e)
    ∙ set_before (set t k y) (suc k) k x row (omega arith)
    ∙ ap (λ u. written u (suc k) row) (set-set t k y x)
set_written t k (suc b) x (y ∷ row) h =
    ap (λ j. set (written (set t k y) (suc k) row) j x) (let e : k + suc b ≡ suc k + b = omega arith in e)
    ∙ set_written (set t k y) (suc k) b x row (omega arith)

linked_written : (nodes t : List ℕ) (k n : ℕ) (row : List ℕ) (ks : List Child) → length row ≡ n → Every (λ c. c.bit < n) ks
    → children_put nodes (written t k row) k ks ≡ written t k (children_put nodes row 0 ks)
unfolding children_put Every
linked_written nodes t k n row [] e h = refl
linked_written nodes t k n row (c ∷ ks) e h =
    let b : c.bit < length row = omega (arith, h.0) in
    let z : 0 + c.bit ≡ c.bit = omega arith in
    rw z
    (ap (λ u. children_put nodes u k ks) (set_written t k c.bit (child_number nodes c) row b)
    ∙ linked_written nodes t k n (set row c.bit (child_number nodes c)) ks (length-set row c.bit (child_number nodes c) ∙ e) h.1)

-- A row is places without a child, and then the children.
pub row_put : (nodes t : List ℕ) (k : ℕ) (i : NodeInstance) {w x : List ℕ} → Every (λ c. c.bit < 64) i.children → w ≡ written t k (childless 64)
    → x ≡ children_put nodes w k i.children → x ≡ written t k (child_row nodes i)
unfolding child_row
row_put nodes t k i b g h =
    h ∙ ap (λ u. children_put nodes u k i.children) g ∙ linked_written nodes t k 64 (childless 64) i.children (childless-length 64) b

pub row_written : (nodes t : List ℕ) (k : ℕ) (i : NodeInstance) {u : List ℕ} → u ≡ written t k (child_row nodes i)
    → (u ≡ written t k (child_row nodes i)) × (k + 64 ≡ k + length (child_row nodes i))
row_written nodes t k i e = (e, ap (λ n. k + n) (sym (child_row-length nodes i)))
