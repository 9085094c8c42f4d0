-- What the code finds, as rows of two tables: parts of tables, classes of tables, and the answer by a list.
use Rattle.std.specs.Prelude.{Result, Ok, Err}
use Rattle.format.specs.declared.Refusal.{Refusal}
use Prim.Native.Nat.{ℕ, ◌*◌, ◌≤◌}
use mathlib.Core.Bool.{Bool, true, false, cond, not, ◌&&◌}
use mathlib.Core.List.{List, ◌++◌}
use mathlib.Core.Logic.{⊎_elim}
use mathlib.Core.Path.{◌≡◌, refl, sym, ap, ◌∙◌}
use native.Mathlib.Omega.{arith}
use lib.ListN.{length, take, drop, replicate, length-append, length-drop, length-replicate}
use lib.Seq.{take-append-le, length-take-le}
use borrow.Author.Tests.{le-leb, eq-eqb, ne_eqb}
use Rattle.limits.specs.Limits.{Limits, library_limits}
use Rattle.limits.specs.Classes.{Class, full}
use Rattle.numbers.specs.BigEndian.{Bytes}
use Rattle.numbers.proofs.Bools.{clash}
use Rattle.reader.specs.Classes.{class_room}
use Rattle.reader.specs.Examined.{lengths_of, room_for, room_of, room_for_layout}
use Rattle.reader.specs.Layout.{Summary, whole_at}
use Rattle.format.specs.Parsed.{Parsed, done, refused}
use Rattle.reader.proofs.ClassesLaws.{full_room}
use Rattle.reader.proofs.ExaminedLaws.{roomy}
use Rattle.listing.specs.Rows.{first_rows}
use Rattle.isolation.specs.declared.Kept.{Kept}
use Rattle.isolation.specs.Outcome.{Outcome, refused_outcome, Findings, stopped, find, in_list}
use Rattle.isolation.specs.Ready.{room_in}
use Rattle.isolation.specs.Rows.{found_of, RowsWithin, is_found, lent_room}
use Rattle.isolation.proofs.OutcomeLaws.{stopped_number, found-not_stopped, find_cases, finds_in}

-- Rows within tables

pub within_same : (f : Result Kept Refusal) (heads words : List ℕ) (heads' words' : List ℕ) → length heads' ≡ length heads → length words' ≡ length words → RowsWithin f heads words → RowsWithin f heads' words'
within_same (Ok k) heads words heads' words' a b h = (h.0, omega (arith, h.1, a), omega (arith, h.2, b))
within_same (Err r) heads words heads' words' a b h = tt

-- Rows of the front of two tables.
module _ (f : Result Kept Refusal) (heads words : List ℕ) (n : ℕ) (in_heads : n ≤ length heads) (in_words_lem : n ≤ length words) (h : RowsWithin f (take n heads) (take n words)) where
  pub cut_within : RowsWithin f heads words
  cut_within = go f h
    where
      go : (f : Result Kept Refusal) → RowsWithin f (take n heads) (take n words) → RowsWithin f heads words
      go (Ok k) w = (w.0, omega (arith, w.1, length-take-le n heads in_heads), omega (arith, w.2, length-take-le n words in_words_lem))
      go (Err r) w = tt

  pub cut_found : (attention : ℕ) (front back : List ℕ) → length (front ++ drop n heads) ≡ length heads → length (back ++ drop n words) ≡ length words → {x : Findings}
      → found_of attention f front back ≡ x → found_of attention f (front ++ drop n heads) (back ++ drop n words) ≡ x
  unfolding first_rows
  cut_found attention front back a b = go f h
    where
      go : (f : Result Kept Refusal) → RowsWithin f (take n heads) (take n words) → {x : Findings} → found_of attention f front back ≡ x → found_of attention f (front ++ drop n heads) (back ++ drop n words) ≡ x
      go (Ok k) w e =
          let i : k.rows ≤ length front = omega (arith, w.1, length-take-le n heads in_heads, a, length-append front (drop n heads), length-drop n heads) in
          let j : k.rows ≤ length back = omega (arith, w.2, length-take-le n words in_words_lem, b, length-append back (drop n words), length-drop n words) in
          rw (take-append-le k.rows front (drop n heads) i, take-append-le k.rows back (drop n words) j) e
      go (Err r) w e = e

-- The answer by a list

pub answered : (b : Bool) (list : List ℕ) (x : Findings) {y : Findings} {o : Outcome} → y ≡ cond b x (stopped 43 0) → o ≡ in_list list y → o ≡ cond b (in_list list x) (refused_outcome 43 0 list)
unfolding in_list
answered true list x e d = d ∙ ap (in_list list) e
answered false list x e d = d ∙ ap (in_list list) e

-- A class of tables, two of which are lent

pub lent_lengths : (k : Class) (places : List ℕ)
    → lengths_of (replicate k.registers 0) (replicate k.registers 0) (replicate k.nodes 0) (replicate k.nodes 0) places (replicate (k.nodes * 64) 0) ≡ lent_room k (length places)
unfolding lent_room
lent_lengths k places = rw (length-replicate {A = ℕ} k.registers 0, length-replicate {A = ℕ} k.nodes 0, length-replicate {A = ℕ} (k.nodes * 64) 0)

pub lent_found : (limits : Limits) (k : Class) (places : List ℕ) (unread : ℕ) (file : List ℕ) (x s : Findings) {o : Findings}
    → o ≡ cond (room_in limits (lengths_of (replicate k.registers 0) (replicate k.registers 0) (replicate k.nodes 0) (replicate k.nodes 0) places (replicate (k.nodes * 64) 0)) unread file) x s
    → o ≡ cond (room_in limits (lent_room k (length places)) unread file) x s
lent_found limits k places unread file x s e = e ∙ ap (λ t. cond (room_in limits t unread file) x s) (lent_lengths k places)

-- Lent tables as long as the class's.
own_room : (limits : Limits) (k : Class) (file : List ℕ)
    → room_in limits (lent_room k (length (replicate {A = ℕ} k.nodes 0))) (length (replicate {A = ℕ} k.nodes 0)) file ≡ room_for limits (class_room k) file
unfolding room_in lent_room class_room
own_room limits k file =
    rw (length-replicate {A = ℕ} k.nodes 0)
    (ap (λ b. b && room_for limits (class_room k) file) (le-leb _ _ (let z : k.nodes ≤ k.nodes = omega arith in z)))

pub own_answered : (limits : Limits) (k : Class) (file list : List ℕ) (x : Findings) {y : Findings} {o : Outcome}
    → y ≡ cond (room_in limits (lent_room k (length (replicate {A = ℕ} k.nodes 0))) (length (replicate {A = ℕ} k.nodes 0)) file) x (stopped 43 0)
    → o ≡ in_list list y → o ≡ cond (room_for limits (class_room k) file) (in_list list x) (refused_outcome 43 0 list)
own_answered limits k file list x e d = answered (room_for limits (class_room k) file) list x (e ∙ ap (λ b. cond b x (stopped 43 0)) (own_room limits k file)) d

-- What is not 43 is exact.
pub class_exact : (attention : ℕ) (f : Result Kept Refusal) (heads words : List ℕ) (b : Bool) (x : Findings) → found_of attention f heads words ≡ cond b x (stopped 43 0) → is_found f ≡ true → found_of attention f heads words ≡ x
unfolding is_found
class_exact attention f heads words true x e h = e
class_exact attention (Ok k) heads words false x e h = absurd (found-not_stopped e)
class_exact attention (Err r) heads words false x e h = clash h (ap not (eq-eqb _ 43 (stopped_number e)))

-- A file's findings are never 43.
pub find_number : (limits : Limits) (slot : ℕ) (file : List ℕ) (attention : ℕ) (words read : List ℕ) {p : ℕ} → stopped 43 p ≡ find limits slot file attention words read → ⊥
find_number limits slot file attention words read e =
    ⊎_elim
    (λ s. let z : 43 ≡ s.number = stopped_number (e ∙ s.is) in omega (arith, s.high))
    (λ s. found-not_stopped (sym (finds_in limits file attention words read slot s) ∙ sym e))
    (find_cases limits file attention words read slot)

pub exact_found : (limits : Limits) (slot : ℕ) (file : List ℕ) (attention : ℕ) (words read : List ℕ) (f : Result Kept Refusal) (heads rows : List ℕ)
    → found_of attention f heads rows ≡ find limits slot file attention words read → is_found f ≡ true
unfolding is_found
exact_found limits slot file attention words read (Ok k) heads rows e = refl
exact_found limits slot file attention words read (Err r) heads rows e =
    ap not (ne_eqb _ 43 (λ z. find_number limits slot file attention words read (ap (λ n. stopped n r.place) (sym z) ∙ e)))

-- The full class has room for every file where the lent tables have.
lent-room : (places : ℕ) → library_limits.node_instances ≤ places → (q : Parsed Summary) → room_for_layout (class_room full) q ≡ true → room_for_layout (lent_room full places) q ≡ true
unfolding room_for_layout room_of class_room lent_room
lent-room places a (done l end) e =
    let r = roomy (class_room full) l.register_instances l.node_instances (sym e) in
    let h : l.node_instances ≤ places = omega (arith, r.names) in
    rw (le-leb _ _ r.keys, le-leb _ _ r.names, le-leb _ _ h, le-leb _ _ r.child)
lent-room places a (refused n p) e = refl

pub full_found : (file : List ℕ) → Bytes file → (places unread : ℕ) → library_limits.node_instances ≤ places → library_limits.node_instances ≤ unread
    → room_in library_limits (lent_room full places) unread file ≡ true
unfolding room_in lent_room room_for
full_found file bytes places unread a b =
    ap (λ t. t && room_for library_limits (lent_room full places) file) (le-leb _ _ b)
    ∙ lent-room places a (whole_at library_limits file) (full_room library_limits full (omega arith) (omega arith) file bytes)

pub full_enough : (file : List ℕ) → Bytes file → (slot attention : ℕ) (words read : List ℕ) (f : Result Kept Refusal) (heads rows : List ℕ) {places unread : ℕ}
    → library_limits.node_instances ≤ places → library_limits.node_instances ≤ unread
    → found_of attention f heads rows ≡ cond (room_in library_limits (lent_room full places) unread file) (find library_limits slot file attention words read) (stopped 43 0)
    → is_found f ≡ true
full_enough file bytes slot attention words read f heads rows {places} {unread} a b e =
    exact_found library_limits slot file attention words read f heads rows
    (e ∙ ap (λ t. cond t (find library_limits slot file attention words read) (stopped 43 0)) (full_found file bytes places unread a b))
