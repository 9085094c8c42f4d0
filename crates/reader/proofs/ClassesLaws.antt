-- The classes of tables: the answer of a class that is not too short is exact, and the last one never is.
use Prim.Native.Nat.{ℕ, ◌*◌, ◌≤◌}
use mathlib.Core.Bool.{Bool, true, false, cond, not}
use mathlib.Core.List.{List}
use mathlib.Core.Path.{◌≡◌, refl, sym, ◌∙◌, ap, subst}
use native.Mathlib.Omega.{arith}
use lib.ListN.{replicate, length-replicate}
use borrow.Author.Tests.{le-leb, eq-eqb}
use Rattle.numbers.specs.BigEndian.{Bytes}
use Rattle.numbers.proofs.Bools.{clash}
use Rattle.limits.specs.Classes.{Class}
use Rattle.limits.specs.Limits.{Limits}
use Rattle.format.specs.Parsed.{Parsed, done, refused, making}
use Rattle.format.specs.Refusals.{CheckValues, number_of}
use Rattle.format.specs.Verdict.{verdict, counts_of}
use Rattle.format.proofs.ParsedLaws.{never}
use Rattle.reader.specs.declared.Layout.{Layout}
use Rattle.reader.specs.declared.LayoutRead.{LayoutRead}
use Rattle.reader.specs.Classes.{class_room, is_exact}
use Rattle.reader.specs.Examined.{Lengths, lengths_of, room_of, room_for_layout, room_for}
use Rattle.reader.specs.Layout.{Summary, layout_at, whole_at, layout_parsed, layout_values}
use Rattle.reader.proofs.FaultsLaws.{within_limits}
use Rattle.reader.proofs.WholeLaws.{whole_out}

-- The lengths of a class's arrays.
pub class_lengths : (k : Class) → lengths_of (replicate k.registers 0) (replicate k.registers 0) (replicate k.nodes 0) (replicate k.nodes 0) (replicate k.nodes 0) (replicate (k.nodes * 64) 0) ≡ class_room k
unfolding class_room
class_lengths k = rw (length-replicate {A = ℕ} k.registers 0, length-replicate {A = ℕ} k.nodes 0, length-replicate {A = ℕ} (k.nodes * 64) 0)

abbrev Answer : Limits → Lengths → List ℕ → Parsed CheckValues → Type 0
Answer limits t s y = y ≡ cond (room_for limits t s) (making counts_of (verdict limits s)) (refused 43 0)

pub class_answer : (limits : Limits) (k : Class) (s : List ℕ) {y : Parsed CheckValues}
    → y ≡ cond (room_for limits (lengths_of (replicate k.registers 0) (replicate k.registers 0) (replicate k.nodes 0) (replicate k.nodes 0) (replicate k.nodes 0) (replicate (k.nodes * 64) 0)) s) (making counts_of (verdict limits s)) (refused 43 0)
    → y ≡ cond (room_for limits (class_room k) s) (making counts_of (verdict limits s)) (refused 43 0)
class_answer limits k s {y} e = subst (λ t. Answer limits t s y) (class_lengths k) e

-- An answer that a class gives, and that is not that a table was too short, is exact.
pub class_exact : (r : LayoutRead) (limits : Limits) (t : Lengths) (s : List ℕ) → making layout_values (layout_parsed r) ≡ cond (room_for limits t s) (making counts_of (verdict limits s)) (refused 43 0) → is_exact r ≡ true
    → making layout_values (layout_parsed r) ≡ making counts_of (verdict limits s)
unfolding making is_exact
class_exact r limits t s = go r (room_for limits t s) (making counts_of (verdict limits s))
  where
    go : (r : LayoutRead) (b : Bool) (x : Parsed CheckValues) → making layout_values (layout_parsed r) ≡ cond b x (refused 43 0) → is_exact r ≡ true → making layout_values (layout_parsed r) ≡ x
    go r true x e h = e
    go (LayoutRead.Done l) false x e h = never (sym e)
    go (LayoutRead.Refused r) false x e h = clash h (ap not (eq-eqb _ 43 (let z : number_of r.kind ≡ 43 = cc in z)))

-- The same of an answer that is one of a class, with the layout that it holds.
pub class_told : (limits : Limits) (t : Lengths) (s : List ℕ) {r e : LayoutRead}
    → (making layout_values (layout_parsed r) ≡ cond (room_for limits t s) (making counts_of (verdict limits s)) (refused 43 0)) × ((l : Layout) → r ≡ LayoutRead.Done l → layout_parsed r ≡ layout_at limits s 0)
    → e ≡ r → is_exact e ≡ true
    → (making layout_values (layout_parsed e) ≡ making counts_of (verdict limits s)) × ((l : Layout) → e ≡ LayoutRead.Done l → layout_parsed e ≡ layout_at limits s 0)
class_told limits t s {r} {e} x w h =
    subst (λ y. (making layout_values (layout_parsed y) ≡ making counts_of (verdict limits s)) × ((l : Layout) → y ≡ LayoutRead.Done l → layout_parsed y ≡ layout_at limits s 0)) (sym w)
    (class_exact r limits t s x.0 (ap is_exact (sym w) ∙ h), x.1)

-- A class for as many instances as the limits let a file have has room for every file.
module _ (limits : Limits) (k : Class) (registers : limits.register_instances ≤ k.registers) (nodes : limits.node_instances ≤ k.nodes) (s : List ℕ) (bytes : Bytes s) where
  pub full_room : room_for limits (class_room k) s ≡ true
  unfolding room_for room_for_layout room_of class_room
  full_room = go (whole_at limits s) refl
    where
      go : (q : Parsed Summary) → whole_at limits s ≡ q → room_for_layout (class_room k) q ≡ true
      go (done l end) e =
          let h = within_limits limits s bytes (sym (whole_out limits s (sym e)).layout) in
          let m : l.register_instances ≤ k.registers = omega (arith, h.0, registers) in
          let n : l.node_instances ≤ k.nodes = omega (arith, h.1, nodes) in
          let j : l.node_instances * 64 ≤ k.nodes * 64 = omega arith in
          rw (le-leb _ _ m, le-leb _ _ n, le-leb _ _ j)
      go (refused n p) e = refl

  pub full_exact : {y : Parsed CheckValues} → y ≡ cond (room_for limits (class_room k) s) (making counts_of (verdict limits s)) (refused 43 0) → y ≡ making counts_of (verdict limits s)
  full_exact e = e ∙ ap (λ b. cond b (making counts_of (verdict limits s)) (refused 43 0)) full_room
