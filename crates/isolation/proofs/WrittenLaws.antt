-- The answer by rows and a list: the records of what was found, or 19.
use Rattle.format.specs.Refusals.{number_of}
use Rattle.format.proofs.NumberedLaws.{kind_some}
use Rattle.std.specs.Prelude.{Result, Ok, Err}
use Rattle.format.specs.declared.Refusal.{Refusal}
use Prim.Native.Nat.{ℕ, ◌*◌, ◌≤◌}
use mathlib.Core.Bool.{Bool, true, false, cond}
use mathlib.Core.List.{List, ◌++◌}
use mathlib.Core.Path.{◌≡◌, refl, sym, ap, subst, ◌∙◌}
use native.Mathlib.Omega.{arith}
use lib.ListN.{length, take, drop}
use lib.Seq.{length-take-le}
use Rattle.limits.specs.Limits.{library_limits, slots, board_node_instances}
use Rattle.listing.specs.Records.{record_size}
use Rattle.listing.specs.Rows.{Row, rows_of, first_rows, kept_count, kept_records, written_with, no_room_with, listing_values, has_room, listing_for, list_after}
use Rattle.listing.proofs.WriteLaws.{kept-length}
use Rattle.isolation.specs.declared.Kept.{Kept}
use Rattle.isolation.specs.Outcome.{Outcome, done_outcome, refused_outcome, written, in_list}
use Rattle.isolation.specs.Rows.{found_of, RowsWithin}

-- What is answered of the room.
room_yes : (k bytes : ℕ) {count : ℕ} → listing_values (Ok count) ≡ listing_for k bytes → (k ≡ count) × (has_room k bytes ≡ true)
unfolding listing_for
room_yes k bytes {count} e = go (has_room k bytes) e
  where
    go : (t : Bool) → written_with count ≡ cond t (written_with k) (no_room_with 19 k) → (k ≡ count) × (t ≡ true)
    go true e = (sym (ap (λ v. v.records) e), refl)
    go false e = let z : ◌≡◌ {A = ℕ} 0 19 = ap (λ v. v.number) e in absurd (omega arith)

room_no : (k bytes : ℕ) (r : Refusal) → listing_values (Err r) ≡ listing_for k bytes → (k ≡ r.place) × (number_of r.kind ≡ 19) × (has_room k bytes ≡ false)
unfolding listing_for
room_no k bytes r e = go (has_room k bytes) e
  where
    go : (t : Bool) → no_room_with (number_of r.kind) r.place ≡ cond t (written_with k) (no_room_with 19 k) → (k ≡ r.place) × (number_of r.kind ≡ 19) × (t ≡ false)
    go true e = let z : number_of r.kind ≡ 0 = ap (λ v. v.number) e in absurd (omega (arith, kind_some r.kind))
    go false e = (sym (ap (λ v. v.place) e), ap (λ v. v.number) e, refl)

module _ (attention : ℕ) (rs : List Row) (steps : ℕ) (list : List ℕ) {new : List ℕ} (after : new ≡ list_after attention rs list) where
  pub rows_refused : (r : Refusal) → listing_values (Err r) ≡ listing_for (kept_count rs) (length list) → refused_outcome (number_of r.kind) r.place new ≡ written (kept_count rs) (kept_records attention rs) steps list
  unfolding written list_after has_room
  rows_refused x is =
      let r = room_no (kept_count rs) (length list) x is in
      let b : new ≡ list = after ∙ rw r.2 in
      sym (rw (r.2, b, r.0, r.1))

  pub rows_written : {count : ℕ} → listing_values (Ok count) ≡ listing_for (kept_count rs) (length list) → done_outcome count steps new ≡ written (kept_count rs) (kept_records attention rs) steps list
  unfolding written list_after has_room record_size
  rows_written {count} is =
      let r = room_yes (kept_count rs) (length list) is in
      let k : length (kept_records attention rs) ≡ kept_count rs * 16 = omega (arith, kept-length attention rs) in
      let b : new ≡ kept_records attention rs ++ drop (kept_count rs * 16) list = after ∙ rw (r.1, k) in
      sym (rw (r.1, b, r.0))

-- Rows of a table's front.
pub within_rows : {f : Result Kept Refusal} {k : Kept} (heads words : List ℕ) → f ≡ Ok k → RowsWithin f heads words → (k.rows ≤ library_limits.node_instances) × (k.rows ≤ length heads) × (k.rows ≤ length words)
within_rows heads words e h = subst (λ g. RowsWithin g heads words) e h

pub few_rows : (heads : List ℕ) (n : ℕ) → n ≤ library_limits.node_instances → n ≤ length heads → length (take n heads) ≤ board_node_instances
unfolding board_node_instances slots
few_rows heads n h l = omega (arith, length-take-le n heads l)

pub found_rows : (attention : ℕ) (f : Result Kept Refusal) (k : Kept) (heads words list : List ℕ) → f ≡ Ok k → {o : Outcome}
    → o ≡ written (kept_count (rows_of (take k.rows heads) (take k.rows words))) (kept_records attention (rows_of (take k.rows heads) (take k.rows words))) k.steps list
    → o ≡ in_list list (found_of attention f heads words)
unfolding in_list first_rows
found_rows attention f k heads words list e d = rw e d
