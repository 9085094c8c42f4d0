-- The laws of the roots section.
use Prim.Native.Nat.{ℕ}
use mathlib.Core.Path.{◌≡◌, sym, ◌∙◌, ap}
use mathlib.Core.Bool.{true}
use mathlib.Core.List.{List, [], map}
use lib.ListN.{length}
use Rattle.format.specs.Parsed.{Parsed, done, and_then, making, requiring, row_at}
use Rattle.format.specs.Fields.{field_at, attention_at}
use Rattle.format.specs.Tree.{Root}
use Rattle.format.specs.FileLayout.{root_at}
use Rattle.fields.specs.declared.NextRead.{NextRead}
use Rattle.fields.specs.Seen.{unmarked, Tells}
use Rattle.fields.specs.Views.{next_parsed, forget}
use Rattle.reader.specs.Roots.{root_attention}
use Rattle.fields.proofs.Parsing.{Found, found, row-length}
use Rattle.fields.proofs.SeenLaws.{tells_is}

-- A root after those that the marks tell of.
pub root_told : (g : Root → ℕ) (s : List ℕ) (before : List Root) (at : ℕ) (table : List ℕ) {y : Parsed ℕ} → Tells (unmarked table) (map root_attention before)
    → y ≡ making g (and_then (requiring (unmarked table) 7 at (attention_at s at)) λ t a. and_then (field_at s a 2) λ i b. making (λ n. record { place = at; attention = t; id = i; number = n }) (field_at s b 1))
    → y ≡ making g (root_at s true before at)
unfolding root_at
root_told g s before at table t k = rw (← tells_is t) k

-- So many roots.
pub roots_counted : {A : Type 0} (p : List A → ℕ → Parsed A) (n at : ℕ) {x : NextRead} {m : ℕ} {y : Parsed ℕ} → next_parsed x ≡ forget (row_at p n [] at) → x ≡ NextRead.Next m → y ≡ done n m
    → y ≡ making length (row_at p n [] at)
unfolding making
roots_counted p n at {x} {m} e g k =
    let f : Found (λ _. tt) (row_at p n [] at) tt m = found (λ _. tt) (row_at p n [] at) (sym (ap next_parsed g) ∙ e) in
    k ∙ sym (ap (making length) f.is ∙ ap (λ i. done i m) (row-length p n [] at f.is))
