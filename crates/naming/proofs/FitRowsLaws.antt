-- Captures, and rules, whose names all fit, one after another.
use Prim.Native.Nat.{ℕ, suc, ◌+◌, ◌-◌, ◌*◌, ◌%◌, ◌≤◌, ◌<◌}
use mathlib.Core.Path.{◌≡◌, refl, sym, ◌∙◌, ap}
use mathlib.Core.Bool.{true}
use mathlib.Core.List.{List, [], ◌∷◌, map}
use native.Mathlib.Omega.{arith}
use borrow.Author.Tests.{lt-ltb, eq-eqb}
use lib.Dec.{eqb}
use lib.ListN.{length, get_or, set, replicate}
use Rattle.numbers.specs.Field.{field}
use Rattle.numbers.proofs.FieldLaws.{field-byte}
use Rattle.limits.specs.Limits.{levels}
use Rattle.format.specs.ExpressionLayout.{expr_at}
use Rattle.format.specs.Fields.{attention_at}
use Rattle.format.specs.Lookup.{position, gathered}
use Rattle.format.specs.NodeLayout.{capture_at, rule_at}
use Rattle.format.specs.Parsed.{done}
use Rattle.format.specs.References.{Fault, unless, named_by}
use Rattle.format.specs.Tree.{Capture, Rule, Expr}
use Rattle.format.proofs.ParsedLaws.{never, then_in, making_in, requiring_in}
use Rattle.fields.specs.Seen.{unmarked, Tells}
use Rattle.fields.proofs.FieldLaws.{attention_known, byte_field, field_three}
use Rattle.fields.proofs.Parsing.{Found, found}
use Rattle.fields.proofs.ReadingLaws.{Reading, reading_begin, reading_next, reading_end, captured, capture_read}
use Rattle.fields.proofs.SeenLaws.{tells_none, tells_mark}
use Rattle.tables.specs.Faults.{judged_at, position_in, present, register_faults_in, name_faults, capture_faults_in, rule_faults_in}
use Rattle.tables.specs.Kinds.{readable_kind}
use Rattle.tables.specs.Tables.{key_of}
use Rattle.naming.specs.Fits.{key_in, CapturesFit, RulesFit}
use Rattle.naming.proofs.FitLaws.{Fit}

-- A capture names what its four bytes are kept as.
capture_key : (s : List ℕ) (at : ℕ) → at + 4 ≤ length s → key_of (field s at 3) (field s (at + 3) 1) ≡ key_in s at
capture_key s at h =
    let i : at + 1 ≡ suc at = omega arith in
    let j : at + 2 ≡ suc (suc at) = omega arith in
    rw (field_three s at (omega arith), field-byte s (at + 3) (omega arith), i, j)

-- A capture whose register was found at position k, and is readable, has no fault.
capture_faultless : (s keys kinds : List ℕ) (at : ℕ) {x k t : ℕ} → at + 4 ≤ length s → x ≡ key_in s at → k ≡ position (λ y. eqb y x) keys → k < length keys → t ≡ get_or kinds k 0 → t % 2 ≡ 1
    → capture_faults_in keys kinds (captured s at) ≡ []
unfolding capture_faults_in register_faults_in present position_in unless readable_kind
capture_faultless s keys kinds at h e i l g r = rw (capture_key s at h, ← e, ← i, lt-ltb _ _ l, ← g, eq-eqb _ _ r)

-- A loop over captures that fit: `left` are to come at `place`, after those before.
pub record FittingCaptures (s keys kinds : List ℕ) (n at left place : ℕ) : Type 0 where
  pub before : List Capture
  pub reading : Reading (capture_at s) (capture_faults_in keys kinds) n at before left place

pub captures_begin : (s keys kinds : List ℕ) (n at : ℕ) → FittingCaptures s keys kinds n at n at
captures_begin s keys kinds n at = record { before = []; reading = reading_begin _ _ n at }

module _ {s keys kinds : List ℕ} {n at left place : ℕ} (r : FittingCaptures s keys kinds n at left place) where
  pub captures_next : {x k t : ℕ} → 0 < left → place + left * 4 ≤ length s → x ≡ key_in s place → k ≡ position (λ y. eqb y x) keys → k < length keys → t ≡ get_or kinds k 0 → t % 2 ≡ 1
      → FittingCaptures s keys kinds n at (left - 1) (place + 4)
  captures_next z h e i l g o =
      let d : place + 4 ≤ length s = omega arith in
      record { before = captured s place ∷ r.before; reading = reading_next _ _ r.reading (capture_read s r.before place d) (capture_faultless s keys kinds place d e i l g o) z }

  pub captures_end : left ≤ 0 → place + left * 4 ≡ at + n * 4 → CapturesFit s keys kinds n at
  captures_end z e =
      let f = reading_end _ _ r.reading z in
      let g : place ≡ at + n * 4 = omega arith in
      record { captures = f.elements; read = f.read ∙ ap (done f.elements) g; fit = f.fit }

-- Where reading goes on, there is no fault.
judged_empty : (xs : List Fault) (m : ℕ) {k : ℕ} {u : Unit {0}} → done u k ≡ judged_at xs m → xs ≡ []
unfolding judged_at
judged_empty [] m e = refl
judged_empty (f ∷ fs) m e = never (sym e)

-- The rule at a place, whose expression is e.
abbrev ruled : List ℕ → ℕ → Expr → Rule
ruled s at e = record { attention = get_or s at 0; place = at + 1; expression = e }

-- A rule whose attention type is known and not marked, and whose expression is read.
rule_read : (s : List ℕ) (before : List Rule) (at : ℕ) (table : List ℕ) {e : Expr} {m : ℕ} → Tells (unmarked table) (map (λ r. r.attention) before)
    → at < length s → 1 ≤ get_or s at 0 → get_or s at 0 ≤ 5 → get_or table (get_or s at 0) 0 ≡ 0 → expr_at s 16 (at + 1) ≡ done e m → rule_at s true before at ≡ done (ruled s at e) m
unfolding rule_at attention_at unmarked levels
rule_read s before at table t h l k u i =
    then_in _ _ (requiring_in _ _ _ _ (requiring_in _ _ _ _ (byte_field s at h) (attention_known _ l k)) (sym (t.tells (get_or s at 0)) ∙ eq-eqb _ _ u)) (making_in _ _ i refl)

-- A loop over rules that fit: the table marks the attention types of those before, and `left` are to come at `place`.
pub record FittingRules (s keys kinds : List ℕ) (kind n at : ℕ) (table : List ℕ) (left place : ℕ) : Type 0 where
  pub before : List Rule
  pub marks : Tells (unmarked table) (map (λ r. r.attention) before)
  pub reading : Reading (rule_at s true) (rule_faults_in keys kinds kind) n at before left place

pub rules_begin : (s keys kinds : List ℕ) (kind n at size : ℕ) → FittingRules s keys kinds kind n at (replicate size 0) n at
rules_begin s keys kinds kind n at size = record { before = []; marks = tells_none size; reading = reading_begin _ _ n at }

-- The names of a rule whose expression fits are no fault.
rule_faultless : (s keys kinds : List ℕ) (kind at : ℕ) (e : Expr) (m : ℕ) {k : ℕ} → done tt k ≡ judged_at (gathered (name_faults keys kinds kind) (named_by e)) m → rule_faults_in keys kinds kind (ruled s at e) ≡ []
unfolding rule_faults_in
rule_faultless s keys kinds kind at e m h = judged_empty _ m h

module _ {s keys kinds : List ℕ} {kind n at : ℕ} {table : List ℕ} {left place : ℕ} (r : FittingRules s keys kinds kind n at table left place) where
  pub rules_next : {next : ℕ} → 0 < left → length table ≡ 6 → place < length s → 1 ≤ get_or s place 0 → get_or s place 0 ≤ 5 → get_or table (get_or s place 0) 0 ≡ 0
      → Fit (name_faults keys kinds kind) s 16 (place + 1) next
      → FittingRules s keys kinds kind n at (set table (get_or s place 0) 1) (left - 1) next
  rules_next {next} z w h l k u f =
      let g : Found (λ _. tt) (expr_at s 16 (place + 1)) tt next = found (λ _. tt) (expr_at s 16 (place + 1)) f.0 in
      let e = g.value in
      record {
        before = ruled s place e ∷ r.before;
        marks = tells_mark table (map (λ r. r.attention) r.before) (get_or s place 0) (omega arith) r.marks refl;
        reading = reading_next _ _ r.reading (rule_read s r.before place table r.marks h l k u g.is) (rule_faultless s keys kinds kind place e next (f.1 e next g.is)) z;
      }

  pub rules_end : left ≤ 0 → RulesFit s keys kinds kind n at place
  rules_end z = let f = reading_end _ _ r.reading z in record { rules = f.elements; read = f.read; fit = f.fit }
