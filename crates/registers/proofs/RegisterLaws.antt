-- The laws of the registers section.
use Prim.Native.Nat.{ℕ, ◌+◌, ◌≤◌, ◌<◌}
use mathlib.Core.Path.{◌≡◌, refl, sym, ◌∙◌, ap}
use mathlib.Core.Bool.{true}
use mathlib.Core.List.{List, [], map}
use native.Mathlib.Omega.{arith}
use borrow.Author.Tests.{ltb-true, eq-eqb, ne_eqb}
use lib.ListN.{length}
use lib.Dec.{ltb}
use Rattle.format.specs.declared.Refusal.{Refusal}
use Rattle.format.specs.Parsed.{Parsed, done, and_then, making, requiring, row_at}
use Rattle.format.specs.Fields.{field_at, count_at, type_at, flags_at, address_size, fresh}
use Rattle.registers.specs.declared.RegisterHead as declared
use Rattle.registers.specs.declared.RegisterHeadRead.{RegisterHeadRead}
use Rattle.format.specs.Tree.{RegisterInstance, Register}
use Rattle.format.specs.RegisterLayout.{RegisterHead, register_total, register_instance_at, register_head_at, register_at}
use Rattle.fields.specs.Seen.{unmarked, instance_number_at, Tells}
use Rattle.fields.specs.Views.{Element, refused_by}
use Rattle.registers.specs.Registers.{register_head_parsed, register_flags_at, register_rest_at, register_after, register_number, register_id, register_element}
use Rattle.fields.proofs.Parsing.{Found, found, followed, passed, then_then, row-length, row_bound}
use Rattle.fields.proofs.Steps.{goes_making, stops_making}
use Rattle.fields.proofs.SeenLaws.{number_told}

module _ (s : List ℕ) (at t : ℕ) {y : Parsed ℕ} where
  pub address_four : t ≡ 1 → y ≡ field_at s at 4 → y ≡ field_at s at (address_size t)
  unfolding address_size
  address_four e k = rw (eq-eqb t 1 e) k

  pub address_eight : (t ≡ 1 → ⊥) → y ≡ field_at s at 8 → y ≡ field_at s at (address_size t)
  unfolding address_size
  address_eight e k = rw (ne_eqb t 1 e) k

-- A register instance after those that the marks tell of.
pub instance_told : (limit : ℕ) (g : RegisterInstance → ℕ) (s : List ℕ) (total type : ℕ) (before : List RegisterInstance) (at : ℕ) (table : List ℕ) {begun : ℕ} {y : Parsed ℕ}
    → Tells (unmarked table) (map register_number before) → begun ≡ total + length before
    → y ≡ making g (and_then (instance_number_at s (unmarked table) begun limit at) λ n a. making (λ x. record { number = n; place = a; address = x }) (field_at s a (address_size type)))
    → y ≡ making g (register_instance_at limit s true total type before at)
unfolding register_instance_at instance_number_at
instance_told limit g s total type before at table t e k =
    k ∙ ap (λ q. making g (and_then q λ n a. making (λ x. record { number = n; place = a; address = x }) (field_at s a (address_size type)))) (number_told s at limit t e)

-- An instance that was read had room.
pub instance-room : (limit : ℕ) (g : RegisterInstance → ℕ) (s : List ℕ) (total type : ℕ) (before : List RegisterInstance) (at : ℕ) {v m : ℕ}
    → done v m ≡ making g (register_instance_at limit s true total type before at) → total + length before < limit
unfolding register_instance_at
instance-room limit g s total type before at {v} {m} e =
    let q = requiring (λ n. ltb (total + length before) limit) 8 at (field_at s at 1) in
    let f = found g (register_instance_at limit s true total type before at) e in
    let d = followed (requiring (fresh true (map register_number before)) 7 at q) _ f.is in
    let i : q ≡ done d.value d.place = (passed (fresh true (map register_number before)) 7 at q d.is).1 in
    let j : ltb (total + length before) limit ≡ true = (passed (λ n. ltb (total + length before) limit) 8 at (field_at s at 1) i).0 in
    ltb-true _ _ j

-- A register is its ID and the rest.
pub register_split : (limit : ℕ) (s : List ℕ) (before : List Register) (at : ℕ) → register_at limit s true before at ≡ and_then (requiring (fresh true (map register_id before)) 7 at (field_at s at 3)) (register_after limit s (register_total before))
unfolding register_at register_head_at register_flags_at register_rest_at register_after
register_split limit s before at = then_then _ _ _

module _ {B : Type 0} (g : B → Element) (p : Parsed RegisterHead) (f : RegisterHead → ℕ → Parsed B) {y : Parsed Element} where
  pub head_then : {x : RegisterHeadRead} {h : declared.RegisterHead} {n : ℕ} → register_head_parsed x ≡ p → x ≡ RegisterHeadRead.Head h n
      → y ≡ making g (f (record { id = h.id; type = h.kind; flags = h.flags; count = h.count }) n) → y ≡ making g (and_then p f)
  head_then = goes_making register_head_parsed g p f refl

  pub head_stop : {x : RegisterHeadRead} {r : Refusal} → register_head_parsed x ≡ p → x ≡ RegisterHeadRead.Refused r → y ≡ refused_by r → y ≡ making g (and_then p f)
  head_stop = stops_making register_head_parsed g p f refl

-- A register that was read has at least one instance, and not too many.
head_counted : (s : List ℕ) (ids : List ℕ) (at : ℕ) {h : RegisterHead} {m : ℕ} → register_head_at s true ids at ≡ done h m → 0 < h.count
unfolding register_head_at count_at
head_counted s ids at {h} {m} e =
    let d = followed (requiring (fresh true ids) 7 at (field_at s at 3)) _ e in
    let c = followed (type_at s d.place) _ d.next in
    let b = followed (flags_at s c.place) _ c.next in
    let f : Found (λ n. record { id = d.value; type = c.value; flags = b.value; count = n }) (requiring (λ k. ltb 0 k) 5 b.place (field_at s b.place 1)) h m = found _ _ (sym b.next) in
    let j : ltb 0 f.value ≡ true = (passed (λ k. ltb 0 k) 5 b.place (field_at s b.place 1) f.is).0 in
    let i : f.value ≡ h.count = ap (λ x. x.count) f.made in
    let k : 0 < f.value = ltb-true _ _ j in
    omega arith

pub register_size : (limit : ℕ) (s : List ℕ) (before : List Register) (at : ℕ) {i k m : ℕ} → done (record { id = i; instances = k }) m ≡ making register_element (register_at limit s true before at)
    → (0 < k) × (register_total before + k ≤ limit)
unfolding register_at making
register_size limit s before at {i} {k} {m} e =
    let f : Found register_element (register_at limit s true before at) (record { id = i; instances = k }) m = found register_element (register_at limit s true before at) e in
    let d = followed (register_head_at s true (map register_id before) at) _ f.is in
    let h = d.value in
    let w = row_at (register_instance_at limit s true (register_total before) h.type) h.count [] d.place in
    let j : Found (λ is. record { id = h.id; type = h.type; flags = h.flags; instances = is }) w f.value m = found _ w (sym d.next) in
    let l : length j.value ≡ h.count = row-length (register_instance_at limit s true (register_total before) h.type) h.count [] d.place j.is in
    let n : length f.value.instances ≡ k = ap (λ x. x.instances) f.made in
    let o : j.value ≡ f.value.instances = ap (λ x. x.instances) j.made in
    let c : 0 < h.count = head_counted s (map register_id before) at d.is in
    let b : register_total before + 0 + h.count ≤ limit =
    row_bound (register_instance_at limit s true (register_total before) h.type) (register_total before) limit
    (λ x y a z g. instance-room limit register_number s (register_total before) h.type x y (sym (ap (making register_number) g)))
    h.count [] d.place j.is c in
    let q : length j.value ≡ k = ap length o ∙ n in
    (omega arith, omega arith)

pub ruleset register-laws = (address_four, address_eight, instance_told)
