-- The laws of the nodes section.
use Prim.Native.Nat.{ℕ, zero, suc, ◌+◌, ◌*◌, ◌-◌, ◌≤◌, ◌<◌}
use mathlib.Core.Path.{◌≡◌, refl, sym, ◌∙◌, ap}
use mathlib.Core.Bool.{true}
use mathlib.Core.List.{List, [], ◌∷◌, map}
use native.Mathlib.Omega.{arith}
use borrow.Author.Tests.{leb-true, lt-ltb, ltb-true}
use lib.ListN.{length, get_or}
use lib.Dec.{leb, ltb}
use Rattle.numbers.specs.Field.{field}
use Rattle.numbers.proofs.Bools.{and_right}
use Rattle.format.specs.declared.Refusal.{Refusal}
use Rattle.limits.specs.Limits.{levels}
use Rattle.format.specs.Parsed.{Parsed, done, refused, and_then, making, requiring, row_at}
use Rattle.format.specs.Fields.{field_at, count_at, type_at, known_attention, attention_at, fresh}
use Rattle.format.specs.ExpressionLayout.{expr_at}
use Rattle.format.specs.Tree.{Capture, Rule, Child, NodeInstance, Node}
use Rattle.format.specs.NodeLayout.{NodeHead, InstanceHead, capture_at, rule_at, child_at, instance_head_at, node_instance_at, node_total, node_head_at, node_at}
use Rattle.nodes.specs.declared.NodeHead as declared
use Rattle.nodes.specs.declared.NodeHeadRead.{NodeHeadRead}
use Rattle.nodes.specs.declared.InstanceHead as instance
use Rattle.nodes.specs.declared.InstanceHeadRead.{InstanceHeadRead}
use Rattle.fields.specs.Seen.{unmarked, new_after, instance_number_at, Tells, Below}
use Rattle.nodes.specs.Nodes.{child_bit_at, counts_at, node_body_at, ChildrenRead}
use Rattle.fields.specs.Views.{Element, refused_by, forget}
use Rattle.nodes.specs.Nodes.{node_head_parsed, instance_head_parsed, rule_attention, child_bit, node_number, node_id, node_element}
use Rattle.format.proofs.ParsedLaws.{then_in, then_out, making_in, making_out, requiring_in, requiring_out}
use Rattle.fields.proofs.FieldLaws.{field_there, byte_field}
use Rattle.fields.proofs.Parsing.{Found, found, followed, passed, making_making, row_end, row_step, row-length, row_bound}
use Rattle.fields.proofs.Steps.{goes_making, stops_making}
use Rattle.fields.proofs.ReadingLaws.{Reading, reading_begin, reading_next, reading_end, captured, capture_read}
use Rattle.fields.proofs.SeenLaws.{number_told, tells_is, below_nothing, below_put}

-- A capture does not look at those before.
pub captures_blind : (s : List ℕ) (n at : ℕ) → row_at (capture_at s) n [] at ≡ row_at (λ before. capture_at s []) n [] at
unfolding capture_at
captures_blind s n at = refl

-- So many captures whose bytes are all there.
pub captures_there : (s : List ℕ) (n : ℕ) (before : List Capture) (at : ℕ) {m : ℕ} → at + n * 4 ≤ length s → m ≡ at + n * 4 → done tt m ≡ forget (row_at (capture_at s) n before at)
unfolding making
captures_there s zero before at {m} h e = let z : m ≡ at = omega arith in ap (done tt) z ∙ sym (ap forget (row_end (capture_at s) 0 before at (omega arith)))
captures_there s (suc n) before at {m} h e =
    let k = captured s at in
    let d = capture_read s before at (omega arith) in
    let z : suc n - 1 ≡ n = omega arith in
    captures_there s n (k ∷ before) (at + 4) (omega arith) (omega arith)
    ∙ sym (ap forget (row_step (capture_at s) (suc n) before at (omega arith) d ∙ ap (λ j. making (λ rest. k ∷ rest) (row_at (capture_at s) j (k ∷ before) (at + 4))) z) ∙ making_making (λ _. tt) (λ rest. k ∷ rest) (row_at (capture_at s) n (k ∷ before) (at + 4)))

-- A rule and a child after those that the marks tell of.
pub rule_told : (g : Rule → ℕ) (s : List ℕ) (before : List Rule) (at : ℕ) (table : List ℕ) {y : Parsed ℕ} → Tells (unmarked table) (map rule_attention before)
    → y ≡ making g (and_then (requiring (unmarked table) 7 at (attention_at s at)) λ t a. making (λ e. record { attention = t; place = a; expression = e }) (expr_at s levels a))
    → y ≡ making g (rule_at s true before at)
unfolding rule_at
rule_told g s before at table t k = rw (← tells_is t) k

pub child_told : (g : Child → ℕ) (s : List ℕ) (before : List Child) (at : ℕ) (table : List ℕ) {y : Parsed ℕ} → Tells (unmarked table) (map child_bit before)
    → y ≡ making g (and_then (child_bit_at s (unmarked table) at) λ b a. and_then (field_at s a 2) λ i c. making (λ n. record { place = at; bit = b; id = i; number = n }) (field_at s c 1))
    → y ≡ making g (child_at s true before at)
unfolding child_at child_bit_at
child_told g s before at table t k = rw (← tells_is t) k

-- A child whose bytes are all there, and whose bit is below 64 and not below those before.
pub child_read : (s : List ℕ) (before : List Child) (at : ℕ) {bound : ℕ} → Below bound (map child_bit before) → at + 4 ≤ length s → bound ≤ get_or s at 0 → get_or s at 0 < 64
    → child_at s true before at ≡ done (record { place = at; bit = get_or s at 0; id = field s (at + 1) 2; number = field s (at + 3) 1 }) (at + 4)
unfolding child_at
child_read s before at b h k l =
    let e : at + 1 + 2 ≡ at + 3 = omega arith in
    let f : at + 3 + 1 ≡ at + 4 = omega arith in
    then_in _ _ (requiring_in _ _ _ _ (requiring_in _ _ _ _ (byte_field s at (omega arith)) (lt-ltb _ _ l)) (b.above _ k))
    (then_in _ _ (field_there s (at + 1) 2 (omega arith) ∙ ap (done (field s (at + 1) 2)) e) (making_in _ _ (field_there s (at + 3) 1 (omega arith) ∙ ap (done (field s (at + 3) 1)) f) refl))

-- A loop over children whose bits rise: those before are below `bound`, and `left` are to come at `place`, where all their bytes are there.
pub record RisingChildren (s : List ℕ) (n at bound left place : ℕ) : Type 0 where
  pub before : List Child
  pub below : Below bound (map child_bit before)
  pub reading : Reading {F = Unit {0}} (child_at s true) (λ _. []) n at before left place
  pub there : place + left * 4 ≤ length s

pub rising_first : (s : List ℕ) (n at : ℕ) → at ≤ length s → n * 4 ≤ length s - at → RisingChildren s n at 0 n at
rising_first s n at h k = record { before = []; below = below_nothing 0; reading = reading_begin _ _ n at; there = omega arith }

module _ {s : List ℕ} {n at bound left place : ℕ} (r : RisingChildren s n at bound left place) where
  pub rising_child : 0 < left → bound ≤ get_or s place 0 → get_or s place 0 < 64 → RisingChildren s n at (get_or s place 0 + 1) (left - 1) (place + 4)
  rising_child z b l =
      record {
        before = record { place = place; bit = get_or s place 0; id = field s (place + 1) 2; number = field s (place + 3) 1 } ∷ r.before;
        below = below_put (map child_bit r.before) (get_or s place 0) r.below b refl refl;
        reading = reading_next _ _ r.reading (child_read s r.before place r.below (omega (arith, r.there)) b l) refl z;
        there = omega (arith, r.there);
      }

  pub rising_all : left ≤ 0 → ChildrenRead s n at place
  rising_all z = let f = reading_end _ _ r.reading z in record { children = f.elements; read = f.read }

-- The attention type of a rule is at most 5, and the bit of a child at most 63.
pub rule_few : (s : List ℕ) (before : List Rule) (at : ℕ) {v m : ℕ} → done v m ≡ making rule_attention (rule_at s true before at) → v < 6
unfolding rule_at attention_at known_attention
rule_few s before at {v} e =
    let f = making_out _ _ (sym e) in
    let t = then_out _ _ f.1 in
    let g = making_out _ _ t.3 in
    let a = requiring_out _ _ _ _ t.2 in
    let k = requiring_out _ _ _ _ a.0 in
    let w : t.0 ≡ v = ap rule_attention g.2 ∙ f.2 in
    let h : t.0 ≤ 5 = leb-true t.0 5 (and_right (leb 1 t.0) (leb t.0 5) k.1) in
    omega (arith, h, w)

pub child_few : (s : List ℕ) (before : List Child) (at : ℕ) {v m : ℕ} → done v m ≡ making child_bit (child_at s true before at) → v < 64
unfolding child_at
child_few s before at {v} e =
    let f = making_out _ _ (sym e) in
    let t = then_out _ _ f.1 in
    let u = then_out _ _ t.3 in
    let g = making_out _ _ u.3 in
    let a = requiring_out _ _ _ _ t.2 in
    let k = requiring_out _ _ _ _ a.0 in
    let w : t.0 ≡ v = ap child_bit g.2 ∙ f.2 in
    let h : t.0 < 64 = ltb-true t.0 64 k.1 in
    omega (arith, h, w)

-- The head of an instance after those that the marks tell of.
pub head_told : (limit : ℕ) (s : List ℕ) (numbers : List ℕ) (begun at : ℕ) (table : List ℕ) {y : Parsed InstanceHead} → Tells (unmarked table) numbers
    → y ≡ and_then (instance_number_at s (unmarked table) begun limit at) (λ n a. and_then (field_at s a 1) λ c b. counts_at s n c b)
    → y ≡ instance_head_at limit s true begun numbers at
unfolding instance_head_at instance_number_at counts_at
head_told limit s numbers begun at table t k =
    k ∙ ap (λ q. and_then q (λ n a. and_then (field_at s a 1) λ c b. counts_at s n c b)) (number_told s at limit {begun = begun} t refl)

-- An instance is its head and what follows.
instance_body : {A B : Type 0} (p : Parsed A) (q : ℕ → Parsed B) (r : ℕ → Parsed (List Child)) (f : A → B → List Child → NodeInstance) (v : ℕ)
    → ((a : A) (b : B) (c : List Child) → (f a b c).number ≡ v)
    → making node_number (and_then p λ a m. and_then (q m) λ b n. making (f a b) (r n)) ≡ making (λ _. v) (and_then p λ a m. and_then (q m) λ b n. r n)
unfolding and_then making
instance_body (refused k i) q r f v e = refl
instance_body {A} {B} (done a m) q r f v e = second (q m)
  where
    third : (b : B) (w : Parsed (List Child)) → making node_number (making (f a b) w) ≡ making (λ _. v) w
    third b (done c o) = ap (λ j. done j o) (e a b c)
    third b (refused k i) = refl

    second : (u : Parsed B) → making node_number (and_then u λ b n. making (f a b) (r n)) ≡ making (λ _. v) (and_then u λ b n. r n)
    second (done b n) = third b (r n)
    second (refused k i) = refl

module _ (limit : ℕ) (s : List ℕ) (total : ℕ) (before : List NodeInstance) (at : ℕ) {begun : ℕ} {x : InstanceHeadRead} {y : Parsed ℕ} where
  pub instance_told : {h : instance.InstanceHead} {a : ℕ} → begun ≡ total + length before → instance_head_parsed x ≡ instance_head_at limit s true begun (map node_number before) at → x ≡ InstanceHeadRead.Head h a
      → y ≡ making (λ _. h.number) (node_body_at s h.captures h.rules h.children a) → y ≡ making node_number (node_instance_at limit s true total before at)
  unfolding node_instance_at node_body_at
  instance_told {h} {a} e i g k = rw (← e) (goes_making instance_head_parsed node_number _ _ refl i g (k ∙ sym (instance_body _ _ _ _ h.number (λ x y z. refl))))

  pub instance_stop : {r : Refusal} → begun ≡ total + length before → instance_head_parsed x ≡ instance_head_at limit s true begun (map node_number before) at → x ≡ InstanceHeadRead.Refused r → y ≡ refused_by r
      → y ≡ making node_number (node_instance_at limit s true total before at)
  unfolding node_instance_at
  instance_stop e i g k = rw (← e) (stops_making instance_head_parsed node_number _ _ refl i g k)

-- An instance that was read had room.
pub instance-room : (limit : ℕ) (g : NodeInstance → ℕ) (s : List ℕ) (total : ℕ) (before : List NodeInstance) (at : ℕ) {v m : ℕ}
    → done v m ≡ making g (node_instance_at limit s true total before at) → total + length before < limit
unfolding node_instance_at instance_head_at
instance-room limit g s total before at {v} {m} e =
    let q = requiring (λ n. ltb (total + length before) limit) 8 at (field_at s at 1) in
    let f = found g (node_instance_at limit s true total before at) e in
    let d = followed (instance_head_at limit s true (total + length before) (map node_number before) at) _ f.is in
    let c = followed (requiring (fresh true (map node_number before)) 7 at q) _ d.is in
    let i : q ≡ done c.value c.place = (passed (fresh true (map node_number before)) 7 at q c.is).1 in
    let j : ltb (total + length before) limit ≡ true = (passed (λ n. ltb (total + length before) limit) 8 at (field_at s at 1) i).0 in
    ltb-true _ _ j

-- The head of a node after those that the IDs tell of.
pub node_head_told : (s : List ℕ) (numbers : List ℕ) (at largest : ℕ) (ids : List ℕ) {y : Parsed NodeHead} → Tells (new_after largest ids) numbers
    → y ≡ and_then (requiring (new_after largest ids) 7 at (field_at s at 2)) (λ i a. and_then (type_at s a) λ t b. making (λ n. record { id = i; type = t; count = n }) (count_at s b 1))
    → y ≡ node_head_at s true numbers at
unfolding node_head_at
node_head_told s numbers at largest ids t k = rw (← tells_is t) k

-- A node is its head and its instances.
pub node_told : (limit : ℕ) (g : Node → Element) (s : List ℕ) (before : List Node) (at : ℕ) {total : ℕ} {y : Parsed Element}
    → total ≡ node_total before
    → y ≡ making g (and_then (node_head_at s true (map node_id before) at) λ h a. making (λ is. record { id = h.id; type = h.type; instances = is }) (row_at (node_instance_at limit s true total) h.count [] a))
    → y ≡ making g (node_at limit s true before at)
unfolding node_at
node_told limit g s before at {total} {y} e k = rw (← e) k

module _ {B : Type 0} (g : B → Element) (p : Parsed NodeHead) (f : NodeHead → ℕ → Parsed B) {y : Parsed Element} where
  pub head_then : {x : NodeHeadRead} {h : declared.NodeHead} {n : ℕ} → node_head_parsed x ≡ p → x ≡ NodeHeadRead.Head h n
      → y ≡ making g (f (record { id = h.id; type = h.kind; count = h.count }) n) → y ≡ making g (and_then p f)
  head_then = goes_making node_head_parsed g p f refl

  pub head_stop : {x : NodeHeadRead} {r : Refusal} → node_head_parsed x ≡ p → x ≡ NodeHeadRead.Refused r → y ≡ refused_by r → y ≡ making g (and_then p f)
  head_stop = stops_making node_head_parsed g p f refl

-- A node that was read has at least one instance, and not too many.
head_counted : (s : List ℕ) (ids : List ℕ) (at : ℕ) {h : NodeHead} {m : ℕ} → node_head_at s true ids at ≡ done h m → 0 < h.count
unfolding node_head_at count_at
head_counted s ids at {h} {m} e =
    let d = followed (requiring (fresh true ids) 7 at (field_at s at 2)) _ e in
    let c = followed (type_at s d.place) _ d.next in
    let f : Found (λ n. record { id = d.value; type = c.value; count = n }) (requiring (λ k. ltb 0 k) 5 c.place (field_at s c.place 1)) h m = found _ _ (sym c.next) in
    let j : ltb 0 f.value ≡ true = (passed (λ k. ltb 0 k) 5 c.place (field_at s c.place 1) f.is).0 in
    let i : f.value ≡ h.count = ap (λ x. x.count) f.made in
    let k : 0 < f.value = ltb-true _ _ j in
    omega arith

pub node_size : (limit : ℕ) (s : List ℕ) (before : List Node) (at : ℕ) {i k m : ℕ} → done (record { id = i; instances = k }) m ≡ making node_element (node_at limit s true before at)
    → (0 < k) × (node_total before + k ≤ limit)
unfolding node_at making
node_size limit s before at {i} {k} {m} e =
    let f : Found node_element (node_at limit s true before at) (record { id = i; instances = k }) m = found node_element (node_at limit s true before at) e in
    let d = followed (node_head_at s true (map node_id before) at) _ f.is in
    let h = d.value in
    let w = row_at (node_instance_at limit s true (node_total before)) h.count [] d.place in
    let j : Found (λ is. record { id = h.id; type = h.type; instances = is }) w f.value m = found _ w (sym d.next) in
    let l : length j.value ≡ h.count = row-length (node_instance_at limit s true (node_total before)) h.count [] d.place j.is in
    let n : length f.value.instances ≡ k = ap (λ x. x.instances) f.made in
    let o : j.value ≡ f.value.instances = ap (λ x. x.instances) j.made in
    let c : 0 < h.count = head_counted s (map node_id before) at d.is in
    let b : node_total before + 0 + h.count ≤ limit =
    row_bound (node_instance_at limit s true (node_total before)) (node_total before) limit
    (λ x y a z g. instance-room limit node_number s (node_total before) x y (sym (ap (making node_number) g)))
    h.count [] d.place j.is c in
    let q : length j.value ≡ k = ap length o ∙ n in
    (omega arith, omega arith)

pub ruleset node_laws = (rule_told, child_told, head_told, instance_told, instance_stop, node_head_told, node_told, head_then, head_stop)
