-- The rows of a whole register.
use Prim.Native.Nat.{ℕ, ◌+◌, ◌*◌, ◌/◌, ◌≤◌, ◌<◌}
use mathlib.Core.Bool.{Bool, true}
use mathlib.Core.List.{List, [], ◌∷◌, map, map-map}
use mathlib.Core.Path.{◌≡◌, sym, ◌∙◌, ap, subst}
use lib.ListN.{length, length-map}
use Rattle.format.specs.Fields.{field_at, fresh}
use Rattle.format.specs.Lookup.{entries_of, gathered}
use Rattle.format.proofs.GatheredLaws.{map-gathered}
use Rattle.format.specs.Parsed.{Parsed, done, refused, making, requiring, row_at}
use Rattle.format.specs.RegisterLayout.{RegisterHead, register_total, register_instance_at, register_at}
use Rattle.format.specs.Tree.{RegisterInstance, Register}
use Rattle.format.proofs.ParsedLaws.{then_out, making_out, requiring_out}
use Rattle.format.proofs.RegistersAccepted.{registers_none, registers_more}
use Rattle.tables.specs.Kinds.{kind_of}
use Rattle.fields.specs.Seen.{Tells}
use Rattle.fields.specs.Views.{Element}
use Rattle.fields.proofs.SeenLaws.{tells_is}
use Rattle.fields.proofs.Parsing.{found}
use Rattle.registers.specs.Registers.{register_flags_at, register_rest_at, register_after, register_id, register_element}
use Rattle.registers.proofs.RegisterLaws.{register_split, register_size}
use Rattle.index.specs.Rows.{Rows, filled, row_of, register_row}
use Rattle.index.proofs.Again.{done_out}
use Rattle.index.proofs.ElementLaws.{element-next}
use Rattle.index.proofs.RisingLaws.{Reader, rest_done, rest_made, rest_cut}

-- The rows of its instances, by its head.
pub after_filled : (limit : ℕ) (s : List ℕ) (total id at : ℕ) (t : Rows) {u : Rows} {i type flags count a : ℕ}
    → ◌≡◌ {A = Parsed RegisterHead} (done (record { id = i; type = type; flags = flags; count = count }) a) (register_rest_at s id at)
    → ((is : List RegisterInstance) (m : ℕ) → row_at (register_instance_at limit s true total type) count [] a ≡ done is m → u ≡ filled t total (map (λ x. row_of i (type * 2 + flags / 128) x.number x.place) is))
    → (g : Register) (m : ℕ) → register_after limit s total id at ≡ done g m → u ≡ filled t total (map register_row (entries_of g))
unfolding register_after entries_of register_row kind_of
after_filled limit s total id at t {u} {i} {type} {flags} {count} {a} h f g m d =
    let p = then_out _ _ d in
    let q = making_out _ _ p.3 in
    let w = done_out (h ∙ p.2) in
    let c : count ≡ p.0.count = ap (λ x. x.count) w.0 in
    let n : i ≡ p.0.id = ap (λ x. x.id) w.0 in
    let y : type ≡ p.0.type = ap (λ x. x.type) w.0 in
    let b : flags ≡ p.0.flags = ap (λ x. x.flags) w.0 in
    let r : row_at (register_instance_at limit s true total type) count [] a ≡ done q.0 m = rw (y, c, w.1) q.1 in
    subst (λ x. u ≡ filled t total (map register_row (entries_of x))) q.2 (f q.0 m r ∙ rw (n, y, b) (ap (filled t total) (sym (map-map register_row _ q.0))))

-- It has the ID that it is given.
pub after_named : (limit : ℕ) (s : List ℕ) (total id at : ℕ) {i n next : ℕ} → ◌≡◌ {A = Parsed Element} (done (record { id = i; instances = n }) next) (making register_element (register_after limit s total id at)) → i ≡ id
unfolding register_after register_rest_at register_flags_at
after_named limit s total id at z =
    let f = found register_element _ z in
    let p = then_out _ _ f.is in
    let q = making_out _ _ p.3 in
    let y = then_out _ _ p.2 in
    let b = then_out _ _ y.3 in
    let c = making_out _ _ b.3 in
    sym (ap (λ x. x.id) c.2 ∙ ap (λ x. x.id) q.2 ∙ ap (λ x. x.id) f.made)

module _ (limit : ℕ) (s : List ℕ) (at : ℕ) where
  after_same : {t u i j a b : ℕ} → t ≡ u → i ≡ j → a ≡ b → register_after limit s t i a ≡ register_after limit s u j b
  after_same e f g = rw (e, f, g)

  -- Two readings of a register, after whatever registers with as many instances stand before it, give the same.
  pub register_same : (b before : List Register) → register_total b ≡ register_total before → (x y : Register) (m n : ℕ) → register_at limit s true b at ≡ done x m → register_at limit s true before at ≡ done y n → (x ≡ y) × (m ≡ n)
  register_same b before t x y m n e d =
      let p = then_out _ _ (sym (register_split limit s b at) ∙ e) in
      let q = then_out _ _ (sym (register_split limit s before at) ∙ d) in
      let h = done_out (sym (requiring_out _ _ _ _ p.2).0 ∙ (requiring_out _ _ _ _ q.2).0) in
      done_out (sym p.3 ∙ after_same t h.0 h.1 ∙ q.3)

-- An ID after those that a test tells of.
pub id_told : (numbers : List ℕ) (at : ℕ) (p : Parsed ℕ) {new : ℕ → Bool} {q : Parsed ℕ} → Tells new numbers → q ≡ requiring new 7 at p → q ≡ requiring (fresh true numbers) 7 at p
id_told numbers at p t e = rw (← tells_is t) e

-- The rows of all registers, register after register.
pub rows_of : (rs : List Register) → map register_row (gathered entries_of rs) ≡ gathered (λ r. map register_row (entries_of r)) rs
rows_of rs = map-gathered register_row entries_of rs

-- What a loop over registers rests on.
pub registers_reader : (limit : ℕ) (s : List ℕ) → Reader (register_at limit s true) register_id (λ r. length r.instances) register_total (λ r. map register_row (entries_of r)) limit
unfolding entries_of
registers_reader limit s =
    record {
      nothing = registers_none;
      another = registers_more;
      sized = λ r. length-map (entries_of r) register_row ∙ length-map r.instances _;
      bounded = λ before at i k m e. (register_size limit s before at e).1;
      same = register_same limit s;
    }

-- What is known of a register after some others holds after whatever others with as many instances.
pub register_next : (limit : ℕ) (s : List ℕ) (at : ℕ) (t : Rows) (k : ℕ) {u : Rows} (b : List Register) → k ≡ register_total b
    → {i n next : ℕ} → ◌≡◌ {A = Parsed Element} (done (record { id = i; instances = n }) next) (making register_element (register_at limit s true b at))
    → ((g : Register) (m : ℕ) → register_at limit s true b at ≡ done g m → u ≡ filled t k (map register_row (entries_of g)))
    → (before : List Register) (a : Register) (m : ℕ) → k ≡ register_total before → register_at limit s true before at ≡ done a m
    → (next ≡ m) × (u ≡ filled t k (map register_row (entries_of a))) × (k + n ≡ k + length (map register_row (entries_of a))) × (k + n ≡ register_total (a ∷ before))
register_next limit s at = let R = registers_reader limit s in element-next (register_at limit s true) register_id (λ r. length r.instances) register_total R.another (λ r. map register_row (entries_of r)) R.sized at (R.same at)

-- A register by its ID and the rest.
module _ (limit : ℕ) (s : List ℕ) (at : ℕ) (before : List Register) {total : ℕ} (e : total ≡ register_total before) where
  pub register_made : {C : Type 0} (f : Register → C) {id a : ℕ} {y : Parsed C} → done id a ≡ requiring (fresh true (map register_id before)) 7 at (field_at s at 3) → y ≡ making f (register_after limit s total id a) → y ≡ making f (register_at limit s true before at)
  register_made = rest_made (register_at limit s true) register_id register_total s at 3 (register_after limit s) before (register_split limit s before at) e

  pub register_rest : {id a : ℕ} → done id a ≡ requiring (fresh true (map register_id before)) 7 at (field_at s at 3) → (g : Register) (m : ℕ) → register_at limit s true before at ≡ done g m → register_after limit s total id a ≡ done g m
  register_rest = rest_done (register_at limit s true) register_id register_total s at 3 (register_after limit s) before (register_split limit s before at) e

  pub register_cut : {C : Type 0} (f : Register → C) {k m : ℕ} → refused k m ≡ requiring (fresh true (map register_id before)) 7 at (field_at s at 3) → refused k m ≡ making f (register_at limit s true before at)
  register_cut = rest_cut (register_at limit s true) register_id register_total s at 3 (register_after limit s) before (register_split limit s before at) e

  -- An ID that does not fall.
  pub register_read : {bound id a : ℕ} → (done id a ≡ requiring (fresh true (map register_id before)) 7 at (field_at s at 3)) × (bound ≤ id) × (id < 16777216)
      → {name n next : ℕ} → ◌≡◌ {A = Parsed Element} (done (record { id = name; instances = n }) next) (making register_element (register_after limit s total id a))
      → ◌≡◌ {A = Parsed Element} (done (record { id = id; instances = n }) next) (making register_element (register_at limit s true before at)) × (bound ≤ id) × (id < 16777216)
  register_read {bound} {id} {a} o {name} {n} {next} z =
      (register_made register_element o.0 (ap (λ j. done (record { id = j; instances = n }) next) (sym (after_named limit s total id a z)) ∙ z), o.1, o.2)
