-- The laws of register instances whose numbers rise.
use Prim.Native.Nat.{ℕ, suc, ◌+◌, ◌*◌, ◌-◌, ◌≤◌, ◌<◌}
use mathlib.Core.Bool.{Bool, true, false, cond}
use mathlib.Core.List.{List, [], ◌∷◌, map}
use mathlib.Core.Path.{◌≡◌, refl, sym, ◌∙◌, ap}
use native.Mathlib.Nat.{add-mul}
use native.Mathlib.Omega.{arith}
use lib.Dec.{eqb}
use lib.ListN.{length, get_or, set, length-map}
use borrow.Author.Tests.{lt-ltb, eq-eqb, ne_eqb}
use Rattle.numbers.specs.Field.{field}
use Rattle.format.specs.Fields.{field_at, address_size}
use Rattle.format.specs.Parsed.{done, making, row_at}
use Rattle.format.specs.RegisterLayout.{register_instance_at}
use Rattle.format.specs.Tree.{RegisterInstance}
use Rattle.format.proofs.GatheredLaws.{gathered_each}
use Rattle.format.proofs.ParsedLaws.{then_in, making_in, requiring_in}
use Rattle.tables.specs.Tables.{key_of}
use Rattle.fields.specs.Seen.{Below}
use Rattle.fields.proofs.FieldLaws.{field_there, byte_field}
use Rattle.fields.specs.Views.{forget}
use Rattle.fields.proofs.Parsing.{Found, found, row-length}
use Rattle.fields.proofs.RowLaws.{Rising, rising_begin, rising_step, rising_last}
use Rattle.registers.specs.Registers.{register_number}
use Rattle.index.specs.declared.Instance.{Instance}
use Rattle.index.specs.Rows.{Rows, put_row, filled, row_of, instance_of, pair, Covered}
use Rattle.index.proofs.Again.{done_out, register_instance_fields, register_instance_again}
use Rattle.index.proofs.FillingLaws.{Sized, sized_put, Filling, filling_begin, filling_next, filling_end, instance_put, covered_none, covered_put, covered_to}

pub size_four : (t : ℕ) → t ≡ 1 → 5 ≡ suc (address_size t)
unfolding address_size
size_four t e = rw (eq-eqb t 1 e)

pub size_eight : (t : ℕ) → (t ≡ 1 → ⊥) → 9 ≡ suc (address_size t)
unfolding address_size
size_eight t e = rw (ne_eqb t 1 e)

pub sizes_small : (n t : ℕ) {size : ℕ} → n < 256 → size ≡ suc (address_size t) → n * size < 4096
unfolding address_size
sizes_small n t h e = rw e (go (eqb t 1))
  where
    go : (b : Bool) → n * suc (cond b 4 8) < 4096
    go true = omega arith
    go false = omega arith

pub one_less : (l z : ℕ) → 0 < l → l * z ≡ z + (l - 1) * z
one_less l z h =
    let e : l ≡ 1 + (l - 1) = omega arith in
    let m : (1 + (l - 1)) * z ≡ 1 * z + (l - 1) * z = add-mul 1 (l - 1) z in
    ap (λ j. j * z) e ∙ m ∙ ap (λ j. j + (l - 1) * z) (let i : 1 * z ≡ z = omega arith in i)

one_longer : (a : RegisterInstance) (xs : List RegisterInstance) → length (a ∷ xs) ≡ 1 + length xs
one_longer a xs = omega arith

-- A row in two columns.
pub put_pair : (keys kinds : List ℕ) (k x y p : ℕ) → pair (set keys k x) (set kinds k y) ≡ put_row (pair keys kinds) k (record { key = x; kind = y; place = p })
unfolding put_row
put_pair keys kinds k x y p = refl

-- Two readings of a register instance, after whatever stands before it, give the same.
pub register_instance_is : (limit : ℕ) (s : List ℕ) (at total type : ℕ) (b : List RegisterInstance) {n next : ℕ} → done n next ≡ making register_number (register_instance_at limit s true total type b at)
    → (p : ℕ) × ((before : List RegisterInstance) (i : RegisterInstance) (m : ℕ) → register_instance_at limit s true total type before at ≡ done i m
    → ◌≡◌ {A = Instance} (record { number = n; place = p; next = next }) (instance_of i.number i.place m))
register_instance_is limit s at total type b {n} {next} z =
    let f : Found register_number (register_instance_at limit s true total type b at) n next = found register_number (register_instance_at limit s true total type b at) z in
    let g = register_instance_fields limit s at total type b f.is in
    let h : done n f.value.place ≡ field_at s at 1 = ap (λ v. done v f.value.place) (sym f.made) ∙ sym g.0 in
    (f.value.place, λ before i m e. register_instance_again limit s at total type before h (sym g.1) e)

-- An instance whose bytes are there, and whose number is not below those before.
module _ (limit : ℕ) (s : List ℕ) (place kind size : ℕ) (sized : size ≡ suc (address_size kind)) (there : place + size ≤ length s) where
  number_there : done (get_or s place 0) (place + 1) ≡ field_at s place 1
  number_there = sym (byte_field s place (omega arith))

  address_there : done (field s (place + 1) (address_size kind)) (place + size) ≡ field_at s (place + 1) (address_size kind)
  address_there =
      let e : place + 1 + address_size kind ≡ place + size = omega arith in
      sym (field_there s (place + 1) (address_size kind) (omega arith) ∙ ap (done (field s (place + 1) (address_size kind))) e)

  instance_there : (total : ℕ) (before : List RegisterInstance) {bound : ℕ} → Below bound (map register_number before) → bound ≤ get_or s place 0 → total + length before < limit
      → register_instance_at limit s true total kind before place ≡ done (record { number = get_or s place 0; place = place + 1; address = field s (place + 1) (address_size kind) }) (place + size)
  unfolding register_instance_at
  instance_there total before b h l =
      then_in _ _ (requiring_in _ _ _ _ (requiring_in _ _ _ _ (sym number_there) (lt-ltb _ _ l)) (b.above _ h)) (making_in _ _ (sym address_there) refl)

-- The loop over the instances of a register whose numbers rise: `left` are to come at `place`, and their rows from k on.
module _ (limit : ℕ) (s : List ℕ) (at kind id code count total : ℕ) (t₀ : Rows) where
  pub record Risen (size : ℕ) (keys kinds : List ℕ) (bound place k left : ℕ) : Type 0 where
    pub size_is : size ≡ suc (address_size kind)
    pub fits : place + left * size ≤ length s
    pub among : k + left ≡ total + count
    pub room : total + count ≤ limit
    pub so_far : ℕ
    pub begun : k ≡ total + so_far
    pub sized : Sized t₀ (pair keys kinds)
    pub rises : Rising (register_instance_at limit s true total kind) register_number length (row_at (register_instance_at limit s true total kind) count [] at) bound so_far left place
    pub filling : Filling (register_instance_at limit s true total kind) (λ i. row_of id code i.number i.place ∷ []) (λ b x. Unit {0}) (row_at (register_instance_at limit s true total kind) count [] at) t₀ total (pair keys kinds) k left place
    pub covered : Covered t₀ (pair keys kinds) total k

  module _ {size : ℕ} {keys kinds : List ℕ} {bound place k left : ℕ} (r : Risen size keys kinds bound place k left) where
    pub risen_there : 0 < left → place + size ≤ length s
    risen_there h = omega (arith, one_less left size h, r.fits)

    pub risen_next : 0 < left → bound ≤ get_or s place 0 → {y : ℕ} → y ≡ key_of id (get_or s place 0) → Risen size (set keys k y) (set kinds k code) (get_or s place 0 + 1) (place + size) (k + 1) (left - 1)
    risen_next h b {y} e =
        let l = risen_there h in
        let p = put_pair keys kinds k y code (place + 1) in
        let c = r.rises.counting.counted in
        record {
          size_is = r.size_is;
          fits = omega (arith, one_less left size h, r.fits);
          among = omega (arith, r.among);
          room = r.room;
          so_far = r.so_far + 1;
          begun = omega (arith, r.begun);
          sized = sized_put t₀ (pair keys kinds) k (record { key = y; kind = code; place = place + 1 }) r.sized p;
          rises = rising_step _ register_number (λ _. 1) length refl one_longer r.rises
              (instance_there limit s place kind size r.size_is l total r.rises.before r.rises.below b (omega (arith, r.among, r.room, r.begun)))
              refl refl b refl h;
          filling = filling_next _ _ _ r.filling h
              (λ before a m g q. instance_put (pair keys kinds) k id code a.number a.place
              (register_instance_again limit s place total kind before (number_there limit s place kind size r.size_is l) (address_there limit s place kind size r.size_is l) q) e p);
          covered = covered_put _ r.covered (omega (arith, r.begun)) p;
        }

    pub risen_covered : Covered t₀ (pair keys kinds) total (total + count)
    risen_covered = covered_to (omega (arith, r.among)) r.covered

    pub risen_end : left ≤ 0 → (is : List RegisterInstance) × (row_at (register_instance_at limit s true total kind) count [] at ≡ done is place)
        × (pair keys kinds ≡ filled t₀ total (map (λ i. row_of id code i.number i.place) is))
    risen_end h =
        let f : Found {B = ℕ} length (row_at (register_instance_at limit s true total kind) count [] at) r.so_far place = found length _ (rising_last _ register_number (λ _. 1) length refl one_longer r.rises h) in
        (f.value, f.is, (filling_end _ _ _ r.filling h f.value place f.is).1 ∙ ap (filled t₀ total) (gathered_each _ f.value))

pub risen_begin : (limit : ℕ) (s : List ℕ) (at kind id code count total : ℕ) (keys kinds : List ℕ) {size : ℕ} → size ≡ suc (address_size kind) → at + count * size ≤ length s → total + count ≤ limit
    → Risen limit s at kind id code count total (pair keys kinds) size keys kinds 0 at total count
risen_begin limit s at kind id code count total keys kinds e h l =
    record {
      size_is = e;
      fits = h;
      among = refl;
      room = l;
      so_far = 0;
      begun = omega arith;
      sized = record { keys = refl; kinds = refl; places = refl };
      rises = rising_begin _ register_number (λ _. 1) length refl one_longer count at;
      filling = filling_begin _ _ _ count at (pair keys kinds) total tt;
      covered = covered_none _ _ _;
    }

-- All instances of a register, by the one loop or the other.
module _ (limit : ℕ) (s : List ℕ) (at kind id code count total : ℕ) (t : Rows) where
  pub instances_risen : {u : Rows} {next : ℕ} → (is : List RegisterInstance) × (row_at (register_instance_at limit s true total kind) count [] at ≡ done is next)
      × (u ≡ filled t total (map (λ i. row_of id code i.number i.place) is))
      → (done tt next ≡ forget (row_at (register_instance_at limit s true total kind) count [] at))
      × ((is : List RegisterInstance) (m : ℕ) → row_at (register_instance_at limit s true total kind) count [] at ≡ done is m → u ≡ filled t total (map (λ i. row_of id code i.number i.place) is))
  unfolding making
  instances_risen r = (sym (ap forget r.1), λ is m d. r.2 ∙ ap (λ x. filled t total (map (λ i. row_of id code i.number i.place) x)) (done_out (sym r.1 ∙ d)).0)

  pub instances_marked : {u v : Rows} → Covered t u total (total + count)
      → ((is : List RegisterInstance) (m : ℕ) → row_at (register_instance_at limit s true total kind) count [] at ≡ done is m → v ≡ filled u total (map (λ i. row_of id code i.number i.place) is))
      → (is : List RegisterInstance) (m : ℕ) → row_at (register_instance_at limit s true total kind) count [] at ≡ done is m → v ≡ filled t total (map (λ i. row_of id code i.number i.place) is)
  instances_marked c f is m d =
      f is m d ∙ c.over total _ (omega arith) (omega (arith, row-length _ _ _ _ d, length-map is (λ i. row_of id code i.number i.place)))
