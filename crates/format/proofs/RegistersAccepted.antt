-- Registers are read exactly where their encoding stands and they meet the rules.
use Prim.Native.Nat.{ℕ, ◌+◌, ◌^◌, ◌≤◌, ◌<◌}
use mathlib.Core.Bool.{Bool, true, false, cond}
use mathlib.Core.List.{List, [], ◌∷◌, ◌++◌, map}
use mathlib.Core.Path.{◌≡◌, refl, sym, ◌∙◌, ap, subst}
use native.Mathlib.Omega.{arith}
use lib.Dec.{eqb, ltb, lit<}
use lib.ListN.{length, length-append}
use mathlib.Core.Logic.{⊎_elim}
use borrow.Author.Tests.{ltb-true, lt-ltb, eqb-true}
use Rattle.numbers.proofs.Bools.{or_cases}
use Rattle.numbers.specs.BigEndian.{bytes_of, Bytes}
use Rattle.numbers.proofs.BigEndianLaws.{length_bytes}
use Rattle.format.specs.Keywords.{regs}
use Rattle.format.specs.Parsed.{done}
use Rattle.format.specs.Fields.{count_at, known_type, type_at, address_size, known_flags, flags_at, fresh}
use Rattle.format.specs.Tree.{RegisterInstance, Register}
use Rattle.format.specs.RegisterLayout.{register_total, register_instance_at, RegisterHead, register_head_at, register_at, registers_at}
use Rattle.format.specs.Encoding.{encode_register_instance, encode_register, encode_registers}
use Rattle.format.specs.Placing.{PlacedRow, PlacedRegisterInstance, PlacedRegister}
use Rattle.format.specs.Rules.{Every, Distinct}
use Rattle.format.proofs.ParsedLaws.{then_out, then_in, making_out, making_in, requiring_out, requiring_in}
use Rattle.format.proofs.Spelling.{Spell, one-more, spell_join, spell_split, field_out, field_in, Row, Reads, row_out, row_in, section_out, section_in}
use Rattle.format.proofs.RowLaws.{Among, among_out, among_in, row-map, row_both, limit_out, limit_in, total_out, total_in}

pub size_positive : (t : ℕ) → 0 < address_size t
unfolding address_size
size_positive t = go (eqb t 1)
  where
    go : (b : Bool) → 0 < cond b 4 8
    go true = lit< tt
    go false = lit< tt

-- What reading needs of an instance: alone, and among the others, with `total` instances in the registers before.
pub record InstanceAlone (type : ℕ) (i : RegisterInstance) : Type 0 where
  pub number : i.number < 256
  pub address : i.address < 256 ^ address_size type

abbrev InstanceFine : ℕ → ℕ → ℕ → List RegisterInstance → ℕ → RegisterInstance → Type 0
InstanceFine limit total type before at i =
    Among (encode_register_instance type) PlacedRegisterInstance (InstanceAlone type) (λ x. x.number) before at i
    × (ltb (total + length before) limit ≡ true)

module _ (limit : ℕ) (s : List ℕ) (bytes : Bytes s) where
  instance-reads : (total type : ℕ) → Reads (InstanceFine limit total type) (encode_register_instance type) s (register_instance_at limit s true total type)
  unfolding register_instance_at encode_register_instance PlacedRegisterInstance
  instance-reads total type =
      record {
        sound = λ before at {x} {m} e.
            let t = then_out _ _ e in
            let q = requiring_out _ _ _ _ t.2 in
            let r = requiring_out _ _ _ _ q.0 in
            let g = making_out _ _ t.3 in
            let n = field_out s bytes at 1 r.0 in
            let a = field_out s bytes t.1 (address_size type) g.1 in
            subst (λ i. Spell s at m (encode_register_instance type i) × InstanceFine limit total type before at i) g.2
            (spell_join s n.0 a.0, (record { placed = one-more s _ n.0; alone = record { number = n.1; address = a.1 }; new = q.1 }, r.1));
        complete = λ before at {x} {m} a h.
            let b = spell_split s (bytes_of 1 x.number) (bytes_of (address_size type) x.address) a in
            then_in _ _
            (requiring_in _ _ _ _ (requiring_in _ _ _ _ (field_in s bytes at 1 (lit< tt) b.0 h.0.alone.number) h.1) h.0.new)
            (making_in _ _ (field_in s bytes _ (address_size type) (size_positive type) b.1 h.0.alone.address)
            (ap (λ p. record { number = x.number; place = p; address = x.address }) (one-more s _ b.0 ∙ sym h.0.placed)));
      }

-- What reading needs of the instances of a register.
pub record InstancesFine (limit total type at : ℕ) (is : List RegisterInstance) : Type 0 where
  pub placed : PlacedRow PlacedRegisterInstance (encode_register_instance type) at is
  pub each : Every (InstanceAlone type) is
  pub unique : Distinct (map (λ i. i.number) is)
  pub room : total + length is ≤ limit

module _ (limit total type at : ℕ) (is : List RegisterInstance) where
  abbrev enc : RegisterInstance → List ℕ
  enc = encode_register_instance type

  instances_out : 0 < length is → Row (InstanceFine limit total type) enc [] at is → InstancesFine limit total type at is
  instances_out z r =
      let a = among_out enc PlacedRegisterInstance (InstanceAlone type) (λ i. i.number) at is (row-map enc _ _ (λ b a x h. h.0) [] at is r) in
      let l = limit_out enc total limit [] at is z (row-map enc (InstanceFine limit total type) _ (λ b a x h. h.1) [] at is r) in
      record { placed = a.0; each = a.1; unique = a.2; room = omega (arith, l) }

  instances_in : InstancesFine limit total type at is → Row (InstanceFine limit total type) enc [] at is
  instances_in h =
      row_both enc _ _ [] at is (among_in enc PlacedRegisterInstance (InstanceAlone type) (λ i. i.number) at is h.placed h.each h.unique)
      (limit_in enc total limit [] at is (let l : total + 0 + length is ≤ limit = omega (arith, h.room) in l))

-- What reading needs of a register alone, and among the others.
pub record RegisterAlone (r : Register) : Type 0 where
  pub id : r.id < 256 ^ 3
  pub type : known_type r.type ≡ true
  pub flags : r.flags < 256
  pub known : known_flags r.flags ≡ true
  pub count : length r.instances < 256
  pub some : 0 < length r.instances
  pub each : Every (InstanceAlone r.type) r.instances
  pub unique : Distinct (map (λ i. i.number) r.instances)

abbrev RegisterFine : ℕ → List Register → ℕ → Register → Type 0
RegisterFine limit before at r =
    Among encode_register PlacedRegister RegisterAlone (λ x. x.id) before at r × (register_total before + length r.instances ≤ limit)

pub known_small : (t : ℕ) → known_type t ≡ true → t < 256
unfolding known_type
known_small t e =
    ⊎_elim (λ h. omega (arith, eqb-true t 1 h)) (λ h. omega (arith, eqb-true t 2 h)) (or_cases (eqb t 1) (eqb t 2) e)

module _ (limit : ℕ) (s : List ℕ) (bytes : Bytes s) where
  abbrev head_bytes : ℕ → ℕ → ℕ → ℕ → List ℕ
  head_bytes i t f n = bytes_of 3 i ++ (bytes_of 1 t ++ (bytes_of 1 f ++ bytes_of 1 n))

  head-length : (i t f n : ℕ) → length (head_bytes i t f n) ≡ 6
  head-length i t f n = simp (length-append, length_bytes)

  head_out : (ids : List ℕ) (at : ℕ) {h : RegisterHead} {m : ℕ} → register_head_at s true ids at ≡ done h m
      → Spell s at m (head_bytes h.id h.type h.flags h.count)
      × (h.id < 256 ^ 3) × (known_type h.type ≡ true) × (h.flags < 256) × (known_flags h.flags ≡ true)
      × (h.count < 256) × (0 < h.count) × (fresh true ids h.id ≡ true)
  unfolding register_head_at type_at flags_at count_at
  head_out ids at {h} {m} e =
      let a = then_out _ _ e in
      let b = then_out _ _ a.3 in
      let c = then_out _ _ b.3 in
      let d = making_out _ _ c.3 in
      let qa = requiring_out _ _ _ _ a.2 in
      let qb = requiring_out _ _ _ _ b.2 in
      let qc = requiring_out _ _ _ _ c.2 in
      let qd = requiring_out _ _ _ _ d.1 in
      let i = field_out s bytes at 3 qa.0 in
      let t = field_out s bytes a.1 1 qb.0 in
      let f = field_out s bytes b.1 1 qc.0 in
      let n = field_out s bytes c.1 1 qd.0 in
      subst
      (λ h. Spell s at m (head_bytes h.id h.type h.flags h.count)
      × (h.id < 256 ^ 3) × (known_type h.type ≡ true) × (h.flags < 256) × (known_flags h.flags ≡ true)
      × (h.count < 256) × (0 < h.count) × (fresh true ids h.id ≡ true))
      d.2
      (spell_join s i.0 (spell_join s t.0 (spell_join s f.0 n.0)), i.1, qb.1, f.1, qc.1, n.1, ltb-true 0 _ qd.1, qa.1)

  head_in : (ids : List ℕ) (at i t f n : ℕ) {m : ℕ} → Spell s at m (head_bytes i t f n)
      → i < 256 ^ 3 → known_type t ≡ true → f < 256 → known_flags f ≡ true → n < 256 → 0 < n → fresh true ids i ≡ true
      → register_head_at s true ids at ≡ done (record { id = i; type = t; flags = f; count = n }) m
  unfolding register_head_at type_at flags_at count_at
  head_in ids at i t f n a hi ht hf hk hn hz hu =
      let b = spell_split s (bytes_of 3 i) (bytes_of 1 t ++ (bytes_of 1 f ++ bytes_of 1 n)) a in
      let c = spell_split s (bytes_of 1 t) (bytes_of 1 f ++ bytes_of 1 n) b.1 in
      let d = spell_split s (bytes_of 1 f) (bytes_of 1 n) c.1 in
      then_in _ _ (requiring_in _ _ _ _ (field_in s bytes at 3 (lit< tt) b.0 hi) hu)
      (then_in _ _ (requiring_in _ _ _ _ (field_in s bytes _ 1 (lit< tt) c.0 (known_small t ht)) ht)
      (then_in _ _ (requiring_in _ _ _ _ (field_in s bytes _ 1 (lit< tt) d.0 hf) hk)
      (making_in _ _ (requiring_in _ _ _ _ (field_in s bytes _ 1 (lit< tt) d.1 hn) (lt-ltb 0 n hz)) refl)))

  register-reads : Reads (RegisterFine limit) encode_register s (register_at limit s true)
  unfolding register_at encode_register PlacedRegister
  register-reads =
      record {
        sound = λ before at {x} {m} e.
            let t = then_out _ _ e in
            let g = making_out _ _ t.3 in
            let h = t.0 in
            let is = g.0 in
            let a = head_out _ at t.2 in
            let r = row_out _ _ s _ (instance-reads limit s bytes (register_total before) h.type) h.count [] t.1 g.1 in
            let z : 0 < length is = omega (arith, r.1, a.6) in
            let w : t.1 ≡ at + 6 = omega (arith, a.0.ends, head-length h.id h.type h.flags h.count) in
            let f = instances_out limit (register_total before) h.type t.1 is z r.2 in
            subst (λ x. Spell s at m (encode_register x) × RegisterFine limit before at x) g.2 (
              spell_join s (subst (λ k. Spell s at t.1 (head_bytes h.id h.type h.flags k)) (sym r.1) a.0) r.0,
              (
                record {
                  placed = subst (λ p. PlacedRow PlacedRegisterInstance (encode_register_instance h.type) p is) w f.placed;
                  alone = record {
                    id = a.1;
                    type = a.2;
                    flags = a.3;
                    known = a.4;
                    count = omega (arith, r.1, a.5);
                    some = z;
                    each = f.each;
                    unique = f.unique;
                  };
                  new = a.7;
                },
                f.room,
              ),
            );
        complete = λ before at {x} {m} a h.
            let k = h.0.alone in
            let b = spell_split s (head_bytes x.id x.type x.flags (length x.instances)) _ a in
            let w : at + 6 ≡ at + length (head_bytes x.id x.type x.flags (length x.instances)) =
            omega (arith, head-length x.id x.type x.flags (length x.instances)) in
            then_in _ _ (head_in _ at _ _ _ _ b.0 k.id k.type k.flags k.known k.count k.some h.0.new)
            (making_in _ _
            (row_in _ _ s _ (instance-reads limit s bytes (register_total before) x.type) [] _ x.instances b.1
            (instances_in limit (register_total before) x.type _ x.instances
            (record {
              placed = subst (λ p. PlacedRow PlacedRegisterInstance (encode_register_instance x.type) p x.instances) w h.0.placed;
              each = k.each;
              unique = k.unique;
              room = h.1;
            })))
            refl);
      }

-- What reading needs of the registers of a file.
pub record RegistersFine (limit at : ℕ) (rs : List Register) : Type 0 where
  pub placed : PlacedRow PlacedRegister encode_register (at + 7) rs
  pub count : length rs < 256 ^ 3
  pub some : 0 < length rs
  pub each : Every RegisterAlone rs
  pub unique : Distinct (map (λ r. r.id) rs)
  pub room : register_total rs ≤ limit

pub registers_none : register_total [] ≡ 0
unfolding register_total
registers_none = refl

pub registers_more : (r : Register) (rs : List Register) → register_total (r ∷ rs) ≡ length r.instances + register_total rs
unfolding register_total
registers_more r rs = refl

module _ (limit : ℕ) (s : List ℕ) (bytes : Bytes s) (at : ℕ) where
  pub registers_out : {rs : List Register} {m : ℕ} → registers_at limit s true at ≡ done rs m → Spell s at m (encode_registers rs) × RegistersFine limit at rs
  unfolding registers_at encode_registers regs
  registers_out {rs} e =
      let t = section_out s bytes (RegisterFine limit) encode_register (register_at limit s true) (register-reads limit s bytes) regs 3 at e in
      let r : Row (RegisterFine limit) encode_register [] (at + 7) rs = subst (λ p. Row (RegisterFine limit) encode_register [] p rs) (omega arith) t.3 in
      let a = among_out encode_register PlacedRegister RegisterAlone (λ x. x.id) (at + 7) rs (row-map encode_register _ _ (λ b a x h. h.0) [] (at + 7) rs r) in
      let l =
      total_out encode_register (λ x. length x.instances) register_total registers_none registers_more limit [] (at + 7) rs t.1
      (row-map encode_register (RegisterFine limit) _ (λ b a x h. h.1) [] (at + 7) rs r) in
      (t.0, record { placed = a.0; count = t.2; some = t.1; each = a.1; unique = a.2; room = omega (arith, registers_none, l) })

  pub registers-in : (rs : List Register) {m : ℕ} → Spell s at m (encode_registers rs) → RegistersFine limit at rs → registers_at limit s true at ≡ done rs m
  unfolding registers_at encode_registers regs
  registers-in rs a h =
      section_in s bytes (RegisterFine limit) encode_register (register_at limit s true) (register-reads limit s bytes) regs 3 (lit< tt) (lit< tt) at rs a h.some h.count
      (subst (λ p. Row (RegisterFine limit) encode_register [] p rs) (omega arith)
      (row_both encode_register _ _ [] (at + 7) rs
      (among_in encode_register PlacedRegister RegisterAlone (λ x. x.id) (at + 7) rs h.placed h.each h.unique)
      (total_in encode_register (λ x. length x.instances) register_total registers_none registers_more limit [] (at + 7) rs
      (let l : register_total [] + register_total rs ≤ limit = omega (arith, registers_none, h.room) in l))))
