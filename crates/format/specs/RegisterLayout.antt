-- The layout of the registers (source document 001, section 2).
use Rattle.std.specs.Prelude.{ℕ, ◌+◌, Bool, List, [], ◌∷◌, map, length, ltb}
use Rattle.format.specs.Keywords.{regs}
use Rattle.format.specs.Parsed.{Parsed, and_then, making, requiring, row_at}
use Rattle.format.specs.Fields.{field_at, keyword_at, count_at, type_at, flags_at, address_size, fresh}
use Rattle.format.specs.Tree.{RegisterInstance, Register}

-- How many instances some registers have.
unfoldable pub register_total : List Register → ℕ
register_total [] = 0
register_total (r ∷ rs) = length r.instances + register_total rs

-- "Each instance: 1-byte number, then the address." A file may have `limit` register instances, and `total` stand in the registers before; 8 where this one is beyond the limit, 7 where the register has the number already.
unfoldable pub register_instance_at : ℕ → List ℕ → Bool → ℕ → ℕ → List RegisterInstance → ℕ → Parsed RegisterInstance
register_instance_at limit s unique total type before at =
    and_then
    (requiring (fresh unique (map (λ i. i.number) before)) 7 at
    (requiring (λ n. ltb (total + length before) limit) 8 at (field_at s at 1))) λ n a.
    making (λ x. record { number = n; place = a; address = x }) (field_at s a (address_size type))

-- What a register starts with.
pub record RegisterHead : Type 0 where
  pub id : ℕ
  pub type : ℕ
  pub flags : ℕ
  pub count : ℕ

-- "Each register: 3-byte ID, 1 type, 1 flags, 1 instance count."
unfoldable pub register_head_at : List ℕ → Bool → List ℕ → ℕ → Parsed RegisterHead
register_head_at s unique ids at =
    and_then (requiring (fresh unique ids) 7 at (field_at s at 3)) λ i a.
    and_then (type_at s a) λ t b. and_then (flags_at s b) λ f c.
    making (λ n. record { id = i; type = t; flags = f; count = n }) (count_at s c 1)

unfoldable pub register_at : ℕ → List ℕ → Bool → List Register → ℕ → Parsed Register
register_at limit s unique before at =
    and_then (register_head_at s unique (map (λ r. r.id) before) at) λ h a.
    making (λ is. record { id = h.id; type = h.type; flags = h.flags; instances = is })
    (row_at (register_instance_at limit s unique (register_total before) h.type) h.count [] a)

-- ""REGS", 3-byte register count", and the registers.
unfoldable pub registers_at : ℕ → List ℕ → Bool → ℕ → Parsed (List Register)
registers_at limit s unique at =
    and_then (keyword_at s at regs) λ _ a. and_then (count_at s a 3) λ n b. row_at (register_at limit s unique) n [] b
