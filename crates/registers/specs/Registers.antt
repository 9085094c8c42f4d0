-- What the answers about registers stand for, and what is kept of a register.
use Rattle.std.specs.Prelude.{ℕ, true, List, [], length}
use Rattle.format.specs.Parsed.{Parsed, done, and_then, making, row_at}
use Rattle.format.specs.Fields.{count_at, type_at, flags_at}
use Rattle.format.specs.Tree.{RegisterInstance, Register}
use Rattle.format.specs.RegisterLayout.{RegisterHead, register_total, register_instance_at}
use Rattle.fields.specs.Views.{Element, Section, refused_by}
use Rattle.registers.specs.declared.RegisterHeadRead.{RegisterHeadRead}

abbrev pub register_head_parsed : RegisterHeadRead → Parsed RegisterHead
register_head_parsed (RegisterHeadRead.Head h next) = done (record { id = h.id; type = h.kind; flags = h.flags; count = h.count }) next
register_head_parsed (RegisterHeadRead.Refused r) = refused_by r

abbrev pub register_number : RegisterInstance → ℕ
register_number i = i.number

abbrev pub register_id : Register → ℕ
register_id r = r.id

abbrev pub register_element : Register → Element
register_element r = record { id = r.id; instances = length r.instances }

abbrev pub register_section : List Register → Section
register_section rs = record { elements = length rs; instances = register_total rs }

-- The rest of a register's head, after its ID and type.
unfoldable pub register_flags_at : List ℕ → ℕ → ℕ → ℕ → Parsed RegisterHead
register_flags_at s i t at = and_then (flags_at s at) λ f a. making (λ n. record { id = i; type = t; flags = f; count = n }) (count_at s a 1)

-- The rest of a register's head, after its ID.
unfoldable pub register_rest_at : List ℕ → ℕ → ℕ → Parsed RegisterHead
register_rest_at s i at = and_then (type_at s at) λ t a. register_flags_at s i t a

-- The rest of a register, after its ID. A file may have `limit` register instances, and `total` stand in the registers before.
unfoldable pub register_after : ℕ → List ℕ → ℕ → ℕ → ℕ → Parsed Register
register_after limit s total i at =
    and_then (register_rest_at s i at) λ h a.
    making (λ is. record { id = h.id; type = h.type; flags = h.flags; instances = is })
    (row_at (register_instance_at limit s true total h.type) h.count [] a)
