-- What a file is by the limits that hold for it: its tree, or the refusal that the rules name first; and what the checker and the address query answer.
use Rattle.std.specs.Prelude.{ℕ, true, List, [], ◌∷◌, ◌++◌, length, leb}
use Rattle.limits.specs.Limits.{Limits}
use Rattle.format.specs.Refusals.{CheckValues, accepted_with, refused_with, AddressValues}
use Rattle.format.specs.Parsed.{Parsed, done, refused, and_then, require}
use Rattle.format.specs.Fields.{address_size}
use Rattle.format.specs.FileLayout.{file_at}
use Rattle.format.specs.Lookup.{at, RegisterEntry, register_entries, register_position, node_entries}
use Rattle.format.specs.References.{Fault, reference_faults}
use Rattle.format.specs.Cycles.{cycle_faults}
use Rattle.format.specs.Tree.{Chip}

-- The first fault decides.
unfoldable pub judged : List Fault → Chip → ℕ → Parsed Chip
judged [] c end = done c end
judged (f ∷ fs) c end = refused f.number f.place

-- "Order: 1; then 2 to 11 in byte order of the walk; then 12 and 13 in byte order, 12 first at one byte; then 14." "Nothing follows the last root."
unfoldable pub verdict : Limits → List ℕ → Parsed Chip
verdict limits s =
    require (leb (length s) limits.bytes) 1 0 λ _. and_then (file_at limits s true 0) λ c end. require (leb (length s) end) 11 end λ _.
    judged (reference_faults c ++ cycle_faults c) c end

-- The summary of a tree: "model/level and the counts of registers, register instances, nodes, node instances and roots".
abbrev pub counts_of : Chip → CheckValues
counts_of c = accepted_with c.model (length c.registers) (length (register_entries c)) (length c.nodes) (length (node_entries c)) (length c.roots)

-- The checker's answer.
unfoldable pub check_of : Parsed Chip → CheckValues
check_of (done c end) = counts_of c
check_of (refused n p) = refused_with n p

unfoldable pub check : Limits → List ℕ → CheckValues
check limits s = check_of (verdict limits s)

-- The address query's answer. "An absent register instance is refusal 12, place 0, after the file's own refusals."
unfoldable pub address_in : List RegisterEntry → AddressValues
address_in [] = record { number = 12; place = 0; offset = 0; size = 0 }
address_in (e ∷ es) = record { number = 0; place = 0; offset = e.instance.place; size = address_size e.type }

unfoldable pub address_of : ℕ → ℕ → Parsed Chip → AddressValues
address_of id number (done c end) = address_in (at (register_position c id number) (register_entries c))
address_of id number (refused n p) = record { number = n; place = p; offset = 0; size = 0 }

unfoldable pub address : Limits → List ℕ → ℕ → ℕ → AddressValues
address limits s id number = address_of id number (verdict limits s)
