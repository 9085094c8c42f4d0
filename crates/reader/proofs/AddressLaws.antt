-- The checker's answer and the address of a register instance.
use Prim.Native.Nat.{ℕ, ◌+◌, ◌-◌, ◌≤◌, ◌<◌}
use mathlib.Core.Bool.{true}
use mathlib.Core.List.{List, [], ◌∷◌}
use mathlib.Core.Logic.{⊎_elim}
use mathlib.Core.Path.{◌≡◌, refl, sym, ◌∙◌, ap}
use native.Mathlib.Omega.{arith}
use lib.ListN.{length, take, drop, length-take, length-drop}
use Rattle.limits.specs.Limits.{Limits}
use Rattle.numbers.specs.BigEndian.{bytes_of, Bytes}
use Rattle.numbers.proofs.BigEndianLaws.{length_bytes}
use Rattle.format.specs.Fields.{address_size}
use Rattle.format.specs.Lookup.{at, RegisterEntry, register_entries, register_position}
use Rattle.format.specs.Parsed.{Parsed, done, refused, making}
use Rattle.format.specs.Refusals.{CheckValues, refused_with}
use Rattle.format.specs.Tree.{Chip}
use Rattle.format.specs.Verdict.{verdict, check_of, check, address_in, address_of, address, counts_of}
use Rattle.format.proofs.Acceptance.{verdict_out, read_to_end}
use Rattle.format.proofs.NumberedLaws.{verdict_numbered}
use Rattle.format.proofs.PlacesLaws.{addresses_again}
use Rattle.format.proofs.RegistersAccepted.{size_positive}
use Rattle.format.proofs.PositionsLaws.{every_at}
use Rattle.fields.proofs.Parsing.{Found, found, missed}
use Rattle.format.proofs.PositionsLaws.{at_most}
use Rattle.format.specs.FileLayout.{file_at}
use Rattle.format.specs.RegisterLayout.{registers_at}
use Rattle.index.proofs.Again.{same_done}
use Rattle.reader.specs.Layout.{Summary, layout_at, layout_values}
use Rattle.reader.proofs.LayoutLaws.{sections}

-- The checker's values of a reading.
abbrev checked : Parsed CheckValues → CheckValues
checked (done v end) = v
checked (refused n p) = refused_with n p

check_is : (p : Parsed Chip) → check_of p ≡ checked (making counts_of p)
unfolding check_of making
check_is (done c end) = refl
check_is (refused n p) = refl

-- What was examined.
module _ (limits : Limits) (s : List ℕ) {q : Parsed Summary} where
  module _ {l : Summary} {end : ℕ} (d : q ≡ done l end) (e : making layout_values q ≡ making counts_of (verdict limits s)) where
    pub check_accepted : layout_values l ≡ check limits s
    unfolding check making
    check_accepted = ap checked (sym (ap (making layout_values) d) ∙ e) ∙ sym (check_is (verdict limits s))

    pub accepted : (c : Chip) × (verdict limits s ≡ done c end)
    unfolding making
    accepted = let f : Found counts_of (verdict limits s) (layout_values l) end = found counts_of (verdict limits s) (sym (ap (making layout_values) d) ∙ e) in (f.value, f.is)

  module _ {n p : ℕ} (d : q ≡ refused n p) (e : making layout_values q ≡ making counts_of (verdict limits s)) where
    pub check_refused : refused_with n p ≡ check limits s
    unfolding check making
    check_refused = ap checked (sym (ap (making layout_values) d) ∙ e) ∙ sym (check_is (verdict limits s))

    pub not_accepted : verdict limits s ≡ refused n p
    unfolding making
    not_accepted = missed counts_of (verdict limits s) (sym (ap (making layout_values) d) ∙ e)

    pub address_refused : (id number : ℕ) → record { number = n; place = p; offset = 0; size = 0 } ≡ address limits s id number
    unfolding address address_of
    address_refused id number = sym (ap (address_of id number) not_accepted)

pub address_accepted : (limits : Limits) (s : List ℕ) (id number : ℕ) {c : Chip} {end : ℕ} → verdict limits s ≡ done c end → address_in (at (register_position c id number) (register_entries c)) ≡ address limits s id number
unfolding address address_of
address_accepted limits s id number e = sym (ap (address_of id number) e)

-- The registers section of a file whose layout was read stands where the layout says.
pub registers_stand : (limits : Limits) (s : List ℕ) {l : Summary} {end : ℕ} (c : Chip) → done l end ≡ layout_at limits s 0 → file_at limits s true 0 ≡ done c end
    → registers_at limits.register_instances s true l.registers_place ≡ done c.registers l.nodes_place
registers_stand limits s {l} c layout file =
    let z = sections limits s 0 (sym layout) in
    z.registers ∙ ap (λ x. done x.registers l.nodes_place) (same_done (sym z.file) file).0

-- An address that is found stands in the file.
module _ (limits : Limits) (s : List ℕ) (bytes : Bytes s) where
  part_within : (p n x : ℕ) → 0 < n → take n (drop p s) ≡ bytes_of n x → p + n ≤ length s
  part_within p n x h e =
      let l : length (take n (drop p s)) ≡ n = ap length e ∙ length_bytes n x in
      omega (arith, length-take n (drop p s), length-drop p s)

  entry_within : {c : Chip} {end : ℕ} → verdict limits s ≡ done c end → (i : ℕ) {e : RegisterEntry} → at i (register_entries c) ≡ e ∷ [] → e.instance.place + address_size e.type ≤ length s
  entry_within {c} {end} v i {e} q =
      let w : verdict limits s ≡ done c (length s) = v ∙ ap (done c) (read_to_end limits s bytes v) in
      let h = every_at _ i (register_entries c) (addresses_again limits s bytes c w) q in
      part_within e.instance.place (address_size e.type) e.instance.address (size_positive e.type) h

  in_within : {c : Chip} {end : ℕ} → verdict limits s ≡ done c end → (i : ℕ) {o n : ℕ} → record { number = 0; place = 0; offset = o; size = n } ≡ address_in (at i (register_entries c)) → o + n ≤ length s
  unfolding address_in
  in_within {c} v i {o} {n} e =
      ⊎_elim
      (λ z. let y : ◌≡◌ {A = ℕ} 0 12 = ap (λ a. a.number) (e ∙ ap address_in z) in absurd (omega arith))
      (λ z.
      let a : o ≡ z.0.instance.place = ap (λ a. a.offset) (e ∙ ap address_in z.1) in
      let b : n ≡ address_size z.0.type = ap (λ a. a.size) (e ∙ ap address_in z.1) in
      omega (arith, entry_within v i z.1))
      (at_most i (register_entries c))

  of_within : (q : Parsed Chip) → verdict limits s ≡ q → (id number : ℕ) {o n : ℕ} → record { number = 0; place = 0; offset = o; size = n } ≡ address_of id number q → o + n ≤ length s
  unfolding address_of
  of_within (done c end) v id number e = in_within v (register_position c id number) e
  of_within (refused k p) v id number e = let z : 0 ≡ k = ap (λ a. a.number) e in absurd (omega (arith, (verdict_numbered limits s v).0))

  pub address_within : (id number : ℕ) {o n : ℕ} → record { number = 0; place = 0; offset = o; size = n } ≡ address limits s id number → o + n ≤ length s
  unfolding address
  address_within id number e = of_within (verdict limits s) refl id number e

  short_of : (q : Parsed Chip) → verdict limits s ≡ q → (id number : ℕ) {o n : ℕ} → record { number = 0; place = 0; offset = o; size = n } ≡ address_of id number q → length s ≤ limits.bytes
  unfolding address_of
  short_of (done c end) v id number e = (verdict_out limits s v).short
  short_of (refused k p) v id number e = let z : 0 ≡ k = ap (λ a. a.number) e in absurd (omega (arith, (verdict_numbered limits s v).0))

  pub address_short : (id number : ℕ) {o n : ℕ} → record { number = 0; place = 0; offset = o; size = n } ≡ address limits s id number → length s ≤ limits.bytes
  unfolding address
  address_short id number e = short_of (verdict limits s) refl id number e

-- The part of the file that is handed back.
module _ (limits : Limits) (s : List ℕ) (id number : ℕ) where
  pub part_is : {o n : ℕ} {r : List ℕ} → record { number = 0; place = 0; offset = o; size = n } ≡ address limits s id number → r ≡ take (o + n - o) (drop o s) → r ≡ take (address limits s id number).size (drop (address limits s id number).offset s)
  part_is {o} {n} {r} e d =
      let a : o ≡ (address limits s id number).offset = ap (λ x. x.offset) e in
      let b : n ≡ (address limits s id number).size = ap (λ x. x.size) e in
      let z : o + n - o ≡ n = omega arith in
      d ∙ ap (λ k. take k (drop o s)) (z ∙ b) ∙ ap (λ k. take (address limits s id number).size (drop k s)) a

  pub part_none : {k p : ℕ} {r : List ℕ} → record { number = k; place = p; offset = 0; size = 0 } ≡ address limits s id number → r ≡ [] → r ≡ take (address limits s id number).size (drop (address limits s id number).offset s)
  part_none {k} {p} {r} e d =
      let b : 0 ≡ (address limits s id number).size = ap (λ x. x.size) e in
      d ∙ ap (λ k. take k (drop (address limits s id number).offset s)) b

  -- The part begins where the address does; an empty one begins where the file does.
  pub part_place : (b : ℕ) {k p o n : ℕ} → record { number = k; place = p; offset = o; size = n } ≡ address limits s id number → o + b ≡ b + (address limits s id number).offset
  part_place b {o = o} e = let d : o ≡ (address limits s id number).offset = ap (λ x. x.offset) e in omega arith
