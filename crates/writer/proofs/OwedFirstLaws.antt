-- Where an expression is owed, what completes the records begins with one.
use Prim.Native.Nat.{ℕ, ◌<◌}
use mathlib.Core.Bool.{true}
use mathlib.Core.List.{List, [], ◌∷◌}
use mathlib.Core.Path.{◌≡◌, refl, ap}
use native.Mathlib.Omega.{arith}
use lib.ListN.{get_or}
use Rattle.numbers.specs.BigEndian.{bytes_of}
use Rattle.numbers.proofs.Bools.{clash}
use Rattle.format.specs.Lookup.{gathered}
use Rattle.format.specs.Parsed.{done}
use Rattle.format.proofs.ParsedLaws.{require_out}
use Rattle.records.specs.declared.Record.{Record}
use Rattle.records.specs.declared.Before.{Before}
use Rattle.records.specs.declared.Element.{Element}
use Rattle.records.specs.declared.Element.TheVariants as element
use Rattle.records.specs.Grammar.{element_of, allowed, follows, judge}
use Rattle.records.specs.Record.{record_bytes}
use Rattle.records.proofs.AllowedLaws.{Means, element_means, allowed_out, after_out}

-- Where an expression is owed, only an expression is allowed.
owed_kind : (b : Before) (r : Record) (e : Element) → 0 < b.owed → Means r.kind r.form e → follows b e ≡ true → r.kind ≡ 7
owed_kind b r element.Register o m f = absurd (omega (arith, (after_out _ _ b f).none))
owed_kind b r element.RegisterInstance o m f = absurd (omega (arith, (after_out _ _ b f).none))
owed_kind b r element.Node o m f = absurd (omega (arith, (after_out _ _ b f).none))
owed_kind b r element.NodeInstance o m f = absurd (omega (arith, (after_out _ _ b f).none))
owed_kind b r element.Capture o m f = absurd (omega (arith, (after_out _ _ b f).none))
owed_kind b r element.Rule o m f = absurd (omega (arith, (after_out _ _ b f).none))
owed_kind b r element.Reading o m f = m.0
owed_kind b r element.Constant o m f = m.0
owed_kind b r element.All o m f = m.0
owed_kind b r element.Any o m f = m.0
owed_kind b r element.Inverse o m f = m.0
owed_kind b r element.Left o m f = m.0
owed_kind b r element.Right o m f = m.0
owed_kind b r element.Child o m f = absurd (omega (arith, (after_out _ _ b f).none))
owed_kind b r element.Root o m f = absurd (omega (arith, (after_out _ _ b f).none))
owed_kind b r element.Unknown o m f = clash f refl

first_byte : (r : Record) (rs : List Record) → r.kind ≡ 7 → get_or (gathered record_bytes (r ∷ rs)) 0 0 ≡ 7
unfolding gathered record_bytes bytes_of
first_byte r rs e = rw e

-- Behind whole records with an expression owed: what completes them begins with one.
pub owed_first : (ys : List Record) (b : Before) (at : ℕ) {c : Before} {end : ℕ} → 0 < b.owed → judge b at ys ≡ done c end → c.owed ≡ 0 → get_or (gathered record_bytes ys) 0 0 ≡ 7
unfolding judge allowed
owed_first [] b at {c} {end} o e z =
    let d : done b at ≡ done c end = e in
    let w : b ≡ c = cc in
    absurd (omega (arith, ap (λ x. x.owed) w))
owed_first (y ∷ ys) b at o e z =
    let q = require_out _ _ _ _ e in
    let a = allowed_out (element_of y.kind y.form) b y q.0 in
    first_byte y ys (owed_kind b y (element_of y.kind y.form) o (element_means y.kind y.form) a.follow)
