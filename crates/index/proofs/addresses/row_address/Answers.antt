use mathlib.Core.Path.{refl, sym, ◌∙◌, ap}
use Rattle.format.specs.Lookup.{gathered}
use Rattle.format.specs.Refusals.{address_values}
use Rattle.index.proofs.SeekingLaws.{seeking_begin, seeking_next, seeking_found, seeking_end}
use Rattle.index.proofs.SoughtLaws.{among_none}
use Rattle.index.proofs.WalkLaws.{register_found, register_passed}
use Rattle.index.proofs.addresses.row_address.Goals as goal

pub loop-left-init : goal.loop-left-init
loop-left-init c = λ limit. seeking_begin _ _ _ _

pub returns-in-Ok : goal.returns-in-Ok
returns-in-Ok c =
    λ limit. seeking_found _ _ (c.loop-left.invariant limit) c.loop-left-test.true
    (register_found limit _ _ c.head_at-h.ensures _ _ (λ limit total flags is m e. sym (ap address_values c.in-Ok.is) ∙ c.register_address-a.ensures limit total flags is m e) refl)

pub loop-left-preserved : goal.loop-left-preserved
loop-left-preserved c =
    λ limit. seeking_next _ _ (c.loop-left.invariant limit) c.loop-left-test.true
    (register_passed limit _ _ c.head_at-h.ensures _ _ (λ limit total flags is m e. sym (ap address_values c.in-Err.is) ∙ c.register_address-a.ensures limit total flags is m e) refl
    c.after_instances-place.ensures)

pub returns : goal.returns
unfolding gathered
returns c = λ limit. seeking_end _ _ (c.loop-left.invariant limit) c.loop-left-test.false (c.absent.ensures ∙ among_none _ _)
