use mathlib.Core.Path.{◌∙◌}
use Rattle.index.proofs.SeekingLaws.{seeking_begin, seeking_next, seeking_found, seeking_end}
use Rattle.index.proofs.SoughtLaws.{instance_none, instance_found, instance_passed}
use Rattle.index.proofs.addresses.instance_address.Goals as goal

pub loop-left-init : goal.loop-left-init
loop-left-init c = λ limit total id flags. seeking_begin _ _ _ _

pub returns-then-i-number : goal.returns-then-i-number
returns-then-i-number c =
    λ limit total flags. seeking_found _ _ (c.loop-left.invariant limit total _ flags) c.loop-left-test.true
    (λ before a m q. instance_found _ _ flags _ a (c.instance_at-i.ensures limit total before a m q) c.if-i-number.true c.address_size.ensures)

pub loop-left-preserved : goal.loop-left-preserved
loop-left-preserved c =
    λ limit total id flags. seeking_next _ _ (c.loop-left.invariant limit total id flags) c.loop-left-test.true
    (λ before a m q. instance_passed id _ flags _ a (c.instance_at-i.ensures limit total before a m q) c.if-i-number.false)

pub returns : goal.returns
returns c = λ limit total flags. seeking_end _ _ (c.loop-left.invariant limit total _ flags) c.loop-left-test.false (c.absent.ensures ∙ instance_none _ _ flags _)
