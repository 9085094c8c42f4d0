use mathlib.Core.Path.{◌≡◌}
use native.Mathlib.Omega.{arith}
use Rattle.expressions.proofs.OpeningLaws.{unsaid, opening_level}
use Rattle.naming.proofs.FitLaws.{fit_reading, fit_opened, fit_more, fit_end}
use Rattle.naming.proofs.+fit_at.Goals as goal

pub returns-then-o-eq0 : goal.returns-then-o-eq0
returns-then-o-eq0 t c = λ i. unsaid

pub overflow_add-start : goal.overflow_add-start
overflow_add-start t c = omega (arith, (c.opening_at-o.ensures c.if-o-eq0.false).within)

pub overflow_add-at : goal.overflow_add-at
overflow_add-at t c = omega (arith, (c.opening_at-o.ensures c.if-o-eq0.false).within)

pub key_at-requires : goal.key_at-requires
key_at-requires t c = omega (arith, (c.opening_at-o.ensures c.if-o-eq0.false).within)

pub returns-then-key_fits : goal.returns-then-key_fits
returns-then-key_fits t c =
    let reading : c.opening_at-o.result ≡ 1280 = omega arith in
    λ i z. fit_reading _ _ _ _ _ _ (c.opening_at-o.ensures c.if-o-eq0.false) reading c.key_at.ensures (c.key_fits.ensures i c.if-key_fits.true)

pub loop-left-init : goal.loop-left-init
loop-left-init t c =
    let other : c.opening_at-o.result ≡ 1280 → ⊥ = λ e. omega arith in
    let o = c.opening_at-o.ensures c.if-o-eq0.false in
    (opening_level _ _ _ o, λ i. fit_opened _ _ _ _ o other)

pub fit_at-next-requires : goal.fit_at-next-requires
fit_at-next-requires t c = (omega arith, tt)

pub loop-left-preserved : goal.loop-left-preserved
loop-left-preserved t c =
    let fits : c.fit_at-next.result ≡ 0 → ⊥ = λ e. omega arith in
    (c.loop-left.invariant.0, λ i. fit_more _ _ _ _ (c.loop-left.invariant.1 i) c.loop-left-test.true (c.fit_at-next.ensures i fits))

pub returns : goal.returns
returns t c = λ i _. fit_end _ _ _ _ (c.loop-left.invariant.1 i) c.loop-left-test.false
