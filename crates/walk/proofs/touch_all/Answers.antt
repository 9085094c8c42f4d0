use native.Mathlib.Omega.{arith}
use borrow.Author.Rules.{rules}
use Rattle.numbers.proofs.TakenLaws.{taken_in, taken_less}
use Rattle.walk.proofs.Tables.{size_few}
use Rattle.walk.proofs.TouchLaws.{touched_none, touched_next, touched_all}
use Rattle.walk.proofs.touch_all.Goals as goal

pub offset_bounds-active-k : goal.offset_bounds-active-k
offset_bounds-active-k c = omega (arith, size_few c.args.active.now)

pub bounds-active-k : goal.bounds-active-k
bounds-active-k c = omega (arith, size_few c.args.active.now)

pub loop-rest-init : goal.loop-rest-init
loop-rest-init c =
    (omega arith, omega arith, touched_none _ _ _ _ _ c.requires.0 c.requires.2 (c.type_inv.active _).fits, λ e. e)

pub overflow_mul-k : goal.overflow_mul-k
overflow_mul-k c =
    omega (arith, size_few c.args.active.now)

pub overflow_add-k : goal.overflow_add-k
overflow_add-k c =
    omega (arith, size_few c.args.active.now, taken_in c.loop-rest.invariant.2 (λ z. absurd (omega arith)) c.next_bit-b.ensures)

pub touch-requires : goal.touch-requires
touch-requires c =
    (omega (arith, c.requires.0, size_few c.args.active.now), omega arith)

pub loop-rest-smaller : goal.loop-rest-smaller
loop-rest-smaller c =
    taken_less c.loop-rest.invariant.2 (λ z. absurd (omega arith)) c.without_next-rest.ensures

pub loop-rest-preserved : goal.loop-rest-preserved
loop-rest-preserved c = (
  search rules,
  search rules,
  touched_next _ _ _ _ _ c.requires.0 c.requires.2 c.loop-rest.invariant.2 (λ z. absurd (omega arith)) c.next_bit-b.ensures c.touch.ensures.m_after c.without_next-rest.ensures,
  λ e. c.touch.ensures.words_after (c.loop-rest.invariant.3 e),
)

pub returns : goal.returns
returns c = record {
  m_after = touched_all _ _ _ _ _ c.requires.0 c.requires.2 c.loop-rest.invariant.2 (omega arith);
  words_after = c.loop-rest.invariant.3;
}
