use Rattle.std.proofs.Common.{◌≡◌, arith, rules}
use Rattle.numbers.proofs.TakenLaws.{taken_in, taken-set, taken_less}
use Rattle.listing.proofs.PassLaws.{gathered_none, gathered_next, gathered_all}
use Rattle.listing.proofs.keep_bits.Goals as goal

pub loop-unseen-init : goal.loop-unseen-init
loop-unseen-init c = gathered_none _ _ _ _ c.args.graph.now.known c.requires (search rules)

pub keep_bit-word-requires : goal.keep_bit-word-requires
keep_bit-word-requires c =
    let t : c.loop-unseen.unseen ≡ 0 → ⊥ = λ z. absurd (omega arith) in
    (c.requires, taken_in c.loop-unseen.invariant t c.next_bit.ensures, taken-set c.loop-unseen.invariant t c.next_bit.ensures)

pub loop-unseen-smaller : goal.loop-unseen-smaller
loop-unseen-smaller c = taken_less c.loop-unseen.invariant (λ z. absurd (omega arith)) c.without_next-unseen.ensures

pub loop-unseen-preserved : goal.loop-unseen-preserved
loop-unseen-preserved c =
    gathered_next _ _ _ _ c.args.graph.now.known c.requires c.loop-unseen.invariant (λ z. absurd (omega arith)) c.next_bit.ensures c.keep_bit-word.ensures c.without_next-unseen.ensures

pub returns : goal.returns
returns c = gathered_all _ _ _ _ c.args.graph.now.known c.requires c.loop-unseen.invariant (omega arith)
