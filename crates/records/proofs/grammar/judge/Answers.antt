use Rattle.std.proofs.Common.{◌≡◌, ◌-◌, ◌/◌, length, sym, ◌∙◌, arith}
use Rattle.records.proofs.JudgingLaws.{judge_refuses, judge_goes, judge_ends}
use Rattle.records.proofs.OwingLaws.{grammar_rest, capped_owed}
use Rattle.records.proofs.grammar.judge.Goals as goal

pub loop-i-init : goal.loop-i-init
loop-i-init c = record { still = let all : length c.args.s.now / 16 - 0 ≡ length c.args.s.now / 16 = omega arith in rw (c.nothing_before-b.ensures, all) (grammar_rest c.args.s.now); owed = rw c.nothing_before-b.ensures (omega arith) }

pub returns-then-not-allows : goal.returns-then-not-allows
returns-then-not-allows c =
    c.not_allowed.ensures
    ∙ sym (c.loop-i.invariant.still ∙ judge_refuses _ _ _ _ c.record_at-r.ensures c.element_of-e.ensures c.allows.ensures (omega arith) (omega arith) c.if-not-allows.true)

pub loop-i-preserved : goal.loop-i-preserved
loop-i-preserved c = record {
  still =
      c.loop-i.invariant.still
      ∙ judge_goes _ _ _ _ c.record_at-r.ensures c.element_of-e.ensures c.allows.ensures (omega arith) (omega arith) c.if-not-allows.false
      (omega arith) (omega arith) c.with_record.ensures c.capped-b.ensures;
  owed = rw c.capped-b.ensures (capped_owed _ _);
}

pub returns : goal.returns
returns c = c.finish.ensures ∙ sym (c.loop-i.invariant.still ∙ judge_ends _ _ _ _ (omega arith) (omega arith))
