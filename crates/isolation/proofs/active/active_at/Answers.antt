use mathlib.Core.Path.{refl}
use Rattle.isolation.proofs.ActivityLaws.{unread_yes, unread_no}
use Rattle.isolation.proofs.active.active_at.Goals as goal

pub returns-then-at-eq0 : goal.returns-then-at-eq0
returns-then-at-eq0 c = record {
  value = λ e. refl;
  value_2 = λ i e m h q. absurd (h c.if-at-eq0.true);
}

pub returns-then-v : goal.returns-then-v
returns-then-v c = record {
  value = λ e. absurd (c.if-at-eq0.false e);
  value_2 = λ i e m h q. unread_yes _ _ _ _ _ (c.value_at-v.ensures i) e m q c.if-v.true;
}

pub returns : goal.returns
returns c = record {
  value = λ e. absurd (c.if-at-eq0.false e);
  value_2 = λ i e m h q. unread_no _ _ _ _ _ (c.value_at-v.ensures i) e m q c.if-v.false;
}
