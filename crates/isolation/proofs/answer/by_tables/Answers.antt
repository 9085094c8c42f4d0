use mathlib.Core.Path.{refl}
use Rattle.isolation.proofs.RootLaws.{small_type, large_type, rootless, unfitting, ready}
use Rattle.isolation.proofs.answer.by_tables.Goals as goal

pub returns-then-attention-lt1 : goal.returns-then-attention-lt1
returns-then-attention-lt1 c = record {
  unread_after = λ of t model roots. small_type of _ _ (λ i. (c.type_inv.file i).fits) _ _ _ _ _ _ _ _ _ t refl c.if-attention-lt1.true;
  rows_within = tt;
}

pub returns-then-attention-gt5 : goal.returns-then-attention-gt5
returns-then-attention-gt5 c = record {
  unread_after = λ of t model roots. large_type of _ _ (λ i. (c.type_inv.file i).fits) _ _ _ _ _ _ _ _ _ t refl c.if-attention-lt1.false c.if-attention-gt5.true;
  rows_within = tt;
}

pub returns-then-nodes-root : goal.returns-then-nodes-root
returns-then-nodes-root c = record {
  unread_after = λ of t model roots.
      rootless of _ _ (λ i. (c.type_inv.file i).fits) _ _ _ _ _ _ _ _ _ t (c.wanted_root-root.ensures of t.chip t.end t.accepted roots t.nodes_are) c.if-attention-lt1.false c.if-attention-gt5.false c.if-nodes-root.true;
  rows_within = tt;
}

pub returns-then-readings_fit : goal.returns-then-readings_fit
returns-then-readings_fit c = record {
  unread_after = λ of t model roots.
      c.settle.ensures.unread_after of
      (ready of c.args.slot _ (λ i. (c.type_inv.file i).fits) _ _ _ _ _ _ _ _ _ t (c.wanted_root-root.ensures of t.chip t.end t.accepted roots t.nodes_are) c.if-attention-lt1.false c.if-attention-gt5.false c.if-nodes-root.false c.readings_fit.ensures c.if-readings_fit.true)
      model;
  rows_within = c.settle.ensures.rows_within;
}

pub returns : goal.returns
returns c = record {
  unread_after = λ of t model roots.
      unfitting of _ _ (λ i. (c.type_inv.file i).fits) _ _ _ _ _ _ _ _ _ t (c.wanted_root-root.ensures of t.chip t.end t.accepted roots t.nodes_are) c.if-attention-lt1.false c.if-attention-gt5.false c.if-nodes-root.false c.readings_fit.ensures c.if-readings_fit.false;
  rows_within = tt;
}
