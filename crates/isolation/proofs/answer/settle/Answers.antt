use mathlib.Core.Path.{sym, ◌∙◌}
use native.Mathlib.Omega.{arith}
use Rattle.isolation.proofs.SettleLaws.{size_within, root_in, settled_unread, settled_found}
use Rattle.isolation.proofs.answer.settle.Goals as goal

pub returns-then-u-ne0 : goal.returns-then-u-ne0
returns-then-u-ne0 c = record {
  unread_after = λ of ready model.
      let r = c.reach-w.ensures of _ ready.tabled c.requires.0 c.requires.1 (root_in _ _ (λ i. (c.type_inv.file i).fits) _ _ _ _ _ _ _ _ _ ready) in
      settled_unread of _ (λ i. (c.type_inv.file i).fits) _ _ _ _ _ _ _ _ _ ready r.0 _ _ r.2 c.first_unread-u.ensures c.if-u-ne0.true;
  rows_within = tt;
}

pub returns : goal.returns
returns c =
    let a = c.active-1.given ∙ c.requires.0 in
    let u = c.unread-1.given ∙ c.requires.1 in record {
      unread_after = λ of ready model.
          let r = c.reach-w.ensures of _ ready.tabled c.requires.0 c.requires.1 (root_in _ _ (λ i. (c.type_inv.file i).fits) _ _ _ _ _ _ _ _ _ ready) in
          let m = c.keep_list-rows.ensures.rows (size_within _ a) (size_within _ (a ∙ sym u)) in
          settled_found of _ (λ i. (c.type_inv.file i).fits) _ _ _ _ _ _ _ _ _ ready r.0 c.args.slot _ r.2 _ a r.1 c.first_unread-u.ensures c.if-u-ne0.false (omega arith) model m.0 (m.1 _);
      rows_within = (c.keep_list-rows.ensures.few.0, c.keep_list-rows.ensures.few.1, omega (arith, c.keep_list-rows.ensures.few.2, c.unread-1.given));
    }
