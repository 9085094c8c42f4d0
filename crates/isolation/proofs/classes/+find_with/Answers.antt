use mathlib.Core.Path.{sym, ◌∙◌}
use native.Mathlib.Omega.{arith}
use lib.ListN.{length}
use Rattle.limits.specs.Classes.{small, middle, large, full}
use Rattle.limits.specs.Limits.{library_limits}
use Rattle.isolation.specs.Ready.{room_in}
use Rattle.isolation.specs.Rows.{lent_room}
use Rattle.isolation.proofs.FoundLaws.{within_same, class_exact, full_enough}
use Rattle.isolation.proofs.classes.+find_with.Goals as goal

pub returns-then-larger-eq0 : goal.returns-then-larger-eq0
returns-then-larger-eq0 t c = record {
  exact = class_exact _ _ _ _ (room_in library_limits (lent_room full (length c.args.heads.now)) (length c.args.rows.now) c.args.file.now) _ c.find_full.ensures.unread_after;
  enough = λ p q. full_enough c.args.file.now (λ i. (c.type_inv.file i).fits) _ _ _ _ _ _ _ p q c.find_full.ensures.unread_after;
  within = c.find_full.ensures.rows_within;
}

pub returns-then-is_found : goal.returns-then-is_found
returns-then-is_found t c =
    let e = sym c.is_found.ensures ∙ c.if-is_found.true in
    record {
      exact = class_exact _ _ _ _ (room_in library_limits (lent_room large (length c.args.heads.now)) (length c.args.rows.now) c.args.file.now) _ c.find_large-f.ensures.unread_after;
      enough = λ p q. e;
      within = c.find_large-f.ensures.rows_within;
    }

pub overflow_sub-larger : goal.overflow_sub-larger
overflow_sub-larger t c = omega arith

pub find_with-requires : goal.find_with-requires
find_with-requires t c = (omega arith, tt)

pub returns-then-larger-eq1 : goal.returns-then-larger-eq1
returns-then-larger-eq1 t c = record {
  exact = c.find_with.ensures.exact;
  enough = λ p q. c.find_with.ensures.enough (omega (arith, p, c.heads-then-larger-eq1-1.given)) (omega (arith, q, c.rows-then-larger-eq1-1.given));
  within = within_same c.find_with.result _ _ _ _ (sym c.heads-then-larger-eq1-1.given) (sym c.rows-then-larger-eq1-1.given) c.find_with.ensures.within;
}

pub returns-then-is_found-2 : goal.returns-then-is_found-2
returns-then-is_found-2 t c =
    let e = sym c.is_found-then-larger-eq2.ensures ∙ c.if-is_found-2.true in
    record {
      exact = class_exact _ _ _ _ (room_in library_limits (lent_room middle (length c.args.heads.now)) (length c.args.rows.now) c.args.file.now) _ c.find_middle-f.ensures.unread_after;
      enough = λ p q. e;
      within = c.find_middle-f.ensures.rows_within;
    }

pub overflow_sub-larger-then-larger-eq2 : goal.overflow_sub-larger-then-larger-eq2
overflow_sub-larger-then-larger-eq2 t c = omega arith

pub find_with-requires-then-larger-eq2 : goal.find_with-requires-then-larger-eq2
find_with-requires-then-larger-eq2 t c = (omega arith, tt)

pub returns-then-larger-eq2 : goal.returns-then-larger-eq2
returns-then-larger-eq2 t c = record {
  exact = c.find_with-then-larger-eq2.ensures.exact;
  enough = λ p q. c.find_with-then-larger-eq2.ensures.enough (omega (arith, p, c.heads-then-larger-eq2-1.given)) (omega (arith, q, c.rows-then-larger-eq2-1.given));
  within = within_same c.find_with-then-larger-eq2.result _ _ _ _ (sym c.heads-then-larger-eq2-1.given) (sym c.rows-then-larger-eq2-1.given) c.find_with-then-larger-eq2.ensures.within;
}

pub returns-then-is_found-3 : goal.returns-then-is_found-3
returns-then-is_found-3 t c =
    let e = sym c.is_found-2.ensures ∙ c.if-is_found-3.true in
    record {
      exact = class_exact _ _ _ _ (room_in library_limits (lent_room small (length c.args.heads.now)) (length c.args.rows.now) c.args.file.now) _ c.find_small-f.ensures.unread_after;
      enough = λ p q. e;
      within = c.find_small-f.ensures.rows_within;
    }

pub overflow_sub-larger-2 : goal.overflow_sub-larger-2
overflow_sub-larger-2 t c = omega arith

pub find_with-requires-2 : goal.find_with-requires-2
find_with-requires-2 t c = (omega arith, tt)

pub returns : goal.returns
returns t c = record {
  exact = c.find_with-2.ensures.exact;
  enough = λ p q. c.find_with-2.ensures.enough (omega (arith, p, c.heads-2-1.given)) (omega (arith, q, c.rows-2-1.given));
  within = within_same c.find_with-2.result _ _ _ _ (sym c.heads-2-1.given) (sym c.rows-2-1.given) c.find_with-2.ensures.within;
}
