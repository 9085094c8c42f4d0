use Prim.Native.Nat.{◌+◌, ◌≤◌}
use mathlib.Core.Path.{refl, sym, ◌∙◌, ap}
use native.Mathlib.Omega.{arith}
use borrow.Author.Rules.{rules}
use lib.ListN.{length}
use Rattle.numbers.proofs.Bools.{clash}
use Rattle.links.specs.Links.{children_put}
use Rattle.links.proofs.ChildrenLaws.{linked_none}
use Rattle.links.proofs.RowLaws.{going_begin, going_next, going_end}
use Rattle.references.proofs.LinkingLaws.{faultless_next, linked_next, faultless_none}
use Rattle.references.proofs.children.link_part.Goals as goal

pub returns-then-s-at : goal.returns-then-s-at
returns-then-s-at c = λ i e. clash e refl

pub returns-then-s-at-2 : goal.returns-then-s-at-2
returns-then-s-at-2 c = λ i e. clash e refl

pub loop-left-init : goal.loop-left-init
loop-left-init c = (omega arith, refl, λ i. going_begin _ _ _ _, λ i. going_begin _ _ _ _)

pub bounds-s-place : goal.bounds-s-place
bounds-s-place c = omega (arith, c.loop-left.invariant.0, c.loop-left-test.true)

pub overflow_cast-bit : goal.overflow_cast-bit
overflow_cast-bit c = omega (arith, c.type_inv.s c.loop-left.place)

pub shape_of-row-then-row-bit : goal.shape_of-row-then-row-bit
shape_of-row-then-row-bit c = c.loop-left.invariant.1 ∙ c.row-1.given

pub returns-then-row-bit : goal.returns-then-row-bit
returns-then-row-bit c = λ i e. clash e refl

pub name_at-requires : goal.name_at-requires
name_at-requires c = omega (arith, c.loop-left.invariant.0, c.loop-left-test.true)

pub shape_of-row-then-nodes-p : goal.shape_of-row-then-nodes-p
shape_of-row-then-nodes-p c = c.loop-left.invariant.1 ∙ c.row-1.given

pub returns-then-nodes-p : goal.returns-then-nodes-p
returns-then-nodes-p c = λ i e. clash e refl

pub offset_bounds-row-bit : goal.offset_bounds-row-bit
offset_bounds-row-bit c = omega (arith, c.type_inv.s c.loop-left.place)

pub bounds-row-bit : goal.bounds-row-bit
bounds-row-bit c = c.if-row-bit.false

pub overflow_add-place : goal.overflow_add-place
overflow_add-place c = omega (arith, c.loop-left.invariant.0, c.loop-left-test.true)

pub loop-left-preserved : goal.loop-left-preserved
loop-left-preserved c =
    let h : c.loop-left.place + 4 ≤ length c.args.s.now = omega (arith, c.loop-left.invariant.0, c.loop-left-test.true) in (
      omega (arith, c.loop-left.invariant.0, c.loop-left-test.true),
      search rules,
      λ i. going_next _ _ (c.loop-left.invariant.2 i) c.loop-left-test.true _
          (λ before a m d. faultless_next _ _ _ h c.name_at.ensures (c.find-p.ensures i) c.if-nodes-p.false before a m d),
      λ i. going_next _ _ (c.loop-left.invariant.3 i) c.loop-left-test.true _
          (λ before a m d. linked_next _ _ _ h c.name_at.ensures (c.find-p.ensures i) c.if-nodes-p.false before a m d _),
    )

pub shape_of-row : goal.shape_of-row
shape_of-row c = c.loop-left.invariant.1 ∙ c.row-1.given

pub returns : goal.returns
returns c =
    λ i e ks m d. (
      sym (going_end _ _ (c.loop-left.invariant.2 i) c.loop-left-test.false ks m d) ∙ faultless_none _,
      linked_none _ _ _ ∙ going_end _ _ (c.loop-left.invariant.3 i) c.loop-left-test.false ks m d ∙ ap (λ z. children_put c.args.nodes.now z 0 ks) c.fill.ensures,
    )
