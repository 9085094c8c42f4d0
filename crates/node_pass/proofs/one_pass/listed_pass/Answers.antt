use Prim.Native.Nat.{ℕ, ◌+◌, ◌≤◌, ◌<◌}
use mathlib.Core.Path.{refl, sym, ◌∙◌, ap}
use native.Mathlib.Omega.{arith}
use lib.ListN.{length, set, length-set, length-replicate}
use lib.Seq.{length-take-le}
use Rattle.limits.specs.Limits.{library_limits}
use Rattle.tables.specs.Indexed.{places_for}
use Rattle.expressions.proofs.OpeningLaws.{unsaid}
use Rattle.nodes.specs.Nodes.{node_head_parsed}
use Rattle.node_pass.proofs.ListedLaws.{listed_begin, listed_next, listed_end, ids_told, head_some}
use Rattle.node_pass.proofs.one_pass.listed_pass.Goals as goal

pub loop-left-init : goal.loop-left-init
loop-left-init c = (
  length-replicate {A = ℕ} library_limits.node_instances 0,
  length-replicate {A = ℕ} (places_for library_limits.node_instances) 0,
  record { keys = refl; kinds = refl; places = refl },
  refl,
  omega arith,
  omega arith,
  c.requires.1,
  listed_begin _ _ _ _ _ _ _ _ _ _ _,
)

pub slice_bounds-ids-end : goal.slice_bounds-ids-end
slice_bounds-ids-end c = omega (arith, c.loop-left.invariant.4, c.loop-left.invariant.5, c.loop-left.invariant.6)

pub slice_bounds-node_head_at-end : goal.slice_bounds-node_head_at-end
slice_bounds-node_head_at-end c =
    let h : c.loop-left.known ≤ length c.loop-left.ids = omega (arith, c.loop-left.invariant.0, c.loop-left.invariant.4, c.loop-left.invariant.5, c.loop-left.invariant.6) in
    sym (length-take-le _ _ h)

pub slice_bounds-node_head_at-end-in-loop-left : goal.slice_bounds-node_head_at-end-in-loop-left
slice_bounds-node_head_at-end-in-loop-left c = sym c.loop-left.invariant.1

pub overflow_sub-limit : goal.overflow_sub-limit
overflow_sub-limit c = c.loop-left.invariant.5

pub shape_of-names-then-limit-total : goal.shape_of-names-then-limit-total
shape_of-names-then-limit-total c = c.loop-left.invariant.2.keys

pub shape_of-wanted-then-limit-total : goal.shape_of-wanted-then-limit-total
shape_of-wanted-then-limit-total c = c.loop-left.invariant.2.kinds

pub shape_of-places-then-limit-total : goal.shape_of-places-then-limit-total
shape_of-places-then-limit-total c = c.loop-left.invariant.2.places

pub shape_of-children-then-limit-total : goal.shape_of-children-then-limit-total
shape_of-children-then-limit-total c = c.loop-left.invariant.3

pub returns-then-limit-total : goal.returns-then-limit-total
returns-then-limit-total c = λ i. unsaid

pub instances_pass-p-requires : goal.instances_pass-p-requires
instances_pass-p-requires c = (c.requires.0, omega (arith, c.if-limit-total.false, c.loop-left.invariant.5))

pub shape_of-names-then-p-eq0 : goal.shape_of-names-then-p-eq0
shape_of-names-then-p-eq0 c = c.names-1.given ∙ c.loop-left.invariant.2.keys

pub shape_of-wanted-then-p-eq0 : goal.shape_of-wanted-then-p-eq0
shape_of-wanted-then-p-eq0 c = c.wanted-1.given ∙ c.loop-left.invariant.2.kinds

pub shape_of-places-then-p-eq0 : goal.shape_of-places-then-p-eq0
shape_of-places-then-p-eq0 c = c.places-1.given ∙ c.loop-left.invariant.2.places

pub shape_of-children-then-p-eq0 : goal.shape_of-children-then-p-eq0
shape_of-children-then-p-eq0 c = c.children-1.given ∙ c.loop-left.invariant.3

pub returns-then-p-eq0 : goal.returns-then-p-eq0
returns-then-p-eq0 c = λ i. unsaid

pub offset_bounds-ids-known : goal.offset_bounds-ids-known
offset_bounds-ids-known c = omega (arith, c.loop-left.invariant.4, c.loop-left.invariant.5, c.loop-left.invariant.6)

pub bounds-ids-known : goal.bounds-ids-known
bounds-ids-known c =
    let z = head_some _ c.loop-left.invariant.7.numbers _ (sym (ap node_head_parsed c.in-Head.is) ∙ c.node_head_at-top.ensures c.loop-left.invariant.7.told.indexed c.loop-left.invariant.7.numbers (ids_told c.loop-left.invariant.7.told)) in
    omega (arith, z, c.if-limit-total.false, c.loop-left.invariant.4, c.loop-left.invariant.5, c.loop-left.invariant.6)

pub overflow_add-ids : goal.overflow_add-ids
overflow_add-ids c = omega (arith, c.loop-left.invariant.4, c.loop-left.invariant.5, c.loop-left.invariant.6)

pub slice_bounds-ids-end-in-Head : goal.slice_bounds-ids-end-in-Head
slice_bounds-ids-end-in-Head c =
    let z = head_some _ c.loop-left.invariant.7.numbers _ (sym (ap node_head_parsed c.in-Head.is) ∙ c.node_head_at-top.ensures c.loop-left.invariant.7.told.indexed c.loop-left.invariant.7.numbers (ids_told c.loop-left.invariant.7.told)) in
    let b : c.loop-left.known < length c.loop-left.ids = omega (arith, z, c.if-limit-total.false, c.loop-left.invariant.0, c.loop-left.invariant.4, c.loop-left.invariant.5, c.loop-left.invariant.6) in
    omega (arith, b, length-set c.loop-left.ids c.loop-left.known c.in-Head.h.id)

pub slice_bounds-enter_ids-end : goal.slice_bounds-enter_ids-end
slice_bounds-enter_ids-end c =
    let z = head_some _ c.loop-left.invariant.7.numbers _ (sym (ap node_head_parsed c.in-Head.is) ∙ c.node_head_at-top.ensures c.loop-left.invariant.7.told.indexed c.loop-left.invariant.7.numbers (ids_told c.loop-left.invariant.7.told)) in
    let b : c.loop-left.known < length c.loop-left.ids = omega (arith, z, c.if-limit-total.false, c.loop-left.invariant.0, c.loop-left.invariant.4, c.loop-left.invariant.5, c.loop-left.invariant.6) in
    let w : c.loop-left.known + 1 ≤ length (set c.loop-left.ids c.loop-left.known c.in-Head.h.id) = omega (arith, b, length-set c.loop-left.ids c.loop-left.known c.in-Head.h.id) in
    sym (length-take-le _ _ w)

pub slice_bounds-enter_ids-end-in-Head : goal.slice_bounds-enter_ids-end-in-Head
slice_bounds-enter_ids-end-in-Head c = sym c.loop-left.invariant.1

pub overflow_add-total : goal.overflow_add-total
overflow_add-total c = omega (arith, c.if-limit-total.false, c.loop-left.invariant.5, c.loop-left.invariant.6)

pub shape_of-names-in-Refused : goal.shape_of-names-in-Refused
shape_of-names-in-Refused c = c.loop-left.invariant.2.keys

pub shape_of-wanted-in-Refused : goal.shape_of-wanted-in-Refused
shape_of-wanted-in-Refused c = c.loop-left.invariant.2.kinds

pub shape_of-places-in-Refused : goal.shape_of-places-in-Refused
shape_of-places-in-Refused c = c.loop-left.invariant.2.places

pub shape_of-children-in-Refused : goal.shape_of-children-in-Refused
shape_of-children-in-Refused c = c.loop-left.invariant.3

pub returns-in-Refused : goal.returns-in-Refused
returns-in-Refused c = λ i. unsaid

pub overflow_add-known : goal.overflow_add-known
overflow_add-known c = omega (arith, c.loop-left.invariant.4, c.loop-left.invariant.5, c.loop-left.invariant.6)

pub overflow_sub-left : goal.overflow_sub-left
overflow_sub-left c = omega (arith, c.loop-left-test.true)

pub loop-left-smaller : goal.loop-left-smaller
loop-left-smaller c = omega (arith, c.loop-left-test.true)

pub loop-left-preserved : goal.loop-left-preserved
loop-left-preserved c =
    let h = sym (ap node_head_parsed c.in-Head.is) ∙ c.node_head_at-top.ensures c.loop-left.invariant.7.told.indexed c.loop-left.invariant.7.numbers (ids_told c.loop-left.invariant.7.told) in
    let z = head_some _ c.loop-left.invariant.7.numbers _ h in
    let b : c.loop-left.known < length c.loop-left.ids = omega (arith, z, c.if-limit-total.false, c.loop-left.invariant.0, c.loop-left.invariant.4, c.loop-left.invariant.5, c.loop-left.invariant.6) in (
      length-set c.loop-left.ids c.loop-left.known c.in-Head.h.id ∙ c.loop-left.invariant.0,
      c.id_index-in-Head-2-1.given,
      record { keys = c.names-1.given ∙ c.loop-left.invariant.2.keys; kinds = c.wanted-1.given ∙ c.loop-left.invariant.2.kinds; places = c.places-1.given ∙ c.loop-left.invariant.2.places },
      c.children-1.given ∙ c.loop-left.invariant.3,
      omega (arith, z, c.loop-left.invariant.4),
      omega (arith, c.if-limit-total.false, c.loop-left.invariant.5),
      c.loop-left.invariant.6,
      listed_next _ _ _ _ _ _ _ _ _ c.loop-left.invariant.7 h (λ i. c.instances_pass-p.ensures i c.if-p-eq0.false) c.loop-left-test.true c.both-fits.ensures (omega (arith, b, c.loop-left.invariant.0)) (omega (arith, c.loop-left.invariant.0)) c.enter_ids-entered.ensures c.larger-largest.ensures,
    )

pub shape_of-names : goal.shape_of-names
shape_of-names c = c.loop-left.invariant.2.keys

pub shape_of-wanted : goal.shape_of-wanted
shape_of-wanted c = c.loop-left.invariant.2.kinds

pub shape_of-places : goal.shape_of-places
shape_of-places c = c.loop-left.invariant.2.places

pub shape_of-children : goal.shape_of-children
shape_of-children c = c.loop-left.invariant.3

pub returns : goal.returns
returns c = λ y z. listed_end _ _ _ _ _ _ _ _ _ c.loop-left.invariant.7 y c.loop-left-test.false refl refl refl
