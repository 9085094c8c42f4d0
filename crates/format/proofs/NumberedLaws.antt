-- Every kind of refusal has a number of the table, and every refusal of a file one from 1 to 14.
use Prim.Native.Nat.{ℕ, zero, suc, ◌≤◌, ◌<◌}
use mathlib.Core.Bool.{Bool, true, false, ◌&&◌}
use mathlib.Core.List.{List, [], ◌∷◌}
use mathlib.Core.Path.{◌≡◌, refl, sym}
use lib.Dec.{leb, lit<}
use borrow.Author.Tests.{leb-true}
use Rattle.limits.specs.Limits.{Limits}
use Rattle.numbers.proofs.Bools.{and_left, and_right}
use Rattle.format.specs.declared.Kind.TheVariants.{FileTooLong, FieldCut, WrongKeyword, WrongVersion, ZeroCount, UnknownValue, Duplicate, TooManyInstances, BadExpression, BitTooHigh, BytesAfterEnd, NameAbsent, RegisterUnfit, ChildCycle, BadAttentionType, NoRoot, ReadingsUnfit, RegisterUnread, NoRoom, BoardUnfit, RecordNotAllowed, OutputTooShort, TableTooShort}
use Rattle.format.specs.declared.Kind.{Kind}
use Rattle.format.specs.Parsed.{Parsed, done, refused, and_then, making, require, requiring, row_at}
use Rattle.format.specs.Fields.{field_at, keyword_at, count_at, type_at, flags_at, attention_at}
use Rattle.format.specs.Tree.{Expr, RegisterInstance, Register, Capture, Rule, Child, NodeInstance, Node, Root, Chip}
use Rattle.format.specs.ExpressionLayout.{Operation, is_reading, is_constant, is_and, is_or, is_not, is_left, is_right, is_unknown, reading_at, operands_at, shifted_at, body_at, expr_at}
use Rattle.format.specs.RegisterLayout.{register_instance_at, register_head_at, register_at, registers_at}
use Rattle.format.specs.NodeLayout.{capture_at, rule_at, child_at, instance_head_at, node_instance_at, node_head_at, node_at, nodes_at}
use Rattle.format.specs.FileLayout.{start_at, root_at, roots_at, file_at}
use Rattle.format.specs.Lookup.{RegisterEntry, NodeEntry, node_entries}
use Rattle.format.specs.References.{Fault, unless, register_faults, capture_faults, named_faults, rule_faults, child_faults, instance_faults, root_faults, reference_faults}
use Rattle.format.specs.Cycles.{cycles_from, cycle_faults}
use Rattle.format.specs.Refusals.{number_of}
use Rattle.format.specs.Rules.{Every}
use Rattle.format.specs.Verdict.{judged, verdict}
use Rattle.format.proofs.ParsedLaws.{never}
use Rattle.format.proofs.EveryLaws.{every_all, every-append_in, every-gathered_in}

-- Every kind of refusal has a number of the table.
pub kind_some : (k : Kind) → 0 < number_of k
kind_some FileTooLong = lit< tt
kind_some FieldCut = lit< tt
kind_some WrongKeyword = lit< tt
kind_some WrongVersion = lit< tt
kind_some ZeroCount = lit< tt
kind_some UnknownValue = lit< tt
kind_some Duplicate = lit< tt
kind_some TooManyInstances = lit< tt
kind_some BadExpression = lit< tt
kind_some BitTooHigh = lit< tt
kind_some BytesAfterEnd = lit< tt
kind_some NameAbsent = lit< tt
kind_some RegisterUnfit = lit< tt
kind_some ChildCycle = lit< tt
kind_some BadAttentionType = lit< tt
kind_some NoRoot = lit< tt
kind_some ReadingsUnfit = lit< tt
kind_some RegisterUnread = lit< tt
kind_some NoRoom = lit< tt
kind_some BoardUnfit = lit< tt
kind_some RecordNotAllowed = lit< tt
kind_some OutputTooShort = lit< tt
kind_some TableTooShort = lit< tt

abbrev InTable : ℕ → Type 0
InTable n = leb 1 n && leb n 14 ≡ true

abbrev Numbered : {A : Type 0} → Parsed A → Type 0
Numbered r = (n p : ℕ) → r ≡ refused n p → InTable n

-- Readings one after another

done_numbered : {A : Type 0} (a : A) (m : ℕ) → Numbered (done a m)
done_numbered a m n p e = never (sym e)

refused_numbered : {A : Type 0} {n p : ℕ} → InTable n → (m q : ℕ) → ◌≡◌ {A = Parsed A} (refused n p) (refused m q) → InTable m
refused_numbered {n = n} t m q e = let w : n ≡ m = cc in rw (← w) t

module _ {A B : Type 0} where
  then_numbered : (p : Parsed A) (f : A → ℕ → Parsed B) → Numbered p → ((a : A) (k : ℕ) → Numbered (f a k)) → Numbered (and_then p f)
  unfolding and_then
  then_numbered (done a k) f h g = g a k
  then_numbered (refused n q) f h g = refused_numbered (h n q refl)

  making_numbered : (g : A → B) (p : Parsed A) → Numbered p → Numbered (making g p)
  unfolding making
  making_numbered g (done a k) h = done_numbered (g a) k
  making_numbered g (refused n q) h = refused_numbered (h n q refl)

module _ {A : Type 0} where
  require_numbered : (t : Bool) (n p : ℕ) (k : Unit {0} → Parsed A) → InTable n → Numbered (k tt) → Numbered (require t n p k)
  unfolding require
  require_numbered true n p k i h = h
  require_numbered false n p k i h = refused_numbered i

  requiring_numbered : (test : A → Bool) (n p : ℕ) (r : Parsed A) → InTable n → Numbered r → Numbered (requiring test n p r)
  unfolding requiring
  requiring_numbered test n p r i h = then_numbered _ _ h (λ a k. require_numbered _ n _ _ i (done_numbered a k))

  row_numbered : (p : List A → ℕ → Parsed A) → ((before : List A) (at : ℕ) → Numbered (p before at))
      → (n : ℕ) (before : List A) (at : ℕ) → Numbered (row_at p n before at)
  unfolding row_at
  row_numbered p h zero before at = done_numbered [] at
  row_numbered p h (suc n) before at =
      then_numbered _ _ (h before at) (λ a k. making_numbered _ _ (row_numbered p h n (a ∷ before) k))

-- The layout

module _ (s : List ℕ) where
  field_numbered : (at n : ℕ) → Numbered (field_at s at n)
  unfolding field_at
  field_numbered at n = require_numbered _ 2 _ _ refl (done_numbered _ _)

  keyword_numbered : (at : ℕ) (word : List ℕ) → Numbered (keyword_at s at word)
  unfolding keyword_at
  keyword_numbered at word = require_numbered _ 2 _ _ refl (require_numbered _ 3 _ _ refl (done_numbered _ _))

  count_numbered : (at n : ℕ) → Numbered (count_at s at n)
  unfolding count_at
  count_numbered at n = requiring_numbered _ 5 _ _ refl (field_numbered at n)

  type_numbered : (at : ℕ) → Numbered (type_at s at)
  unfolding type_at
  type_numbered at = requiring_numbered _ 6 _ _ refl (field_numbered at 1)

  flags_numbered : (at : ℕ) → Numbered (flags_at s at)
  unfolding flags_at
  flags_numbered at = requiring_numbered _ 6 _ _ refl (field_numbered at 1)

  attention_numbered : (at : ℕ) → Numbered (attention_at s at)
  unfolding attention_at
  attention_numbered at = requiring_numbered _ 6 _ _ refl (field_numbered at 1)

  -- Expressions.

  module _ (inner : ℕ → Parsed Expr) (within : (at : ℕ) → Numbered (inner at)) where
    operands_numbered : (at : ℕ) → Numbered (operands_at inner s at)
    unfolding operands_at
    operands_numbered at =
        then_numbered _ _ (requiring_numbered _ 9 _ _ refl (field_numbered at 1)) (λ n a. row_numbered _ (λ before. within) n [] a)

    shifted_numbered : (shift : ℕ → Expr → Expr) (at : ℕ) → Numbered (shifted_at shift inner s at)
    unfolding shifted_at
    shifted_numbered shift at =
        then_numbered _ _ (requiring_numbered _ 9 _ _ refl (field_numbered at 1)) (λ k a. making_numbered _ _ (within a))

    body_numbered : (start at : ℕ) (o : Operation) → Numbered (body_at inner s start at o)
    unfolding body_at reading_at
    body_numbered start at is_reading = then_numbered _ _ (field_numbered at 3) (λ id a. making_numbered _ _ (field_numbered a 1))
    body_numbered start at is_constant = making_numbered _ _ (field_numbered at 8)
    body_numbered start at is_and = making_numbered _ _ (operands_numbered at)
    body_numbered start at is_or = making_numbered _ _ (operands_numbered at)
    body_numbered start at is_not = making_numbered _ _ (within at)
    body_numbered start at is_left = shifted_numbered _ at
    body_numbered start at is_right = shifted_numbered _ at
    body_numbered start at is_unknown = refused_numbered refl

  expr_numbered : (l at : ℕ) → Numbered (expr_at s l at)
  unfolding expr_at
  expr_numbered zero at = then_numbered _ _ (field_numbered at 1) (λ b a. refused_numbered refl)
  expr_numbered (suc l) at = then_numbered _ _ (field_numbered at 1) (λ b a. body_numbered (expr_at s l) (expr_numbered l) at a _)

  module _ (limits : Limits) (unique : Bool) where
    -- Registers.

    register_instance_numbered : (total type : ℕ) (before : List RegisterInstance) (at : ℕ)
        → Numbered (register_instance_at limits.register_instances s unique total type before at)
    unfolding register_instance_at
    register_instance_numbered total type before at =
        then_numbered _ _ (requiring_numbered _ 7 _ _ refl (requiring_numbered _ 8 _ _ refl (field_numbered at 1)))
        (λ n a. making_numbered _ _ (field_numbered a _))

    register_head_numbered : (ids : List ℕ) (at : ℕ) → Numbered (register_head_at s unique ids at)
    unfolding register_head_at
    register_head_numbered ids at =
        then_numbered _ _ (requiring_numbered _ 7 _ _ refl (field_numbered at 3))
        (λ i a. then_numbered _ _ (type_numbered a) (λ t b. then_numbered _ _ (flags_numbered b) (λ f c. making_numbered _ _ (count_numbered c 1))))

    register_numbered : (before : List Register) (at : ℕ) → Numbered (register_at limits.register_instances s unique before at)
    unfolding register_at
    register_numbered before at =
        then_numbered _ _ (register_head_numbered _ at)
        (λ h a. making_numbered _ _ (row_numbered _ (register_instance_numbered _ _) _ [] a))

    registers_numbered : (at : ℕ) → Numbered (registers_at limits.register_instances s unique at)
    unfolding registers_at
    registers_numbered at =
        then_numbered _ _ (keyword_numbered at _) (λ _ a. then_numbered _ _ (count_numbered a 3) (λ n b. row_numbered _ register_numbered n [] b))

    -- Nodes.

    capture_numbered : (before : List Capture) (at : ℕ) → Numbered (capture_at s before at)
    unfolding capture_at
    capture_numbered before at = then_numbered _ _ (field_numbered at 3) (λ i a. making_numbered _ _ (field_numbered a 1))

    rule_numbered : (before : List Rule) (at : ℕ) → Numbered (rule_at s unique before at)
    unfolding rule_at
    rule_numbered before at =
        then_numbered _ _ (requiring_numbered _ 7 _ _ refl (attention_numbered at)) (λ t a. making_numbered _ _ (expr_numbered _ a))

    child_numbered : (before : List Child) (at : ℕ) → Numbered (child_at s unique before at)
    unfolding child_at
    child_numbered before at =
        then_numbered _ _ (requiring_numbered _ 7 _ _ refl (requiring_numbered _ 10 _ _ refl (field_numbered at 1)))
        (λ b a. then_numbered _ _ (field_numbered a 2) (λ i c. making_numbered _ _ (field_numbered c 1)))

    instance_head_numbered : (total : ℕ) (numbers : List ℕ) (at : ℕ) → Numbered (instance_head_at limits.node_instances s unique total numbers at)
    unfolding instance_head_at
    instance_head_numbered total numbers at =
        then_numbered _ _ (requiring_numbered _ 7 _ _ refl (requiring_numbered _ 8 _ _ refl (field_numbered at 1)))
        (λ n a. then_numbered _ _ (field_numbered a 1)
        (λ c b. then_numbered _ _ (count_numbered b 1) (λ r d. making_numbered _ _ (field_numbered d 1))))

    node_instance_numbered : (total : ℕ) (before : List NodeInstance) (at : ℕ) → Numbered (node_instance_at limits.node_instances s unique total before at)
    unfolding node_instance_at
    node_instance_numbered total before at =
        then_numbered _ _ (instance_head_numbered _ _ at)
        (λ h a. then_numbered _ _ (row_numbered _ capture_numbered _ [] a)
        (λ cs b. then_numbered _ _ (row_numbered _ rule_numbered _ [] b)
        (λ rs c. making_numbered _ _ (row_numbered _ child_numbered _ [] c))))

    node_head_numbered : (ids : List ℕ) (at : ℕ) → Numbered (node_head_at s unique ids at)
    unfolding node_head_at
    node_head_numbered ids at =
        then_numbered _ _ (requiring_numbered _ 7 _ _ refl (field_numbered at 2))
        (λ i a. then_numbered _ _ (type_numbered a) (λ t b. making_numbered _ _ (count_numbered b 1)))

    node_numbered : (before : List Node) (at : ℕ) → Numbered (node_at limits.node_instances s unique before at)
    unfolding node_at
    node_numbered before at =
        then_numbered _ _ (node_head_numbered _ at) (λ h a. making_numbered _ _ (row_numbered _ (node_instance_numbered _) _ [] a))

    nodes_numbered : (at : ℕ) → Numbered (nodes_at limits.node_instances s unique at)
    unfolding nodes_at
    nodes_numbered at =
        then_numbered _ _ (keyword_numbered at _) (λ _ a. then_numbered _ _ (count_numbered a 2) (λ n b. row_numbered _ node_numbered n [] b))

    -- Start, roots and the whole file.

    start_numbered : (at : ℕ) → Numbered (start_at s at)
    unfolding start_at
    start_numbered at =
        then_numbered _ _ (keyword_numbered at _)
        (λ _ a. then_numbered _ _ (field_numbered a 4)
        (λ m b. making_numbered _ _ (requiring_numbered _ 4 _ _ refl (field_numbered b 1))))

    root_numbered : (before : List Root) (at : ℕ) → Numbered (root_at s unique before at)
    unfolding root_at
    root_numbered before at =
        then_numbered _ _ (requiring_numbered _ 7 _ _ refl (attention_numbered at))
        (λ t a. then_numbered _ _ (field_numbered a 2) (λ i b. making_numbered _ _ (field_numbered b 1)))

    roots_numbered : (at : ℕ) → Numbered (roots_at s unique at)
    unfolding roots_at
    roots_numbered at =
        then_numbered _ _ (keyword_numbered at _) (λ _ a. then_numbered _ _ (count_numbered a 1) (λ n b. row_numbered _ root_numbered n [] b))

    file_numbered : (at : ℕ) → Numbered (file_at limits s unique at)
    unfolding file_at
    file_numbered at =
        then_numbered _ _ (start_numbered at)
        (λ m a. then_numbered _ _ (registers_numbered a)
        (λ rs b. then_numbered _ _ (nodes_numbered b) (λ ns c. making_numbered _ _ (roots_numbered c))))

-- Faults

abbrev Known : Fault → Type 0
Known f = InTable f.number

unless_known : (ok : Bool) (n p : ℕ) → InTable n → Every Known (unless ok n p)
unfolding unless Every
unless_known true n p i = tt
unless_known false n p i = (i, tt)

none_known : Every Known []
unfolding Every
none_known = tt

module _ (c : Chip) where
  register_known : (asked : RegisterEntry → Bool) (id number place : ℕ) → Every Known (register_faults c asked id number place)
  unfolding register_faults
  register_known asked id number place = every-append_in Known _ _ (unless_known _ _ _ refl) (unless_known _ _ _ refl)

  entry_known : (e : NodeEntry) → Every Known (instance_faults c e)
  unfolding instance_faults capture_faults rule_faults named_faults child_faults
  entry_known e =
      every-append_in Known _ _ (every-gathered_in Known _ _ (every_all _ (λ k. register_known _ _ _ _) _))
      (every-append_in Known _ _
      (every-gathered_in Known _ _
      (every_all _ (λ r. every-gathered_in Known _ _ (every_all _ (λ n. register_known _ _ _ _) _)) _))
      (every-gathered_in Known _ _ (every_all _ (λ k. unless_known _ 12 _ refl) _)))

  references_known : Every Known (reference_faults c)
  unfolding reference_faults root_faults
  references_known =
      every-append_in Known _ _ (every-gathered_in Known _ _ (every_all _ entry_known _))
      (every-gathered_in Known _ _ (every_all _ (λ t. unless_known _ 12 _ refl) _))

  cycles_known : (i : ℕ) (es : List NodeEntry) → Every Known (cycles_from c i es)
  unfolding cycles_from
  cycles_known i [] = none_known
  cycles_known i (e ∷ es) = every-append_in Known _ _ (unless_known _ 14 _ refl) (cycles_known (suc i) es)

judged_numbered : (fs : List Fault) (c : Chip) (end : ℕ) → Every Known fs → Numbered (judged fs c end)
unfolding judged Every
judged_numbered [] c end h = done_numbered c end
judged_numbered (f ∷ fs) c end h = refused_numbered h.0

verdict_known : (limits : Limits) (s : List ℕ) → Numbered (verdict limits s)
unfolding verdict cycle_faults
verdict_known limits s =
    require_numbered _ 1 _ _ refl
    (then_numbered _ _ (file_numbered s limits true 0)
    (λ c end. require_numbered _ 11 _ _ refl
    (judged_numbered _ c end (every-append_in Known _ _ (references_known c) (cycles_known c 0 (node_entries c))))))

pub verdict_numbered : (limits : Limits) (s : List ℕ) {n p : ℕ} → verdict limits s ≡ refused n p → (1 ≤ n) × (n ≤ 14)
verdict_numbered limits s {n} {p} e =
    let t = verdict_known limits s n p e in (leb-true 1 n (and_left _ _ t), leb-true n 14 (and_right (leb 1 n) _ t))
