-- The parts of a tree's records: those of registers, of nodes and of roots.
use Prim.Native.Nat.{ℕ, suc, ◌+◌, ◌-◌}
use mathlib.Core.Bool.{Bool, true, false, cond}
use mathlib.Core.List.{List, [], ◌∷◌, ◌++◌, map, append_assoc}
use mathlib.Core.Path.{◌≡◌, refl, sym, ◌∙◌, ap}
use native.Mathlib.Omega.{arith}
use lib.ListN.{length, take, drop, length-append}
use lib.Seq.{take_at, drop_at}
use Rattle.format.specs.Lookup.{gathered}
use Rattle.format.specs.Rules.{Every}
use Rattle.format.specs.Tree.{Expr, Exprs, reading, constant, all, any, inverse, left, right, none, more, Register, Rule, NodeInstance, Node, Root, Chip}
use Rattle.format.proofs.EveryLaws.{every_all, every-append_in, every-gathered_in, every-list_in, every_map}
use Rattle.records.specs.declared.Record.{Record}
use Rattle.records.specs.declared.Element.{Element}
use Rattle.records.specs.Grammar.{element_of, expression_of, element}
use Rattle.records.specs.Elements.{expr_records, exprs_records, register_instance_record, register_records, rule_records, capture_record, child_record, node_instance_records, node_records, root_record, elements}
use Rattle.packing.specs.Packing.{of_registers, of_roots, count_by}

-- A record is of the registers, or of the roots, or not.
pub record Of (in_registers inRoots : Bool) (r : Record) : Type 0 where
  pub registers : of_registers (element r) ≡ in_registers
  pub roots : of_roots (element r) ≡ inRoots

mutual
  unfolding Every expr_records element_of expression_of

  expr_neither : (e : Expr) → Every (Of false false) (expr_records e)
  expr_neither (reading q id n) = (record { registers = refl; roots = refl }, tt)
  expr_neither (constant v) = (record { registers = refl; roots = refl }, tt)
  expr_neither (all es) = (record { registers = refl; roots = refl }, exprs_neither es)
  expr_neither (any es) = (record { registers = refl; roots = refl }, exprs_neither es)
  expr_neither (inverse e) = (record { registers = refl; roots = refl }, expr_neither e)
  expr_neither (left k e) = (record { registers = refl; roots = refl }, expr_neither e)
  expr_neither (right k e) = (record { registers = refl; roots = refl }, expr_neither e)

  exprs_neither : (es : Exprs) → Every (Of false false) (exprs_records es)
  exprs_neither none = tt
  exprs_neither (more e es) = every-append_in (Of false false) (expr_records e) (exprs_records es) (expr_neither e) (exprs_neither es)

rule_neither : (x : Rule) → Every (Of false false) (rule_records x)
unfolding Every rule_records element_of
rule_neither x = (record { registers = refl; roots = refl }, expr_neither x.expression)

-- Elements whose records are all of one part.
module _ {A : Type 0} (b d : Bool) where
  rows : (f : A → List Record) → ((x : A) → Every (Of b d) (f x)) → (xs : List A) → Every (Of b d) (gathered f xs)
  rows f h xs = every-gathered_in (Of b d) f xs (every_all (λ x. Every (Of b d) (f x)) h xs)

  singles : (f : A → Record) → ((x : A) → Of b d (f x)) → (xs : List A) → Every (Of b d) (map f xs)
  singles f h xs = every-list_in (Of b d) f xs (every_all (λ x. Of b d (f x)) h xs)

node_instance_neither : (x : NodeInstance) → Every (Of false false) (node_instance_records x)
unfolding Every node_instance_records capture_record child_record element_of
node_instance_neither x =
    let captures = singles false false capture_record (λ y. record { registers = refl; roots = refl }) x.captures in
    let rules = rows false false rule_records rule_neither x.rules in
    let children = singles false false child_record (λ y. record { registers = refl; roots = refl }) x.children in (
      record { registers = refl; roots = refl },
      every-append_in (Of false false) (map capture_record x.captures) (gathered rule_records x.rules ++ map child_record x.children) captures
          (every-append_in (Of false false) (gathered rule_records x.rules) (map child_record x.children) rules children),
    )

node_neither : (x : Node) → Every (Of false false) (node_records x)
unfolding Every node_records element_of
node_neither x = (record { registers = refl; roots = refl }, rows false false node_instance_records node_instance_neither x.instances)

register_register : (x : Register) → Every (Of true false) (register_records x)
unfolding Every register_records register_instance_record element_of
register_register x = (
  record { registers = refl; roots = refl },
  singles true false register_instance_record (λ y. record { registers = refl; roots = refl }) x.instances,
)

root_root : (x : Root) → Of false true (root_record x)
unfolding root_record element_of
root_root x = record { registers = refl; roots = refl }

-- How many records pass a test.
module _ (test : Element → Bool) where
  count-append : (xs ys : List Record) → count_by test (xs ++ ys) ≡ count_by test xs + count_by test ys
  unfolding count_by
  count-append [] ys = omega arith
  count-append (x ∷ xs) ys = go (test (element x)) (count_by test xs) (count_by test ys) (count-append xs ys)
    where
      go : (b : Bool) (m n : ℕ) {k : ℕ} → k ≡ m + n → cond b (suc k) k ≡ cond b (suc m) m + n
      go true m n e = omega arith
      go false m n e = e

  count_same : (b : Bool) (xs : List Record) → Every (λ r. test (element r) ≡ b) xs → count_by test xs ≡ cond b (length xs) 0
  unfolding count_by Every
  count_same true [] h = refl
  count_same false [] h = refl
  count_same true (x ∷ xs) h = rw (h.0, count_same true xs h.1)
  count_same false (x ∷ xs) h = rw h.0 (count_same false xs h.1)

-- The two counts of some records.
record Counted (rs : List Record) (registers roots : ℕ) : Type 0 where
  first : count_by of_registers rs ≡ registers
  last : count_by of_roots rs ≡ roots

counted_same : (b d : Bool) (rs : List Record) → Every (Of b d) rs → Counted rs (cond b (length rs) 0) (cond d (length rs) 0)
counted_same b d rs h = record {
  first = count_same of_registers b rs (every_map (Of b d) (λ r. of_registers (element r) ≡ b) (λ r k. k.registers) rs h);
  last = count_same of_roots d rs (every_map (Of b d) (λ r. of_roots (element r) ≡ d) (λ r k. k.roots) rs h);
}

joined : {xs ys : List Record} {a b c d : ℕ} → Counted xs a b → Counted ys c d → Counted (xs ++ ys) (a + c) (b + d)
joined {xs} {ys} h k = record {
  first = omega (arith, count-append of_registers xs ys, h.first, k.first);
  last = omega (arith, count-append of_roots xs ys, h.last, k.last);
}

module _ (c : Chip) where
  abbrev pub of_the_registers : List Record
  of_the_registers = gathered register_records c.registers

  abbrev pub of_the_nodes : List Record
  of_the_nodes = gathered node_records c.nodes

  abbrev pub of_the_roots : List Record
  of_the_roots = map root_record c.roots

  counted : Counted (elements c) (length of_the_registers + (0 + 0)) (0 + (0 + length of_the_roots))
  unfolding elements
  counted =
      joined {xs = of_the_registers} (counted_same true false of_the_registers (rows true false register_records register_register c.registers))
      (joined {xs = of_the_nodes} (counted_same false false of_the_nodes (rows false false node_records node_neither c.nodes))
      (counted_same false true of_the_roots (singles false true root_record root_root c.roots)))

  -- Where the parts start and end.
  abbrev first : ℕ
  first = count_by of_registers (elements c)

  abbrev last : ℕ
  last = length (elements c) - count_by of_roots (elements c)

  first_is : first ≡ length of_the_registers
  first_is = omega (arith, counted.first)

  last_is : last ≡ length (of_the_registers ++ of_the_nodes)
  unfolding elements
  last_is =
      omega (
        arith,
        counted.last,
        length-append of_the_registers (of_the_nodes ++ of_the_roots),
        length-append of_the_nodes of_the_roots,
        length-append of_the_registers of_the_nodes,
      )

  pub registers_part : take first (elements c) ≡ of_the_registers
  unfolding elements
  registers_part = take_at of_the_registers (of_the_nodes ++ of_the_roots) first (sym first_is)

  pub nodes_part : take (last - first) (drop first (elements c)) ≡ of_the_nodes
  unfolding elements
  nodes_part =
      ap (take (last - first)) (drop_at of_the_registers (of_the_nodes ++ of_the_roots) first (sym first_is))
      ∙ take_at of_the_nodes of_the_roots (last - first) (omega (arith, first_is, last_is, length-append of_the_registers of_the_nodes))

  pub roots_part : drop last (elements c) ≡ of_the_roots
  unfolding elements
  roots_part =
      ap (drop last) (sym (append_assoc of_the_registers of_the_nodes of_the_roots)) ∙ drop_at (of_the_registers ++ of_the_nodes) of_the_roots last (sym last_is)
