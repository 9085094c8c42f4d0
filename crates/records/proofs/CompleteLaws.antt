-- The records of a tree whose numbers fit are taken by the grammar, and read as what they are; what is taken so far can be completed; and a refusal names the first record that is not allowed.
use Prim.Native.Nat.{ℕ, suc, ◌+◌, ◌*◌, ◌^◌, ◌≤◌, ◌<◌}
use mathlib.Core.Bool.{true}
use mathlib.Core.List.{List, ◌++◌}
use mathlib.Core.Logic.{⊎_elim}
use mathlib.Core.Path.{◌≡◌, refl, sym, ◌∙◌, ap}
use native.Mathlib.Omega.{arith}
use lib.Dec.{eqb, leb, lit≤}
use lib.ListN.{length, take, replicate, length-append}
use lib.Seq.{length-take-le}
use borrow.Author.Tests.{eqb-true, eq-eqb, leb-true, le-leb}
use Rattle.numbers.proofs.Bools.{and_right, or_cases}
use Rattle.format.specs.Fields.{known_type, known_attention}
use Rattle.format.specs.Lookup.{entries_of, register_entries, node_entries_of, node_entries}
use Rattle.format.specs.Parsed.{done, refused}
use Rattle.format.specs.Rules.{Every, all_captures, all_rules, all_children, Meets}
use Rattle.format.specs.Tree.{Chip}
use Rattle.format.proofs.EveryLaws.{every_map, every_both, every-gathered_out, every-list_out}
use Rattle.format.proofs.ParsedLaws.{then_in, require_in}
use Rattle.records.specs.declared.Record.{Record}
use Rattle.records.specs.declared.Before.{Before}
use Rattle.records.specs.Record.{records_in}
use Rattle.records.specs.Elements.{record_of, elements, records}
use Rattle.records.specs.Grammar.{nothing, judge, grammar}
use Rattle.records.specs.Fits.{Fits}
use Rattle.records.proofs.RunLaws.{Run, run-append, run_judge, judge_run, refusal}
use Rattle.records.proofs.RangeLaws.{run_range, length_records, read_again}
use Rattle.records.proofs.OwedLaws.{owing, constants_run}
use Rattle.records.proofs.ElementFits.{RegisterFits, CaptureFits, RuleFits, ChildFits, NodeInstanceFits, NodeFits, RootFits}
use Rattle.records.proofs.RoomLaws.{Room, wider, registers_run, roots_run}
use Rattle.records.proofs.NodeRoomLaws.{nodes_run}

-- Trees that meet the rules.

type_small : (t : ℕ) → known_type t ≡ true → t < 256
unfolding known_type
type_small t h = ⊎_elim (λ e. omega (arith, eqb-true t 1 e)) (λ e. omega (arith, eqb-true t 2 e)) (or_cases (eqb t 1) (eqb t 2) h)

attention_small : (a : ℕ) → known_attention a ≡ true → a < 256
unfolding known_attention
attention_small a h = omega (arith, leb-true a 5 (and_right (leb 1 a) (leb a 5) h))

pub meets_fits : (limits : _) (c : Chip) → Meets limits c → Fits c
meets_fits limits c m =
    let k = m.known in
    record {
      fields = m.fields;
      register_types = every_map _ _ (λ r h. type_small r.type h.0) _ k.registers;
      node_types = every_map _ _ (λ n h. type_small n.type h) _ k.nodes;
      attentions = every_map _ _ (λ r h. attention_small r.attention h) _ k.rules;
      bits = every_map _ _ (λ x (h : x.bit < 64). omega arith) _ m.bits;
      root_attentions = every_map _ _ (λ t h. attention_small t.attention h) _ k.roots;
    }

length_all : (c : Chip) → length (records c) ≡ length (elements c) * 16
unfolding records
length_all c = length_records (elements c)

-- From the rules, number by number, to what records need, element by element.
module _ (c : Chip) (f : Fits c) where
  registers_fit : Every RegisterFits c.registers
  unfolding register_entries entries_of
  registers_fit =
      every_map _ _
      (λ r h. record {
        id = h.0.0;
        type = h.1.0;
        flags = h.0.1;
        count = h.0.2;
        each = every_map _ _ (λ i a. record { number = a.0; address = a.1 }) r.instances (every-list_out _ _ r.instances h.1.1);
      })
      c.registers
      (every_both _ _ _ f.fields.registers (every_both _ _ _ f.register_types (every-gathered_out _ entries_of c.registers f.fields.register_instances)))

  node_entries_fit : Every (λ e. NodeInstanceFits e.instance) (node_entries c)
  unfolding all_captures all_rules all_children
  node_entries_fit =
      let cs : Every CaptureFits (all_captures c) = every_map _ _ (λ k a. record { id = a.0; number = a.1 }) _ f.fields.captures in
      let us : Every RuleFits (all_rules c) =
      every_map _ _ (λ r a. record { attention = a.0; expression = a.1 }) _ (every_both _ _ _ f.attentions f.fields.expressions) in
      let ks : Every ChildFits (all_children c) =
      every_map _ _ (λ k a. record { bit = a.0; id = a.1.0; number = a.1.1 }) _ (every_both _ _ _ f.bits f.fields.children) in
      every_map _ _
      (λ e a. record {
        number = a.0.0;
        capture_count = a.0.1;
        rule_count = a.0.2;
        child_count = a.0.3;
        captures = a.1.0;
        rules = a.1.1.0;
        children = a.1.1.1;
      })
      _
      (every_both _ _ _ f.fields.node_instances
      (every_both _ _ _ (every-gathered_out _ _ _ cs) (every_both _ _ _ (every-gathered_out _ _ _ us) (every-gathered_out _ _ _ ks))))

  nodes_fit : Every NodeFits c.nodes
  unfolding node_entries node_entries_of
  nodes_fit =
      every_map _ _
      (λ n h. record { id = h.0.0; type = h.1.0; count = h.0.1; each = every-list_out _ _ n.instances h.1.1 })
      c.nodes
      (every_both _ _ _ f.fields.nodes (every_both _ _ _ f.node_types (every-gathered_out _ node_entries_of c.nodes node_entries_fit)))

  roots_fit : Every RootFits c.roots
  roots_fit =
      every_map _ _ (λ t a. record { attention = a.0; id = a.1.0; number = a.1.1 }) _ (every_both _ _ _ f.root_attentions f.fields.roots)

  elements_run : (b : Before) × Run nothing (elements c) b × (b.owed ≡ 0)
  unfolding elements
  elements_run =
      let l : length c.registers < 256 ^ 3 = f.fields.register_count in
      let k : length c.nodes < 256 ^ 2 = f.fields.node_count in
      let j : length c.roots < 256 = f.fields.root_count in
      let n = length c.nodes in
      let t = length c.roots in
      let start : Room 0 2 (length c.registers) 0 n 0 0 0 0 t nothing = search arith in
      let p = registers_run n t c.registers nothing registers_fit start in
      let q = nodes_run t c.nodes p.0 nodes_fit (wider 0 8 (lit≤ tt) (lit≤ tt) p.2) in
      let w = roots_run c.roots q.0 roots_fit (wider 0 9 (lit≤ tt) (lit≤ tt) q.2) in
      (w.0, run-append {d = w.0} p.1 (run-append {d = w.0} q.1 w.1), w.2.owed)

  -- The records of a tree are judged well to their end, and nothing is owed there.
  pub judge_elements : (b : Before) × (judge nothing 0 (elements c) ≡ done b (length (elements c) * 16)) × (b.owed ≡ 0)
  judge_elements =
      let p = elements_run in
      let e : 0 + length (elements c) * 16 ≡ length (elements c) * 16 = omega arith in
      (p.0, run_judge 0 p.1 ∙ ap (done p.0) e, p.2)

  -- The bytes of a tree's records are read as these records.
  pub elements_again : records_in (records c) ≡ elements c
  unfolding records
  elements_again = read_again (elements c) (run_range elements_run.1)

  -- The grammar takes the records of a tree, to their end.
  pub grammar_complete : (b : Before) × (grammar (records c) ≡ done b (length (records c)))
  unfolding grammar
  grammar_complete =
      let p = judge_elements in
      let n : length (elements c) * 16 ≡ length (records c) = sym (length_all c) in
      let j : judge nothing 0 (records_in (records c)) ≡ done p.0 (length (records c)) =
      ap (judge nothing 0) elements_again ∙ p.1 ∙ ap (done p.0) n in
      let w : length (records c) ≤ length (records c) = omega arith in
      (p.0, then_in _ _ j (require_in _ _ _ _ (le-leb _ _ w) (require_in _ _ _ _ (eq-eqb _ _ p.2) refl)))

-- What is judged well so far can be completed: by as many constants as are owed.
pub prefix : (rs : List Record) {b : Before} {at : ℕ} → judge nothing 0 rs ≡ done b at
    → (es : List Record) × (c : Before) × (judge nothing 0 (rs ++ es) ≡ done c (at + length es * 16)) × (c.owed ≡ 0)
prefix rs {b} {at} e =
    let p = judge_run nothing 0 rs e in
    let es = replicate b.owed (record_of 7 0x02 0 0 0 0) in
    let n : 0 + length (rs ++ es) * 16 ≡ at + length es * 16 = omega (arith, p.1, length-append rs es) in
    (es, owing b 0, run_judge 0 (run-append p.0 (constants_run b b.owed)) ∙ ap (done (owing b 0)) n, refl)

-- A refusal is 40 at the first record that is not allowed: those before it are judged well, and nothing that begins with them and it is.
pub judge_refused : (rs : List Record) {n p : ℕ} → judge nothing 0 rs ≡ refused n p
    → (k : ℕ) × (n ≡ 40) × (p ≡ k * 16) × (k < length rs) × (b : Before) × (judge nothing 0 (take k rs) ≡ done b (k * 16))
    × ((more : List Record) (c : Before) (at : ℕ) → judge nothing 0 (take (suc k) rs ++ more) ≡ done c at → ⊥)
judge_refused rs e =
    let r = refusal nothing 0 rs e in
    let k = r.before in
    let l : length (take k rs) ≡ k = length-take-le k rs (omega (arith, r.inside)) in
    let w : 0 + length (take k rs) * 16 ≡ k * 16 = omega arith in (
      k,
      r.number,
      omega (arith, r.place),
      r.inside,
      r.state,
      run_judge 0 r.good ∙ ap (done r.state) w,
      λ more c at h. r.bad more (judge_run nothing 0 (take (suc k) rs ++ more) h).0,
    )
