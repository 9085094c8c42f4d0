-- The records of each element of a tree whose numbers fit are allowed one after another.
use Prim.Native.Nat.{ℕ, suc, ◌+◌, ◌^◌, ◌≤◌, ◌<◌}
use mathlib.Core.Bool.{true}
use mathlib.Core.List.{List, [], ◌∷◌, map}
use mathlib.Core.Path.{◌≡◌, refl, sym, subst}
use native.Mathlib.Omega.{arith}
use lib.Dec.{lit<, lit≤}
use lib.ListN.{length}
use borrow.Author.Tests.{lt-ltb, le-leb, eq-eqb}
use Rattle.numbers.proofs.Bools.{and_both}
use Rattle.format.specs.Fields.{address_size}
use Rattle.format.specs.Lookup.{gathered}
use Rattle.format.specs.Rules.{Every}
use Rattle.format.specs.Tree.{RegisterInstance, Register, Root}
use Rattle.records.specs.declared.Before.{Before}
use Rattle.records.specs.Elements.{record_of, register_instance_record, register_records, root_record}
use Rattle.records.specs.Grammar.{after, one_more, element_of, allowed_as, allowed, taken}
use Rattle.records.proofs.RunLaws.{Run, run-append, run_one, run_all, run_each}
use Rattle.records.proofs.ElementFits.{InstanceFits, RegisterFits, RootFits}
use Rattle.records.proofs.OwedLaws.{used-alone}

-- Nothing is owed, the last record that is no expression has a kind of these, and each count has room for so many more.
pub record Room (least most registers instances nodes node_instances captures rules children roots : ℕ) (b : Before) : Type 0 where
  pub owed : b.owed ≡ 0
  pub low : least ≤ b.last
  pub high : b.last ≤ most
  pub register_room : b.registers + registers < 256 ^ 3
  pub instance_room : b.register_instances + instances < 256
  pub node_room : b.nodes + nodes < 256 ^ 2
  pub node_instance_room : b.node_instances + node_instances < 256
  pub capture_room : b.captures + captures < 256
  pub rule_room : b.rules + rules < 256
  pub child_room : b.children + children < 256
  pub root_room : b.roots + roots < 256

-- More kinds to follow.
pub wider : {least most r i n ni c u k t : ℕ} {b : Before} (least' most' : ℕ) → least' ≤ least → most ≤ most' → Room least most r i n ni c u k t b
    → Room least' most' r i n ni c u k t b
wider least' most' l m room = search arith

pub follows_yes : (least most : ℕ) (b : Before) → b.owed ≡ 0 → least ≤ b.last → b.last ≤ most → after least most b ≡ true
unfolding after
follows_yes least most b o l m = and_both (eq-eqb _ _ o) (and_both (le-leb _ _ l) (le-leb _ _ m))

pub counts_yes : (w n : ℕ) → suc n < 256 ^ w → one_more w n ≡ true
unfolding one_more
counts_yes w n h = lt-ltb _ _ h

-- Roots

root_step : (x : Root) (m : ℕ) (b : Before) → RootFits x → Room 0 9 0 0 0 0 0 0 0 (suc m) b
    → (allowed b (root_record x) ≡ true) × Room 0 9 0 0 0 0 0 0 0 m (taken b (root_record x))
unfolding root_record allowed allowed_as taken element_of
root_step x m b f r = (
  and_both (follows_yes 0 9 b r.owed r.low r.high)
      (and_both (counts_yes 1 b.roots (omega (arith, r.root_room))) (used-alone _ _ f.attention (lit< tt) f.number f.id (lit< tt))),
  search arith,
)

pub roots_run : (ts : List Root) (b : Before) → Every RootFits ts → Room 0 9 0 0 0 0 0 0 0 (length ts) b
    → (c : Before) × Run b (map root_record ts) c × Room 0 9 0 0 0 0 0 0 0 0 c
roots_run = run_each RootFits root_record (λ m. Room 0 9 0 0 0 0 0 0 0 m) root_step

-- Registers

module _ (n t : ℕ) where
  register_instance : (type m : ℕ) (i : RegisterInstance) (j : ℕ) (b : Before) → InstanceFits type i
      → Room 1 2 m (suc j) n 0 0 0 0 t b × (b.form ≡ type)
      → (allowed b (register_instance_record i) ≡ true) × (Room 1 2 m j n 0 0 0 0 t (taken b (register_instance_record i)) × ((taken b (register_instance_record i)).form ≡ type))
  unfolding register_instance_record allowed allowed_as taken element_of
  register_instance type m i j b f p =
      let r = p.0 in (
        and_both (follows_yes 1 2 b r.owed r.low r.high)
            (and_both (counts_yes 1 b.register_instances (omega (arith, r.instance_room)))
            (used-alone _ _ (lit< tt) (lit< tt) f.number (lit< tt) (subst (λ x. i.address < 256 ^ address_size x) (sym p.1) f.address))),
        (search arith, p.1),
      )

  register_start : (x : Register) (m : ℕ) (b : Before) → RegisterFits x → Room 0 2 (suc m) 0 n 0 0 0 0 t b
      → (c : Before) × Run b (record_of 1 x.type x.flags 0 x.id 0 ∷ []) c × (Room 1 2 m (length x.instances) n 0 0 0 0 t c × (c.form ≡ x.type))
  unfolding allowed allowed_as taken element_of
  register_start x m b f r =
      let k = length x.instances in
      let l : k < 256 = f.count in (
        _,
        run_one
            (and_both (follows_yes 0 2 b r.owed r.low r.high)
            (and_both (counts_yes 3 b.registers (omega (arith, r.register_room))) (used-alone _ _ f.type f.flags (lit< tt) f.id (lit< tt)))),
        (search arith, refl),
      )

  register_step : (x : Register) (m : ℕ) (b : Before) → RegisterFits x → Room 0 2 (suc m) 0 n 0 0 0 0 t b
      → (c : Before) × Run b (register_records x) c × Room 0 2 m 0 n 0 0 0 0 t c
  unfolding register_records
  register_step x m b f r =
      let p = register_start x m b f r in
      let q = run_each (InstanceFits x.type) register_instance_record (λ j d. Room 1 2 m j n 0 0 0 0 t d × (d.form ≡ x.type))
      (register_instance x.type m) x.instances p.0 f.each p.2 in
      (q.0, run-append p.1 q.1, wider 0 2 (lit≤ tt) (lit≤ tt) q.2.0)

  pub registers_run : (rs : List Register) (b : Before) → Every RegisterFits rs → Room 0 2 (length rs) 0 n 0 0 0 0 t b
      → (c : Before) × Run b (gathered register_records rs) c × Room 0 2 0 0 n 0 0 0 0 t c
  registers_run = run_all RegisterFits register_records (λ m. Room 0 2 m 0 n 0 0 0 0 t) register_step
