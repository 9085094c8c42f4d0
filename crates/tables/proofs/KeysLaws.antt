-- A name is found by its key where it is found by its ID and number.
use Prim.Native.Nat.{ℕ, suc, ◌+◌, ◌*◌, ◌%◌, ◌^◌, ◌<◌}
use mathlib.Core.Bool.{Bool, true, false, cond, ◌&&◌}
use mathlib.Core.List.{List, [], ◌∷◌, map}
use mathlib.Core.Path.{◌≡◌, refl, sym, ap}
use native.Mathlib.Nat.{mod-eq_of_lt}
use native.Mathlib.Omega.{arith}
use lib.Dec.{eqb}
use lib.ListN.{length-map}
use borrow.Author.Tests.{eq-eqb, ne_eqb, eqb-true, eqb-false}
use Rattle.format.specs.Lookup.{position, register_entries, entries_of, register_named, node_entries, node_entries_of, node_named}
use Rattle.format.specs.References.{Named, named_by, named_by_all, has_register, has_node}
use Rattle.format.specs.Rules.{Every, ExprFits, ExprsFit, FieldsFit}
use Rattle.format.specs.Tree.{Expr, Exprs, reading, constant, all, any, inverse, left, right, none, more, Chip}
use Rattle.format.proofs.EveryLaws.{every-append_in, every_all, every_map, every_both, every-list_in, every-gathered_in}
use Rattle.format.proofs.PositionsLaws.{some_position}
use Rattle.tables.specs.Faults.{position_in, present}
use Rattle.tables.specs.Keys.{register_keys, node_keys}
use Rattle.tables.specs.Tables.{key_of}

-- Two names have one key exactly when they are the same.
pub key_same : (a b x y : ℕ) → a < 256 ^ 3 → b < 256 → x < 256 ^ 3 → y < 256 → eqb (key_of a b) (key_of x y) ≡ eqb a x && eqb b y
unfolding key_of
key_same a b x y ha hb hx hy =
    let ea : a % 16777216 ≡ a = mod-eq_of_lt ha in
    let ex : x % 16777216 ≡ x = mod-eq_of_lt hx in
    rw (ea, ex) (go (eqb a x) refl (eqb b y) refl)
  where
    go : (s : Bool) → eqb a x ≡ s → (t : Bool) → eqb b y ≡ t → eqb (a * 256 + b) (x * 256 + y) ≡ s && t
    go true p true q =
        let h : a ≡ x = eqb-true a x p in
        let k : b ≡ y = eqb-true b y q in
        eq-eqb (a * 256 + b) (x * 256 + y) (omega arith)
    go true p false q =
        let h : a ≡ x = eqb-true a x p in
        ne_eqb (a * 256 + b) (x * 256 + y) (λ e. eqb-false b y q (let d : a * 256 + b ≡ x * 256 + y = e in omega arith))
    go false p t q = ne_eqb (a * 256 + b) (x * 256 + y) (λ e. eqb-false a x p (let d : a * 256 + b ≡ x * 256 + y = e in omega arith))

-- Searching by key.
module _ {E : Type 0} (id number : E → ℕ) (i n : ℕ) (hi : i < 256 ^ 3) (hn : n < 256) where
  pub position_keys : (es : List E) → Every (λ e. (id e < 256 ^ 3) × (number e < 256)) es
      → position (λ y. eqb y (key_of i n)) (map (λ e. key_of (id e) (number e)) es) ≡ position (λ e. eqb (id e) i && eqb (number e) n) es
  unfolding position Every
  position_keys [] h = refl
  position_keys (e ∷ es) h =
      rw (key_same (id e) (number e) i n h.0.0 h.0.1 hi hn)
      (ap (λ k. cond (eqb (id e) i && eqb (number e) n) 0 (suc k)) (position_keys es h.1))

-- The names in an expression fit their fields.
abbrev pub Fitting : Named → Type 0
Fitting n = (n.id < 256 ^ 3) × (n.number < 256)

mutual
  unfolding ExprFits ExprsFit named_by named_by_all Every

  pub names_fit : (e : Expr) → ExprFits e → Every Fitting (named_by e)
  names_fit (reading p i n) h = (h, tt)
  names_fit (constant v) h = tt
  names_fit (all es) h = names_fit_all es h.1
  names_fit (any es) h = names_fit_all es h.1
  names_fit (inverse e) h = names_fit e h
  names_fit (left k e) h = names_fit e h.1
  names_fit (right k e) h = names_fit e h.1

  names_fit_all : (es : Exprs) → ExprsFit es → Every Fitting (named_by_all es)
  names_fit_all none h = tt
  names_fit_all (more e es) h = every-append_in Fitting (named_by e) (named_by_all es) (names_fit e h.0) (names_fit_all es h.1)

-- The names of a chip whose numbers fit their fields.
module _ (c : Chip) (fit : FieldsFit c) where
  pub registers_fit : Every (λ e. (e.id < 256 ^ 3) × (e.flags < 256)) (register_entries c)
  unfolding register_entries entries_of
  registers_fit =
      every-gathered_in _ entries_of c.registers
      (every_map _ _ (λ r h. every-list_in _ _ r.instances (every_all _ (λ i. (h.0, h.1)) r.instances)) c.registers fit.registers)

  register_names : Every (λ e. (e.id < 256 ^ 3) × (e.instance.number < 256)) (register_entries c)
  register_names = every_map _ _ (λ e h. (h.0.0, h.1.0)) (register_entries c) (every_both _ _ (register_entries c) registers_fit fit.register_instances)

  pub nodes_fit : Every (λ e. e.id < 256 ^ 2) (node_entries c)
  unfolding node_entries node_entries_of
  nodes_fit =
      every-gathered_in _ node_entries_of c.nodes
      (every_map _ _ (λ n h. every-list_in _ _ n.instances (every_all _ (λ i. h.0) n.instances)) c.nodes fit.nodes)

  node_names : Every (λ e. (e.id < 256 ^ 3) × (e.instance.number < 256)) (node_entries c)
  node_names = every_map _ _ (λ e h. (omega (arith, h.0), h.1.0)) (node_entries c) (every_both _ _ (node_entries c) nodes_fit fit.node_instances)

  -- A name's position by key is its position.
  pub register_position_in : (id number : ℕ) → id < 256 ^ 3 → number < 256 → position_in (register_keys c) id number ≡ position (register_named id number) (register_entries c)
  unfolding position_in register_named
  register_position_in id number hi hn = position_keys (λ e. e.id) (λ e. e.instance.number) id number hi hn (register_entries c) register_names

  pub node_position_in : (id number : ℕ) → id < 256 ^ 3 → number < 256 → position_in (node_keys c) id number ≡ position (node_named id number) (node_entries c)
  unfolding position_in node_named
  node_position_in id number hi hn = position_keys (λ e. e.id) (λ e. e.instance.number) id number hi hn (node_entries c) node_names

  pub register_present : (id number : ℕ) → id < 256 ^ 3 → number < 256 → present (register_keys c) id number ≡ has_register c id number
  unfolding present has_register
  register_present id number hi hn =
      rw (register_position_in id number hi hn, length-map (register_entries c) (λ e. key_of e.id e.instance.number)) (sym (some_position _ (register_entries c)))

  pub node_present : (id number : ℕ) → id < 256 ^ 3 → number < 256 → present (node_keys c) id number ≡ has_node c id number
  unfolding present has_node
  node_present id number hi hn =
      rw (node_position_in id number hi hn, length-map (node_entries c) (λ e. key_of e.id e.instance.number)) (sym (some_position _ (node_entries c)))
