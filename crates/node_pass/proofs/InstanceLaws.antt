-- A node instance by its four first bytes, its captures and rules, and its children.
use Prim.Native.Nat.{ℕ, zero, suc, ◌+◌, ◌-◌, ◌*◌, ◌≤◌, ◌<◌}
use mathlib.Core.Bool.{Bool, true, ◌&&◌}
use mathlib.Core.List.{List, [], ◌∷◌, map}
use mathlib.Core.Path.{◌≡◌, refl, sym, ◌∙◌, ap}
use native.Mathlib.Omega.{arith}
use borrow.Author.Tests.{lt-ltb}
use lib.Dec.{ltb}
use lib.ListN.{length, get_or, set}
use Rattle.format.specs.Fields.{field_at, count_at, fresh}
use Rattle.format.specs.NodeLayout.{InstanceHead, capture_at, rule_at, child_at, instance_head_at, node_instance_at}
use Rattle.format.specs.Parsed.{Parsed, done, requiring, row_at}
use Rattle.format.specs.Tree.{Child, NodeInstance}
use Rattle.format.proofs.GatheredLaws.{gathered_each}
use Rattle.format.proofs.ParsedLaws.{then_in, making_in, requiring_in}
use Rattle.fields.specs.Seen.{Below}
use Rattle.fields.proofs.FieldLaws.{byte_field}
use Rattle.fields.proofs.Parsing.{row-length}
use Rattle.fields.proofs.SeenLaws.{below_nothing, below_put}
use Rattle.tables.specs.Faults.{register_names_in}
use Rattle.tables.specs.Tables.{key_of, written}
use Rattle.nodes.specs.Nodes.{node_number, ChildrenRead}
use Rattle.index.specs.Rows.{Row, Rows, put_row, filled, row_of, first_place, children_of}
use Rattle.index.proofs.FillingLaws.{row_first}
use Rattle.index.proofs.PartsLaws.{child_fields}
use Rattle.node_pass.specs.declared.Pass.{Pass}
use Rattle.node_pass.specs.declared.InstancePass.{InstancePass}
use Rattle.node_pass.specs.Passed.{packed, NamesPassed, InstancePassed, InstancesPassed}
use Rattle.node_pass.proofs.PassingLaws.{Passing, passing_begin, passing_next, passing_end}

-- What is kept of children that are read: the first stands where they are read.
pub packed_children : (s : List ℕ) (n at : ℕ) {ks : List Child} {m : ℕ} → row_at (child_at s true) n [] at ≡ done ks m → packed at n ≡ first_place ks * 256 + length ks
unfolding packed first_place
packed_children s zero at {ks} e = go ks (row-length (child_at s true) 0 [] at e)
  where
    go : (ks : List Child) → length ks ≡ 0 → 0 ≡ first_place ks * 256 + length ks
    go [] h = refl
    go (k ∷ ks) h = absurd (omega arith)
packed_children s (suc n) at {ks} e =
    let f = row_first (child_at s true) (suc n) [] at (omega arith) e in
    let h : length ks ≡ suc n = row-length (child_at s true) (suc n) [] at e in
    let p : first_place ks ≡ at = ap first_place (sym f.5) ∙ sym (child_fields s at [] f.3).1 in
    rw (p, h)

module _ (limit : ℕ) (s : List ℕ) (begun : ℕ) (numbers : List ℕ) (at : ℕ) where
  abbrev head_of : InstanceHead
  head_of = record { number = get_or s at 0; captures = get_or s (at + 1) 0; rules = get_or s (at + 2) 0; children = get_or s (at + 3) 0 }

  pub head_read : begun < limit → at + 4 ≤ length s → fresh true numbers (get_or s at 0) ≡ true → (get_or s (at + 2) 0 ≡ 0 → ⊥) → instance_head_at limit s true begun numbers at ≡ done head_of (at + 4)
  unfolding instance_head_at count_at
  head_read r h f z =
      let a : at + 1 + 1 ≡ at + 2 = omega arith in
      let b : at + 2 + 1 ≡ at + 3 = omega arith in
      let d : at + 3 + 1 ≡ at + 4 = omega arith in
      let first : requiring (fresh true numbers) 7 at (requiring (λ n. ltb begun limit) 8 at (field_at s at 1)) ≡ done (get_or s at 0) (at + 1) = requiring_in (fresh true numbers) 7 at _ (requiring_in _ 8 at _ (byte_field s at (omega arith)) (lt-ltb begun limit r)) f in
      let second : field_at s (at + 1) 1 ≡ done (get_or s (at + 1) 0) (at + 2) = rw (← a) (byte_field s (at + 1) (omega arith)) in
      let third : field_at s (at + 2) 1 ≡ done (get_or s (at + 2) 0) (at + 3) = rw (← b) (byte_field s (at + 2) (omega arith)) in
      let fourth : field_at s (at + 3) 1 ≡ done (get_or s (at + 3) 0) (at + 4) = rw (← d) (byte_field s (at + 3) (omega arith)) in
      then_in _ _ first (then_in _ _ second (then_in _ _ (requiring_in _ 5 (at + 2) _ third (lt-ltb 0 (get_or s (at + 2) 0) (omega arith))) (making_in _ _ fourth refl)))

-- A node instance that is read in the pass.
pub instance_passed : (s keys kinds : List ℕ) (kind bound at : ℕ) {p : Pass} {r : InstancePass} {captures rules n : ℕ} → bound ≤ get_or s at 0 → (rules ≡ 0 → ⊥)
    → get_or s (at + 1) 0 ≡ captures → get_or s (at + 2) 0 ≡ rules → get_or s (at + 3) 0 ≡ n
    → NamesPassed s keys kinds kind captures rules (at + 4) p → ChildrenRead s n p.next r.next → r.number ≡ get_or s at 0 → r.children ≡ packed p.next n → r.fits ≡ p.fits
    → at + 4 ≤ length s → InstancePassed s keys kinds kind bound at r
unfolding node_instance_at children_of register_names_in
instance_passed s keys kinds kind bound at {p} {r} {captures} {rules} {n} f z ec er en names children number kids fits h =
    let z₁ : get_or s (at + 2) 0 ≡ 0 → ⊥ = λ e. z (sym er ∙ e) in
    let rc : row_at (capture_at s) (get_or s (at + 1) 0) [] (at + 4) ≡ done names.captured names.middle = rw ec names.read_captures in
    let rr : row_at (rule_at s true) (get_or s (at + 2) 0) [] names.middle ≡ done names.ruled p.next = rw er names.read_rules in
    let rk : row_at (child_at s true) (get_or s (at + 3) 0) [] p.next ≡ done children.children r.next = rw en children.read in
    record {
      instance = record { place = at; number = get_or s at 0; captures = names.captured; rules = names.ruled; children = children.children };
      rises = omega (arith, number);
      read = λ limit total before below room.
          then_in _ _ (head_read limit s (total + length before) (map node_number before) at room h (below.above (get_or s at 0) (omega arith)) z₁)
          (then_in _ _ rc (then_in _ _ rr (making_in _ _ rk refl)));
      numbered = number;
      placed = refl;
      children_are = kids ∙ packed_children s n p.next children.read;
      fit = λ e. let q = names.fit (sym fits ∙ e) in rw (q.0, q.1);
    }

-- What is kept of children, by whether there is one.
pub packed_none : (at n : ℕ) → n ≡ 0 → 0 ≡ packed at n
unfolding packed
packed_none at zero e = refl
packed_none at (suc n) e = absurd (omega arith)

pub packed_some : (at n : ℕ) → (n ≡ 0 → ⊥) → at * 256 + n ≡ packed at n
unfolding packed
packed_some at zero e = absurd (e refl)
packed_some at (suc n) e = refl

-- A loop over the instances of a node: the numbers of those before are below `bound`.
module _ (limit : ℕ) (s keys kinds : List ℕ) (id kind count total at : ℕ) (t₀ : Rows) (c₀ : List ℕ) where
  abbrev instances_read : List NodeInstance → ℕ → Parsed NodeInstance
  instances_read = node_instance_at limit s true total

  abbrev instance_row : NodeInstance → List Row
  instance_row i = row_of id kind i.number i.place ∷ []

  abbrev instance_children : NodeInstance → List ℕ
  instance_children i = children_of i ∷ []

  pub record Instances (t : Rows) (c : List ℕ) (bound : ℕ) (fits : Bool) (begun left place : ℕ) : Type 0 where
    pub before : List NodeInstance
    pub below : Below bound (map node_number before)
    pub counted : begun ≡ total + length before
    pub passing : Passing instances_read instance_row instance_children (register_names_in keys kinds kind) (row_at instances_read count [] at) t₀ c₀ total t c begun fits before left place

  pub instances_begin : Instances t₀ c₀ 0 true total count at
  instances_begin = record { before = []; below = below_nothing 0; counted = omega arith; passing = passing_begin _ _ _ _ _ _ _ _ _ }

  module _ {t : Rows} {c : List ℕ} {bound : ℕ} {fits : Bool} {begun left place : ℕ} (f : Instances t c bound fits begun left place) where
    pub instances_next : {r : InstancePass} → InstancePassed s keys kinds kind bound place r → 0 < left → begun < limit → {x : ℕ} {u : Rows} {d : List ℕ} {both : Bool} {j : ℕ} → x ≡ key_of id r.number
        → u ≡ put_row t begun (record { key = x; kind = kind; place = place }) → d ≡ set c begun r.children → both ≡ fits && r.fits → j ≡ r.number + 1
        → Instances u d j both (begun + 1) (left - 1) r.next
    unfolding filled written row_of
    instances_next {r} i h room {x} {u} {d} ex eu ed eb ej =
        let n : r.number ≡ i.instance.number = i.numbered in
        let row : u ≡ filled t begun (instance_row i.instance) = eu ∙ rw (ex, n, i.placed) in
        let kids : d ≡ written c begun (instance_children i.instance) = ed ∙ rw i.children_are in
        record {
          before = i.instance ∷ f.before;
          below = below_put (map node_number f.before) r.number f.below i.rises (sym n) ej;
          counted = omega (arith, f.counted);
          passing = passing_next _ _ _ _ f.passing h (i.read limit total f.before f.below (omega (arith, f.counted))) row kids refl refl eb i.fit;
        }

    pub instances_end : left ≤ 0 → {p : Pass} → place ≡ p.next → fits ≡ p.fits → InstancesPassed limit s keys kinds id kind count total at t₀ c₀ t c p
    instances_end h {p} en ef =
        let e = passing_end _ _ _ _ f.passing h in
        record {
          instances = e.0;
          read = e.1 ∙ ap (done e.0) en;
          rows = e.2 ∙ ap (filled t₀ total) (gathered_each _ e.0);
          children_are = e.3 ∙ ap (written c₀ total) (gathered_each _ e.0);
          fit = λ z. e.4 (ef ∙ z);
        }
