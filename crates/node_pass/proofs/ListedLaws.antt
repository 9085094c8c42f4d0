-- Nodes with IDs in any order, by a list of the IDs.
use Prim.Native.Nat.{ℕ, max, ◌+◌, ◌-◌, ◌*◌, ◌≤◌, ◌<◌}
use mathlib.Core.Bool.{Bool, true, ◌&&◌}
use mathlib.Core.List.{List, [], ◌∷◌}
use mathlib.Core.Path.{◌≡◌, refl, sym, ap}
use native.Mathlib.Numerals.{add-one}
use native.Mathlib.Omega.{arith}
use borrow.Author.Tests.{ltb-true}
use lib.Dec.{ltb}
use lib.ListN.{length, take, set, length-set}
use lib.Seq.{length-take-le, take-suc-set}
use Rattle.format.specs.Fields.{field_at, count_at, type_at, fresh}
use Rattle.format.specs.NodeLayout.{NodeHead, node_head_at}
use Rattle.format.specs.Parsed.{done, requiring}
use Rattle.format.proofs.ParsedLaws.{then_out, making_out, requiring_out}
use Rattle.tables.specs.Indexed.{Indexed}
use Rattle.tables.proofs.IndexedLaws.{indexed_none, indexed-append}
use Rattle.fields.specs.Seen.{new_after, Tells, Largest}
use Rattle.fields.proofs.SeenLaws.{tells_nothing, tells_put, tells_new, largest_nothing, largest_put}
use Rattle.index.specs.Rows.{Rows}
use Rattle.node_pass.specs.declared.Pass.{Pass}
use Rattle.node_pass.specs.declared.NodesPass.{NodesPass}
use Rattle.node_pass.specs.Passed.{InstancesPassed, NodesPassed}
use Rattle.node_pass.proofs.NodeLaws.{NodesWith, with_begin, with_next, with_end}

-- What a node starts with has at least one instance.
pub head_some : (s ids : List ℕ) (at : ℕ) {h : NodeHead} {m : ℕ} → done h m ≡ node_head_at s true ids at → 0 < h.count
unfolding node_head_at count_at
head_some s ids at {h} {m} e =
    let d = then_out (requiring (fresh true ids) 7 at (field_at s at 2)) _ (sym e) in
    let c = then_out (type_at s d.1) _ d.3 in
    let f = making_out (λ n. record { id = d.0; type = c.0; count = n }) (requiring (λ k. ltb 0 k) 5 c.1 (field_at s c.1 1)) c.3 in
    let i : f.0 ≡ h.count = ap (λ x. x.count) f.2 in
    let k : 0 < f.0 = ltb-true _ _ (requiring_out (λ k. ltb 0 k) 5 c.1 (field_at s c.1 1) f.1).1 in
    omega arith

-- `ids` holds the IDs of the nodes before, of which there are `known`, each at most `largest`, and the first `entered` are in `index`.
pub record Ids (ids index : List ℕ) (known entered largest : ℕ) (numbers : List ℕ) : Type 0 where
  pub listed : Tells (fresh true (take known ids)) numbers
  pub within : entered ≤ known
  pub indexed : Indexed index (take known ids) entered
  pub bound : Largest largest numbers

pub ids_begin : (ids index : List ℕ) → Ids ids index 0 0 0 []
ids_begin ids index = record { listed = tells_nothing ids; within = omega arith; indexed = indexed_none index (take 0 ids); bound = largest_nothing 0 }

module _ {ids index : List ℕ} {known entered largest : ℕ} {numbers : List ℕ} (r : Ids ids index known entered largest numbers) where
  pub ids_told : Tells (new_after largest (take known ids)) numbers
  ids_told = tells_new largest (take known ids) r.listed r.bound

  -- The IDs that are entered stay so when one is put after them.
  ids_stay : (i : ℕ) → known < length ids → (length (take (known + 1) (set ids known i)) ≡ known + 1) × Indexed index (take (known + 1) (set ids known i)) entered
  ids_stay i l = (
    length-take-le (known + 1) (set ids known i) (let h = length-set ids known i in omega arith),
    rw (add-one, take-suc-set ids known i l) (indexed-append index (take known ids) (i ∷ []) (let h = length-take-le known ids (omega arith) in omega (arith, r.within)) r.indexed),
  )

  pub ids_put : (i : ℕ) {j more : ℕ} {index₁ : List ℕ} → known < length ids → length ids < 65536
      → (more ≤ length (take (known + 1) (set ids known i))) × (length (take (known + 1) (set ids known i)) < 65536 → Indexed index (take (known + 1) (set ids known i)) entered → Indexed index₁ (take (known + 1) (set ids known i)) more)
      → j ≡ max largest i
      → Ids (set ids known i) index₁ (known + 1) more j (i ∷ numbers)
  ids_put i l b x g =
      let q = ids_stay i l in
      record {
        listed = tells_put ids numbers known i l r.listed refl;
        within = omega (arith, x.0, q.0);
        indexed = x.1 (omega (arith, q.0)) q.1;
        bound = largest_put largest numbers i r.bound refl g;
      }

-- A loop over nodes with IDs in any order. Those before are read where `given` holds.
module _ (given : Type 0) (limit : ℕ) (s keys kinds : List ℕ) (n at : ℕ) (t₀ : Rows) (c₀ : List ℕ) where
  pub record Listed (ids index : List ℕ) (known entered largest : ℕ) (t : Rows) (c : List ℕ) (fits : Bool) (total left place : ℕ) : Type 0 where
    pub numbers : List ℕ
    pub told : Ids ids index known entered largest numbers
    pub nodes : given → NodesWith limit s keys kinds n at t₀ c₀ numbers t c fits total left place

  pub listed_begin : (ids index : List ℕ) → Listed ids index 0 0 0 t₀ c₀ true 0 n at
  listed_begin ids index = record { numbers = []; told = ids_begin ids index; nodes = λ x. with_begin limit s keys kinds n at t₀ c₀ }

  module _ {ids index : List ℕ} {known entered largest : ℕ} {t : Rows} {c : List ℕ} {fits : Bool} {total left place : ℕ} (f : Listed ids index known entered largest t c fits total left place) where
    pub listed_next : {id kind count a : ℕ} {u : Rows} {d : List ℕ} {p : Pass} {both : Bool} {j more : ℕ} {index₁ : List ℕ}
        → done (record { id = id; type = kind; count = count }) a ≡ node_head_at s true f.numbers place
        → (given → InstancesPassed limit s keys kinds id (kind * 2 + 1) count total a t c u d p) → 0 < left → both ≡ fits && p.fits → known < length ids → length ids < 65536
        → (more ≤ length (take (known + 1) (set ids known id))) × (length (take (known + 1) (set ids known id)) < 65536 → Indexed index (take (known + 1) (set ids known id)) entered → Indexed index₁ (take (known + 1) (set ids known id)) more)
        → j ≡ max largest id
        → Listed (set ids known id) index₁ (known + 1) more j u d both (total + count) (left - 1) p.next
    listed_next {id} head i l b k m x g =
        record { numbers = id ∷ f.numbers; told = ids_put f.told id k m x g; nodes = λ y. with_next limit s keys kinds n at t₀ c₀ (f.nodes y) (sym head) (i y) l b }

    pub listed_end : given → left ≤ 0 → {r : NodesPass} → total ≡ r.total → place ≡ r.next → fits ≡ r.fits → NodesPassed limit s keys kinds n at t₀ c₀ t c r
    listed_end y h et en ef = with_end limit s keys kinds n at t₀ c₀ (f.nodes y) h et en ef
