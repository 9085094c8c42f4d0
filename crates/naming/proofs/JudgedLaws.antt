-- The first fault of a register that is named, and of an expression: of the name in its head, and then of its operands, one after another.
use Prim.Native.Nat.{ℕ, ◌-◌, ◌≤◌, ◌<◌}
use mathlib.Core.Path.{◌≡◌, sym, ◌∙◌, ap}
use mathlib.Core.Bool.{Bool, true, false}
use mathlib.Core.List.{List, [], ◌++◌, append-nil}
use lib.Dec.{ltb, eqb}
use lib.ListN.{length, get_or}
use Rattle.format.specs.declared.Refusal.{Refusal}
use Rattle.format.specs.Parsed.{Parsed, done, refused}
use Rattle.format.specs.ExpressionLayout.{expr_at}
use Rattle.format.specs.Lookup.{gathered}
use Rattle.format.specs.References.{Named, Fault, unless, named_by}
use Rattle.format.specs.Tree.{Expr}
use Rattle.format.proofs.GatheredLaws.{gathered-append}
use Rattle.fields.specs.declared.NextRead.{NextRead}
use Rattle.fields.specs.Views.{refused_by, next_parsed}
use Rattle.expressions.specs.declared.Head.{Head}
use Rattle.expressions.specs.declared.Head.TheVariants.{Reading}
use Rattle.expressions.specs.declared.HeadRead.{HeadRead}
use Rattle.expressions.specs.Heads.{arity_of, built, head_at, head_parsed}
use Rattle.tables.specs.Faults.{judged_at, position_in, present, register_faults_in, name_faults}
use Rattle.tables.proofs.FaultsLaws.{judged_none, judged_stop, judged_on}
use Rattle.expressions.specs.Names.{own_names}
use Rattle.expressions.proofs.NamesLaws.{named_built}
use Rattle.expressions.proofs.OperandsLaws.{Ahead, opened, turn, turned}

-- A register that was found or not, and is fit or not.
module _ (at next : ℕ) where
  pub register_absent : (fit : Bool) {found : Bool} → found ≡ false → refused 12 at ≡ judged_at (unless found 12 at ++ unless fit 13 at) next
  unfolding judged_at unless
  register_absent fit h = rw h

  pub register_unfit : {found fit : Bool} → found ≡ true → fit ≡ false → refused 13 at ≡ judged_at (unless found 12 at ++ unless fit 13 at) next
  unfolding judged_at unless
  register_unfit h g = rw (h, g)

  pub register_fit : {found fit : Bool} → found ≡ true → fit ≡ true → done tt next ≡ judged_at (unless found 12 at ++ unless fit 13 at) next
  unfolding judged_at unless
  register_fit h g = rw (h, g)

-- The register of a name, found at position k of the keys, whose entry in the kinds is t.
module _ (keys kinds : List ℕ) (id n at next : ℕ) {k t : ℕ} {y : Parsed (Unit {0})} (e : k ≡ position_in keys id n) (g : t ≡ get_or kinds k 0) where
  pub register_judged : (asked : ℕ → Bool) → y ≡ judged_at (unless (ltb k (length keys)) 12 at ++ unless (asked t) 13 at) next
      → y ≡ judged_at (register_faults_in keys kinds asked id n at) next
  unfolding register_faults_in present
  register_judged asked h = h ∙ rw (g, e)

  pub name_judged : (kind : ℕ) → y ≡ judged_at (unless (ltb k (length keys)) 12 at ++ unless (eqb t kind) 13 at) next
      → y ≡ judged_at (gathered (name_faults keys kinds kind) (own_names at (Reading id n))) next
  unfolding gathered name_faults
  name_judged kind h = register_judged (λ k. eqb k kind) h ∙ ap (λ fs. judged_at fs next) (sym (append-nil _))

module _ (f : Named → List Fault) where
  -- Nothing is named, so there is no fault.
  pub nameless : (names : List Named) (m : ℕ) → names ≡ [] → done tt m ≡ judged_at (gathered f names) m
  unfolding gathered
  nameless names m e = rw e (sym (judged_none m))

  -- The faults of an expression that ends at `m` are judged as those of some operands.
  abbrev pub Judged : Expr → ℕ → List Expr → Type 0
  Judged e m es = judged_at (gathered f (named_by e)) m ≡ judged_at (gathered f (gathered named_by es)) m

  -- Names in two parts: a fault of the first part decides, and where it has none, the second part is judged.
  module _ (xs ys : List Named) (k m : ℕ) {w : NextRead} where
    part_no : {r : Refusal} → next_parsed w ≡ judged_at (gathered f xs) k → w ≡ NextRead.Refused r
        → judged_at (gathered f (xs ++ ys)) m ≡ refused_by r
    part_no e g = rw gathered-append (judged_stop (gathered f xs) (gathered f ys) k m (sym e ∙ ap next_parsed g))

    part_on : {b : ℕ} → next_parsed w ≡ judged_at (gathered f xs) k → w ≡ NextRead.Next b
        → (k ≡ b) × (judged_at (gathered f (xs ++ ys)) m ≡ judged_at (gathered f ys) m)
    part_on e g = rw gathered-append (judged_on (gathered f xs) (gathered f ys) m (sym e ∙ ap next_parsed g))

  judged_built : (at : ℕ) (h : Head) (es : List Expr) (m : ℕ) {e : Expr} → built at h es ≡ e → length es ≡ arity_of h
      → judged_at (gathered f (named_by e)) m ≡ judged_at (gathered f (own_names at h ++ gathered named_by es)) m
  judged_built at h es m i l = rw (← i, named_built at h es l)

  module _ (s : List ℕ) (l at : ℕ) {x : HeadRead} {h : Head} {a : ℕ} {w : NextRead} {e : Expr} {m : ℕ} where
    -- The name in the head comes first.
    pub judged_head_no : {r : Refusal} → head_parsed x ≡ head_at s l at → x ≡ HeadRead.Head h a
        → next_parsed w ≡ judged_at (gathered f (own_names at h)) a → w ≡ NextRead.Refused r → expr_at s l at ≡ done e m
        → refused_by r ≡ judged_at (gathered f (named_by e)) m
    judged_head_no i g j u k =
        let o = opened s l at i g k in
        sym (judged_built at h o.operands m o.fact.0 o.fact.1 ∙ part_no (own_names at h) _ a m j u)

    pub judged_head : {n b : ℕ} → head_parsed x ≡ head_at s l at → x ≡ HeadRead.Head h a → n ≡ arity_of h
        → next_parsed w ≡ judged_at (gathered f (own_names at h)) a → w ≡ NextRead.Next b → expr_at s l at ≡ done e m
        → Ahead (expr_at s (l - 1)) n b m (Judged e m)
    judged_head {n} {b} i g c j u k =
        let o = opened s l at i g k in
        let p = part_on (own_names at h) (gathered named_by o.operands) a m j u in
        record {
          operands = o.operands;
          row = rw (c, ← p.0) o.row;
          fact = judged_built at h o.operands m o.fact.0 o.fact.1 ∙ p.1;
        }

  module _ (p : ℕ → Parsed Expr) (n at : ℕ) (e : Expr) {m : ℕ} where
    -- The operands follow in their order.
    module _ {w : NextRead} where
      pub judged_no : {r : Refusal} → Ahead p n at m (Judged e m) → 0 < n
          → ((x : Expr) (k : ℕ) → p at ≡ done x k → next_parsed w ≡ judged_at (gathered f (named_by x)) k) → w ≡ NextRead.Refused r
          → refused_by r ≡ judged_at (gathered f (named_by e)) m
      unfolding gathered
      judged_no o h i g =
          let t = turn p n at h o.row in
          sym (o.fact ∙ ap (λ l. judged_at (gathered f (gathered named_by l)) m) t.is ∙ part_no (named_by t.first) _ t.place m (i t.first t.place t.read) g)

      pub judged_more : {b : ℕ} → Ahead p n at m (Judged e m) → 0 < n
          → ((x : Expr) (k : ℕ) → p at ≡ done x k → next_parsed w ≡ judged_at (gathered f (named_by x)) k) → w ≡ NextRead.Next b
          → Ahead p (n - 1) b m (Judged e m)
      unfolding gathered
      judged_more {b} o h i g =
          let t = turn p n at h o.row in
          let q = part_on (named_by t.first) (gathered named_by t.rest) t.place m (i t.first t.place t.read) g in
          record { operands = t.rest; row = rw (← q.0) t.row; fact = o.fact ∙ ap (λ l. judged_at (gathered f (gathered named_by l)) m) t.is ∙ q.1 }

    -- Where no operand is ahead, there is no fault.
    pub judged_end : Ahead p n at m (Judged e m) → n ≤ 0 → done tt at ≡ judged_at (gathered f (named_by e)) m
    unfolding gathered
    judged_end o h =
        let t = turned p n at h o.row in
        sym (o.fact ∙ rw (t.0, t.1) (judged_none m))
