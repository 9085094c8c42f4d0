-- The value of an expression: what its head gives, and then its operands, one after another.
use Prim.Native.Nat.{ℕ, zero, suc, ◌-◌, ◌^◌, ◌≤◌, ◌<◌}
use mathlib.Core.Bool.{Bool, true, false, cond, ◌&&◌, ◌||◌}
use mathlib.Core.Path.{◌≡◌, refl, sym, ◌∙◌, ap}
use mathlib.Core.List.{List, [], ◌∷◌, ◌++◌, append-nil, append_assoc}
use native.Mathlib.Numerals.{sub-one}
use native.Mathlib.Omega.{arith}
use lib.Dec.{eqb}
use lib.ListN.{length, get_or}
use Rattle.numbers.specs.Bits.{Bits, word_of, and_bits, or_bits}
use Rattle.numbers.proofs.BitsLaws.{word_ext, word_bits}
use Rattle.format.specs.Parsed.{Parsed, done}
use Rattle.format.specs.ExpressionLayout.{expr_at}
use Rattle.format.specs.Lookup.{gathered}
use Rattle.format.specs.Meaning.{every_operand, some_operand, bits_within, value_within}
use Rattle.format.specs.References.{Named, Fault, unless, named_by}
use Rattle.format.specs.Tree.{Expr, gather}
use Rattle.format.proofs.GatheredLaws.{gathered-append}
use Rattle.expressions.specs.declared.Head.{Head}
use Rattle.expressions.specs.declared.Head.TheVariants.{Reading, Constant, All, Any, Inverse, Left, Right}
use Rattle.expressions.specs.declared.HeadRead.{HeadRead}
use Rattle.expressions.specs.Heads.{arity_of, built, head_at, head_parsed}
use Rattle.tables.specs.Faults.{position_in}
use Rattle.evaluation.specs.declared.Value.{Value}
use Rattle.expressions.specs.Names.{own_names}
use Rattle.evaluation.specs.Value.{word_in, unread_in, faulty, first_place, valued}
use Rattle.evaluation.specs.Combining.{own_bits, combined, folded, plain_value, own_value, joined_value}
use Rattle.expressions.proofs.NamesLaws.{named_built}
use Rattle.expressions.proofs.OperandsLaws.{Ahead, opened, Turn, turn, turned}
use Rattle.evaluation.proofs.WordsLaws.{not_of, and_of, or_of, left-of, right_of}

-- Faults in two parts.
pub faulty-append : (xs ys : List Fault) → faulty (xs ++ ys) ≡ (faulty xs || faulty ys)
unfolding faulty
faulty-append [] ys = refl
faulty-append (x ∷ xs) ys = refl

pub place-append : (xs ys : List Fault) → first_place (xs ++ ys) ≡ cond (faulty xs) (first_place xs) (first_place ys)
unfolding faulty first_place
place-append [] ys = refl
place-append (x ∷ xs) ys = refl

module _ (k : ℕ) (env : ℕ → ℕ → ℕ) where
  -- Some operands of AND after bits f, and of OR.
  folded_all : (n : ℕ) (f : Bits) (es : List Expr) → folded k env (All n) (word_of 64 f) es ≡ word_of 64 (and_bits f (every_operand (bits_within k 64 env) (gather es)))
  unfolding folded value_within gather every_operand and_bits
  folded_all n f [] = word_ext 64 f _ (λ i h. and-true (f i))
    where
      and-true : (t : Bool) → t ≡ (t && true)
      and-true true = refl
      and-true false = refl
  folded_all n f (e ∷ es) =
      rw (and_of 64 f (bits_within k 64 env e))
      (folded_all n (and_bits f (bits_within k 64 env e)) es ∙ word_ext 64 _ _ (λ i h. and_assoc (f i) (bits_within k 64 env e i) (every_operand (bits_within k 64 env) (gather es) i)))
    where
      and_assoc : (a b c : Bool) → ((a && b) && c) ≡ (a && (b && c))
      and_assoc true b c = refl
      and_assoc false b c = refl

  folded_any : (n : ℕ) (f : Bits) (es : List Expr) → folded k env (Any n) (word_of 64 f) es ≡ word_of 64 (or_bits f (some_operand (bits_within k 64 env) (gather es)))
  unfolding folded value_within gather some_operand or_bits
  folded_any n f [] = word_ext 64 f _ (λ i h. or-false (f i))
    where
      or-false : (t : Bool) → t ≡ (t || false)
      or-false true = refl
      or-false false = refl
  folded_any n f (e ∷ es) =
      rw (or_of 64 f (bits_within k 64 env e))
      (folded_any n (or_bits f (bits_within k 64 env e)) es ∙ word_ext 64 _ _ (λ i h. or_assoc (f i) (bits_within k 64 env e i) (some_operand (bits_within k 64 env) (gather es) i)))
    where
      or_assoc : (a b c : Bool) → ((a || b) || c) ≡ (a || (b || c))
      or_assoc true b c = refl
      or_assoc false b c = refl

  -- The meaning of an expression is its head's bits with its operands.
  pub value_built : (start : ℕ) (h : Head) (es : List Expr) → length es ≡ arity_of h
      → value_within (suc k) 64 env (built start h es) ≡ folded k env h (word_of 64 (own_bits env h)) es
  unfolding value_within bits_within folded and_bits or_bits
  value_built start (Reading id n) [] l = refl
  value_built start (Reading id n) (e ∷ es) l = absurd (omega arith)
  value_built start (Constant v) [] l = refl
  value_built start (Constant v) (e ∷ es) l = absurd (omega arith)
  value_built start (All n) es l = sym (folded_all n (λ i. true) es)
  value_built start (Any n) es l = sym (folded_any n (λ i. false) es)
  value_built start Inverse (e ∷ []) l = sym (not_of 64 (bits_within k 64 env e))
  value_built start Inverse [] l = absurd (omega arith)
  value_built start Inverse (e ∷ (f ∷ es)) l = absurd (omega arith)
  value_built start (Left n) (e ∷ []) l = sym (left-of 64 (bits_within k 64 env e) n)
  value_built start (Left n) [] l = absurd (omega arith)
  value_built start (Left n) (e ∷ (f ∷ es)) l = absurd (omega arith)
  value_built start (Right n) (e ∷ []) l = sym (right_of 64 (bits_within k 64 env e) n)
  value_built start (Right n) [] l = absurd (omega arith)
  value_built start (Right n) (e ∷ (f ∷ es)) l = absurd (omega arith)

-- An expression's value is known from v, which its head and its operands so far gave, and from those that are ahead.
pub record Pending (l : ℕ) (env : ℕ → ℕ → ℕ) (unread : Named → List Fault) (h : Head) (v : Value) (e : Expr) (es : List Expr) : Type 0 where
  pub faults : List Fault
  pub word_so_far : value_within l 64 env e ≡ folded (l - 1) env h v.word es
  pub unread_so_far : v.unread ≡ faulty faults
  pub place_so_far : v.place ≡ first_place faults
  pub all_faults : gathered unread (named_by e) ≡ faults ++ gathered unread (gathered named_by es)

-- One more operand: an unread register that is known already stays the first, and otherwise the operand's is.
module _ (h : Head) (v x : Value) {w : ℕ} where
  pub joined_first : w ≡ combined h v.word x.word → v.unread ≡ true
      → record { word = w; unread = true; place = v.place; next = x.next } ≡ joined_value h v x
  unfolding joined_value
  joined_first e g = rw (e, g)

  pub joined_later : w ≡ combined h v.word x.word → v.unread ≡ false
      → record { word = w; unread = x.unread; place = x.place; next = x.next } ≡ joined_value h v x
  unfolding joined_value
  joined_later e g = rw (e, g)

module _ (keys words read : List ℕ) where
  -- What a head gives before any operand.
  module _ (at next : ℕ) {y : Value} {h : Head} where
    pub own_constant : {v : ℕ} → y ≡ plain_value v next → h ≡ Constant v → v < 2 ^ 64 → y ≡ own_value keys words read at h next
    unfolding own_value gathered faulty first_place
    own_constant {v} i g l = rw (g, word_bits 64 v l) i

    pub own_all : {n : ℕ} → y ≡ plain_value 0xFFFF_FFFF_FFFF_FFFF next → h ≡ All n → y ≡ own_value keys words read at h next
    unfolding own_value gathered faulty first_place word_of
    own_all i g = rw g i

    pub own_any : {n : ℕ} → y ≡ plain_value 0 next → h ≡ Any n → y ≡ own_value keys words read at h next
    unfolding own_value gathered faulty first_place word_of
    own_any i g = rw g i

    pub own_inverse : y ≡ plain_value 0 next → h ≡ Inverse → y ≡ own_value keys words read at h next
    unfolding own_value gathered faulty first_place word_of
    own_inverse i g = rw g i

    pub own_left : {k : ℕ} → y ≡ plain_value 0 next → h ≡ Left k → y ≡ own_value keys words read at h next
    unfolding own_value gathered faulty first_place word_of
    own_left i g = rw g i

    pub own_right : {k : ℕ} → y ≡ plain_value 0 next → h ≡ Right k → y ≡ own_value keys words read at h next
    unfolding own_value gathered faulty first_place word_of
    own_right i g = rw g i

  -- The reading of a register that stands at position k of the keys.
  module _ (at next id n : ℕ) {k w : ℕ} {t : Bool} where
    pub own_read : k ≡ position_in keys id n → w ≡ get_or words k 0 → w < 2 ^ 64 → t ≡ eqb (get_or read k 0) 1 → t ≡ true
        → plain_value w next ≡ own_value keys words read at (Reading id n) next
    unfolding own_value word_in unread_in unless gathered faulty first_place
    own_read e g l i j = simp (← e, ← g, word_bits 64 w l, ← i, j)

    pub own_unread : k ≡ position_in keys id n → w ≡ get_or words k 0 → w < 2 ^ 64 → t ≡ eqb (get_or read k 0) 1 → t ≡ false
        → record { word = w; unread = true; place = at; next = next } ≡ own_value keys words read at (Reading id n) next
    unfolding own_value word_in unread_in unless gathered faulty first_place
    own_unread e g l i j = simp (← e, ← g, word_bits 64 w l, ← i, j)

  abbrev Waits : ℕ → Head → Value → Expr → List Expr → Type 0
  Waits l = Pending l (word_in keys words) (unread_in keys read)

  -- With a level left, the head's bits and the operands on the level below.
  value_opened : (l start : ℕ) (h : Head) (es : List Expr) → 0 < l → length es ≡ arity_of h
      → value_within l 64 (word_in keys words) (built start h es) ≡ folded (l - 1) (word_in keys words) h (word_of 64 (own_bits (word_in keys words) h)) es
  value_opened zero start h es p n = absurd (omega arith)
  value_opened (suc k) start h es p n = rw sub-one (value_built k (word_in keys words) start h es n)

  -- The head comes first.
  pub value_head : (s : List ℕ) (l at : ℕ) {x : HeadRead} {h : Head} {a n : ℕ} {v : Value} {e : Expr} {m : ℕ} → 0 < l
      → head_parsed x ≡ head_at s l at → x ≡ HeadRead.Head h a → n ≡ arity_of h → v ≡ own_value keys words read at h a → expr_at s l at ≡ done e m
      → Ahead (expr_at s (l - 1)) n v.next m (Waits l h v e)
  unfolding own_value
  value_head s l at {x} {h} {a} {n} {v} {e} {m} p i g c j k = rw (c, j) (go (opened s l at i g k))
    where
      go : Ahead (expr_at s (l - 1)) (arity_of h) a m (λ es. (built at h es ≡ e) × (length es ≡ arity_of h))
          → Ahead (expr_at s (l - 1)) (arity_of h) a m (Waits l h (own_value keys words read at h a) e)
      go o =
          record {
            operands = o.operands;
            row = o.row;
            fact =
                record {
                  faults = gathered (unread_in keys read) (own_names at h);
                  word_so_far = ap (value_within l 64 (word_in keys words)) (sym o.fact.0) ∙ value_opened l at h o.operands p o.fact.1;
                  unread_so_far = refl;
                  place_so_far = refl;
                  all_faults =
                      ap (λ d. gathered (unread_in keys read) (named_by d)) (sym o.fact.0)
                      ∙ ap (gathered (unread_in keys read)) (named_built at h o.operands o.fact.1)
                      ∙ gathered-append (unread_in keys read) (own_names at h) (gathered named_by o.operands);
                };
          }

  module _ (p : ℕ → Parsed Expr) (l n : ℕ) {h : Head} {v : Value} {e : Expr} {m : ℕ} where
    value_step : {es : List Expr} (o : Waits l h v e es) (t : Turn p n v.next m es)
        → Ahead p (n - 1) t.place m (Waits l h (joined_value h v (valued (l - 1) keys words read t.first t.place)) e)
    unfolding valued joined_value folded gathered
    value_step {es} o t =
        let here = gathered (unread_in keys read) (named_by t.first) in
        record {
          operands = t.rest;
          row = t.row;
          fact =
              record {
                faults = o.faults ++ here;
                word_so_far = o.word_so_far ∙ ap (folded (l - 1) (word_in keys words) h v.word) t.is;
                unread_so_far = ap (λ b. b || faulty here) o.unread_so_far ∙ sym (faulty-append o.faults here);
                place_so_far = rw (o.unread_so_far, o.place_so_far) (sym (place-append o.faults here));
                all_faults =
                    o.all_faults
                    ∙ ap (λ z. o.faults ++ gathered (unread_in keys read) (gathered named_by z)) t.is
                    ∙ ap (λ z. o.faults ++ z) (gathered-append (unread_in keys read) (named_by t.first) (gathered named_by t.rest))
                    ∙ sym (append_assoc o.faults here (gathered (unread_in keys read) (gathered named_by t.rest)));
              };
        }

    -- The operands follow in their order.
    pub value_more : {x y : Value} → Ahead p n v.next m (Waits l h v e) → 0 < n
        → ((d : Expr) (k : ℕ) → p v.next ≡ done d k → x ≡ valued (l - 1) keys words read d k) → y ≡ joined_value h v x
        → Ahead p (n - 1) y.next m (Waits l h y e)
    unfolding valued joined_value
    value_more {x} {y} o g i j =
        let t = turn p n v.next g o.row in
        rw (j ∙ ap (joined_value h v) (i t.first t.place t.read)) (value_step o.fact t)

    -- Where no operand is ahead, the value is there.
    pub value_end : Ahead p n v.next m (Waits l h v e) → n ≤ 0 → v ≡ valued l keys words read e m
    unfolding valued folded gathered
    value_end o g =
        let t = turned p n v.next g o.row in
        let w : v.word ≡ value_within l 64 (word_in keys words) e = sym (o.fact.word_so_far ∙ ap (folded (l - 1) (word_in keys words) h v.word) t.0) in
        let f : gathered (unread_in keys read) (named_by e) ≡ o.fact.faults =
        o.fact.all_faults ∙ ap (λ z. o.fact.faults ++ gathered (unread_in keys read) (gathered named_by z)) t.0 ∙ append-nil o.fact.faults
        in
        rw (f, ← o.fact.unread_so_far, ← o.fact.place_so_far, ← w, ← t.1)
