-- A run over an expression: it pays one, and gives the expression's records.
use Prim.Native.Nat.{ℕ, suc, ◌+◌, ◌-◌, ◌<◌}
use mathlib.Core.Bool.{true}
use mathlib.Core.List.{List, [], ◌∷◌, ◌++◌}
use mathlib.Core.Path.{◌≡◌, refl, sym, ◌∙◌, subst}
use native.Mathlib.Omega.{arith}
use lib.Dec.{lit<, lit≤}
use lib.ListN.{length}
use Rattle.numbers.specs.BigEndian.{bytes_of}
use Rattle.numbers.proofs.BigEndianLaws.{length_bytes}
use Rattle.format.specs.Fields.{address_size}
use Rattle.format.specs.Tree.{Expr, Exprs, reading, constant, all, any, inverse, left, right, none, more}
use Rattle.format.specs.Encoding.{operand_count, encode_expr, encode_exprs}
use Rattle.format.specs.Rules.{ExprFits, ExprsFit}
use Rattle.format.proofs.Spelling.{Spell, spell_split}
use Rattle.records.specs.declared.Element.{Element}
use Rattle.records.specs.declared.Element.TheVariants as element
use Rattle.records.specs.Elements.{record_of, expr_records, exprs_records}
use Rattle.records.specs.Grammar.{expression_of}
use Rattle.records.specs.Sizes.{own_size}
use Rattle.unpacking.specs.declared.Left.{Left}
use Rattle.unpacking.specs.Unpacking.{left_of, value_at, element_next, record_next, left_next, known}
use Rattle.unpacking.proofs.Steps.{some, value-in, Goes, goes_none, goes_one, goes_join}

-- A state with another number of expressions owed.
abbrev pub with_owed : Left → ℕ → Left
with_owed l o =
    left_of l.form o l.captures l.rules l.children l.node_instances l.nodes l.register_instances l.registers l.roots

module _ (s : List ℕ) (l : Left) where
  -- While one is owed, the type byte says what comes next.
  next : (at o t : ℕ) {m : ℕ} → Spell s at m (bytes_of 1 t) → t < 256 → element_next s at (with_owed l (suc o)) ≡ expression_of t
  unfolding element_next
  next at o t a h = rw (some o, value-in s at 1 t (lit< tt) a refl h)

  -- The first record of an expression that has an amount, and what stands behind it.
  module _ (e : Element) (t k o n at : ℕ) where
    record Amount (m : ℕ) (bs : List ℕ) : Type 0 where
      pub first : Goes s at (with_owed l (suc o)) (record_of 7 t k 0 0 0 ∷ []) (at + 2) (with_owed l n)
      pub rest : Spell s (at + 2) m bs

    amount : (bs : List ℕ) {m : ℕ} → expression_of t ≡ e → known e ≡ true → own_size (address_size l.form) e ≡ 2 → t < 256 → k < 256
        → (value_at s (at + 1) 1 ≡ k → record_next s at (with_owed l (suc o)) e ≡ record_of 7 t k 0 0 0)
        → (value_at s (at + 1) 1 ≡ k → left_next s at (with_owed l (suc o)) e ≡ with_owed l n)
        → Spell s at m (bytes_of 1 t ++ (bytes_of 1 k ++ bs)) → Amount m bs
    amount bs {m} y w z ht hk r d a =
        let b = spell_split s (bytes_of 1 t) (bytes_of 1 k ++ bs) a in
        let c = spell_split s (bytes_of 1 k) bs b.1 in
        let v : value_at s (at + 1) 1 ≡ k = value-in s (at + 1) 1 k (lit< tt) c.0 (omega (arith, length_bytes 1 t)) hk in
        let p : at + length (bytes_of 1 t) + length (bytes_of 1 k) ≡ at + 2 = omega (arith, length_bytes 1 t, length_bytes 1 k) in
        record {
          first = goes_one s at (with_owed l (suc o)) e (next at o t b.0 ht ∙ y) w (r v) (omega (arith, z)) (omega (arith, z)) (d v);
          rest = subst (λ q. Spell s q m bs) p c.1;
        }

  -- What is owed after an expression with n operands.
  owes : (o n : ℕ) → suc o - 1 + n ≡ n + o
  owes o n = omega arith

  pays : (o : ℕ) → suc o - 1 + 0 ≡ o
  pays o = omega arith

  stays : (o : ℕ) → suc o - 1 + 1 ≡ suc o
  stays o = omega arith

  -- All that are owed, one after another.
  more_owed : (n o : ℕ) → suc n + o ≡ suc (n + o)
  more_owed n o = omega arith

  none_owed : (o : ℕ) → 0 + o ≡ o
  none_owed o = omega arith

  mutual
    unfolding encode_expr encode_exprs ExprFits ExprsFit expr_records exprs_records expression_of operand_count

    pub goes_expr : (e : Expr) (o at : ℕ) {m : ℕ} → ExprFits e → Spell s at m (encode_expr e)
        → Goes s at (with_owed l (suc o)) (expr_records e) m (with_owed l o)
    goes_expr (reading p id number) o at h a =
        let b = spell_split s (bytes_of 1 0x01) (bytes_of 3 id ++ bytes_of 1 number) a in
        let c = spell_split s (bytes_of 3 id) (bytes_of 1 number) b.1 in
        let i : value_at s (at + 1) 3 ≡ id = value-in s (at + 1) 3 id (lit< tt) c.0 (omega (arith, length_bytes 1 0x01)) h.0 in
        let n : value_at s (at + 4) 1 ≡ number = value-in s (at + 4) 1 number (lit< tt) c.1 (omega (arith, length_bytes 1 0x01, length_bytes 3 id)) h.1 in
        goes_one s at (with_owed l (suc o)) element.Reading (next at o 0x01 b.0 (lit< tt)) refl (rw (i, n))
        (omega (arith, c.1.ends, length_bytes 1 0x01, length_bytes 3 id, length_bytes 1 number)) (lit≤ tt) (rw pays)
    goes_expr (constant v) o at h a =
        let b = spell_split s (bytes_of 1 0x02) (bytes_of 8 v) a in
        let i : value_at s (at + 1) 8 ≡ v = value-in s (at + 1) 8 v (lit< tt) b.1 (omega (arith, length_bytes 1 0x02)) h in
        goes_one s at (with_owed l (suc o)) element.Constant (next at o 0x02 b.0 (lit< tt)) refl (rw i)
        (omega (arith, b.1.ends, length_bytes 1 0x02, length_bytes 8 v)) (lit≤ tt) (rw pays)
    goes_expr (all es) o at h a =
        let b = amount element.All 0x10 (operand_count es) o (operand_count es + o) at (encode_exprs es) refl refl refl (lit< tt) h.0
        (λ v. rw v) (λ v. rw (v, owes)) a in
        goes_join s (record_of 7 0x10 (operand_count es) 0 0 0 ∷ []) (exprs_records es) b.first (goes_exprs es o (at + 2) h.1 b.rest)
    goes_expr (any es) o at h a =
        let b = amount element.Any 0x11 (operand_count es) o (operand_count es + o) at (encode_exprs es) refl refl refl (lit< tt) h.0
        (λ v. rw v) (λ v. rw (v, owes)) a in
        goes_join s (record_of 7 0x11 (operand_count es) 0 0 0 ∷ []) (exprs_records es) b.first (goes_exprs es o (at + 2) h.1 b.rest)
    goes_expr (inverse e) o at h a =
        let b = spell_split s (bytes_of 1 0x12) (encode_expr e) a in
        goes_join s (record_of 7 0x12 0 0 0 0 ∷ []) (expr_records e)
        (goes_one s at (with_owed l (suc o)) element.Inverse (next at o 0x12 b.0 (lit< tt)) refl refl
        (omega (arith, length_bytes 1 0x12)) (lit≤ tt) (rw stays))
        (goes_expr e o _ h b.1)
    goes_expr (left k e) o at h a =
        let b = amount element.Left 0x13 k o (suc o) at (encode_expr e) refl refl refl (lit< tt) h.0 (λ v. rw v) (λ v. rw stays) a in
        goes_join s (record_of 7 0x13 k 0 0 0 ∷ []) (expr_records e) b.first (goes_expr e o (at + 2) h.1 b.rest)
    goes_expr (right k e) o at h a =
        let b = amount element.Right 0x14 k o (suc o) at (encode_expr e) refl refl refl (lit< tt) h.0 (λ v. rw v) (λ v. rw stays) a in
        goes_join s (record_of 7 0x14 k 0 0 0 ∷ []) (expr_records e) b.first (goes_expr e o (at + 2) h.1 b.rest)

    pub goes_exprs : (es : Exprs) (o at : ℕ) {m : ℕ} → ExprsFit es → Spell s at m (encode_exprs es)
        → Goes s at (with_owed l (operand_count es + o)) (exprs_records es) m (with_owed l o)
    goes_exprs none o at {m} h a =
        subst (λ q. Goes s at (with_owed l q) [] m (with_owed l o)) (sym (none_owed o)) (goes_none s at (with_owed l o) (omega (arith, a.ends)))
    goes_exprs (more e es) o at {m} h a =
        let b = spell_split s (encode_expr e) (encode_exprs es) a in
        subst (λ q. Goes s at (with_owed l q) (expr_records e ++ exprs_records es) m (with_owed l o)) (sym (more_owed (operand_count es) o))
        (goes_join s (expr_records e) (exprs_records es) (goes_expr e (operand_count es + o) at h.0 b.0) (goes_exprs es o _ h.1 b.1))
