-- The records of an element of a tree, packed in front of what follows them: the bytes of the element's encoding, and one element more of its kind.
use Prim.Native.Nat.{ℕ, suc, ◌+◌}
use mathlib.Core.List.{List, [], ◌∷◌, ◌++◌, map, append_assoc, append-nil}
use mathlib.Core.Path.{◌≡◌, refl}
use native.Mathlib.Omega.{arith}
use lib.ListN.{length}
use Rattle.numbers.specs.BigEndian.{bytes_of}
use Rattle.format.specs.Encoding.{encode_expr, encode_exprs, encode_register_instance, encode_register, encode_capture, encode_rule, encode_child, encode_node_instance, encode_node, encode_root}
use Rattle.format.specs.Lookup.{gathered}
use Rattle.format.specs.Tree.{Expr, Exprs, reading, constant, all, any, inverse, left, right, none, more, RegisterInstance, Register, Capture, Rule, Child, NodeInstance, Node, Root}
use Rattle.format.proofs.GatheredLaws.{gathered_each}
use Rattle.records.specs.declared.Record.{Record}
use Rattle.records.specs.Grammar.{element_of, expression_of}
use Rattle.records.specs.Elements.{expr_records, exprs_records, register_instance_record, register_records, rule_records, capture_record, child_record, node_instance_records, node_records, root_record}
use Rattle.packing.specs.declared.Counts.{Counts}
use Rattle.packing.specs.Packing.{counts_of, Packed, packed_of, type_with, pack_one, pack}

-- Element after element: what one does with its bytes in front and one more to count, a list does with all of them.
module _ {A : Type 0} (Are : List Record → Counts → List ℕ → Type 0) (f : A → List Record) (enc : A → List ℕ) (counts : ℕ → Counts) where
  abbrev Each : Type 0
  Each = (x : A) (n : ℕ) (ys : List Record) (bs : List ℕ) → Are ys (counts n) bs → Are (f x ++ ys) (counts (n + 1)) (enc x ++ bs)

  pub in_a_row : Each → (xs : List A) (n : ℕ) (ys : List Record) (bs : List ℕ) → Are ys (counts n) bs
      → Are (gathered f xs ++ ys) (counts (n + length xs)) (gathered enc xs ++ bs)
  unfolding gathered
  in_a_row one [] n ys bs h = let e : n + 0 ≡ n = omega arith in rw e h
  in_a_row one (x ∷ xs) n ys bs h =
      let e : n + suc (length xs) ≡ n + length xs + 1 = omega arith in
      rw (e, append_assoc (f x) (gathered f xs) ys, append_assoc (enc x) (gathered enc xs) bs)
      (one x (n + length xs) (gathered f xs ++ ys) (gathered enc xs ++ bs) (in_a_row one xs n ys bs h))

  -- From the last element to the first.
  pub whole_row : Each → (xs : List A) {ys : List Record} {bs : List ℕ} → Are ys (counts 0) bs
      → Are (gathered f xs ++ ys) (counts (length xs)) (gathered enc xs ++ bs)
  whole_row one xs {ys} {bs} h = let e : 0 + length xs ≡ length xs = omega arith in rw e at (in_a_row one xs 0 ys bs h)

-- The same for elements that are one record each.
pub single_row : {A : Type 0} (Are : List Record → Counts → List ℕ → Type 0) (f : A → Record) (enc : A → List ℕ) (counts : ℕ → Counts)
    → ((x : A) (n : ℕ) (ys : List Record) (bs : List ℕ) → Are ys (counts n) bs → Are (f x ∷ ys) (counts (n + 1)) (enc x ++ bs))
    → (xs : List A) {ys : List Record} {bs : List ℕ} → Are ys (counts 0) bs
    → Are (map f xs ++ ys) (counts (length xs)) (gathered enc xs ++ bs)
single_row Are f enc counts one xs h = rw (gathered_each f xs) at (whole_row Are (λ x. f x ∷ []) enc counts one xs h)

-- Records behind a register of a type, with what was packed before them.
pub record Are (p : Packed) (t : ℕ) (rs : List Record) (c : Counts) (bs : List ℕ) : Type 0 where
  pub is : pack t rs p ≡ packed_of c bs

module _ (p : Packed) (t : ℕ) where
  mutual
    unfolding pack pack_one type_with element_of expression_of expr_records encode_expr bytes_of

    pub expr_packed : (e : Expr) {ys : List Record} {c : Counts} {bs : List ℕ} → Are p t ys c bs → Are p t (expr_records e ++ ys) c (encode_expr e ++ bs)
    expr_packed (reading q id n) h = record { is = rw h.is }
    expr_packed (constant v) h = record { is = rw h.is }
    expr_packed (all es) h = record { is = rw (exprs_packed es h).is }
    expr_packed (any es) h = record { is = rw (exprs_packed es h).is }
    expr_packed (inverse e) h = record { is = rw (expr_packed e h).is }
    expr_packed (left k e) h = record { is = rw (expr_packed e h).is }
    expr_packed (right k e) h = record { is = rw (expr_packed e h).is }

    pub exprs_packed : (es : Exprs) {ys : List Record} {c : Counts} {bs : List ℕ} → Are p t ys c bs → Are p t (exprs_records es ++ ys) c (encode_exprs es ++ bs)
    exprs_packed none h = h
    exprs_packed (more e es) {ys} {c} {bs} h =
        rw (append_assoc (expr_records e) (exprs_records es) ys, append_assoc (encode_expr e) (encode_exprs es) bs) (expr_packed e (exprs_packed es h))

  module _ {ri r c u k ni n s : ℕ} where
    pub rule_packed : (x : Rule) {ys : List Record} {bs : List ℕ} → Are p t ys (counts_of ri r c u k ni n s) bs
        → Are p t (rule_records x ++ ys) (counts_of ri r c (u + 1) k ni n s) (encode_rule x ++ bs)
    unfolding pack pack_one type_with element_of rule_records encode_rule bytes_of
    rule_packed x h = record { is = rw (expr_packed x.expression h).is }

    pub capture_packed : (x : Capture) {ys : List Record} {bs : List ℕ} → Are p t ys (counts_of ri r c u k ni n s) bs
        → Are p t (capture_record x ∷ ys) (counts_of ri r (c + 1) u k ni n s) (encode_capture x ++ bs)
    unfolding pack pack_one type_with element_of capture_record encode_capture bytes_of
    capture_packed x h = record { is = rw h.is }

    pub child_packed : (x : Child) {ys : List Record} {bs : List ℕ} → Are p t ys (counts_of ri r c u k ni n s) bs
        → Are p t (child_record x ∷ ys) (counts_of ri r c u (k + 1) ni n s) (encode_child x ++ bs)
    unfolding pack pack_one type_with element_of child_record encode_child bytes_of
    child_packed x h = record { is = rw h.is }

    pub root_packed : (x : Root) {ys : List Record} {bs : List ℕ} → Are p t ys (counts_of ri r c u k ni n s) bs
        → Are p t (root_record x ∷ ys) (counts_of ri r c u k ni n (s + 1)) (encode_root x ++ bs)
    unfolding pack pack_one type_with element_of root_record encode_root bytes_of
    root_packed x h = record { is = rw h.is }

    pub register_instance_packed : (x : RegisterInstance) {ys : List Record} {bs : List ℕ} → Are p t ys (counts_of ri r c u k ni n s) bs
        → Are p t (register_instance_record x ∷ ys) (counts_of (ri + 1) r c u k ni n s) (encode_register_instance t x ++ bs)
    unfolding pack pack_one type_with element_of register_instance_record encode_register_instance
    register_instance_packed x h = record { is = rw h.is }

  -- A parent takes the counts of what it holds.
  module _ {ri r n s : ℕ} where
    pub node_instance_packed : (x : NodeInstance) {ni : ℕ} {ys : List Record} {bs : List ℕ} → Are p t ys (counts_of ri r 0 0 0 ni n s) bs
        → Are p t (node_instance_records x ++ ys) (counts_of ri r 0 0 0 (ni + 1) n s) (encode_node_instance x ++ bs)
    unfolding pack pack_one type_with element_of node_instance_records encode_node_instance bytes_of
    node_instance_packed x {ni} {ys} {bs} h =
        let children = single_row (Are p t) child_record encode_child (λ m. counts_of ri r 0 0 m ni n s) (λ y m zs cs g. child_packed y g) x.children h in
        let rules =
        whole_row (Are p t) rule_records encode_rule (λ m. counts_of ri r 0 m (length x.children) ni n s) (λ y m zs cs g. rule_packed y g) x.rules children in
        let captures =
        single_row (Are p t) capture_record encode_capture (λ m. counts_of ri r m (length x.rules) (length x.children) ni n s) (λ y m zs cs g. capture_packed y g)
        x.captures rules in
        record {
          is =
              rw (
                append_assoc (map capture_record x.captures) (gathered rule_records x.rules ++ map child_record x.children) ys,
                append_assoc (gathered rule_records x.rules) (map child_record x.children) ys,
                append_assoc (gathered encode_capture x.captures) (gathered encode_rule x.rules ++ gathered encode_child x.children) bs,
                append_assoc (gathered encode_rule x.rules) (gathered encode_child x.children) bs,
                captures.is,
              );
        }

    pub node_packed : (x : Node) {ys : List Record} {bs : List ℕ} → Are p t ys (counts_of ri r 0 0 0 0 n s) bs
        → Are p t (node_records x ++ ys) (counts_of ri r 0 0 0 0 (n + 1) s) (encode_node x ++ bs)
    unfolding pack pack_one type_with element_of node_records encode_node bytes_of
    node_packed x {ys} {bs} h =
        let instances =
        whole_row (Are p t) node_instance_records encode_node_instance (λ m. counts_of ri r 0 0 0 m n s) (λ y m zs cs g. node_instance_packed y g) x.instances h in
        record { is = rw instances.is }

-- Records of which the type of the register before them does not matter.
pub record Always (p : Packed) (rs : List Record) (c : Counts) (bs : List ℕ) : Type 0 where
  pub any : (t : ℕ) → Are p t rs c bs

-- A register's instances stand behind a register of its own type.
pub register_packed : (p : Packed) (x : Register) {r c u k ni n s : ℕ} {ys : List Record} {bs : List ℕ} → Always p ys (counts_of 0 r c u k ni n s) bs
    → Always p (register_records x ++ ys) (counts_of 0 (r + 1) c u k ni n s) (encode_register x ++ bs)
unfolding pack pack_one type_with element_of register_records encode_register bytes_of
register_packed p x {r} {c} {u} {k} {ni} {n} {s} h =
    let instances =
    single_row (Are p x.type) register_instance_record (encode_register_instance x.type) (λ m. counts_of m r c u k ni n s)
    (λ y m zs cs g. register_instance_packed p x.type y g) x.instances (h.any x.type) in
    record { any = λ t. record { is = rw instances.is } }

-- The three parts of a file.
module _ (bs : List ℕ) where
  abbrev start : Packed
  start = packed_of (counts_of 0 0 0 0 0 0 0 0) bs

  alone : (t : ℕ) → Are start t [] (counts_of 0 0 0 0 0 0 0 0) bs
  unfolding pack
  alone t = record { is = refl }

  pub roots_packed : (xs : List Root) → pack 0 (map root_record xs) start ≡ packed_of (counts_of 0 0 0 0 0 0 0 (length xs)) (gathered encode_root xs ++ bs)
  roots_packed xs =
      rw append-nil at (single_row (Are start 0) root_record encode_root (λ m. counts_of 0 0 0 0 0 0 0 m) (λ y m zs cs g. root_packed start 0 y g) xs (alone 0)).is

  pub nodes_packed : (xs : List Node) → pack 0 (gathered node_records xs) start ≡ packed_of (counts_of 0 0 0 0 0 0 (length xs) 0) (gathered encode_node xs ++ bs)
  nodes_packed xs =
      rw append-nil at (whole_row (Are start 0) node_records encode_node (λ m. counts_of 0 0 0 0 0 0 m 0) (λ y m zs cs g. node_packed start 0 y g) xs (alone 0)).is

  pub registers_packed : (xs : List Register)
      → pack 0 (gathered register_records xs) start ≡ packed_of (counts_of 0 (length xs) 0 0 0 0 0 0) (gathered encode_register xs ++ bs)
  registers_packed xs =
      rw append-nil at
      ((whole_row (Always start) register_records encode_register (λ m. counts_of 0 m 0 0 0 0 0 0) (λ y m zs cs g. register_packed start y g) xs
      (record { any = alone })).any 0).is
