-- What follows for encodings: they are bytes, they are accepted, one encoding has one tree, and no part of an encoding is one.
use Prim.Native.Nat.{ℕ, zero, suc, ◌/◌, ◌^◌, ◌<◌}
use mathlib.Core.Bool.{true}
use mathlib.Core.List.{List, [], ◌∷◌, ◌++◌}
use mathlib.Core.Path.{◌≡◌, refl, sym, ◌∙◌, ap}
use native.Mathlib.Nat.{mod-lt}
use native.Mathlib.Omega.{arith}
use borrow.Author.Tests.{ltb-true}
use lib.Dec.{lit<, ltb}
use lib.Pow.{are_bytes}
use lib.ListN.{length, take, length-append}
use lib.Seq.{take-append_seam, take-length}
use Rattle.limits.specs.Limits.{Limits}
use Rattle.numbers.specs.BigEndian.{bytes_of, Bytes}
use Rattle.numbers.proofs.Bools.{and_left, and_right}
use Rattle.format.specs.Keywords.{chipdata, regs, node, root}
use Rattle.format.specs.Fields.{address_size}
use Rattle.format.specs.Parsed.{done}
use Rattle.format.specs.Tree.{Expr, Exprs, reading, constant, all, any, inverse, left, right, none, more, Register, NodeInstance, Node, Root, Chip}
use Rattle.format.specs.Lookup.{gathered}
use Rattle.format.specs.Verdict.{verdict}
use Rattle.format.specs.Encoding.{operand_count, encode_expr, encode_exprs, encode_register_instance, encode_register, encode_capture, encode_rule, encode_child, encode_node_instance, encode_node, encode_root, encode_start, encode_registers, encode_nodes, encode_roots, encode}
use Rattle.format.specs.Placing.{Placed}
use Rattle.format.specs.Rules.{Every, Meets}
use Rattle.format.proofs.EveryLaws.{every-append_in}
use Rattle.format.proofs.Spelling.{Spell}
use Rattle.format.proofs.FileAccepted.{file_out, file_in}
use Rattle.format.proofs.Acceptance.{verdict_out, read_to_end, acceptance}

-- Bytes

abbrev Small : List ℕ → Type 0
Small bs = Every (λ b. b < 256) bs

small_bytes : (bs : List ℕ) → Small bs → Bytes bs
unfolding Every
small_bytes [] h i = lit< tt
small_bytes (b ∷ bs) h zero = h.0
small_bytes (b ∷ bs) h (suc i) = small_bytes bs h.1 i

no_bytes : Small []
unfolding Every
no_bytes = tt

joined : (xs ys : List ℕ) → Small xs → Small ys → Small (xs ++ ys)
joined xs ys h k = every-append_in _ xs ys h k

number : (n x : ℕ) → Small (bytes_of n x)
unfolding bytes_of Every
number zero x = tt
number (suc n) x = (mod-lt (x / 256 ^ n) (lit< tt), number n x)

word : (bs : List ℕ) → are_bytes bs ≡ true → Small bs
unfolding Every
word [] e = tt
word (b ∷ bs) e = (ltb-true b 256 (and_left _ _ e), word bs (and_right (ltb b 256) _ e))

row : {A : Type 0} (enc : A → List ℕ) → ((x : A) → Small (enc x)) → (xs : List A) → Small (gathered enc xs)
unfolding gathered
row enc h [] = no_bytes
row enc h (x ∷ xs) = joined _ _ (h x) (row enc h xs)

mutual
  unfolding encode_expr

  expr : (e : Expr) → Small (encode_expr e)
  expr (reading p id n) = joined _ _ (number 1 0x01) (joined _ _ (number 3 id) (number 1 n))
  expr (constant v) = joined _ _ (number 1 0x02) (number 8 v)
  expr (all es) = joined _ _ (number 1 0x10) (joined _ _ (number 1 (operand_count es)) (exprs es))
  expr (any es) = joined _ _ (number 1 0x11) (joined _ _ (number 1 (operand_count es)) (exprs es))
  expr (inverse e) = joined _ _ (number 1 0x12) (expr e)
  expr (left k e) = joined _ _ (number 1 0x13) (joined _ _ (number 1 k) (expr e))
  expr (right k e) = joined _ _ (number 1 0x14) (joined _ _ (number 1 k) (expr e))

  exprs : (es : Exprs) → Small (encode_exprs es)
  exprs none = no_bytes
  exprs (more e es) = joined _ _ (expr e) (exprs es)

register : (r : Register) → Small (encode_register r)
unfolding encode_register encode_register_instance
register r =
    joined _ _
    (joined _ _ (number 3 r.id)
    (joined _ _ (number 1 r.type) (joined _ _ (number 1 r.flags) (number 1 (length r.instances)))))
    (row (encode_register_instance r.type) (λ i. joined _ _ (number 1 i.number) (number (address_size r.type) i.address)) r.instances)

instance : (i : NodeInstance) → Small (encode_node_instance i)
unfolding encode_node_instance encode_capture encode_rule encode_child
instance i =
    joined _ _
    (joined _ _ (number 1 i.number)
    (joined _ _ (number 1 (length i.captures))
    (joined _ _ (number 1 (length i.rules)) (number 1 (length i.children)))))
    (joined _ _ (row encode_capture (λ k. joined _ _ (number 3 k.id) (number 1 k.number)) i.captures)
    (joined _ _ (row encode_rule (λ r. joined _ _ (number 1 r.attention) (expr r.expression)) i.rules)
    (row encode_child (λ k. joined _ _ (number 1 k.bit) (joined _ _ (number 2 k.id) (number 1 k.number))) i.children)))

node-bytes : (n : Node) → Small (encode_node n)
unfolding encode_node
node-bytes n =
    joined _ _
    (joined _ _ (number 2 n.id) (joined _ _ (number 1 n.type) (number 1 (length n.instances))))
    (row encode_node_instance instance n.instances)

root_bytes : (t : Root) → Small (encode_root t)
unfolding encode_root
root_bytes t = joined _ _ (number 1 t.attention) (joined _ _ (number 2 t.id) (number 1 t.number))

pub encode_bytes : (c : Chip) → Bytes (encode c)
unfolding encode encode_start encode_registers encode_nodes encode_roots chipdata regs node root
encode_bytes c =
    small_bytes (encode c)
    (joined _ _ (joined _ _ (word chipdata refl) (joined _ _ (number 4 c.model) (number 1 1)))
    (joined _ _
    (joined _ _ (word regs refl) (joined _ _ (number 3 (length c.registers)) (row encode_register register c.registers)))
    (joined _ _
    (joined _ _ (word node refl) (joined _ _ (number 2 (length c.nodes)) (row encode_node node-bytes c.nodes)))
    (joined _ _ (word root refl) (joined _ _ (number 1 (length c.roots)) (row encode_root root_bytes c.roots))))))

-- The encoding of a tree that meets the rules is accepted, with this tree.
pub encoding_accepted : (limits : Limits) (c : Chip) → Placed c → Meets limits c → verdict limits (encode c) ≡ done c (length (encode c))
encoding_accepted limits c p m = (acceptance limits (encode c) (encode_bytes c) c).1 (refl, p, m)

-- Two trees with one encoding are one.
pub one_tree : (limits : Limits) (c d : Chip) → Placed c → Meets limits c → Placed d → Meets limits d → encode c ≡ encode d → c ≡ d
one_tree limits c d pc mc pd md e =
    let a = encoding_accepted limits c pc mc in
    let b = encoding_accepted limits d pd md in
    let h : done c (length (encode c)) ≡ done d (length (encode d)) = sym a ∙ ap (verdict limits) e ∙ b in
    cc

-- No accepted file is another one cut short, or one with bytes more.
pub no_part : (limits : Limits) (s t : List ℕ) → Bytes s → Bytes (s ++ t) → {c d : Chip} {m n : ℕ} → verdict limits s ≡ done c m → verdict limits (s ++ t) ≡ done d n → t ≡ []
no_part limits s t hs ht {c} {d} {m} {n} a b =
    let p = verdict_out limits s a in
    let q = verdict_out limits (s ++ t) b in
    let f = file_out limits s hs p.read in
    let w : m ≡ length s = read_to_end limits s hs a in
    let v : n ≡ length (s ++ t) = read_to_end limits (s ++ t) ht b in
    let x : Spell (s ++ t) 0 m (encode c) =
    record { here = longer s t (encode c) f.0.here (omega (arith, f.0.ends, w)); ends = f.0.ends } in
    let e : done c m ≡ done d n = sym (file_in limits (s ++ t) ht c x f.1) ∙ q.read in
    let u : m ≡ n = cc in
    empty t (omega (arith, length-append s t))
  where
    longer : (s t bs : List ℕ) → take (length bs) s ≡ bs → length bs ≡ length s → take (length bs) (s ++ t) ≡ bs
    longer s t bs e l = rw l (take-append_seam s t ∙ sym (take-length s) ∙ ap (λ n. take n s) (sym l) ∙ e)

    empty : (t : List ℕ) → length t ≡ 0 → t ≡ []
    empty [] e = refl
    empty (x ∷ t) e = absurd (omega arith)
