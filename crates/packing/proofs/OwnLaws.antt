-- An element itself: its pieces are its bytes, and how many they are.
use Prim.Native.Nat.{ℕ, zero, suc, ◌+◌, ◌-◌, ◌≤◌, ◌<◌}
use mathlib.Core.Bool.{Bool, true, false, cond}
use mathlib.Core.List.{List, [], ◌∷◌, ◌++◌, append-nil}
use mathlib.Core.Path.{◌≡◌, refl, sym, ◌∙◌, ap, subst}
use native.Mathlib.Omega.{arith}
use Rattle.std.proofs.Common.{rules}
use lib.Dec.{eqb, lit≤}
use lib.ListN.{length, take, drop, get_or, length-append}
use Rattle.numbers.specs.BigEndian.{bytes_of}
use Rattle.numbers.proofs.BigEndianLaws.{length_bytes}
use Rattle.format.specs.Fields.{address_size}
use Rattle.records.specs.declared.Record.{Record}
use Rattle.records.specs.declared.Element.{Element}
use Rattle.records.specs.declared.Element.TheVariants.{Register, RegisterInstance, Node, NodeInstance, Capture, Rule, Reading, Constant, All, Any, Inverse, Left, Right, Child, Root, Unknown}
use Rattle.records.specs.Sizes.{own_size}
use Rattle.packing.specs.declared.Counts.{Counts}
use Rattle.packing.specs.Packing.{own_bytes, counting, none}
use Rattle.packing.specs.Writing.{pieces_of, no_piece, pieces_size, pieces_bytes, Few}

pub pieces_own : (size : ℕ) (c : Counts) (e : Element) (r : Record) → pieces_bytes (pieces_of size c e r) ≡ own_bytes size c e r
unfolding pieces_bytes bytes_of
pieces_own size c Register r = refl
pieces_own size c RegisterInstance r = simp append-nil
pieces_own size c Node r = refl
pieces_own size c NodeInstance r = refl
pieces_own size c Capture r = refl
pieces_own size c Rule r = refl
pieces_own size c Reading r = refl
pieces_own size c Constant r = refl
pieces_own size c All r = refl
pieces_own size c Any r = refl
pieces_own size c Inverse r = refl
pieces_own size c Left r = refl
pieces_own size c Right r = refl
pieces_own size c Child r = refl
pieces_own size c Root r = refl
pieces_own size c Unknown r = refl

pub own_pieces : (size : ℕ) (c : Counts) (e : Element) (r : Record) → pieces_size (pieces_of size c e r) ≡ own_size size e
own_pieces size c Register r = refl
own_pieces size c RegisterInstance r = omega arith
own_pieces size c Node r = refl
own_pieces size c NodeInstance r = refl
own_pieces size c Capture r = refl
own_pieces size c Rule r = refl
own_pieces size c Reading r = refl
own_pieces size c Constant r = refl
own_pieces size c All r = refl
own_pieces size c Any r = refl
own_pieces size c Inverse r = refl
own_pieces size c Left r = refl
own_pieces size c Right r = refl
own_pieces size c Child r = refl
own_pieces size c Root r = refl
own_pieces size c Unknown r = refl

pub pieces-length : (ps : List (ℕ × ℕ)) → length (pieces_bytes ps) ≡ pieces_size ps
unfolding pieces_bytes
pieces-length [] = refl
pieces-length (p ∷ ps) = simp (length-append, length_bytes, pieces-length ps)

-- The number at a place, in front of those behind it.
bytes_suc : (ps : List (ℕ × ℕ)) (i : ℕ) → i < length ps
    → pieces_bytes (drop i ps) ≡ bytes_of (get_or ps i no_piece).0 (get_or ps i no_piece).1 ++ pieces_bytes (drop (suc i) ps)
unfolding pieces_bytes
bytes_suc [] i h = absurd (omega arith)
bytes_suc (p ∷ ps) zero h = refl
bytes_suc (p ∷ ps) (suc i) h = bytes_suc ps i (omega arith)

pub next_bytes : (ps : List (ℕ × ℕ)) (i : ℕ) → 0 < i → i ≤ length ps
    → pieces_bytes (drop (i - 1) ps) ≡ bytes_of (get_or ps (i - 1) no_piece).0 (get_or ps (i - 1) no_piece).1 ++ pieces_bytes (drop i ps)
next_bytes ps i p h =
    let e : suc (i - 1) ≡ i = omega arith in
    subst (λ k. pieces_bytes (drop (i - 1) ps) ≡ bytes_of (get_or ps (i - 1) no_piece).0 (get_or ps (i - 1) no_piece).1 ++ pieces_bytes (drop k ps)) e
    (bytes_suc ps (i - 1) (omega arith))

size_suc : (ps : List (ℕ × ℕ)) (i : ℕ) → i < length ps → pieces_size (take (suc i) ps) ≡ pieces_size (take i ps) + (get_or ps i no_piece).0
size_suc [] i h = absurd (omega arith)
size_suc (p ∷ ps) zero h = omega arith
size_suc (p ∷ ps) (suc i) h = omega (arith, size_suc ps i (omega arith))

pub next_size : (ps : List (ℕ × ℕ)) (i : ℕ) → 0 < i → i ≤ length ps → pieces_size (take i ps) ≡ pieces_size (take (i - 1) ps) + (get_or ps (i - 1) no_piece).0
next_size ps i p h = let e : suc (i - 1) ≡ i = omega arith in rw e at (size_suc ps (i - 1) (omega arith))

pub own-length : (size : ℕ) (c : Counts) (e : Element) (r : Record) → length (own_bytes size c e r) ≡ own_size size e
own-length size c e r = ap length (sym (pieces_own size c e r)) ∙ pieces-length (pieces_of size c e r) ∙ own_pieces size c e r

address_most : (t : ℕ) → address_size t ≤ 8
unfolding address_size
address_most t = go (eqb t 1)
  where
    go : (b : Bool) → cond b 4 8 ≤ 8
    go true = lit≤ tt
    go false = lit≤ tt

-- An element has at most 9 bytes.
pub own_most : (t : ℕ) (e : Element) → own_size (address_size t) e ≤ 9
own_most t Register = lit≤ tt
own_most t RegisterInstance = omega (arith, address_most t)
own_most t Node = lit≤ tt
own_most t NodeInstance = lit≤ tt
own_most t Capture = lit≤ tt
own_most t Rule = lit≤ tt
own_most t Reading = lit≤ tt
own_most t Constant = lit≤ tt
own_most t All = lit≤ tt
own_most t Any = lit≤ tt
own_most t Inverse = lit≤ tt
own_most t Left = lit≤ tt
own_most t Right = lit≤ tt
own_most t Child = lit≤ tt
own_most t Root = lit≤ tt
own_most t Unknown = lit≤ tt

-- Counts that are small.
pub few_weaker : {m k : ℕ} {c : Counts} → Few m c → m ≤ k → Few k c
few_weaker f h = search rules

pub few_none : (m : ℕ) → Few m none
few_none m = search rules

-- With an element more no count grows by more than one.
pub few_more : {m : ℕ} {c : Counts} (e : Element) → Few m c → Few (m + 1) (counting c e)
few_more Register f = search rules
few_more RegisterInstance f = search rules
few_more Node f = search rules
few_more NodeInstance f = search rules
few_more Capture f = search rules
few_more Rule f = search rules
few_more Reading f = search rules
few_more Constant f = search rules
few_more All f = search rules
few_more Any f = search rules
few_more Inverse f = search rules
few_more Left f = search rules
few_more Right f = search rules
few_more Child f = search rules
few_more Root f = search rules
few_more Unknown f = search rules
