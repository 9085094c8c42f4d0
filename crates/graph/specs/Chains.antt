-- Chains of active bits over an abstract graph (document 01, "The words of demand 3", with document 02 (iii)). No file and no mark of a walk is named here.
use Rattle.std.specs.Prelude.{ℕ, zero, suc, ◌<◌, Bool, true, false, cond, not, ◌&&◌, List, [], ◌∷◌, ◌++◌, ◌⊎◌, ◌≡◌, eqb}
use Rattle.std.proofs.Math.Option.{Option, none, some}
use Rattle.graph.specs.Below.{any, count}
use Rattle.graph.specs.Paths.{reached}

-- Node instances 0 to size - 1 in file order: which bits of each are active, and which node instance is the child of a bit.
pub record Graph : Type 0 where
  pub size : ℕ
  pub active : ℕ → ℕ → Bool
  pub child : ℕ → ℕ → Option ℕ

-- Active bits are bits 0 to 63 of node instances of the graph, and so is every child a node instance of it.
pub record Sound (g : Graph) : Type 0 where
  pub instances : (i b : ℕ) → g.active i b ≡ true → i < g.size
  pub bits : (i b : ℕ) → g.active i b ≡ true → b < 64
  pub children : (i b j : ℕ) → g.child i b ≡ some j → j < g.size

-- "A link is a node instance and one of its active bits."
pub record Link : Type 0 where
  pub instance : ℕ
  pub bit : ℕ

-- The link of the node instance i and its bit b.
abbrev pub link : ℕ → ℕ → Link
link i b = record { instance = i; bit = b }

-- "An unbroken chain .. is one or more links in a row." Chain g i ls l: the links ls are a chain that starts at the node instance i; l is the last link.
-- "The first link's instance is the root's; each later link's instance is the child of the bit before it."
pub data Chain (g : Graph) : ℕ → List Link → Link → Type 0 where
  last : {i b : ℕ} → g.active i b ≡ true → Chain g i (link i b ∷ []) (link i b)
  next : {i b j : ℕ} {ls : List Link} {l : Link} → g.active i b ≡ true → g.child i b ≡ some j → Chain g j ls l
      → Chain g i (link i b ∷ ls) l

-- A node instance is that of a link.
pub data Through (j : ℕ) : List Link → Type 0 where
  first : {l : Link} {ls : List Link} → l.instance ≡ j → Through j (l ∷ ls)
  later : {l : Link} {ls : List Link} → Through j ls → Through j (l ∷ ls)

-- "A chain reaches the instances of its links and the child of its last bit, if that has one."
pub record ChainReaches (g : Graph) (root j : ℕ) : Type 0 where
  pub links : List Link
  pub end : Link
  pub chain : Chain g root links end
  pub reaches : Through j links ⊎ (g.child end.instance end.bit ≡ some j)

-- The node instances "that unbroken chains from that root reach, the root's own always counted".
abbrev pub ReachedByChains : Graph → ℕ → ℕ → Type 0
ReachedByChains g root j = (j ≡ root) ⊎ ChainReaches g root j

-- Document 02 (iii): a node instance is silent, it "shows nothing", if it "has no active bit".
abbrev pub Silent : Graph → ℕ → Type 0
Silent g j = (b : ℕ) → g.active j b ≡ false

-- The bit b of i has a child, and that is silent.
pub record SilentChild (g : Graph) (i b : ℕ) : Type 0 where
  pub child : ℕ
  pub entry : g.child i b ≡ some child
  pub silent : Silent g child

-- The bit b of i is "without a child", or its "child shows nothing".
abbrev pub NothingBelow : Graph → ℕ → ℕ → Type 0
NothingBelow g i b = (g.child i b ≡ none) ⊎ SilentChild g i b

-- "Active bits without a child, and those whose child shows nothing", each "at the end of some unbroken chain of active bits from that root".
pub record Listed (g : Graph) (root i b : ℕ) : Type 0 where
  pub links : List Link
  pub chain : Chain g root links (link i b)
  pub ends : NothingBelow g i b

-- The same, computed.

-- The child is j.
abbrev pub names : Option ℕ → ℕ → Bool
names none j = false
names (some c) j = eqb c j

-- A node instance "has no active bit": none of its 64 is one.
unfoldable pub silent : Graph → ℕ → Bool
silent g j = not (any 64 (g.active j))

-- If there is one, it passes the test.
abbrev pub none_or : (ℕ → Bool) → Option ℕ → Bool
none_or p none = true
none_or p (some c) = p c

-- The bit b of i has no child, or one that is silent.
unfoldable pub nothing_below : Graph → ℕ → ℕ → Bool
nothing_below g i b = none_or (silent g) (g.child i b)

-- "If a reached instance has an active bit with a child entry, the child is reached": some active bit of i has the child j.
unfoldable pub linked : Graph → ℕ → ℕ → Bool
linked g i j = any 64 (λ b. g.active i b && names (g.child i b) j)

-- "The root's instance is reached .. Nothing else is."
unfoldable pub reached_from : Graph → ℕ → ℕ → Bool
reached_from g root j = reached g.size (λ i. eqb i root) (linked g) j

-- The bit b of i is listed if i is reached. Document 01: "if it has no child entry"; document 02 (iii): "An active bit whose child instance has no active bit for the wanted type .. is listed itself".
unfoldable pub listable : Graph → ℕ → ℕ → Bool
listable g i b = g.active i b && nothing_below g i b

-- "An active bit of a reached instance is listed if" it is one of those.
unfoldable pub listed : Graph → ℕ → ℕ → ℕ → Bool
listed g root i b = reached_from g root i && listable g i b

-- The numbers below n, from 0 up.
unfoldable pub below : ℕ → List ℕ
below zero = []
below (suc n) = below n ++ (n ∷ [])

-- The elements that a test lets through.
unfoldable pub kept : (ℕ → Bool) → List ℕ → List ℕ
kept p [] = []
kept p (x ∷ xs) = cond (p x) (x ∷ kept p xs) (kept p xs)

-- What is listed of the node instance i: bits "from 0 up".
unfoldable pub listed_of : Graph → ℕ → ℕ → List ℕ
listed_of g root i = kept (listed g root i) (below 64)

-- How many node instances are reached.
unfoldable pub reached_count : Graph → ℕ → ℕ
reached_count g root = count g.size (reached_from g root)
