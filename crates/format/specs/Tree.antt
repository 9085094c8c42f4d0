-- A chip data file as a tree (source document 001, sections 1 to 4). A place is an offset in the file; an element has those that refusals and queries name.
use Rattle.std.specs.Prelude.{ℕ, List, [], ◌∷◌}

-- Document 01, "Expressions": a constructor for each operation. A reading has the place of its type byte, the register's ID and the instance.
mutual
  pub data Expr : Type 0 where
    reading : ℕ → ℕ → ℕ → Expr
    constant : ℕ → Expr
    all : Exprs → Expr
    any : Exprs → Expr
    inverse : Expr → Expr
    left : ℕ → Expr → Expr
    right : ℕ → Expr → Expr

  pub data Exprs : Type 0 where
    none : Exprs
    more : Expr → Exprs → Exprs

-- The operands as a list.
unfoldable pub gather : List Expr → Exprs
gather [] = none
gather (e ∷ es) = more e (gather es)

-- A register instance: its number, its address, and the place of the address.
pub record RegisterInstance : Type 0 where
  pub number : ℕ
  pub place : ℕ
  pub address : ℕ

pub record Register : Type 0 where
  pub id : ℕ
  pub type : ℕ
  pub flags : ℕ
  pub instances : List RegisterInstance

-- A captured register instance, and the place of its first byte.
pub record Capture : Type 0 where
  pub place : ℕ
  pub id : ℕ
  pub number : ℕ

-- A rule for an attention type: its expression, and the expression's place.
pub record Rule : Type 0 where
  pub attention : ℕ
  pub place : ℕ
  pub expression : Expr

-- The child of a bit: a node instance, and the place of the entry's first byte.
pub record Child : Type 0 where
  pub place : ℕ
  pub bit : ℕ
  pub id : ℕ
  pub number : ℕ

-- A node instance, and the place of its number byte.
pub record NodeInstance : Type 0 where
  pub place : ℕ
  pub number : ℕ
  pub captures : List Capture
  pub rules : List Rule
  pub children : List Child

pub record Node : Type 0 where
  pub id : ℕ
  pub type : ℕ
  pub instances : List NodeInstance

-- The root node instance of an attention type, and the place of the entry's first byte.
pub record Root : Type 0 where
  pub place : ℕ
  pub attention : ℕ
  pub id : ℕ
  pub number : ℕ

pub record Chip : Type 0 where
  pub model : ℕ
  pub registers : List Register
  pub nodes : List Node
  pub roots : List Root
