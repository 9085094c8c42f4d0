-- Document 02 (iii), "A checkstop with an empty list", in words of the chip and by either set of limits.
use Rattle.std.specs.Prelude.{ℕ, ◌≤◌, List, ◌≡◌}
use Rattle.limits.specs.declared.LimitSet.{LimitSet}
use Rattle.limits.specs.Limits.{limits_of}
use Rattle.graph.specs.Chains.{link, ReachedByChains}
use Rattle.format.specs.References.{Named, named_by}
use Rattle.format.specs.Tree.{Rule, Chip}
use Rattle.isolation.specs.ChipGraph.{chip_graph}
use Rattle.isolation.specs.Outcome.{refused_outcome, isolate}
use Rattle.demands.specs.Active.{ActiveBit, ChildOf}
use Rattle.demands.specs.Demand2.{Accepted}
use Rattle.demands.specs.Demand3.{RootAt, ReadingsFit, read_byte, WantedRule, ReachedName, Possible, Answer}
use Rattle.demands.specs.Rows.{In}

module _ (c : Chip) (attention : ℕ) (words read : List ℕ) where
  -- The node instance at j "has no active bit for the wanted type".
  abbrev pub Silent : ℕ → Type 0
  Silent j = (b : ℕ) → ActiveBit c attention words read j b → ⊥

  -- The bit b of a reached node instance i is active, and its child is j.
  pub record Followed (root i b j : ℕ) : Type 0 where
    pub reached : ReachedByChains (chip_graph c attention words read) root i
    pub active : ActiveBit c attention words read i b
    pub child : ChildOf c i b j

  -- "An unread child": its wanted rule names a register without a value.
  pub record UnreadChild (root : ℕ) : Type 0 where
    pub instance : ℕ
    pub bit : ℕ
    pub child : ℕ
    pub followed : Followed root instance bit child
    pub rule : Rule
    pub own : WantedRule c attention child rule
    pub register : Named
    pub names : In register (named_by rule.expression)
    pub unread : read_byte c read register ≡ 1 → ⊥

module _ (of : LimitSet) (file : List ℕ) (attention : ℕ) (words read list : List ℕ) where
  -- What holds of the answer where isolation is possible.
  pub record SilentChildren (p : Possible of file attention words read list) : Type 0 where
    -- "An active bit whose child instance has no active bit for the wanted type .. is listed itself."
    pub listed : (i b j : ℕ) → Followed p.chip attention words read p.root i b j → Silent p.chip attention words read j → In (link i b) p.bits
    -- "Also when the child has no rule for it."
    pub ruleless : (i b j : ℕ) → Followed p.chip attention words read p.root i b j → ((r : Rule) → WantedRule p.chip attention j r → ⊥)
        → In (link i b) p.bits
    -- A bit whose child has an active bit is not listed, also where the child's active bits all have children.
    pub only : (i b j k : ℕ) → ChildOf p.chip i b j → ActiveBit p.chip attention words read j k → In (link i b) p.bits → ⊥
    -- "The child still counts as reached and as a step": it is one of the node instances that the step count counts.
    pub counts : (a : Answer of file attention words read list p (isolate (limits_of of) file attention words read list)) (i b j : ℕ)
        → Followed p.chip attention words read p.root i b j → In j a.instances
    -- "A board showed an active root bit .. and the tester printed no error": where the root has an active bit, there is a record.
    pub named : (b : ℕ) → ActiveBit p.chip attention words read p.root b → 1 ≤ (isolate (limits_of of) file attention words read list).records
    -- Where it has none, there is no record, and the root is the only step.
    pub silent_root : Silent p.chip attention words read p.root
        → ((isolate (limits_of of) file attention words read list).records ≡ 0) × ((isolate (limits_of of) file attention words read list).steps ≡ 1)

  -- Refused by 18, at an expression of a reached rule that names a register without a value.
  pub record UnreadRefused (c : Chip) (root : ℕ) : Type 0 where
    pub register : Named
    pub names : ReachedName c attention (chip_graph c attention words read) root register
    pub unread : read_byte c read register ≡ 1 → ⊥
    pub refused : isolate (limits_of of) file attention words read list ≡ refused_outcome 18 register.place list

  -- "An unread child is still refusal 18."
  abbrev pub UnreadChildRefused : Type 0
  UnreadChildRefused =
      (c : Chip) (root : ℕ) → Accepted of file c → RootAt c attention root → ReadingsFit c words read → UnreadChild c attention words read root
      → UnreadRefused c root
