-- What isolation needs for an attention type, by the tree's own definitions.
use Prim.Native.Nat.{ℕ}
use mathlib.Core.Bool.{true}
use mathlib.Core.List.{List, [], ◌∷◌}
use mathlib.Core.Path.{◌≡◌, ◌∙◌, ap}
use Rattle.limits.specs.Limits.{library_limits, limits_of}
use Rattle.limits.specs.declared.LimitSet.{LimitSet}
use Rattle.numbers.specs.BigEndian.{Bytes}
use Rattle.format.specs.FileLayout.{roots_at}
use Rattle.format.specs.Finding.{rule_for, root_for}
use Rattle.format.specs.Lookup.{at, NodeEntry, node_entries}
use Rattle.format.specs.NodeLayout.{node_instance_at}
use Rattle.format.specs.Parsed.{done}
use Rattle.format.specs.Tree.{NodeInstance, Root, Chip}
use Rattle.format.specs.Verdict.{verdict}
use Rattle.format.proofs.Acceptance.{verdict_out, verdict_meets}
use Rattle.format.proofs.PositionsLaws.{every_at}
use Rattle.tables.specs.Keys.{node_keys}
use Rattle.index.specs.Rows.{ReadAgain}
use Rattle.links.specs.Links.{rule_place}
use Rattle.references.specs.RootIn.{root_position}
use Rattle.reader.specs.Columns.{expression_place, root_place}
use Rattle.reader.proofs.ColumnsLaws.{rule-place, root_same}
use Rattle.reader.proofs.NameLaws.{entries_again}

module _ (of : LimitSet) (s : List ℕ) (bytes : Bytes s) (attention : ℕ) (c : Chip) (end : ℕ) (v : verdict (limits_of of) s ≡ done c end) where
  pub root_wanted : (at : ℕ) (names : List ℕ) → roots_at s true at ≡ done c.roots end → names ≡ node_keys c → {k : ℕ}
      → ((ts : List Root) (m : ℕ) → roots_at s true at ≡ done ts m → k ≡ root_position names attention ts) → k ≡ root_place c (root_for attention c)
  root_wanted at names r e f = f c.roots end r ∙ ap (λ n. root_position n attention c.roots) e ∙ root_same of c (verdict_meets (limits_of of) s bytes v) attention

-- The rule of a node instance that is read again at its place.
pub rule_wanted : (of : LimitSet) (s : List ℕ) (attention : ℕ) (c : Chip) (end : ℕ) → verdict (limits_of of) s ≡ done c end → (k : ℕ) (e : NodeEntry) → at k (node_entries c) ≡ e ∷ [] → {place r : ℕ} → place ≡ e.instance.place
    → ((limit total : ℕ) (before : List NodeInstance) (i : NodeInstance) (m : ℕ) → node_instance_at limit s true total before place ≡ done i m → r ≡ rule_place attention i.rules)
    → r ≡ expression_place (rule_for attention e.instance)
rule_wanted of s attention c end v k e q p f =
    let g = every_at (ReadAgain s) k (node_entries c) (entries_again (limits_of of) s (verdict_out (limits_of of) s v).read) q in
    f library_limits.node_instances 0 [] e.instance g.next (ap (node_instance_at library_limits.node_instances s true 0 []) p ∙ g.read) ∙ rule-place attention e.instance
