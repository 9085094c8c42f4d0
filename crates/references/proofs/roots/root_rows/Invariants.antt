-- The invariant: the roots before have no fault, so that those to come decide.
use mathlib.Core.Bool.{true}
use mathlib.Core.List.{List, [], map}
use mathlib.Core.Path.{◌≡◌}
use Rattle.format.specs.FileLayout.{root_at}
use Rattle.format.specs.Lookup.{NodeEntry}
use Rattle.format.specs.Parsed.{row_at}
use Rattle.format.specs.Rules.{Every}
use Rattle.index.specs.Rows.{ReadAgain, entry_place}
use Rattle.references.specs.FaultsIn.{root_faults_in}
use Rattle.references.proofs.JudgingLaws.{Judging}
use Rattle.references.proofs.roots.root_rows.Given as goal

abbrev pub invariant-loop-left : goal.invariant-loop-left
invariant-loop-left l =
    (es : List NodeEntry) → Every (ReadAgain l.s) es → l.places ≡ map entry_place es
    → Judging (root_at l.s true) (root_faults_in l.nodes es) (row_at (root_at l.s true) l.n [] l.at) l.left l.place

abbrev pub decreases-loop-left : goal.decreases-loop-left
decreases-loop-left l = l.left
