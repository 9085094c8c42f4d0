-- The captures, rules and children of a node instance, by what was read of them.
use Prim.Native.Nat.{ℕ}
use mathlib.Core.Bool.{true, false}
use mathlib.Core.List.{List, []}
use mathlib.Core.Path.{◌≡◌, sym, ◌∙◌, ap, refl}
use Rattle.numbers.proofs.Bools.{clash}
use Rattle.format.specs.NodeLayout.{capture_at, rule_at, child_at}
use Rattle.format.specs.Parsed.{done, row_at}
use Rattle.fields.specs.Views.{forget}
use Rattle.fields.proofs.Parsing.{found}
use Rattle.nodes.specs.Nodes.{ChildrenRead}
use Rattle.naming.specs.Fits.{CapturesFit, RulesFit}
use Rattle.index.proofs.Again.{same_done}
use Rattle.node_pass.specs.declared.Pass.{Pass}
use Rattle.node_pass.specs.Passed.{NamesPassed}

module _ (s keys kinds : List ℕ) (kind captures rules at : ℕ) {p : Pass} {a : ℕ} (e : done tt a ≡ forget (row_at (capture_at s) captures [] at)) where
  -- All of them fit.
  pub names_fit : CapturesFit s keys kinds captures at → RulesFit s keys kinds kind rules a p.next → NamesPassed s keys kinds kind captures rules at p
  names_fit c r =
      let f = found _ _ e in
      let z = same_done (sym f.is) c.read in
      record {
        captured = c.captures;
        middle = a;
        ruled = r.rules;
        read_captures = c.read ∙ ap (done c.captures) (sym z.1);
        read_rules = r.read;
        fit = λ _. (c.fit, r.fit);
      }

  -- They are read, and nothing is said of their registers.
  pub names_read : {end : ℕ} → done tt end ≡ forget (row_at (rule_at s true) rules [] a) → end ≡ p.next → p.fits ≡ false → NamesPassed s keys kinds kind captures rules at p
  names_read r n w =
      let f = found _ _ e in
      let g = found _ _ r in
      record {
        captured = f.value;
        middle = a;
        ruled = g.value;
        read_captures = f.is;
        read_rules = g.is ∙ ap (done g.value) n;
        fit = λ z. clash (sym w ∙ z) refl;
      }

pub children_read : (s : List ℕ) (n at : ℕ) {end : ℕ} → done tt end ≡ forget (row_at (child_at s true) n [] at) → ChildrenRead s n at end
children_read s n at e = let f = found _ _ e in record { children = f.value; read = f.is }
