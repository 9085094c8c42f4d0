use Prim.Native.Nat.{◌+◌, ◌-◌}
use mathlib.Core.Path.{◌≡◌, refl}
use native.Mathlib.Omega.{arith}
use Rattle.numbers.proofs.Bools.{clash}
use Rattle.references.proofs.LinkingLaws.{row_linked}
use Rattle.references.proofs.children.link_row.Goals as goal

pub returns-then-child-k : goal.returns-then-child-k
returns-then-child-k c = record {
  ks_value = λ i e. clash e refl;
  k_in_bounds = λ e. clash e refl;
}

pub returns-then-child-k-lt64 : goal.returns-then-child-k-lt64
returns-then-child-k-lt64 c = record {
  ks_value = λ i e. clash e refl;
  k_in_bounds = λ e. clash e refl;
}

pub returns : goal.returns
returns c =
    let z : c.args.k + 64 - c.args.k ≡ 64 = omega arith in record {
      ks_value = λ i e ks m h.
          let p = c.link_part.ensures i e ks m h in
          (p.0, row_linked _ c.args.child.now c.args.k _ ks z (omega arith) p.1);
      k_in_bounds = λ e. omega arith;
    }
