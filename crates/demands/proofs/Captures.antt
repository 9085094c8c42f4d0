-- Isolation succeeds only on files whose captured registers are readable.
use Prim.Native.Nat.{ℕ}
use mathlib.Core.List.{List}
use Rattle.limits.specs.declared.LimitSet.{LimitSet}
use Rattle.numbers.specs.BigEndian.{Bytes}
use Rattle.demands.specs.Captures.{ReadsNarrower}
use Rattle.demands.proofs.Demand3.{demand3}

pub reads_narrower : (of : LimitSet) (file : List ℕ) → Bytes file → (attention : ℕ) (words read list : List ℕ) → ReadsNarrower of file attention words read list
reads_narrower of file bytes attention words read list e =
    let p = (demand3 of file bytes attention words read list).succeeds.0 e in
    (p.chip, p.accepted, p.accepted.meets.captures)
