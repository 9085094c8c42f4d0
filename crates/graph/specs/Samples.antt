-- Three node instances, to try the words of demand 3 on.
use Rattle.std.specs.Prelude.{ℕ, Bool, cond, ◌&&◌, ◌||◌, eqb}
use Rattle.std.proofs.Math.Option.{none, some}
use Rattle.graph.specs.Chains.{Graph}

-- The bit b of i is the bit c of j.
abbrev pub is : ℕ → ℕ → ℕ → ℕ → Bool
is i b j c = eqb i j && eqb b c

-- Of 0 the bits 0, 1, 2 and 63 are active, and of 1 bit 63 alone; 2 is silent. Bit 0 of 0 has the child 1; bit 2 of 0 and bit 63 of 1 have the child 2.
unfoldable pub three : Graph
three =
    record {
      size = 3;
      active = λ i b. is i b 0 0 || (is i b 0 1 || (is i b 0 2 || (is i b 0 63 || is i b 1 63)));
      child = λ i b. cond (is i b 0 0) (some 1) (cond (is i b 0 2 || is i b 1 63) (some 2) none);
    }
