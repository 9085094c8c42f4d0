-- Acceptance, said a second way: a file is accepted with a tree exactly when it is the tree's encoding and the tree meets the rules.
use Prim.Native.Nat.{ℕ, ◌+◌, ◌≤◌}
use mathlib.Core.Bool.{true}
use mathlib.Core.List.{List, [], ◌∷◌, ◌++◌}
use mathlib.Core.Logic.{◌↔◌}
use mathlib.Core.Path.{◌≡◌, refl, sym, ◌∙◌, ap, subst}
use native.Mathlib.Omega.{arith}
use lib.ListN.{length, length-take}
use lib.Seq.{take_all, take-length}
use borrow.Author.Tests.{leb-true, le-leb}
use Rattle.limits.specs.Limits.{Limits}
use Rattle.numbers.specs.BigEndian.{Bytes}
use Rattle.format.specs.Parsed.{done}
use Rattle.format.specs.Tree.{Chip}
use Rattle.format.specs.FileLayout.{file_at}
use Rattle.format.specs.References.{Fault, reference_faults}
use Rattle.format.specs.Cycles.{cycle_faults}
use Rattle.format.specs.Verdict.{judged, verdict}
use Rattle.format.specs.Encoding.{encode}
use Rattle.format.specs.Placing.{Placed}
use Rattle.format.specs.Rules.{Meets}
use Rattle.format.proofs.ParsedLaws.{never, then_out, then_in, require_out, require_in}
use Rattle.format.proofs.FileAccepted.{file_out, file_in}
use Rattle.format.proofs.FaultsLaws.{append_none, none-append, references_out, references_in, cycles_out, cycles_in}
use Rattle.format.proofs.Grouping.{layout_out, layout_in}

-- The verdict taken apart

judged_out : (fs : List Fault) (c : Chip) (end : ℕ) {d : Chip} {m : ℕ} → judged fs c end ≡ done d m → (fs ≡ []) × (done c end ≡ done d m)
unfolding judged
judged_out [] c end e = (refl, e)
judged_out (f ∷ fs) c end e = never e

pub record Passed (limits : Limits) (s : List ℕ) (c : Chip) (end : ℕ) : Type 0 where
  pub short : length s ≤ limits.bytes
  pub read : file_at limits s true 0 ≡ done c end
  pub whole : length s ≤ end
  pub faultless : reference_faults c ++ cycle_faults c ≡ []

pub verdict_out : (limits : Limits) (s : List ℕ) {c : Chip} {end : ℕ} → verdict limits s ≡ done c end → Passed limits s c end
unfolding verdict
verdict_out limits s {c} {end} e =
    let a = require_out _ _ _ _ e in
    let t = then_out _ _ a.1 in
    let b = require_out _ _ _ _ t.3 in
    let j = judged_out _ _ _ b.1 in
    let d : done t.0 t.1 ≡ done c end = j.1 in
    let h : t.0 ≡ c = cc in
    let w : t.1 ≡ end = cc in
    record {
      short = leb-true _ _ a.0;
      read = t.2 ∙ d;
      whole = subst (λ m. length s ≤ m) w (leb-true _ _ b.0);
      faultless = subst (λ x. reference_faults x ++ cycle_faults x ≡ []) h j.0;
    }

pub verdict_in : (limits : Limits) (s : List ℕ) (c : Chip) (end : ℕ) → Passed limits s c end → verdict limits s ≡ done c end
unfolding verdict judged
verdict_in limits s c end p =
    require_in _ _ _ _ (le-leb _ _ p.short)
    (then_in _ _ p.read (require_in _ _ _ _ (le-leb _ _ p.whole) (rw p.faultless)))

-- An accepted file is read to its end.
pub read_to_end : (limits : Limits) (s : List ℕ) → Bytes s → {c : Chip} {end : ℕ} → verdict limits s ≡ done c end → end ≡ length s
read_to_end limits s bytes {c} e =
    let p = verdict_out limits s e in
    let a = (file_out limits s bytes p.read).0 in
    omega (arith, a.ends, p.whole, ap length a.here, length-take (length (encode c)) s)

-- Demand 2's "accepted", both ways.
pub acceptance : (limits : Limits) (s : List ℕ) → Bytes s → (c : Chip) → (verdict limits s ≡ done c (length s)) ↔ ((s ≡ encode c) × Placed c × Meets limits c)
acceptance limits s bytes c = (out, λ h. back h.0 h.1 h.2)
  where
    out : verdict limits s ≡ done c (length s) → (s ≡ encode c) × Placed c × Meets limits c
    out e =
        let p = verdict_out limits s e in
        let f = file_out limits s bytes p.read in
        let l = layout_out limits c f.1 in
        let q = append_none _ _ p.faultless in
        let r = references_out c q.0 in
        let n : length s ≤ length (encode c) = omega (arith, f.0.ends) in
        let w : s ≡ encode c = sym (take_all (length (encode c)) s n) ∙ f.0.here in
        let m = l.1 in (
          w,
          l.0,
          record {
            fields = m.fields;
            size = subst (λ x. length x ≤ limits.bytes) w p.short;
            counts = m.counts;
            known = m.known;
            unique = m.unique;
            within = m.within;
            expressions = m.expressions;
            bits = m.bits;
            present = r.0;
            fit = r.1;
            captures = r.2;
            acyclic = cycles_out c q.1;
          },
        )

    back : s ≡ encode c → Placed c → Meets limits c → verdict limits s ≡ done c (length s)
    back w p m =
        verdict_in limits s c (length s)
        (record {
          short = subst (λ x. length x ≤ limits.bytes) (sym w) m.size;
          read = file_in limits s bytes c
              (record { here = rw (← w) (take-length s); ends = ap length w ∙ (let z : length (encode c) ≡ 0 + length (encode c) = omega arith in z) })
              (layout_in limits c p
              (record {
                fields = m.fields;
                counts = m.counts;
                known = m.known;
                unique = m.unique;
                within = m.within;
                expressions = m.expressions;
                bits = m.bits;
              }));
          whole = omega arith;
          faultless = none-append (references_in c m.present m.fit m.captures) (cycles_in c m.acyclic);
        })

-- The tree of an accepted file meets the rules.
pub verdict_meets : (limits : Limits) (s : List ℕ) → Bytes s → {c : Chip} {end : ℕ} → verdict limits s ≡ done c end → Meets limits c
verdict_meets limits s bytes {c} e = ((acceptance limits s bytes c).0 (e ∙ ap (done c) (read_to_end limits s bytes e))).2
