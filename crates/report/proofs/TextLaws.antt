-- The laws of text put to a lent list of bytes.
use Prim.Native.Nat.{ℕ, suc, ◌+◌, ◌≤◌, ◌<◌}
use mathlib.Core.List.{List, [], ◌∷◌, ◌++◌}
use mathlib.Core.Path.{◌≡◌, refl, sym, ◌∙◌, ap, subst}
use native.Mathlib.Nat.{add-zero}
use native.Mathlib.Numerals.{add-one}
use native.Mathlib.Omega.{arith}
use borrow.Author.Tests.{ne_eqb}
use lib.ListN.{length, drop, get_or, set, length-set, drop_of_length-le, length-append}
use lib.Seq.{drop-cons}
use Rattle.tables.specs.Tables.{written}
use Rattle.tables.proofs.TablesLaws.{written-append}
use Rattle.isolation.specs.Outcome.{Outcome, done_outcome, refused_outcome}
use Rattle.report.specs.Text.{Put, record_lines, steps_line, refused_line, text_of}

-- Byte after byte: with the bytes to come, the text t is what t₀ is with all.
pub record Putting (part t₀ t : List ℕ) (at i : ℕ) : Type 0 where
  pub inside : i ≤ length part
  pub same : length t ≡ length t₀
  pub rest : written t (at + i) (drop i part) ≡ written t₀ at part

module _ {part t₀ : List ℕ} {at : ℕ} where
  pub putting_begin : Putting part t₀ t₀ at 0
  putting_begin = record { inside = omega arith; same = refl; rest = ap (λ k. written t₀ k part) (add-zero at) }

  module _ {t : List ℕ} {i : ℕ} (p : Putting part t₀ t at i) where
    pub putting_next : {u : List ℕ} → i < length part → u ≡ set t (at + i) (get_or part i 0) → Putting part t₀ u at (i + 1)
    unfolding written
    putting_next {u} h e =
        let k : at + (i + 1) ≡ suc (at + i) = omega arith in
        record {
          inside = omega arith;
          same = ap length e ∙ length-set t (at + i) (get_or part i 0) ∙ p.same;
          rest = rw (e, k, add-one) (rw (drop-cons part i 0 h) at p.rest);
        }

    pub putting_end : length part ≤ i → Put t₀ at part t (at + length part)
    unfolding written
    putting_end h = record { text = rw (drop_of_length-le part h) at p.rest; place = refl }

-- One part after another.
pub put_then : {t xs u ys v : List ℕ} {at k r : ℕ} → Put t at xs u k → Put u k ys v r → Put t at (xs ++ ys) v r
put_then {t} {xs} {u} {ys} {v} {at} p q =
    record {
      text = q.text ∙ rw (p.text, p.place) (sym (written-append t at xs ys));
      place = rw (length-append xs ys) (omega (arith, p.place, q.place));
    }

-- The same bytes in other words.
pub put_as : {t xs ys u : List ℕ} {at r : ℕ} → Put t at xs u r → xs ≡ ys → Put t at ys u r
put_as {t} {xs} {ys} {u} {at} {r} p e = rw e at p

-- The text of a success and of a refusal.
pub done_text : {r s : ℕ} {l : List ℕ} {o : Outcome} → done_outcome r s l ≡ o → record_lines r l ++ steps_line s ≡ text_of o
unfolding text_of
done_text e = ap text_of e

pub refused_text : {n p : ℕ} {l : List ℕ} {o : Outcome} → 0 < n → refused_outcome n p l ≡ o → refused_line n p ≡ text_of o
unfolding text_of
refused_text {n} {p} {l} h e = sym (rw (ne_eqb n 0 (λ z. omega (arith, z)))) ∙ ap text_of e

-- A text that has no byte changes nothing.
pub put_none : {before part after : List ℕ} {next : ℕ} → Put before 0 part after next → next ≡ 0 → after ≡ before
unfolding written
put_none {before} {part} p e = p.text ∙ go part (omega (arith, p.place, e))
  where
    go : (part : List ℕ) → length part ≡ 0 → written before 0 part ≡ before
    go [] e = refl
    go (x ∷ xs) e = absurd (omega arith)

-- What is put to a text that is the same is put to it.
pub put_from : {before same part after : List ℕ} {at next : ℕ} → same ≡ before → Put same at part after next → Put before at part after next
put_from {before} {same} {part} {after} {at} {next} e p = subst (λ t. Put t at part after next) e p
