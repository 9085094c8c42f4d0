-- Captures, rules and child entries are read exactly where their encoding stands and they meet the rules.
use Prim.Native.Nat.{ℕ, ◌^◌, ◌≤◌, ◌<◌}
use mathlib.Core.Bool.{true}
use mathlib.Core.List.{List, [], ◌++◌}
use mathlib.Core.Path.{◌≡◌, refl, sym, ◌∙◌, ap, subst}
use native.Mathlib.Omega.{arith}
use lib.Dec.{leb, lit<}
use borrow.Author.Tests.{ltb-true, lt-ltb, leb-true}
use Rattle.numbers.specs.BigEndian.{bytes_of, Bytes}
use Rattle.numbers.proofs.Bools.{and_right}
use Rattle.limits.specs.Limits.{levels}
use Rattle.format.specs.Fields.{known_attention, attention_at}
use Rattle.format.specs.Tree.{Capture, Rule, Child}
use Rattle.format.specs.NodeLayout.{capture_at, rule_at, child_at}
use Rattle.format.specs.Encoding.{encode_expr, encode_capture, encode_rule, encode_child}
use Rattle.format.specs.Placing.{PlacedRow, PlacedExpr, PlacedCapture, PlacedRule, PlacedChild}
use Rattle.format.specs.Rules.{Every, depth, Counted, ExprFits}
use Rattle.format.proofs.ParsedLaws.{then_out, then_in, making_out, making_in, requiring_out, requiring_in}
use Rattle.format.proofs.Spelling.{Spell, spell_join, spell_split, field_out, field_in, Row, Reads, one-more}
use Rattle.format.proofs.RowLaws.{Among, row-map, row_both, placed_out, placed_in, each_out, each_in}
use Rattle.format.proofs.ExpressionAccepted.{expr-reads}

-- What reading needs of a capture, a rule and a child alone, and among the others.
pub record CaptureAlone (k : Capture) : Type 0 where
  pub id : k.id < 256 ^ 3
  pub number : k.number < 256

pub record CaptureFine (before : List Capture) (at : ℕ) (k : Capture) : Type 0 where
  pub placed : PlacedCapture at k
  pub alone : CaptureAlone k

pub record RuleAlone (r : Rule) : Type 0 where
  pub attention : known_attention r.attention ≡ true
  pub fits : ExprFits r.expression
  pub counted : Counted r.expression
  pub nested : depth r.expression ≤ levels

abbrev pub RuleFine : List Rule → ℕ → Rule → Type 0
RuleFine = Among encode_rule PlacedRule RuleAlone (λ r. r.attention)

pub record ChildAlone (k : Child) : Type 0 where
  pub bit : k.bit < 64
  pub id : k.id < 256 ^ 2
  pub number : k.number < 256

abbrev pub ChildFine : List Child → ℕ → Child → Type 0
ChildFine = Among encode_child PlacedChild ChildAlone (λ k. k.bit)

pub attention_small : (t : ℕ) → known_attention t ≡ true → t < 256
unfolding known_attention
attention_small t e = omega (arith, leb-true t 5 (and_right (leb 1 t) _ e))

module _ (s : List ℕ) (bytes : Bytes s) where
  pub capture-reads : Reads CaptureFine encode_capture s (capture_at s)
  unfolding capture_at encode_capture PlacedCapture
  capture-reads =
      record {
        sound = λ before at {x} {m} e.
            let t = then_out _ _ e in
            let g = making_out _ _ t.3 in
            let i = field_out s bytes at 3 t.2 in
            let n = field_out s bytes t.1 1 g.1 in
            subst (λ k. Spell s at m (encode_capture k) × CaptureFine before at k) g.2
            (spell_join s i.0 n.0, record { placed = refl; alone = record { id = i.1; number = n.1 } });
        complete = λ before at {x} {m} a h.
            let b = spell_split s (bytes_of 3 x.id) (bytes_of 1 x.number) a in
            then_in _ _ (field_in s bytes at 3 (lit< tt) b.0 h.alone.id)
            (making_in _ _ (field_in s bytes _ 1 (lit< tt) b.1 h.alone.number)
            (ap (λ p. record { place = p; id = x.id; number = x.number }) (sym h.placed)));
      }

  pub rule-reads : Reads RuleFine encode_rule s (rule_at s true)
  unfolding rule_at attention_at encode_rule PlacedRule
  rule-reads =
      record {
        sound = λ before at {x} {m} e.
            let t = then_out _ _ e in
            let q = requiring_out _ _ _ _ t.2 in
            let p = requiring_out _ _ _ _ q.0 in
            let g = making_out _ _ t.3 in
            let n = field_out s bytes at 1 p.0 in
            let r = (expr-reads s bytes levels).sound [] t.1 g.1 in
            let w = one-more s _ n.0 in
            subst (λ k. Spell s at m (encode_rule k) × RuleFine before at k) g.2 (
              spell_join s n.0 r.0,
              record {
                placed = (w, subst (λ p. PlacedExpr p g.0) w r.1.placed);
                alone = record { attention = p.1; fits = r.1.fits; counted = r.1.counted; nested = r.1.nested };
                new = q.1;
              },
            );
        complete = λ before at {x} {m} a h.
            let b = spell_split s (bytes_of 1 x.attention) (encode_expr x.expression) a in
            let k = h.alone in
            let w = one-more s _ b.0 in
            then_in _ _
            (requiring_in _ _ _ _
            (requiring_in _ _ _ _ (field_in s bytes at 1 (lit< tt) b.0 (attention_small _ k.attention)) k.attention) h.new)
            (making_in _ _
            ((expr-reads s bytes levels).complete [] _ b.1
            (record { placed = subst (λ p. PlacedExpr p x.expression) (sym w) h.placed.1; fits = k.fits; counted = k.counted; nested = k.nested }))
            (ap (λ p. record { attention = x.attention; place = p; expression = x.expression }) (w ∙ sym h.placed.0)));
      }

  pub child-reads : Reads ChildFine encode_child s (child_at s true)
  unfolding child_at encode_child PlacedChild
  child-reads =
      record {
        sound = λ before at {x} {m} e.
            let t = then_out _ _ e in
            let q = requiring_out _ _ _ _ t.2 in
            let p = requiring_out _ _ _ _ q.0 in
            let c = then_out _ _ t.3 in
            let g = making_out _ _ c.3 in
            let b = field_out s bytes at 1 p.0 in
            let i = field_out s bytes t.1 2 c.2 in
            let n = field_out s bytes c.1 1 g.1 in
            subst (λ k. Spell s at m (encode_child k) × ChildFine before at k) g.2 (
              spell_join s b.0 (spell_join s i.0 n.0),
              record { placed = refl; alone = record { bit = ltb-true t.0 64 p.1; id = i.1; number = n.1 }; new = q.1 },
            );
        complete = λ before at {x} {m} a h.
            let b = spell_split s (bytes_of 1 x.bit) (bytes_of 2 x.id ++ bytes_of 1 x.number) a in
            let c = spell_split s (bytes_of 2 x.id) (bytes_of 1 x.number) b.1 in
            let k = h.alone in
            let small : x.bit < 256 = omega (arith, k.bit) in
            then_in _ _
            (requiring_in _ _ _ _ (requiring_in _ _ _ _ (field_in s bytes at 1 (lit< tt) b.0 small) (lt-ltb x.bit 64 k.bit)) h.new)
            (then_in _ _ (field_in s bytes _ 2 (lit< tt) c.0 k.id)
            (making_in _ _ (field_in s bytes _ 1 (lit< tt) c.1 k.number)
            (ap (λ p. record { place = p; bit = x.bit; id = x.id; number = x.number }) (sym h.placed))));
      }

-- Rows of captures, rules and children.
module _ (at : ℕ) where
  pub captures_out : (ks : List Capture) → Row CaptureFine encode_capture [] at ks → PlacedRow PlacedCapture encode_capture at ks × Every CaptureAlone ks
  captures_out ks r =
      let part = row-map encode_capture CaptureFine in (
        placed_out encode_capture PlacedCapture [] at ks (part _ (λ b a x h. h.placed) [] at ks r),
        each_out encode_capture CaptureAlone [] at ks (part _ (λ b a x h. h.alone) [] at ks r),
      )

  pub captures_in : (ks : List Capture) → PlacedRow PlacedCapture encode_capture at ks → Every CaptureAlone ks → Row CaptureFine encode_capture [] at ks
  captures_in ks p e =
      row-map encode_capture _ CaptureFine (λ b a x h. record { placed = h.0; alone = h.1 }) [] at ks
      (row_both encode_capture _ _ [] at ks (placed_in encode_capture PlacedCapture [] at ks p) (each_in encode_capture CaptureAlone [] at ks e))
