-- Node instances are read exactly where their encoding stands and they meet the rules.
use Prim.Native.Nat.{ℕ, ◌+◌, ◌<◌}
use mathlib.Core.Bool.{true}
use mathlib.Core.List.{List, [], ◌++◌, map}
use mathlib.Core.Path.{◌≡◌, refl, sym, ap, subst}
use native.Mathlib.Omega.{arith}
use lib.Dec.{ltb, lit<}
use lib.ListN.{length, length-append}
use borrow.Author.Tests.{ltb-true, lt-ltb}
use Rattle.numbers.specs.BigEndian.{bytes_of, Bytes}
use Rattle.numbers.proofs.BigEndianLaws.{length_bytes}
use Rattle.format.specs.Parsed.{done}
use Rattle.format.specs.Fields.{count_at, fresh}
use Rattle.format.specs.Lookup.{gathered}
use Rattle.format.specs.Tree.{NodeInstance}
use Rattle.format.specs.NodeLayout.{InstanceHead, instance_head_at, node_instance_at}
use Rattle.format.specs.Encoding.{encode_capture, encode_rule, encode_child, encode_node_instance}
use Rattle.format.specs.Placing.{PlacedRule, PlacedChild, PlacedNodeInstance}
use Rattle.format.specs.Rules.{Every, Distinct}
use Rattle.format.proofs.ParsedLaws.{then_out, then_in, making_out, making_in, requiring_out, requiring_in}
use Rattle.format.proofs.Spelling.{Spell, spell_join, spell_split, field_out, field_in, Row, Reads, row_out, row_in}
use Rattle.format.proofs.RowLaws.{Among, among_out, among_in}
use Rattle.format.proofs.NodePartsAccepted.{CaptureAlone, CaptureFine, RuleAlone, RuleFine, ChildAlone, ChildFine, capture-reads, rule-reads, child-reads, captures_out, captures_in}

-- What reading needs of a node instance alone, and among the others, with `total` instances in the nodes before.
pub record InstanceAlone (i : NodeInstance) : Type 0 where
  pub number : i.number < 256
  pub capture_count : length i.captures < 256
  pub rule_count : length i.rules < 256
  pub some : 0 < length i.rules
  pub child_count : length i.children < 256
  pub captures : Every CaptureAlone i.captures
  pub rules : Every RuleAlone i.rules
  pub attentions : Distinct (map (λ r. r.attention) i.rules)
  pub children : Every ChildAlone i.children
  pub bits : Distinct (map (λ k. k.bit) i.children)

abbrev pub InstanceFine : ℕ → ℕ → List NodeInstance → ℕ → NodeInstance → Type 0
InstanceFine limit total before at i =
    Among encode_node_instance PlacedNodeInstance InstanceAlone (λ x. x.number) before at i × (ltb (total + length before) limit ≡ true)

module _ (limit : ℕ) (s : List ℕ) (bytes : Bytes s) where
  abbrev head_bytes : ℕ → ℕ → ℕ → ℕ → List ℕ
  head_bytes n c r k = bytes_of 1 n ++ (bytes_of 1 c ++ (bytes_of 1 r ++ bytes_of 1 k))

  head-length : (n c r k : ℕ) → length (head_bytes n c r k) ≡ 4
  head-length n c r k = simp (length-append, length_bytes)

  -- What reading needs of a node instance's start.
  record HeadFine (total : ℕ) (numbers : List ℕ) (h : InstanceHead) : Type 0 where
    pub number : h.number < 256
    pub captures : h.captures < 256
    pub rules : h.rules < 256
    pub some : 0 < h.rules
    pub children : h.children < 256
    pub new : fresh true numbers h.number ≡ true
    pub room : ltb total limit ≡ true

  head_out : (total : ℕ) (numbers : List ℕ) (at : ℕ) {h : InstanceHead} {m : ℕ} → instance_head_at limit s true total numbers at ≡ done h m
      → Spell s at m (head_bytes h.number h.captures h.rules h.children) × HeadFine total numbers h
  unfolding instance_head_at count_at
  head_out total numbers at {h} {m} e =
      let a = then_out _ _ e in
      let b = then_out _ _ a.3 in
      let c = then_out _ _ b.3 in
      let d = making_out _ _ c.3 in
      let qa = requiring_out _ _ _ _ a.2 in
      let pa = requiring_out _ _ _ _ qa.0 in
      let qc = requiring_out _ _ _ _ c.2 in
      let n = field_out s bytes at 1 pa.0 in
      let k = field_out s bytes a.1 1 b.2 in
      let r = field_out s bytes b.1 1 qc.0 in
      let l = field_out s bytes c.1 1 d.1 in
      subst (λ h. Spell s at m (head_bytes h.number h.captures h.rules h.children) × HeadFine total numbers h) d.2 (
        spell_join s n.0 (spell_join s k.0 (spell_join s r.0 l.0)),
        record { number = n.1; captures = k.1; rules = r.1; some = ltb-true 0 _ qc.1; children = l.1; new = qa.1; room = pa.1 },
      )

  head_in : (total : ℕ) (numbers : List ℕ) (at : ℕ) (h : InstanceHead) {m : ℕ}
      → Spell s at m (head_bytes h.number h.captures h.rules h.children) → HeadFine total numbers h
      → instance_head_at limit s true total numbers at ≡ done h m
  unfolding instance_head_at count_at
  head_in total numbers at h a f =
      let b = spell_split s (bytes_of 1 h.number) (bytes_of 1 h.captures ++ (bytes_of 1 h.rules ++ bytes_of 1 h.children)) a in
      let c = spell_split s (bytes_of 1 h.captures) (bytes_of 1 h.rules ++ bytes_of 1 h.children) b.1 in
      let d = spell_split s (bytes_of 1 h.rules) (bytes_of 1 h.children) c.1 in
      then_in _ _ (requiring_in _ _ _ _ (requiring_in _ _ _ _ (field_in s bytes at 1 (lit< tt) b.0 f.number) f.room) f.new)
      (then_in _ _ (field_in s bytes _ 1 (lit< tt) c.0 f.captures)
      (then_in _ _ (requiring_in _ _ _ _ (field_in s bytes _ 1 (lit< tt) d.0 f.rules) (lt-ltb 0 h.rules f.some))
      (making_in _ _ (field_in s bytes _ 1 (lit< tt) d.1 f.children) refl)))

  pub instance-reads : (total : ℕ) → Reads (InstanceFine limit total) encode_node_instance s (node_instance_at limit s true total)
  unfolding node_instance_at encode_node_instance PlacedNodeInstance
  instance-reads total =
      record {
        sound = λ before at {x} {m} e.
            let t = then_out _ _ e in
            let u = then_out _ _ t.3 in
            let v = then_out _ _ u.3 in
            let g = making_out _ _ v.3 in
            let h = t.0 in
            let a = head_out (total + length before) (map (λ i. i.number) before) at t.2 in
            let c = row_out _ _ s _ (capture-reads s bytes) h.captures [] t.1 u.2 in
            let r = row_out _ _ s _ (rule-reads s bytes) h.rules [] u.1 v.2 in
            let k = row_out _ _ s _ (child-reads s bytes) h.children [] v.1 g.1 in
            let wc : t.1 ≡ at + 4 = omega (arith, a.0.ends, head-length h.number h.captures h.rules h.children) in
            let wr : u.1 ≡ at + 4 + length (gathered encode_capture u.0) = omega (arith, wc, c.0.ends) in
            let wk : v.1 ≡ at + 4 + length (gathered encode_capture u.0) + length (gathered encode_rule v.0) = omega (arith, wr, r.0.ends) in
            let fc = captures_out (at + 4) u.0 (subst (λ p. Row CaptureFine encode_capture [] p u.0) wc c.2) in
            let fr = among_out encode_rule PlacedRule RuleAlone (λ x. x.attention) _ v.0 (subst (λ p. Row RuleFine encode_rule [] p v.0) wr r.2) in
            let fk = among_out encode_child PlacedChild ChildAlone (λ x. x.bit) _ g.0 (subst (λ p. Row ChildFine encode_child [] p g.0) wk k.2) in
            let f = a.1 in
            subst (λ i. Spell s at m (encode_node_instance i) × InstanceFine limit total before at i) g.2 (
              spell_join s
                  (subst (λ n. Spell s at t.1 (head_bytes h.number (length u.0) (length v.0) n)) (sym k.1)
                  (subst (λ n. Spell s at t.1 (head_bytes h.number (length u.0) n h.children)) (sym r.1)
                  (subst (λ n. Spell s at t.1 (head_bytes h.number n h.rules h.children)) (sym c.1) a.0)))
                  (spell_join s c.0 (spell_join s r.0 k.0)),
              (
                record {
                  placed = (refl, fc.0, fr.0, fk.0);
                  alone = record {
                    number = f.number;
                    capture_count = omega (arith, c.1, f.captures);
                    rule_count = omega (arith, r.1, f.rules);
                    some = omega (arith, r.1, f.some);
                    child_count = omega (arith, k.1, f.children);
                    captures = fc.1;
                    rules = fr.1;
                    attentions = fr.2;
                    children = fk.1;
                    bits = fk.2;
                  };
                  new = f.new;
                },
                f.room,
              ),
            );
        complete = λ before at {x} {m} a h.
            let k = h.0.alone in
            let p = h.0.placed in
            let head : InstanceHead = record { number = x.number; captures = length x.captures; rules = length x.rules; children = length x.children } in
            let b = spell_split s (head_bytes x.number (length x.captures) (length x.rules) (length x.children)) _ a in
            let c = spell_split s (gathered encode_capture x.captures) _ b.1 in
            let d = spell_split s (gathered encode_rule x.rules) _ c.1 in
            let w = head-length x.number (length x.captures) (length x.rules) (length x.children) in
            let hb = head_bytes x.number (length x.captures) (length x.rules) (length x.children) in
            let wc : at + 4 ≡ at + length hb = omega (arith, w) in
            let lc = length (gathered encode_capture x.captures) in
            let lr = length (gathered encode_rule x.rules) in
            then_in _ _
            (head_in (total + length before) (map (λ i. i.number) before) at head b.0
            (record {
              number = k.number;
              captures = k.capture_count;
              rules = k.rule_count;
              some = k.some;
              children = k.child_count;
              new = h.0.new;
              room = h.1;
            }))
            (then_in _ _
            (row_in _ _ s _ (capture-reads s bytes) [] _ x.captures c.0
            (subst (λ q. Row CaptureFine encode_capture [] q x.captures) wc (captures_in (at + 4) x.captures p.1 k.captures)))
            (then_in _ _
            (row_in _ _ s _ (rule-reads s bytes) [] _ x.rules d.0
            (subst (λ q. Row RuleFine encode_rule [] (q + lc) x.rules) wc
            (among_in encode_rule PlacedRule RuleAlone (λ r. r.attention) _ x.rules p.2 k.rules k.attentions)))
            (making_in _ _
            (row_in _ _ s _ (child-reads s bytes) [] _ x.children d.1
            (subst (λ q. Row ChildFine encode_child [] (q + lc + lr) x.children) wc
            (among_in encode_child PlacedChild ChildAlone (λ r. r.bit) _ x.children p.3 k.children k.bits)))
            (ap (λ q. record { place = q; number = x.number; captures = x.captures; rules = x.rules; children = x.children }) (sym p.0)))));
      }
