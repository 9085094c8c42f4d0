-- The whole file: its three sections, and its records in an output.
use Prim.Native.Nat.{ℕ, zero, suc, ◌+◌, ◌*◌, ◌≤◌, ◌<◌}
use mathlib.Core.Bool.{Bool, true, false, cond}
use mathlib.Core.List.{List, [], ◌∷◌, ◌++◌, append_assoc}
use mathlib.Core.Path.{◌≡◌, sym, ◌∙◌, ap}
use native.Mathlib.Omega.{arith}
use borrow.Author.Tests.{le-leb, lt-leb}
use lib.ListN.{length, take, drop, length-append, length-take, length-drop, take-append-drop}
use lib.Seq.{take_at, drop-append-add, drop-drop}
use Rattle.limits.specs.Limits.{library_limits}
use Rattle.numbers.proofs.FieldLaws.{present_yes}
use Rattle.format.specs.Fields.{address_size}
use Rattle.format.specs.Lookup.{gathered}
use Rattle.records.proofs.RangeLaws.{length_record, length_records}
use Rattle.records.specs.declared.Record.{Record}
use Rattle.records.specs.declared.Element.{Element}
use Rattle.records.specs.Record.{record_bytes, put_record, at_front}
use Rattle.records.specs.Sizes.{own_size}
use Rattle.unpacking.specs.declared.Left.{Left}
use Rattle.unpacking.specs.declared.Passed.{Passed}
use Rattle.unpacking.specs.Unpacking.{element_next, record_next, left_next, known, run_of, in_front, run, passed, registers_in, nodes_in, roots_in, run_registers, run_nodes, run_roots, unpacked, unpacked_within, unpacked_bytes, put_records}
use Rattle.unpacking.proofs.LoopLaws.{end-le}

-- A run has no more records than turns.
count-le : (s : List ℕ) (n at : ℕ) (l : Left) → length (run s n at l).records ≤ n
unfolding run
count-le s zero at l = omega arith
count-le s (suc n) at l = go (known e) (count-le s n (at + own_size (address_size l.form) e) (left_next s at l e))
  where
    e : Element
    e = element_next s at l

    go : (t : Bool) → length (run s n (at + own_size (address_size l.form) e) (left_next s at l e)).records ≤ n
        → length (cond t (in_front (record_next s at l e) (run s n (at + own_size (address_size l.form) e) (left_next s at l e))) (run_of [] at)).records ≤ suc n
    go true h = omega arith
    go false h = omega arith

-- The three sections of a file.
module _ (s : List ℕ) where
  module _ {l : Left} where
    pub registers_run : l ≡ registers_in s → run s (length s) 20 l ≡ run_registers s
    unfolding run_registers
    registers_run h = ap (run s (length s) 20) h

    pub nodes_run : (at : ℕ) → l ≡ nodes_in s at → run s (length s) (at + 6) l ≡ run_nodes s at
    unfolding run_nodes
    nodes_run at h = ap (run s (length s) (at + 6)) h

    pub roots_run : (at : ℕ) → l ≡ roots_in s at → run s (length s) (at + 5) l ≡ run_roots s at
    unfolding run_roots
    roots_run at h = ap (run s (length s) (at + 5)) h

  -- A section has no more records than the file has bytes, and at most 9 bytes for each.
  module _ (at : ℕ) (l : Left) {a : Passed} where
    pub passed_count : a ≡ passed (run s (length s) at l) → a.count ≤ length s
    passed_count e = omega (arith, ap (λ p. p.count) e, count-le s (length s) at l)

    pub passed_end : a ≡ passed (run s (length s) at l) → a.end ≤ at + 9 * length s
    passed_end e = omega (arith, ap (λ p. p.end) e, end-le s (length s) at l)

  module _ {a b c : Passed} {l m n : Left} where
    pub sections_count : l ≡ registers_in s → m ≡ nodes_in s a.end → n ≡ roots_in s b.end
        → a ≡ passed (run s (length s) 20 l) → b ≡ passed (run s (length s) (a.end + 6) m) → c ≡ passed (run s (length s) (b.end + 5) n)
        → a.count + b.count + c.count ≡ length (unpacked s)
    unfolding unpacked
    sections_count hl hm hn ha hb hc =
        let x : a ≡ passed (run_registers s) = ha ∙ ap passed (registers_run hl) in
        let y : b ≡ passed (run_nodes s a.end) = hb ∙ ap passed (nodes_run a.end hm) in
        let z : c ≡ passed (run_roots s b.end) = hc ∙ ap passed (roots_run b.end hn) in
        rw (z, y, x, length-append, length-append) (omega arith)

  pub unpacked-le : length (unpacked s) ≤ 3 * length s
  unfolding unpacked run_registers run_nodes run_roots
  unpacked-le =
      let m = (run_registers s).end in
      let n = (run_nodes s m).end in
      rw (length-append, length-append)
      (omega (arith, count-le s (length s) 20 (registers_in s), count-le s (length s) (m + 6) (nodes_in s m), count-le s (length s) (n + 5) (roots_in s n)))

-- Records one after another.
put_join : (out : List ℕ) (to : ℕ) (xs ys : List Record) → put_records (put_records out to xs) (to + 16 * length xs) ys ≡ put_records out to (xs ++ ys)
unfolding put_records
put_join out to [] ys = ap (λ p. put_records out p ys) (let z : to + 16 * 0 ≡ to = omega arith in z)
put_join out to (x ∷ xs) ys =
    let w : to + 16 * suc (length xs) ≡ to + 16 + 16 * length xs = omega arith in
    ap (λ p. put_records (put_records (put_record out to x) (to + 16) xs) p ys) w ∙ put_join (put_record out to x) (to + 16) xs ys

put_three : (out : List ℕ) {first second third : List ℕ} {a b : ℕ} (xs ys zs : List Record) → a ≡ length xs → b ≡ length ys
    → first ≡ put_records out 0 xs → second ≡ put_records first (16 * a) ys → third ≡ put_records second (16 * (a + b)) zs
    → third ≡ put_records out 0 (xs ++ (ys ++ zs))
put_three out {first} {second} {third} {a} {b} xs ys zs x y p q r =
    let c1 : 16 * a ≡ 0 + 16 * length xs = omega arith in
    let c2 : 16 * (a + b) ≡ 0 + 16 * length (xs ++ ys) = omega (arith, length-append xs ys) in
    let f2 : second ≡ put_records out 0 (xs ++ ys) = q ∙ rw (p, c1) (put_join out 0 xs ys) in
    let f3 : third ≡ put_records out 0 ((xs ++ ys) ++ zs) = r ∙ rw (f2, c2) (put_join out 0 (xs ++ ys) zs) in
    rw (← append_assoc xs ys zs) f3

module _ (s out : List ℕ) {first second third : List ℕ} {a b : Passed} {l m n : Left} where
  pub sections_put : l ≡ registers_in s → m ≡ nodes_in s a.end → n ≡ roots_in s b.end
      → a ≡ passed (run s (length s) 20 l) → b ≡ passed (run s (length s) (a.end + 6) m)
      → first ≡ put_records out 0 (run s (length s) 20 l).records
      → second ≡ put_records first (16 * a.count) (run s (length s) (a.end + 6) m).records
      → third ≡ put_records second (16 * (a.count + b.count)) (run s (length s) (b.end + 5) n).records
      → third ≡ put_records out 0 (unpacked s)
  unfolding unpacked
  sections_put hl hm hn ha hb p q r =
      let x = run_registers s in
      let y = run_nodes s x.end in
      let z = run_roots s y.end in
      let ka : a ≡ passed x = ha ∙ ap passed (registers_run s hl) in
      let km : run s (length s) (a.end + 6) m ≡ y = nodes_run s a.end hm ∙ ap (λ k. run_nodes s k.end) ka in
      let kb : b ≡ passed y = hb ∙ ap passed km in
      let kn : run s (length s) (b.end + 5) n ≡ z = roots_run s b.end hn ∙ ap (λ k. run_roots s k.end) kb in
      put_three out x.records y.records z.records (ap (λ k. k.count) ka) (ap (λ k. k.count) kb)
      (p ∙ ap (λ k. put_records out 0 k.records) (registers_run s hl))
      (q ∙ ap (λ k. put_records first (16 * a.count) k.records) km)
      (r ∙ ap (λ k. put_records second (16 * (a.count + b.count)) k.records) kn)

-- The bytes of records.
pub records-length : (rs : List Record) → length (gathered record_bytes rs) ≡ 16 * length rs
records-length rs = omega (arith, length_records rs)

record_put : (out : List ℕ) (to : ℕ) (r : Record) → to + 16 ≤ length out → put_record out to r ≡ take to out ++ (record_bytes r ++ drop (to + 16) out)
unfolding put_record
record_put out to r h = rw (present_yes out to 16 h)

-- Where there is room for all, they stand one after another, and the rest is as it was.
put_room : (out : List ℕ) (to : ℕ) (rs : List Record) → to + 16 * length rs ≤ length out
    → put_records out to rs ≡ take to out ++ (gathered record_bytes rs ++ drop (to + 16 * length rs) out)
unfolding put_records gathered
put_room out to [] h =
    let w : to + 16 * 0 ≡ to = omega arith in
    sym (ap (λ p. take to out ++ drop p out) w ∙ take-append-drop to out)
put_room out to (r ∷ rs) h =
    let front = take to out ++ record_bytes r in
    let new = put_record out to r in
    let k = 16 * length rs in
    let l : length front ≡ to + 16 = omega (arith, length-append (take to out) (record_bytes r), length-take to out, length_record r) in
    let e : new ≡ front ++ drop (to + 16) out =
    record_put out to r (omega arith) ∙ sym (append_assoc (take to out) (record_bytes r) (drop (to + 16) out)) in
    let a : take (to + 16) new ≡ front = ap (take (to + 16)) e ∙ take_at front (drop (to + 16) out) (to + 16) l in
    let j : to + 16 + k ≡ length front + k = omega (arith, l) in
    let b : drop (to + 16 + k) new ≡ drop (to + 16 + k) out =
    ap (drop (to + 16 + k)) e ∙ ap (λ p. drop p (front ++ drop (to + 16) out)) j ∙ drop-append-add front (drop (to + 16) out) k ∙ drop-drop k (to + 16) out in
    let i : to + 16 + k ≤ length new =
    omega (arith, ap length e, length-append front (drop (to + 16) out), length-drop (to + 16) out, l) in
    let w : to + 16 * suc (length rs) ≡ to + 16 + k = omega arith in
    put_room new (to + 16) rs i
    ∙ rw (a, b, w) (append_assoc (take to out) (record_bytes r) _ ∙ ap (λ q. take to out ++ q) (sym (append_assoc (record_bytes r) (gathered record_bytes rs) _)))

-- What a call answers, and what it leaves in the output.
module _ (s : List ℕ) where
  none : library_limits.bytes < length s → unpacked_bytes s ≡ []
  unfolding unpacked_bytes unpacked_within gathered
  none h = rw (lt-leb _ _ h)

  within : length s ≤ library_limits.bytes → unpacked_bytes s ≡ gathered record_bytes (unpacked s)
  unfolding unpacked_bytes unpacked_within
  within h = rw (le-leb _ _ h)

  pub needs_none : library_limits.bytes < length s → 0 ≡ length (unpacked_bytes s)
  needs_none h = rw (none h)

  pub needs_all : {k : ℕ} → length s ≤ library_limits.bytes → k ≡ length (unpacked s) → 16 * k ≡ length (unpacked_bytes s)
  needs_all h e = rw (within h, records-length (unpacked s), e)

  module _ (out : List ℕ) where
    pub keeps_none : library_limits.bytes < length s → out ≡ at_front (unpacked_bytes s) out
    unfolding at_front
    keeps_none h = let z : 0 ≤ length out = omega arith in rw (none h, le-leb 0 (length out) z)

    pub keeps_short : {n : ℕ} → n ≡ length (unpacked_bytes s) → length out < n → out ≡ at_front (unpacked_bytes s) out
    unfolding at_front
    keeps_short e h = let z : length out < length (unpacked_bytes s) = omega arith in rw (lt-leb _ _ z)

    pub puts_all : {n : ℕ} {new : List ℕ} → length s ≤ library_limits.bytes → n ≡ length (unpacked_bytes s) → n ≤ length out
        → new ≡ put_records out 0 (unpacked s) → new ≡ at_front (unpacked_bytes s) out
    unfolding at_front
    puts_all h e l p =
        let rs = unpacked s in
        let z : length (unpacked_bytes s) ≤ length out = omega arith in
        let k : length (unpacked_bytes s) ≡ 0 + 16 * length rs = omega (arith, ap length (within h), records-length rs) in
        p ∙ put_room out 0 rs (omega arith) ∙ rw (le-leb _ _ z, k, within h)
