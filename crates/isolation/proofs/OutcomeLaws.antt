-- When isolation succeeds: every refusal of the table is passed, and none has number 0.
use Prim.Native.Nat.{ℕ, ◌*◌, ◌/◌, ◌≤◌}
use mathlib.Core.Bool.{Bool, true, false, cond}
use mathlib.Core.List.{List, [], ◌∷◌, ◌++◌}
use mathlib.Core.Logic.{◌⊎◌, inl, inr, ⊎_elim}
use mathlib.Core.Path.{◌≡◌, refl, sym, ◌∙◌, ap}
use native.Mathlib.Omega.{arith}
use lib.Dec.{leb}
use lib.ListN.{length, drop}
use Rattle.limits.specs.declared.LimitSet.{LimitSet}
use Rattle.limits.specs.Limits.{Limits, library_limits, limits_of}
use Rattle.numbers.specs.BigEndian.{Bytes}
use Rattle.graph.specs.Chains.{Graph, below, reached_from, reached_count}
use Rattle.graph.proofs.BelowLaws.{count-le}
use Rattle.format.specs.Fields.{known_attention}
use Rattle.format.specs.Lookup.{at, gathered, node_entries, node_position}
use Rattle.format.specs.Parsed.{Parsed, done, refused}
use Rattle.format.specs.References.{Fault, unless, named_by}
use Rattle.format.specs.Rules.{Every}
use Rattle.format.specs.Tree.{Rule, Root, Chip}
use Rattle.format.specs.Verdict.{verdict}
use Rattle.format.proofs.Acceptance.{verdict_meets}
use Rattle.format.proofs.EveryLaws.{every_all, every-gathered_in}
use Rattle.format.proofs.NumberedLaws.{verdict_numbered}
use Rattle.isolation.specs.Readings.{readings_fit, unread_faults}
use Rattle.format.specs.Finding.{root_for}
use Rattle.isolation.specs.ChipGraph.{rule_unread, chip_graph}
use Rattle.listing.specs.Records.{record_size, listing, records_of}
use Rattle.isolation.specs.Outcome.{Outcome, refused_outcome, done_outcome, entry_unread, reached_unread, Findings, stopped, found, found_from, all_read, from_root, find_in, find, written, in_list, isolate}
use Rattle.isolation.proofs.GraphsLaws.{listing-length}
use Rattle.isolation.proofs.TablesLaws.{entries_few}

-- Unread registers have number 18

abbrev pub Eighteen : Fault → Type 0
Eighteen f = f.number ≡ 18

unless_eighteen : (ok : Bool) (p : ℕ) → Every Eighteen (unless ok 18 p)
unfolding unless Every
unless_eighteen true p = tt
unless_eighteen false p = (refl, tt)

none_eighteen : Every Eighteen []
unfolding Every
none_eighteen = tt

rule_eighteen : (c : Chip) (read : List ℕ) (r : Rule) → Every Eighteen (rule_unread c read r)
unfolding rule_unread unread_faults
rule_eighteen c read r = every-gathered_in Eighteen _ _ (every_all _ (λ n. unless_eighteen _ _) (named_by r.expression))

pub reached_eighteen : (c : Chip) (attention : ℕ) (read : List ℕ) (g : Graph) (root : ℕ) → Every Eighteen (reached_unread c attention read g root)
unfolding reached_unread entry_unread
reached_eighteen c attention read g root =
    every-gathered_in Eighteen _ (below g.size) (every_all _ (λ i. go i (reached_from g root i)) (below g.size))
  where
    go : (i : ℕ) (t : Bool) → Every Eighteen (cond t (gathered (entry_unread c attention read) (at i (node_entries c))) [])
    go i true = every-gathered_in Eighteen _ _ (every_all _ (λ e. every-gathered_in Eighteen _ _ (every_all _ (rule_eighteen c read) _)) (at i (node_entries c)))
    go i false = none_eighteen

-- What is found

-- What is stopped has one number, and is not found.
pub stopped_number : {n p m q : ℕ} → stopped n p ≡ stopped m q → n ≡ m
stopped_number e = cc

pub found-not_stopped : {n s p q : ℕ} {bs : List ℕ} → found n bs s ≡ stopped p q → ⊥
found-not_stopped e = let z : ◌≡◌ {A = ℕ} 0 1 = cc in absurd (omega arith)

-- A refusal by 1 to 18.
pub record Stops (o : Findings) : Type 0 where
  pub number : ℕ
  pub place : ℕ
  pub low : 1 ≤ number
  pub high : number ≤ 18
  pub is : o ≡ stopped number place

stop : (n p : ℕ) → 1 ≤ n → n ≤ 18 → Stops (stopped n p)
stop n p l h = record { number = n; place = p; low = l; high = h; is = refl }

read_cases : (fs : List Fault) (o : Findings) → Every Eighteen fs → Stops (all_read fs o) ⊎ (fs ≡ [])
unfolding all_read Every
read_cases [] o h = inr refl
read_cases (f ∷ fs) o h = inl (stop f.number f.place (omega (arith, h.0)) (omega (arith, h.0)))

module _ (limits : Limits) (file : List ℕ) (attention : ℕ) (words read : List ℕ) where
  -- The file's tree, its root for the wanted type, and all that refusals 15 to 18 ask.
  pub record Finds : Type 0 where
    pub chip : Chip
    pub end : ℕ
    pub root : Root
    pub roots : List Root
    pub accepted : verdict limits file ≡ done chip end
    pub known : known_attention attention ≡ true
    pub rooted : root_for attention chip ≡ root ∷ roots
    pub fit : readings_fit chip words read ≡ true
    pub valued : reached_unread chip attention read (chip_graph chip attention words read) (node_position chip root.id root.number) ≡ []

  -- The slot decides nothing but a byte of each record.
  module _ (slot : ℕ) where
    pub finds_in : (s : Finds)
        → (let g = chip_graph s.chip attention words read in
        let ls = listing g (node_position s.chip s.root.id s.root.number) in
        find limits slot file attention words read
        ≡ found (length ls) (records_of s.chip slot attention ls) (reached_count g (node_position s.chip s.root.id s.root.number)))
    unfolding find find_in from_root all_read found_from
    finds_in s = rw (s.accepted, s.known, s.rooted, s.fit, s.valued)

    rooted_cases : (c : Chip) (end : ℕ) → verdict limits file ≡ done c end → known_attention attention ≡ true → (ts : List Root) → root_for attention c ≡ ts
        → Stops (from_root c slot attention words read ts) ⊎ Finds
    unfolding from_root
    rooted_cases c end v k [] r = inl (stop 16 0 (omega arith) (omega arith))
    rooted_cases c end v k (t ∷ ts) r = go (readings_fit c words read) refl
      where
        g : Graph
        g = chip_graph c attention words read

        p : ℕ
        p = node_position c t.id t.number

        go : (b : Bool) → readings_fit c words read ≡ b
            → Stops (cond b (all_read (reached_unread c attention read g p) (found_from c slot attention g p)) (stopped 17 0)) ⊎ Finds
        go true f =
            ⊎_elim (λ z. inl z)
            (λ a. inr (record { chip = c; end = end; root = t; roots = ts; accepted = v; known = k; rooted = r; fit = f; valued = a }))
            (read_cases (reached_unread c attention read g p) (found_from c slot attention g p) (reached_eighteen c attention read g p))
        go false f = inl (stop 17 0 (omega arith) (omega arith))

    -- A refusal by 1 to 18, or all that they ask.
    pub find_cases : Stops (find limits slot file attention words read) ⊎ Finds
    unfolding find find_in
    find_cases = go (verdict limits file) refl
      where
        known_cases : (c : Chip) (end : ℕ) → verdict limits file ≡ done c end → (t : Bool) → known_attention attention ≡ t
            → Stops (cond t (from_root c slot attention words read (root_for attention c)) (stopped 15 0)) ⊎ Finds
        known_cases c end v true k = rooted_cases c end v k (root_for attention c) refl
        known_cases c end v false k = inl (stop 15 0 (omega arith) (omega arith))

        go : (r : Parsed Chip) → verdict limits file ≡ r → Stops (find_in slot attention words read r) ⊎ Finds
        go (done c end) v = known_cases c end v (known_attention attention) refl
        go (refused n p) v = let t = verdict_numbered limits file v in inl (stop n p t.0 (omega (arith, t.1)))

    pub found_out : {count : ℕ} {records : List ℕ} {steps : ℕ} → find limits slot file attention words read ≡ found count records steps → Finds
    found_out e = ⊎_elim (λ z. let w = sym e ∙ z.is in let n : ◌≡◌ {A = ℕ} 0 1 = cc in absurd (omega arith)) (λ s. s) find_cases

-- A refusal of isolation, or success

-- "Each refusal returns its number and place, zero records and zero steps, and the list keeps its bytes." Isolation's numbers are 1 to 19.
pub record Refused (list : List ℕ) (o : Outcome) : Type 0 where
  pub number : ℕ
  pub place : ℕ
  pub low : 1 ≤ number
  pub high : number ≤ 19
  pub is : o ≡ refused_outcome number place list

written_cases : (count : ℕ) (records : List ℕ) (steps : ℕ) (list : List ℕ)
    → Refused list (written count records steps list) ⊎ (leb count (length list / record_size) ≡ true)
unfolding written
written_cases count records steps list = go (leb count (length list / record_size))
  where
    go : (t : Bool)
        → Refused list (cond t (done_outcome count steps (records ++ drop (count * record_size) list)) (refused_outcome 19 count list)) ⊎ (t ≡ true)
    go true = inr refl
    go false = inl (record { number = 19; place = count; low = omega arith; high = omega arith; is = refl })

module _ (limits : Limits) (file : List ℕ) (attention : ℕ) (words read list : List ℕ) where
  -- All that refusals 15 to 18 ask, and what 19 asks.
  pub record Succeeds : Type 0 where
    pub finds : Finds limits file attention words read
    pub room : (let p = node_position finds.chip finds.root.id finds.root.number in
        leb (length (listing (chip_graph finds.chip attention words read) p)) (length list / record_size) ≡ true)

  in-list : (s : Finds limits file attention words read)
      → (let g = chip_graph s.chip attention words read in
      let ls = listing g (node_position s.chip s.root.id s.root.number) in
      isolate limits file attention words read list
      ≡ written (length ls) (records_of s.chip 0 attention ls) (reached_count g (node_position s.chip s.root.id s.root.number)) list)
  unfolding isolate in_list
  in-list s = rw (finds_in limits file attention words read 0 s)

  pub succeeds_in : (s : Succeeds)
      → (let c = s.finds.chip in
      let p = node_position c s.finds.root.id s.finds.root.number in
      let g = chip_graph c attention words read in
      let ls = listing g p in
      isolate limits file attention words read list ≡ done_outcome (length ls) (reached_count g p) (records_of c 0 attention ls ++ drop (length ls * record_size) list))
  unfolding written
  succeeds_in s = in-list s.finds ∙ rw s.room

  -- Isolation refuses or succeeds.
  pub outcome_cases : Refused list (isolate limits file attention words read list) ⊎ Succeeds
  unfolding isolate in_list
  outcome_cases =
      ⊎_elim
      (λ z. inl (record { number = z.number; place = z.place; low = z.low; high = omega (arith, z.high); is = ap (in_list list) z.is }))
      (λ s. ⊎_elim
      (λ z. inl (record { number = z.number; place = z.place; low = z.low; high = z.high; is = in-list s ∙ z.is }))
      (λ w. inr (record { finds = s; room = w }))
      (written_cases _ _ _ list))
      (find_cases limits file attention words read 0)

  pub succeeds_out : (isolate limits file attention words read list).number ≡ 0 → Succeeds
  succeeds_out e =
      ⊎_elim (λ r. let d : (isolate limits file attention words read list).number ≡ r.number = ap (λ o. o.number) r.is in absurd (omega (arith, r.low)))
      (λ s. s) outcome_cases

-- What is found is bounded

-- Demand 3 of the steps: "So it never exceeds the node instances in the file".
pub finds_steps : (limits : Limits) (file : List ℕ) (attention : ℕ) (words read : List ℕ) (s : Finds limits file attention words read)
    → reached_count (chip_graph s.chip attention words read) (node_position s.chip s.root.id s.root.number) ≤ length (node_entries s.chip)
unfolding chip_graph reached_count
finds_steps limits file attention words read s = count-le (length (node_entries s.chip)) _

module _ (of : LimitSet) (slot : ℕ) (file : List ℕ) (attention : ℕ) (words read : List ℕ) {count : ℕ} {records : List ℕ} {steps : ℕ}
    (e : find (limits_of of) slot file attention words read ≡ found count records steps) where
  abbrev count_in : Findings → ℕ
  count_in (stopped n p) = 0
  count_in (found k rs t) = k

  abbrev records_in : Findings → List ℕ
  records_in (stopped n p) = []
  records_in (found k rs t) = rs

  abbrev steps_in : Findings → ℕ
  steps_in (stopped n p) = 0
  steps_in (found k rs t) = t

  -- So they never exceed the library's.
  pub found_steps : Bytes file → steps ≤ library_limits.node_instances
  found_steps bytes =
      let s = found_out (limits_of of) file attention words read slot e in
      let n : steps ≡ reached_count (chip_graph s.chip attention words read) (node_position s.chip s.root.id s.root.number) =
      ap steps_in (sym e ∙ finds_in (limits_of of) file attention words read slot s) in
      omega (
        arith,
        n,
        finds_steps (limits_of of) file attention words read s,
        entries_few of s.chip (verdict_meets (limits_of of) file bytes s.accepted),
      )

  -- Every record has its whole size.
  pub found-length : length records ≡ count * record_size
  unfolding record_size chip_graph
  found-length =
      let s = found_out (limits_of of) file attention words read slot e in
      let i = sym e ∙ finds_in (limits_of of) file attention words read slot s in
      let g = chip_graph s.chip attention words read in
      let p = node_position s.chip s.root.id s.root.number in
      ap length (ap records_in i) ∙ listing-length s.chip slot attention g p refl ∙ ap (λ k. k * 16) (sym (ap count_in i))
