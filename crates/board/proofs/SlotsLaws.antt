-- What slots find one after another, as rows of two tables.
use Rattle.std.specs.Prelude.{Result, Ok, Err}
use Prim.Native.Nat.{ℕ, zero, suc, ◌+◌, ◌-◌, ◌*◌, ◌≤◌, ◌<◌}
use mathlib.Core.Bool.{true}
use mathlib.Core.List.{List, [], ◌∷◌, ◌++◌, append-nil}
use mathlib.Core.Path.{◌≡◌, refl, sym, ◌∙◌, ap, subst}
use native.Mathlib.Numerals.{add-one}
use native.Mathlib.Omega.{arith}
use lib.ListN.{length, get_or, take, drop, length-drop, drop_of_length-le}
use lib.Seq.{take_all, take-append-add, length-take-le}
use borrow.Rule.Slice.PartMut.{mid_of, put_mid}
use Rattle.limits.specs.Limits.{library_limits, limits_of}
use Rattle.limits.specs.declared.LimitSet.{LimitSet}
use Rattle.numbers.specs.BigEndian.{Bytes}
use Rattle.numbers.proofs.BigEndianLaws.{bytes_take}
use Rattle.format.specs.Lookup.{gathered}
use Rattle.format.specs.declared.Refusal.{Refusal}
use Rattle.format.specs.Refusals.{number_of}
use Rattle.listing.specs.Rows.{rows_of, first_rows, kept_count, kept_records}
use Rattle.listing.proofs.KeptLaws.{rows_append, count-append, records-append}
use Rattle.isolation.specs.declared.Kept.{Kept}
use Rattle.isolation.specs.Outcome.{Findings, stopped, found, find}
use Rattle.isolation.specs.Rows.{found_of, is_found}
use Rattle.isolation.proofs.OutcomeLaws.{found_steps}
use Rattle.board.specs.declared.Gathered.{Gathered}
use Rattle.board.specs.Board.{total, slots_from, Together, stopped_at, joined, before, join_one, join}
use Rattle.board.specs.Rows.{gathered_of, GatheredWithin, is_gathered}
use Rattle.board.proofs.SumsLaws.{total_all, total_next}

abbrev pub kept : ℕ → ℕ → Kept
kept r s = record { rows = r; steps = s }

-- Some rows, and then those of a table's rest.
pub rows_then : (n m : ℕ) (heads words : List ℕ) (tails ends : List ℕ) → n ≤ length heads → n ≤ length words
    → first_rows (n + m) (take n heads ++ tails) (take n words ++ ends) ≡ first_rows n heads words ++ first_rows m tails ends
unfolding first_rows
rows_then n m heads words tails ends a b =
    let h : length (take n heads) ≡ n = length-take-le n heads a in
    let w : length (take n words) ≡ n = length-take-le n words b in
    rw (front n m heads tails h, front n m words ends w) (rows_append (take n heads) (take m tails) (take n words) (take m ends) (h ∙ sym w))
  where
    front : (n m : ℕ) (xs ys : List ℕ) → length (take n xs) ≡ n → take (n + m) (take n xs ++ ys) ≡ take n xs ++ take m ys
    front n m xs ys e = ap (λ k. take (k + m) (take n xs ++ ys)) (sym e) ∙ take-append-add (take n xs) ys m

-- A list without its first elements.
pub mid_rest : (t : List ℕ) (k : ℕ) → k ≤ length t → mid_of k (length t - k) t ≡ drop k t
mid_rest t k h = take_all (length t - k) (drop k t) (omega (arith, length-drop k t))

pub mid-length : (t : List ℕ) (k : ℕ) → k ≤ length t → length (mid_of k (length t - k) t) ≡ length t - k
mid-length t k h = ap length (mid_rest t k h) ∙ length-drop k t

pub put_rest : (t u : List ℕ) (k : ℕ) → k ≤ length t → put_mid k (length t - k) t u ≡ take k t ++ u
put_rest t u k h =
    let e : length (drop k t) ≤ length t - k = omega (arith, length-drop k t) in
    ap (λ r. take k t ++ (u ++ r)) (drop_of_length-le (drop k t) e) ∙ ap (λ r. take k t ++ r) (append-nil u)

-- The first of some lengths is within what they add up to, and the others add up to the rest.
some_left : (m n : ℕ) → (m ≡ 0 → ⊥) → n ≡ m → 0 < n
some_left zero n s e = absurd (s refl)
some_left (suc m) n s e = omega arith

pub first_within : (fl ls xs : List ℕ) → (length fl ≡ 0 → ⊥) → length ls ≡ length fl → total ls ≡ length xs → get_or ls 0 0 ≤ length xs
first_within fl ls xs some l e =
    let h : 0 < length ls = some_left (length fl) (length ls) some l in
    omega (arith, total_next ls 0 h, total_all ls, e)

pub others_total : (fl ls xs : List ℕ) → (length fl ≡ 0 → ⊥) → length ls ≡ length fl → total ls ≡ length xs
    → total (mid_of 1 (length ls - 1) ls) ≡ length (mid_of (get_or ls 0 0) (length xs - get_or ls 0 0) xs)
others_total fl ls xs some l e =
    let h : 0 < length ls = some_left (length fl) (length ls) some l in
    let w = first_within fl ls xs some l e in
    omega (arith, ap total (mid_rest ls 1 h), total_next ls 0 h, total_all ls, e, mid-length xs (get_or ls 0 0) w)

pub others-length : (fl ls : List ℕ) → (length fl ≡ 0 → ⊥) → length ls ≡ length fl → length (mid_of 1 (length ls - 1) ls) + 1 ≡ length fl
others-length fl ls some l =
    let h : 0 < length ls = some_left (length fl) (length ls) some l in
    omega (arith, mid-length ls 1 h, l)

pub at_least_one : (fl ls : List ℕ) → (length fl ≡ 0 → ⊥) → length ls ≡ length fl → 1 ≤ length ls
at_least_one fl ls some l = some_left (length fl) (length ls) some l

-- No slots.
pub no_slots : (attention k : ℕ) (fl wl rl files words read heads rows : List ℕ) → length fl ≡ 0
    → gathered_of attention (Gathered.Rows (kept 0 0)) heads rows ≡ join library_limits attention (slots_from k fl wl rl files words read)
unfolding slots_from join first_rows rows_of kept_count kept_records gathered
no_slots attention k [] wl rl files words read heads rows e = refl
no_slots attention k (f ∷ fl) wl rl files words read heads rows e = absurd (omega arith)

module _ (attention k : ℕ) (fl wl rl files words read : List ℕ) (some : 1 ≤ length fl) (lw : length wl ≡ length fl) (lr : length rl ≡ length fl) where
  abbrev pub first : Findings
  first = find library_limits k (take (get_or fl 0 0) files) attention (take (get_or wl 0 0) words) (take (get_or rl 0 0) read)

  abbrev pub rest : Together
  rest = join library_limits attention (slots_from (k + 1) (drop 1 fl) (drop 1 wl) (drop 1 rl) (drop (get_or fl 0 0) files) (drop (get_or wl 0 0) words) (drop (get_or rl 0 0) read))

  abbrev pub whole : Together
  whole = join library_limits attention (slots_from k fl wl rl files words read)

  pub join_first : whole ≡ join_one k first rest
  unfolding slots_from join
  join_first = go fl wl rl some lw lr
    where
      go : (fl wl rl : List ℕ) → 1 ≤ length fl → length wl ≡ length fl → length rl ≡ length fl
          → join library_limits attention (slots_from k fl wl rl files words read)
          ≡ join_one k (find library_limits k (take (get_or fl 0 0) files) attention (take (get_or wl 0 0) words) (take (get_or rl 0 0) read))
          (join library_limits attention (slots_from (k + 1) (drop 1 fl) (drop 1 wl) (drop 1 rl) (drop (get_or fl 0 0) files) (drop (get_or wl 0 0) words) (drop (get_or rl 0 0) read)))
      go [] wl rl a b c = absurd (omega arith)
      go (f ∷ fs) [] rl a b c = absurd (omega arith)
      go (f ∷ fs) (w ∷ ws) [] a b c = absurd (omega arith)
      go (f ∷ fs) (w ∷ ws) (r ∷ rs) a b c = rw (add-one k)

  -- The others, by parts of what was lent.
  pub rest_is : {fs ws rs gs vs es : List ℕ} → fs ≡ drop 1 fl → ws ≡ drop 1 wl → rs ≡ drop 1 rl → gs ≡ drop (get_or fl 0 0) files → vs ≡ drop (get_or wl 0 0) words → es ≡ drop (get_or rl 0 0) read
      → join library_limits attention (slots_from (k + 1) fs ws rs gs vs es) ≡ rest
  rest_is a b c d e f = rw (a, b, c, d, e, f)

  -- The first slot is refused.
  pub slot_stopped : {s : Result Kept Refusal} {r : Refusal} (heads rows : List ℕ) → s ≡ Err r → (is_found s ≡ true → found_of attention s heads rows ≡ first)
      → is_gathered (Gathered.Refused r k) ≡ true → gathered_of attention (Gathered.Refused r k) heads rows ≡ whole
  unfolding is_found is_gathered join_one
  slot_stopped {r = r} heads rows e exact t =
      let d : stopped (number_of r.kind) r.place ≡ first = rw e at exact t in
      sym (join_first ∙ rw (← d))

  -- The first slot finds rows.
  module _ {s : Result Kept Refusal} {x : Kept} (heads rows : List ℕ) (e : s ≡ Ok x) (exact : is_found s ≡ true → found_of attention s heads rows ≡ first) where
    is_first : found (kept_count (first_rows x.rows heads rows)) (kept_records attention (first_rows x.rows heads rows)) x.steps ≡ first
    unfolding is_found
    is_first = (rw e at exact) refl

    -- Its steps are no more than a file has node instances.
    pub first_steps : Bytes files → x.steps ≤ library_limits.node_instances
    unfolding limits_of
    first_steps bytes = found_steps LimitSet.Library k (take (get_or fl 0 0) files) attention (take (get_or wl 0 0) words) (take (get_or rl 0 0) read) (sym is_first) (bytes_take (get_or fl 0 0) files bytes)

    -- A later one is refused.
    pub later_stopped : {t : Gathered} {r : Refusal} {q : ℕ} (tails ends heads' rows' : List ℕ) → t ≡ Gathered.Refused r q → (is_gathered t ≡ true → gathered_of attention t tails ends ≡ rest)
        → is_gathered (Gathered.Refused r q) ≡ true → gathered_of attention (Gathered.Refused r q) heads' rows' ≡ whole
    unfolding join_one before is_gathered
    later_stopped {r = r} {q = q} tails ends heads' rows' d later h =
        let z : stopped_at (number_of r.kind) r.place q ≡ rest = rw d at later h in
        sym (join_first ∙ rw (← is_first, ← z))

    -- The later ones find rows.
    pub later_joined : {t : Gathered} {y : Kept} (tails ends : List ℕ) → x.rows ≤ length heads → x.rows ≤ length rows → t ≡ Gathered.Rows y → (is_gathered t ≡ true → gathered_of attention t tails ends ≡ rest)
        → gathered_of attention (Gathered.Rows (kept (x.rows + y.rows) (x.steps + y.steps))) (take x.rows heads ++ tails) (take x.rows rows ++ ends) ≡ whole
    unfolding join_one before is_gathered
    later_joined {y = y} tails ends a b d later =
        let z : joined (kept_count (first_rows y.rows tails ends)) (kept_records attention (first_rows y.rows tails ends)) y.steps ≡ rest = (rw d at later) refl in
        rw (rows_then x.rows y.rows heads rows tails ends a b, count-append, records-append)
        (sym (join_first ∙ rw (← is_first, ← z)))

-- The bounds of rows that were found.
pub gathered_rows : {t : Gathered} {y : Kept} (n : ℕ) (heads rows : List ℕ) → t ≡ Gathered.Rows y → GatheredWithin t n heads rows
    → (y.rows ≤ n * library_limits.node_instances) × (y.rows ≤ length heads) × (y.rows ≤ length rows) × (y.steps ≤ n * library_limits.node_instances)
gathered_rows n heads rows e h = subst (λ g. GatheredWithin g n heads rows) e h

-- The rest of both tables as the slots behind the first leave it.
pub put_joined : (attention : ℕ) (y : Kept) (heads rows tails ends : List ℕ) (n : ℕ) (a : n ≤ length heads) (b : n ≤ length rows) {x : Together}
    → gathered_of attention (Gathered.Rows y) (take n heads ++ tails) (take n rows ++ ends) ≡ x
    → gathered_of attention (Gathered.Rows y) (put_mid n (length heads - n) heads tails) (put_mid n (length rows - n) rows ends) ≡ x
put_joined attention y heads rows tails ends n a b e = rw (put_rest heads tails n a, put_rest rows ends n b) e

-- A refusal that is not 43.
pub stopped_found : {s : Result Kept Refusal} {r : Refusal} (k : ℕ) → s ≡ Err r → is_found s ≡ true → is_gathered (Gathered.Refused r k) ≡ true
unfolding is_found is_gathered
stopped_found k e h = rw e at h

pub stopped-gathered : {t : Gathered} {r : Refusal} (k : ℕ) → t ≡ Gathered.Refused r k → is_gathered t ≡ true → is_gathered (Gathered.Refused r k) ≡ true
stopped-gathered k e h = rw e at h
