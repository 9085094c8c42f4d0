-- The wanted root by its position, and refusals 15 to 17.
use Prim.Native.Nat.{ℕ, ◌≤◌, ◌<◌}
use mathlib.Core.Bool.{Bool, true, false}
use mathlib.Core.List.{List, [], ◌∷◌}
use mathlib.Core.Logic.{◌⊎◌, inl, inr, ⊎_elim}
use mathlib.Core.Path.{◌≡◌, sym, ◌∙◌, ap}
use native.Mathlib.Omega.{arith}
use lib.Dec.{eqb}
use lib.ListN.{length, length-map}
use borrow.Author.Tests.{le-leb, lt-leb}
use Rattle.limits.proofs.LimitsLaws.{nodes_within}
use Rattle.limits.specs.Limits.{library_limits, limits_of}
use Rattle.limits.specs.declared.LimitSet.{LimitSet}
use Rattle.numbers.specs.BigEndian.{Bytes}
use Rattle.numbers.proofs.Bools.{either}
use Rattle.format.specs.Fields.{known_attention}
use Rattle.format.specs.Lookup.{some, register_entries, node_entries, node_position}
use Rattle.format.specs.Rules.{Meets}
use Rattle.format.specs.Tree.{Root}
use Rattle.format.proofs.Acceptance.{verdict_meets}
use Rattle.isolation.specs.Activity.{fitting}
use Rattle.format.specs.Finding.{root_for}
use Rattle.reader.specs.Columns.{root_place}
use Rattle.isolation.specs.Outcome.{stopped, find}
use Rattle.isolation.specs.Ready.{Tabled, Ready}
use Rattle.isolation.proofs.AnswerLaws.{type_refused, root_refused, readings_refused}
use Rattle.format.proofs.FindingLaws.{first_none, first_some, root_inside}

module _ (of : LimitSet) (slot : ℕ) (file : List ℕ) (bytes : Bytes file) (attention : ℕ) (words read keys index nodes places children : List ℕ) (root : ℕ)
    (t : Tabled of file keys index nodes places children) (r : root ≡ root_place t.chip (root_for attention t.chip)) where
  meets : Meets (limits_of of) t.chip
  meets = verdict_meets (limits_of of) file bytes t.accepted

  few : length (node_entries t.chip) ≤ library_limits.node_instances
  few = omega (arith, meets.within.nodes, nodes_within of)

  size_is : length nodes ≡ length (node_entries t.chip)
  size_is = ap length t.nodes_are ∙ length-map (node_entries t.chip) _

  abbrev test : Root → Bool
  test x = eqb x.attention attention

  -- There is no root, or its node instance stands inside the file.
  root_cases : (root_for attention t.chip ≡ [])
      ⊎ ((x : Root) × (root_for attention t.chip ≡ x ∷ []) × (node_position t.chip x.id x.number < length (node_entries t.chip)))
  unfolding root_for
  root_cases =
      ⊎_elim
      (λ h. let f = first_some test t.chip.roots h in inr (f.0, f.1, root_inside t.chip meets.present _ f.2))
      (λ h. inl (first_none test t.chip.roots h))
      (either (some test t.chip.roots))

  place_none : root_for attention t.chip ≡ [] → root ≡ 0xFFFF
  unfolding root_place
  place_none e = r ∙ rw e

  place_one : (x : Root) → root_for attention t.chip ≡ x ∷ [] → root ≡ node_position t.chip x.id x.number
  unfolding root_place
  place_one x e = r ∙ rw e

  pub no_root : length nodes ≤ root → root_for attention t.chip ≡ []
  no_root l = ⊎_elim (λ e. e) (λ x. absurd (omega (arith, size_is, place_one x.0 x.1, x.2))) root_cases

  pub a_root : root < length nodes → (x : Root) × (root_for attention t.chip ≡ x ∷ []) × (root ≡ node_position t.chip x.id x.number)
  a_root l = ⊎_elim (λ e. absurd (omega (arith, size_is, few, place_none e))) (λ x. (x.0, x.1, place_one x.0 x.1)) root_cases

  -- 15 to 17.
  pub small_type : attention < 1 → stopped 15 0 ≡ find (limits_of of) slot file attention words read
  unfolding known_attention
  small_type h = type_refused of slot file attention words read t.chip t.end t.accepted (rw (lt-leb 1 attention h))

  module _ (least : 1 ≤ attention) where
    pub large_type : 5 < attention → stopped 15 0 ≡ find (limits_of of) slot file attention words read
    unfolding known_attention
    large_type h = type_refused of slot file attention words read t.chip t.end t.accepted (rw (le-leb 1 attention least, lt-leb attention 5 h))

    module _ (most : attention ≤ 5) where
      pub known : known_attention attention ≡ true
      unfolding known_attention
      known = rw (le-leb 1 attention least, le-leb attention 5 most)

      pub rootless : length nodes ≤ root → stopped 16 0 ≡ find (limits_of of) slot file attention words read
      rootless l = root_refused of slot file attention words read t.chip t.end t.accepted known (no_root l)

      pub keys_length : length keys ≡ length (register_entries t.chip)
      keys_length = ap length t.keys_are ∙ length-map (register_entries t.chip) _

      module _ (l : root < length nodes) {b : Bool} (fit : b ≡ fitting (length keys) words read) where
        pub unfitting : b ≡ false → stopped 17 0 ≡ find (limits_of of) slot file attention words read
        unfitting e =
            let x = a_root l in
            readings_refused of slot file attention words read t.chip t.end t.accepted known x.0 [] x.1 (length keys) keys_length (sym fit ∙ e)

        abbrev pub ready : b ≡ true → Ready of file attention words read keys index nodes places children root
        ready e =
            let x = a_root l in
            record {
              tabled = t;
              known = known;
              first = x.0;
              others = [];
              rooted = x.1;
              fits = ap (λ m. fitting m words read) (sym keys_length) ∙ sym fit ∙ e;
              root_is = x.2;
            }
