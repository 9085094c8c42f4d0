-- A loop over a row of elements that a number tells apart.
use Prim.Native.Nat.{ℕ, max, ◌+◌, ◌-◌, ◌≤◌, ◌<◌}
use mathlib.Core.Path.{◌≡◌, refl, sym, ◌∙◌, ap, fun_ext}
use mathlib.Core.Bool.{true}
use mathlib.Core.List.{List, [], ◌∷◌, map}
use native.Mathlib.Omega.{arith}
use native.Mathlib.Nat.{zero-add}
use native.Mathlib.Numerals.{add-one}
use Rattle.format.specs.Fields.{fresh}
use lib.ListN.{length, take, set, replicate, length-set, length-replicate}
use lib.Seq.{length-take-le, take-suc-set}
use Rattle.format.specs.declared.Refusal.{Refusal}
use Rattle.format.specs.Parsed.{Parsed, done, refused, making, row_at}
use Rattle.tables.specs.Indexed.{Indexed}
use Rattle.tables.proofs.IndexedLaws.{indexed_none, indexed-append}
use Rattle.fields.specs.Seen.{unmarked, new_after, Tells, Largest, Below}
use Rattle.fields.specs.declared.NextRead.{NextRead}
use Rattle.fields.specs.declared.CountRead.{CountRead}
use Rattle.fields.specs.Views.{Element, Section, refused_by, next_parsed, count_parsed, forget}
use Rattle.fields.proofs.Parsing.{Found, found, missed, making_making, row_end, row_step, row_stop, row-length}
use Rattle.fields.proofs.SeenLaws.{tells_none, tells_mark, tells_nothing, tells_put, tells_new, largest_nothing, largest_put, below_nothing, below_put}

-- `left` elements are to come at `place`; `table`, which has so many places, marks the numbers of those before, and with these `begun` have begun, of which `base` had before the row.
pub record RowIn (size : ℕ) {A : Type 0} (p : List A → ℕ → Parsed A) (number : A → ℕ) (whole : Parsed (List A)) (base begun : ℕ) (table : List ℕ) (left place : ℕ) : Type 0 where
  pub before : List A
  pub counted : begun ≡ base + length before
  pub sized : length table ≡ size
  pub marks : Tells (unmarked table) (map number before)
  pub same : forget whole ≡ forget (row_at p left before place)

-- With a place for every number that a byte holds.
abbrev pub Row : {A : Type 0} → (List A → ℕ → Parsed A) → (A → ℕ) → Parsed (List A) → ℕ → ℕ → List ℕ → ℕ → ℕ → Type 0
Row p number whole base begun table left place = RowIn 256 p number whole base begun table left place

module _ {size : ℕ} {A : Type 0} (p : List A → ℕ → Parsed A) (number : A → ℕ) where
  pub row_begin : (base n at : ℕ) → RowIn size p number (row_at p n [] at) base base (replicate size 0) n at
  row_begin base n at = record { before = []; counted = omega arith; sized = length-replicate {A = ℕ} size 0; marks = tells_none size; same = refl }

  module _ {whole : Parsed (List A)} {base begun : ℕ} {table : List ℕ} {n at : ℕ} (r : RowIn size p number whole base begun table n at) where
    pub row_next : {v m : ℕ} → done v m ≡ making number (p r.before at) → 0 < n → v < size → RowIn size p number whole base (begun + 1) (set table v 1) (n - 1) m
    row_next {v} {m} e h k =
        let f : Found number (p r.before at) v m = found number (p r.before at) e in
        record {
          before = f.value ∷ r.before;
          counted = omega (arith, r.counted);
          sized = length-set table v 1 ∙ r.sized;
          marks = tells_mark table (map number r.before) v (omega (arith, r.sized)) r.marks f.made;
          same = r.same ∙ ap forget (row_step p n r.before at h f.is) ∙ making_making _ _ _;
        }

    pub row_last : n ≤ 0 → done tt at ≡ forget whole
    unfolding making
    row_last h = sym (r.same ∙ ap forget (row_end p n r.before at h))

    pub row_refused : {k m : ℕ} → refused k m ≡ making number (p r.before at) → 0 < n → refused k m ≡ forget whole
    unfolding making
    row_refused e h = sym (r.same ∙ ap forget (row_stop p n r.before at h (missed number (p r.before at) e)))

-- A row that was read to its end has as many elements as were asked for.
module _ {A : Type 0} (p : List A → ℕ → Parsed A) (n at : ℕ) {x : NextRead} where
  pub row_counted : (i : ℕ) {m : ℕ} {y : Parsed Element} → next_parsed x ≡ forget (row_at p n [] at) → x ≡ NextRead.Next m → y ≡ done (record { id = i; instances = n }) m
      → y ≡ making (λ xs. record { id = i; instances = length xs }) (row_at p n [] at)
  unfolding making
  row_counted i {m} e h k =
      let f : Found (λ _. tt) (row_at p n [] at) tt m = found (λ _. tt) (row_at p n [] at) (sym (ap next_parsed h) ∙ e) in
      k ∙ sym (ap (making (λ xs. record { id = i; instances = length xs })) f.is ∙ ap (λ j. done (record { id = i; instances = j }) m) (row-length p n [] at f.is))

  pub row_missed : {B : Type 0} (g : List A → B) {r : Refusal} {y : Parsed B} → next_parsed x ≡ forget (row_at p n [] at) → x ≡ NextRead.Refused r → y ≡ refused_by r → y ≡ making g (row_at p n [] at)
  unfolding making
  row_missed g e h k = k ∙ sym (ap (making g) (missed (λ _. tt) (row_at p n [] at) (sym (ap next_parsed h) ∙ e)))

-- A loop over elements each of which has some instances: those before have `total`, and `left` are to come at `place`.
pub record Counting {A : Type 0} (p : List A → ℕ → Parsed A) (total_of : List A → ℕ) (whole : Parsed (List A)) (before : List A) (total left place : ℕ) : Type 0 where
  pub counted : total ≡ total_of before
  pub same : making total_of whole ≡ making (λ xs. total + total_of xs) (row_at p left before place)

module _ {A : Type 0} (p : List A → ℕ → Parsed A) (size : A → ℕ) (total_of : List A → ℕ) (nothing : total_of [] ≡ 0) (another : (a : A) (xs : List A) → total_of (a ∷ xs) ≡ size a + total_of xs) where
  counting_begin : (n at : ℕ) → Counting p total_of (row_at p n [] at) [] 0 n at
  counting_begin n at = record { counted = sym nothing; same = ap (λ g. making g (row_at p n [] at)) (fun_ext (λ xs. sym (zero-add (total_of xs)))) }

  module _ {whole : Parsed (List A)} {before : List A} {total n at : ℕ} (r : Counting p total_of whole before total n at) where
    counting_next : {a : A} {k m : ℕ} → p before at ≡ done a m → size a ≡ k → 0 < n → Counting p total_of whole (a ∷ before) (total + k) (n - 1) m
    counting_next {a} {k} {m} e g h =
        record {
          counted = omega (arith, another a before, r.counted);
          same = r.same ∙ ap (making (λ xs. total + total_of xs)) (row_step p n before at h e) ∙ making_making _ _ _
              ∙ ap (λ g. making g (row_at p (n - 1) (a ∷ before) m)) (fun_ext (λ xs. omega (arith, another a xs)));
        }

    counting_last : n ≤ 0 → done total at ≡ making total_of whole
    unfolding making
    counting_last h =
        let e : total + total_of [] ≡ total = omega (arith, nothing) in
        sym (r.same ∙ ap (making (λ xs. total + total_of xs)) (row_end p n before at h) ∙ ap (λ t. done t at) e)

    counting_refused : {k m : ℕ} → p before at ≡ refused k m → 0 < n → refused k m ≡ making total_of whole
    unfolding making
    counting_refused e h = sym (r.same ∙ ap (making (λ xs. total + total_of xs)) (row_stop p n before at h e))

-- A loop over registers or nodes: `ids` holds the IDs of those before, of which there are `known`, each at most `largest`, and the first `entered` are in `index`; these have `total` instances.
pub record Elements {A : Type 0} (p : List A → ℕ → Parsed A) (id : A → ℕ) (total_of : List A → ℕ) (whole : Parsed (List A)) (ids index : List ℕ) (known entered largest total left place : ℕ) : Type 0 where
  pub before : List A
  pub listed : Tells (fresh true (take known ids)) (map id before)
  pub within : entered ≤ known
  pub indexed : Indexed index (take known ids) entered
  pub bound : Largest largest (map id before)
  pub counting : Counting p total_of whole before total left place

-- A loop over elements whose IDs or numbers rise: those before are below `bound`, and have `total` instances.
pub record Rising {A : Type 0} (p : List A → ℕ → Parsed A) (id : A → ℕ) (total_of : List A → ℕ) (whole : Parsed (List A)) (bound total left place : ℕ) : Type 0 where
  pub before : List A
  pub below : Below bound (map id before)
  pub counting : Counting p total_of whole before total left place

module _ {A : Type 0} (p : List A → ℕ → Parsed A) (id size : A → ℕ) (total_of : List A → ℕ) (nothing : total_of [] ≡ 0) (another : (a : A) (xs : List A) → total_of (a ∷ xs) ≡ size a + total_of xs) where
  pub elements_begin : (n at : ℕ) (ids index : List ℕ) → Elements p id total_of (row_at p n [] at) ids index 0 0 0 0 n at
  elements_begin n at ids index =
      record { before = []; listed = tells_nothing ids; within = omega arith; indexed = indexed_none index (take 0 ids); bound = largest_nothing 0; counting = counting_begin p size total_of nothing another n at }

  pub rising_begin : (n at : ℕ) → Rising p id total_of (row_at p n [] at) 0 0 n at
  rising_begin n at = record { before = []; below = below_nothing 0; counting = counting_begin p size total_of nothing another n at }

  module _ {whole : Parsed (List A)} {ids index : List ℕ} {known entered largest total n at : ℕ} (r : Elements p id total_of whole ids index known entered largest total n at) where
    pub elements_told : Tells (new_after largest (take known ids)) (map id r.before)
    elements_told = tells_new largest (take known ids) r.listed r.bound

    -- The IDs that are entered stay so when one is put after them.
    elements_put : (i : ℕ) → known < length ids → (length (take (known + 1) (set ids known i)) ≡ known + 1) × Indexed index (take (known + 1) (set ids known i)) entered
    elements_put i l = (
      length-take-le (known + 1) (set ids known i) (let h = length-set ids known i in omega arith),
      rw (add-one, take-suc-set ids known i l) (indexed-append index (take known ids) (i ∷ []) (let h = length-take-le known ids (omega arith) in omega (arith, r.within)) r.indexed),
    )

    pub elements_next : {i k m j more : ℕ} {index₁ : List ℕ} → ◌≡◌ {A = Parsed Element} (done (record { id = i; instances = k }) m) (making (λ a. record { id = id a; instances = size a }) (p r.before at)) → 0 < n → known < length ids → length ids < 65536
        → (more ≤ length (take (known + 1) (set ids known i))) × (length (take (known + 1) (set ids known i)) < 65536 → Indexed index (take (known + 1) (set ids known i)) entered → Indexed index₁ (take (known + 1) (set ids known i)) more)
        → j ≡ max largest i
        → Elements p id total_of whole (set ids known i) index₁ (known + 1) more j (total + k) (n - 1) m
    elements_next {i} {k} {m} e h l b x g =
        let q = elements_put i l in
        let f : Found {B = Element} (λ a. record { id = id a; instances = size a }) (p r.before at) (record { id = i; instances = k }) m = found _ (p r.before at) e in
        let a = f.value in
        let ei : id a ≡ i = ap (λ x. x.id) f.made in
        let ek : size a ≡ k = ap (λ x. x.instances) f.made in
        record {
          before = a ∷ r.before;
          listed = tells_put ids (map id r.before) known i l r.listed ei;
          within = omega (arith, x.0, q.0);
          indexed = x.1 (omega (arith, q.0)) q.1;
          bound = largest_put largest (map id r.before) i r.bound ei g;
          counting = counting_next p size total_of nothing another r.counting f.is ek h;
        }

    pub elements_last : n ≤ 0 → done total at ≡ making total_of whole
    elements_last h = counting_last p size total_of nothing another r.counting h

    pub elements_refused : {k m : ℕ} → ◌≡◌ {A = Parsed Element} (refused k m) (making (λ a. record { id = id a; instances = size a }) (p r.before at)) → 0 < n → refused k m ≡ making total_of whole
    elements_refused e h = counting_refused p size total_of nothing another r.counting (missed _ (p r.before at) e) h

  module _ {whole : Parsed (List A)} {bound total n at : ℕ} (r : Rising p id total_of whole bound total n at) where
    pub rising_step : {a : A} {v k m j : ℕ} → p r.before at ≡ done a m → id a ≡ v → size a ≡ k → bound ≤ v → j ≡ v + 1 → 0 < n → Rising p id total_of whole j (total + k) (n - 1) m
    rising_step {a} {v} e i g b q h =
        record { before = a ∷ r.before; below = below_put (map id r.before) v r.below b i q; counting = counting_next p size total_of nothing another r.counting e g h }

    pub rising_next : {i k m j : ℕ} → ◌≡◌ {A = Parsed Element} (done (record { id = i; instances = k }) m) (making (λ a. record { id = id a; instances = size a }) (p r.before at)) → bound ≤ i → j ≡ i + 1 → 0 < n
        → Rising p id total_of whole j (total + k) (n - 1) m
    rising_next {i} {k} {m} e b q h =
        let f : Found {B = Element} (λ a. record { id = id a; instances = size a }) (p r.before at) (record { id = i; instances = k }) m = found _ (p r.before at) e in
        rising_step f.is (ap (λ x. x.id) f.made) (ap (λ x. x.instances) f.made) b q h

    pub rising_last : n ≤ 0 → done total at ≡ making total_of whole
    rising_last h = counting_last p size total_of nothing another r.counting h

    pub rising_refused : {k m : ℕ} → ◌≡◌ {A = Parsed Element} (refused k m) (making (λ a. record { id = id a; instances = size a }) (p r.before at)) → 0 < n → refused k m ≡ making total_of whole
    rising_refused e h = counting_refused p size total_of nothing another r.counting (missed _ (p r.before at) e) h

-- A section of so many elements.
module _ {A : Type 0} (p : List A → ℕ → Parsed A) (total_of : List A → ℕ) (n at : ℕ) {x : CountRead} where
  pub section_counted : {t m : ℕ} {y : Parsed Section} → count_parsed x ≡ making total_of (row_at p n [] at) → x ≡ CountRead.Count t m → y ≡ done (record { elements = n; instances = t }) m
      → y ≡ making (λ xs. record { elements = length xs; instances = total_of xs }) (row_at p n [] at)
  unfolding making
  section_counted {t} {m} {y} e h k =
      let f : Found {B = ℕ} total_of (row_at p n [] at) t m = found total_of (row_at p n [] at) (sym (ap count_parsed h) ∙ e) in
      k ∙ sym (ap (making (λ xs. record { elements = length xs; instances = total_of xs })) f.is ∙ cc (row-length p n [] at f.is, f.made))

  pub section_missed : {r : Refusal} {y : Parsed Section} → count_parsed x ≡ making total_of (row_at p n [] at) → x ≡ CountRead.Refused r → y ≡ refused_by r
      → y ≡ making (λ xs. record { elements = length xs; instances = total_of xs }) (row_at p n [] at)
  unfolding making
  section_missed e h k = k ∙ sym (ap (making (λ xs. record { elements = length xs; instances = total_of xs })) (missed total_of (row_at p n [] at) (sym (ap count_parsed h) ∙ e)))
