-- What document 02 (ii) says of the writer's answers holds.
use Prim.Native.Nat.{ℕ, ◌^◌, ◌≤◌, ◌<◌}
use mathlib.Core.List.{List}
use mathlib.Core.Path.{◌≡◌, refl, sym, ◌∙◌, ap, subst}
use native.Mathlib.Omega.{arith}
use lib.ListN.{length, take, drop}
use Rattle.limits.specs.Limits.{Limits}
use Rattle.numbers.specs.BigEndian.{Bytes, big_endian, bytes_of}
use Rattle.numbers.proofs.BigEndianLaws.{read_written}
use Rattle.format.specs.Encoding.{encode_start, encode}
use Rattle.format.specs.Keywords.{chipdata}
use Rattle.format.specs.Lookup.{gathered}
use Rattle.format.specs.Parsed.{Parsed, done, refused, and_then, making}
use Rattle.format.specs.Tree.{Chip}
use Rattle.format.specs.Verdict.{verdict, check}
use Rattle.format.proofs.EncodingLaws.{encode_bytes}
use Rattle.records.specs.declared.Before.{Before}
use Rattle.records.specs.Elements.{elements, records}
use Rattle.records.specs.Fits.{Fits}
use Rattle.records.specs.Grammar.{grammar}
use Rattle.records.specs.Planting.{tree_of}
use Rattle.records.specs.Record.{record_bytes, records_in}
use Rattle.records.proofs.CompleteLaws.{meets_fits, elements_again}
use Rattle.records.proofs.SoundLaws.{grammar_records}
use Rattle.packing.specs.Packing.{file_of}
use Rattle.packing.proofs.PackingLaws.{packed_file}
use Rattle.unpacking.proofs.UnpackingLaws.{same_records}
use Rattle.writer.specs.Writing.{refused_answer, written_answer, in_output, file_from, written, write}
use Rattle.writer.specs.RoundTrips.{RecordsOf, NoTree, FirstWrong, Lent, Accepted, CheckedFirst, with_model, file_with, Writes}
use Rattle.writer.proofs.WrongLaws.{tree_out, tree_in, wrong_out, wrong_in}
use Rattle.writer.proofs.AnswerLaws.{lent_refused, accepted_number, accepted_some, making_first, first-zero, first-not_wrong, first_lent}

-- Trees and their encodings

-- The records and the model/level make the encoding.
same_file : (c d : Chip) → c.model ≡ d.model → elements c ≡ elements d → encode c ≡ encode d
same_file c d m e = sym (packed_file c) ∙ ap (λ x. file_of x (elements c)) m ∙ ap (file_of d.model) e ∙ packed_file d

same_elements : (c d : Chip) → Fits c → Fits d → records c ≡ records d → elements c ≡ elements d
same_elements c d f g e = sym (elements_again c f) ∙ ap records_in e ∙ elements_again d g

-- The model/level is in the encoding.
model_bytes : (c : Chip) → take 4 (drop 8 (encode c)) ≡ bytes_of 4 c.model
unfolding encode encode_start chipdata bytes_of
model_bytes c = refl

pub same_model : (c d : Chip) → Fits c → Fits d → encode c ≡ encode d → c.model ≡ d.model
same_model c d f g e =
    sym (read_written 4 c.model f.fields.model)
    ∙ ap big_endian (sym (model_bytes c) ∙ ap (λ x. take 4 (drop 8 x)) e ∙ model_bytes d)
    ∙ read_written 4 d.model g.fields.model

pub same_written : (c d : Chip) → Fits c → Fits d → encode c ≡ encode d → records c ≡ records d
unfolding records
same_written c d f g e = ap (gathered record_bytes) (same_records c d f g e)

pub tree_model : (m : ℕ) (s : List ℕ) → (tree_of m (records_in s)).model ≡ m
unfolding tree_of
tree_model m s = refl

elements_with : (m : ℕ) (c : Chip) → elements (with_model m c) ≡ elements c
unfolding elements
elements_with m c = refl

pub accepted_fits : (limits : Limits) (file : List ℕ) (c : Chip) → Accepted limits file c → Fits c
accepted_fits limits file c a = meets_fits limits c a.meets

-- The file that would result is the encoding of the tree that is planted from the records.
pub file-from : (m : ℕ) (s : List ℕ) → file_from m s ≡ encode (tree_of m (records_in s))
unfolding file_from
file-from m s = refl

pub file-with : (m : ℕ) → m < 256 ^ 4 → (s : List ℕ) → Bytes s → (c : Chip) → RecordsOf s c → file_from m s ≡ file_with m c
file-with m h s bytes c r =
    let g = grammar_records m h s bytes (tree_in s c r).2 in
    let t = tree_of m (records_in s) in
    file-from m s
    ∙ same_file t (with_model m c) (tree_model m s) (same_elements t c g.1 r.fits (g.0 ∙ r.are) ∙ sym (elements_with m c))

-- Writing

module _ (limits : Limits) (m : ℕ) (s out : List ℕ) where
  write_refused : {n p : ℕ} → grammar s ≡ refused n p → write limits m s out ≡ refused_answer n p out
  unfolding write written and_then in_output
  write_refused e = rw e

  write_taken : {b : Before} {at : ℕ} → grammar s ≡ done b at
      → write limits m s out ≡ in_output out (making (λ _. file_from m s) (verdict limits (file_from m s)))
  unfolding write written and_then
  write_taken e = rw e

  module _ (small : m < 256 ^ 4) (bytes : Bytes s) where
    -- On the records of a tree it answers as the checker does of the tree's file, and then with this file.
    pub write_tree : (c : Chip) → RecordsOf s c
        → write limits m s out ≡ in_output out (making (λ _. file_with m c) (verdict limits (file_with m c)))
    write_tree c r =
        let e = file-with m small s bytes c r in
        write_taken (tree_in s c r).2 ∙ ap (λ f. in_output out (making (λ _. f) (verdict limits f))) e

    tree_first : (c : Chip) → RecordsOf s c → CheckedFirst limits (file_with m c) (file_with m c) out (write limits m s out)
    tree_first c r =
        subst (CheckedFirst limits (file_with m c) (file_with m c) out) (sym (write_tree c r))
        (making_first limits (file_with m c) (file_with m c) out (λ _. file_with m c) (λ _ _ _. refl))

    write_wrong : (p : ℕ) → FirstWrong s p → write limits m s out ≡ refused_answer 40 p out
    write_wrong p f = write_refused (wrong_in s bytes p f)

    -- 40 comes with the first wrong record.
    wrong_number : (write limits m s out).number ≡ 40 → (p : ℕ) × FirstWrong s p × ((write limits m s out).place ≡ p)
    wrong_number z = go (grammar s) refl
      where
        go : (q : Parsed Before) → grammar s ≡ q → (p : ℕ) × FirstWrong s p × ((write limits m s out).place ≡ p)
        go (done b at) e =
            let t = tree_out s bytes e in
            absurd (first-not_wrong limits (file_with m t.0) (file_with m t.0) out (write limits m s out) (tree_first t.0 t.1) z)
        go (refused n p) e = (p, (wrong_out s bytes e).1, ap (λ x. x.place) (write_refused e))

    wrong_place : (p : ℕ) → write limits m s out ≡ refused_answer 40 p out → FirstWrong s p
    wrong_place p e =
        let w = wrong_number (ap (λ x. x.number) e) in
        subst (FirstWrong s) (sym w.2 ∙ ap (λ x. x.place) e) w.1

    none_number : NoTree s → (write limits m s out).number ≡ 40
    none_number f = go (grammar s) refl
      where
        go : (q : Parsed Before) → grammar s ≡ q → (write limits m s out).number ≡ 40
        go (done b at) e = let t = tree_out s bytes e in absurd (f t.0 t.1)
        go (refused n p) e = ap (λ x. x.number) (write_refused e) ∙ (wrong_out s bytes e).0

    -- Success: of which tree the records are, and that its file was written.
    pub tree-zero : (write limits m s out).number ≡ 0
        → (c : Chip) × RecordsOf s c × ((check limits (file_with m c)).number ≡ 0) × (length (file_with m c) ≤ length out)
        × (write limits m s out ≡ written_answer (file_with m c) out)
    tree-zero z = go (grammar s) refl
      where
        go : (q : Parsed Before) → grammar s ≡ q
            → (c : Chip) × RecordsOf s c × ((check limits (file_with m c)).number ≡ 0) × (length (file_with m c) ≤ length out)
            × (write limits m s out ≡ written_answer (file_with m c) out)
        go (done b at) e =
            let t = tree_out s bytes e in
            let f = first-zero limits (file_with m t.0) (file_with m t.0) out (write limits m s out) (tree_first t.0 t.1) z in
            (t.0, t.1, f.0, f.1, f.2)
        go (refused n p) e = absurd (omega (arith, z, ap (λ x. x.number) (write_refused e), (wrong_out s bytes e).0))

    pub writes : Writes limits m s out
    writes =
        record {
          wrong = λ p. (wrong_place p, write_wrong p);
          none = (λ z. (wrong_number z).1.none, none_number);
          otherwise = tree_first;
          succeeds = (
            λ z. let t = tree-zero z in (t.0, t.1, accepted_some limits (file_with m t.0) (encode_bytes (with_model m t.0)) t.2, t.3),
            λ t.
                let k = accepted_number limits (file_with m t.0) (encode_bytes (with_model m t.0)) t.2.1 in
                ap (λ x. x.number) (((tree_first t.0 t.1).accepted k).room t.3),
          );
          lent = go (grammar s) refl;
        }
      where
        go : (q : Parsed Before) → grammar s ≡ q → Lent out (write limits m s out)
        go (done b at) e =
            let t = tree_out s bytes e in
            first_lent limits (file_with m t.0) (file_with m t.0) out (write limits m s out) (tree_first t.0 t.1)
        go (refused n p) e =
            let w : n ≡ 40 = (wrong_out s bytes e).0 in
            lent_refused out (write limits m s out) n p (omega arith) (write_refused e)
