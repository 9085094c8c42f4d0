-- What document 02 (ii) says of the reader's answers, of writing and reading back, and of reading and writing, holds.
use Prim.Native.Nat.{ℕ, ◌^◌, ◌≤◌, ◌<◌}
use mathlib.Core.List.{List, []}
use mathlib.Core.Path.{◌≡◌, refl, sym, ◌∙◌, ap, subst}
use lib.ListN.{length}
use Rattle.limits.specs.Limits.{Limits}
use Rattle.numbers.specs.BigEndian.{Bytes}
use Rattle.format.specs.Encoding.{encode}
use Rattle.format.specs.Parsed.{Parsed, done, refused, making}
use Rattle.format.specs.Tree.{Chip}
use Rattle.format.specs.Verdict.{verdict, check}
use Rattle.format.proofs.EncodingLaws.{encode_bytes}
use Rattle.format.proofs.ParsedLaws.{never}
use Rattle.records.specs.Elements.{records}
use Rattle.records.specs.Planting.{tree_of}
use Rattle.records.specs.Record.{records_in}
use Rattle.records.proofs.SoundLaws.{grammar_records}
use Rattle.writer.specs.Writing.{written_answer, in_output, write, read}
use Rattle.writer.specs.RoundTrips.{RecordsOf, bytes_in, Gives, Accepted, CheckedFirst, with_model, file_with, ReadBack, Reads, WrittenBack, RoundTrips}
use Rattle.writer.proofs.FrontLaws.{records_bytes}
use Rattle.writer.proofs.WrongLaws.{tree_in, grammars}
use Rattle.writer.proofs.AnswerLaws.{bytes_written, check_done, accepted_in, accepted_number, accepted_some, making_first, first-zero, first_lent}
use Rattle.writer.proofs.WriteLaws.{same_model, same_written, tree_model, accepted_fits, file-from, file-with, tree-zero, writes}

own_records : (limits : Limits) (file : List ℕ) (c : Chip) → Accepted limits file c → RecordsOf (records c) c
own_records limits file c a = record { fits = accepted_fits limits file c a; are = refl }

-- Reading

module _ (limits : Limits) (file out : List ℕ) where
  read_is : read limits file out ≡ in_output out (making records (verdict limits file))
  unfolding read
  read_is = refl

  -- A file that is accepted with this tree, or refused, is read as the checker answers, and then as its records.
  read_first : (c : Chip) → ((d : Chip) (end : ℕ) → verdict limits file ≡ done d end → records d ≡ records c)
      → CheckedFirst limits file (records c) out (read limits file out)
  read_first c h = subst (CheckedFirst limits file (records c) out) (sym read_is) (making_first limits file (records c) out records h)

  module _ (bytes : Bytes file) where
    verdict_same : (c : Chip) → Accepted limits file c → (d : Chip) (end : ℕ) → verdict limits file ≡ done d end → records d ≡ records c
    verdict_same c a d end v =
        let w : done c (length file) ≡ done d end = sym (accepted_in limits file bytes a) ∙ v in
        let e : c ≡ d = cc in
        ap records (sym e)

    pub read_accepted : (c : Chip) → Accepted limits file c → Gives (records c) out (read limits file out)
    read_accepted c a = (read_first c (verdict_same c a)).accepted (accepted_number limits file bytes a)

  -- Any file is read as the checker answers first.
  read_some : (bs : List ℕ) × CheckedFirst limits file bs out (read limits file out)
  read_some = go (verdict limits file) refl
    where
      go : (q : Parsed Chip) → verdict limits file ≡ q → (bs : List ℕ) × CheckedFirst limits file bs out (read limits file out)
      go (done c end) v = (
        records c,
        read_first c (λ d k w.
            let x : done c end ≡ done d k = sym v ∙ w in
            let e : c ≡ d = cc in
            ap records (sym e)),
      )
      go (refused n p) v = ([], subst (CheckedFirst limits file [] out) (sym read_is) (making_first limits file [] out records (λ d k w. never (sym v ∙ w))))

  module _ (bytes : Bytes file) where
    read-zero : (read limits file out).number ≡ 0
        → (c : Chip) × Accepted limits file c × (length (records c) ≤ length out) × (read limits file out ≡ written_answer (records c) out)
    read-zero z =
        let k = first-zero limits file read_some.0 out (read limits file out) read_some.1 z in
        let a = accepted_some limits file bytes k.0 in
        let f = first-zero limits file (records a.0) out (read limits file out) (read_first a.0 (verdict_same bytes a.0 a.1)) z in
        (a.0, a.1, f.1, f.2)

    pub reads : Reads limits file out
    reads =
        record {
          accepts = (accepted_some limits file bytes, λ t. accepted_number limits file bytes t.1);
          refused = read_some.1.refused;
          accepted = λ c a. (own_records limits file c a, read_accepted bytes c a);
          succeeds = (
            λ z. let t = read-zero z in (t.0, t.1, t.2),
            λ t. ap (λ x. x.number) ((read_accepted bytes t.0 t.1).room t.2),
          );
          lent = first_lent limits file read_some.0 out (read limits file out) read_some.1;
        }

-- Writing and reading back

-- A file that would result from some records, and is accepted, has their model/level and is accepted with a tree that has them.
result_tree : (limits : Limits) (m : ℕ) → m < 256 ^ 4 → (s : List ℕ) → Bytes s → (c d : Chip) → RecordsOf s c → Accepted limits (file_with m c) d
    → (records d ≡ s) × (d.model ≡ m)
result_tree limits m small s bytes c d r a =
    let t = tree_of m (records_in s) in
    let g = grammar_records m small s bytes (tree_in s c r).2 in
    let f = accepted_fits limits (file_with m c) d a in
    let e : encode d ≡ encode t = sym a.encoded ∙ sym (file-with m small s bytes c r) ∙ file-from m s in
    (same_written d t f g.1 e ∙ g.0, same_model d t f g.1 e ∙ tree_model m s)

pub read-back : (limits : Limits) (m : ℕ) (s out : List ℕ) → m < 256 ^ 4 → Bytes s → (write limits m s out).number ≡ 0 → ReadBack limits m s out
read-back limits m s out small bytes z =
    let w = tree-zero limits m s out small bytes z in
    let c = w.0 in
    let b = encode_bytes (with_model m c) in
    let a = accepted_some limits (file_with m c) b w.2 in
    let t = result_tree limits m small s bytes c a.0 w.1 a.1 in
    let e : file_with m c ≡ bytes_in (write limits m s out) = sym (bytes_written (file_with m c) out) ∙ ap bytes_in (sym w.4) in
    let n : (check limits (file_with m c)).model ≡ m = ap (λ x. x.model) (check_done limits (file_with m c) (accepted_in limits (file_with m c) b a.1)) ∙ t.1 in
    record {
      accepted = subst (λ f. (check limits f).number ≡ 0) e w.2;
      model = subst (λ f. (check limits f).model ≡ m) e n;
      same = λ room.
          subst (λ f. Gives s room (read limits f room)) e
          (subst (λ x. Gives x room (read limits (file_with m c) room)) t.0 (read_accepted limits (file_with m c) room b a.0 a.1));
    }

-- Reading and writing back

file_again : (limits : Limits) (file : List ℕ) → Bytes file → (c : Chip) → Accepted limits file c → (room : List ℕ)
    → Gives file room (write limits c.model (records c) room)
file_again limits file bytes c a room =
    let f = accepted_fits limits file c a in
    let r = own_records limits file c a in
    let w = (writes limits c.model (records c) room f.fields.model (records_bytes c)).otherwise c r in
    let e : file_with c.model c ≡ file = sym a.encoded in
    subst (λ x. Gives x room (write limits c.model (records c) room)) e (w.accepted (subst (λ x. (check limits x).number ≡ 0) (sym e) (accepted_number limits file bytes a)))

pub written-back : (limits : Limits) (file : List ℕ) → Bytes file → WrittenBack limits file
written-back limits file bytes =
    record {
      tree = file_again limits file bytes;
      same = λ out z room.
          let r = read-zero limits file out bytes z in
          let c = r.0 in
          let a = r.1 in
          let e : records c ≡ bytes_in (read limits file out) = sym (bytes_written (records c) out) ∙ ap bytes_in (sym r.3) in
          let m : c.model ≡ (check limits file).model = sym (ap (λ x. x.model) (check_done limits file (accepted_in limits file bytes a))) in
          subst (λ x. Gives file room (write limits x (bytes_in (read limits file out)) room)) m
          (subst (λ x. Gives file room (write limits c.model x room)) e (file_again limits file bytes c a room));
    }

-- The sentences of document 02 (ii).
pub round_trips : (limits : Limits) → RoundTrips limits
round_trips limits =
    record {
      grammars = λ s bytes. grammars s bytes;
      writes = λ m s out small bytes. writes limits m s out small bytes;
      reads = λ file out bytes. reads limits file out bytes;
      read_back = λ m s out small bytes. read-back limits m s out small bytes;
      written_back = λ file bytes. written-back limits file bytes;
    }
