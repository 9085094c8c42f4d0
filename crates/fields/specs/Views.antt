-- What each answer of the code stands for: a value with the place after it, or the number and the place of a refusal.
use Rattle.std.specs.Prelude.{ℕ}
use Rattle.format.specs.declared.Refusal.{Refusal}
use Rattle.format.specs.Refusals.{number_of}
use Rattle.format.specs.Parsed.{Parsed, done, refused, making}
use Rattle.fields.specs.declared.ByteRead.{ByteRead}
use Rattle.fields.specs.declared.NumberRead.{NumberRead}
use Rattle.fields.specs.declared.NextRead.{NextRead}
use Rattle.fields.specs.declared.ElementRead.{ElementRead}
use Rattle.fields.specs.declared.CountRead.{CountRead}
use Rattle.fields.specs.declared.SectionRead.{SectionRead}

-- A refusal's number and place.
abbrev pub refused_by : {A : Type 0} → Refusal → Parsed A
refused_by r = refused (number_of r.kind) r.place

abbrev pub byte_parsed : ByteRead → Parsed ℕ
byte_parsed (ByteRead.Byte b next) = done b next
byte_parsed (ByteRead.Refused r) = refused_by r

abbrev pub number_parsed : NumberRead → Parsed ℕ
number_parsed (NumberRead.Number n next) = done n next
number_parsed (NumberRead.Refused r) = refused_by r

abbrev pub next_parsed : NextRead → Parsed (Unit {0})
next_parsed (NextRead.Next next) = done tt next
next_parsed (NextRead.Refused r) = refused_by r

-- The value is not kept.
abbrev pub forget : {A : Type 0} → Parsed A → Parsed (Unit {0})
forget p = making (λ _. tt) p

-- What is kept of a register or a node: its ID, and how many instances it has.
pub record Element : Type 0 where
  pub id : ℕ
  pub instances : ℕ

abbrev pub element_parsed : ElementRead → Parsed Element
element_parsed (ElementRead.Element i n next) = done (record { id = i; instances = n }) next
element_parsed (ElementRead.Refused r) = refused_by r

abbrev pub count_parsed : CountRead → Parsed ℕ
count_parsed (CountRead.Count n next) = done n next
count_parsed (CountRead.Refused r) = refused_by r

-- What is kept of a section: how many registers or nodes it has, and how many instances these have.
pub record Section : Type 0 where
  pub elements : ℕ
  pub instances : ℕ

abbrev pub section_parsed : SectionRead → Parsed Section
section_parsed (SectionRead.Section e i next) = done (record { elements = e; instances = i }) next
section_parsed (SectionRead.Refused r) = refused_by r
