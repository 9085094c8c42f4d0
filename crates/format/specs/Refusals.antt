-- Document 01, "Numbers the operator sees": the number of each kind, and the values of each answer.
use Rattle.std.specs.Prelude.{ℕ, Result, Ok, Err}
use Rattle.format.specs.declared.Kind.{Kind}
use Rattle.format.specs.declared.Kind.TheVariants.{FileTooLong, FieldCut, WrongKeyword, WrongVersion, ZeroCount, UnknownValue, Duplicate, TooManyInstances, BadExpression, BitTooHigh, BytesAfterEnd, NameAbsent, RegisterUnfit, ChildCycle, BadAttentionType, NoRoot, ReadingsUnfit, RegisterUnread, NoRoom, BoardUnfit, RecordNotAllowed, OutputTooShort, TableTooShort}
use Rattle.format.specs.declared.Refusal.{Refusal}
use Rattle.format.specs.declared.Summary.{Summary}
use Rattle.format.specs.declared.Address.{Address}

-- The table's first column, with 20 of document 02 (vi), 40 and 41 of (ii); and 43, which is ours: a table that a caller lent for a file is too short for it.
abbrev pub number_of : Kind → ℕ
number_of FileTooLong = 1
number_of FieldCut = 2
number_of WrongKeyword = 3
number_of WrongVersion = 4
number_of ZeroCount = 5
number_of UnknownValue = 6
number_of Duplicate = 7
number_of TooManyInstances = 8
number_of BadExpression = 9
number_of BitTooHigh = 10
number_of BytesAfterEnd = 11
number_of NameAbsent = 12
number_of RegisterUnfit = 13
number_of ChildCycle = 14
number_of BadAttentionType = 15
number_of NoRoot = 16
number_of ReadingsUnfit = 17
number_of RegisterUnread = 18
number_of NoRoom = 19
number_of BoardUnfit = 20
number_of RecordNotAllowed = 40
number_of OutputTooShort = 41
number_of TableTooShort = 43

-- The checker's answer in the paper's numbers: number 0 is acceptance, with the summary; a refusal has its number and place, and zero of everything else.
pub record CheckValues : Type 0 where
  pub number : ℕ
  pub place : ℕ
  pub model : ℕ
  pub registers : ℕ
  pub register_instances : ℕ
  pub nodes : ℕ
  pub node_instances : ℕ
  pub roots : ℕ

abbrev pub accepted_with : ℕ → ℕ → ℕ → ℕ → ℕ → ℕ → CheckValues
accepted_with m r ri n ni t =
    record { number = 0; place = 0; model = m; registers = r; register_instances = ri; nodes = n; node_instances = ni; roots = t }

abbrev pub refused_with : ℕ → ℕ → CheckValues
refused_with n p =
    record { number = n; place = p; model = 0; registers = 0; register_instances = 0; nodes = 0; node_instances = 0; roots = 0 }

abbrev pub checked_values : Result Summary Refusal → CheckValues
checked_values (Ok s) =
    accepted_with s.model s.registers s.register_instances s.nodes s.node_instances s.roots
checked_values (Err r) = refused_with (number_of r.kind) r.place

-- The address query's answer in the paper's numbers: the address's offset and size, or a refusal.
pub record AddressValues : Type 0 where
  pub number : ℕ
  pub place : ℕ
  pub offset : ℕ
  pub size : ℕ

abbrev pub address_values : Result Address Refusal → AddressValues
address_values (Ok a) = record { number = 0; place = 0; offset = a.place; size = a.size }
address_values (Err r) = record { number = number_of r.kind; place = r.place; offset = 0; size = 0 }
