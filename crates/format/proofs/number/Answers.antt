use Rattle.format.proofs.number.Goals as goal

pub returns-in-FileTooLong : goal.returns-in-FileTooLong
returns-in-FileTooLong c = rw c.in-FileTooLong.is

pub returns-in-FieldCut : goal.returns-in-FieldCut
returns-in-FieldCut c = rw c.in-FieldCut.is

pub returns-in-WrongKeyword : goal.returns-in-WrongKeyword
returns-in-WrongKeyword c = rw c.in-WrongKeyword.is

pub returns-in-WrongVersion : goal.returns-in-WrongVersion
returns-in-WrongVersion c = rw c.in-WrongVersion.is

pub returns-in-ZeroCount : goal.returns-in-ZeroCount
returns-in-ZeroCount c = rw c.in-ZeroCount.is

pub returns-in-UnknownValue : goal.returns-in-UnknownValue
returns-in-UnknownValue c = rw c.in-UnknownValue.is

pub returns-in-Duplicate : goal.returns-in-Duplicate
returns-in-Duplicate c = rw c.in-Duplicate.is

pub returns-in-TooManyInstances : goal.returns-in-TooManyInstances
returns-in-TooManyInstances c = rw c.in-TooManyInstances.is

pub returns-in-BadExpression : goal.returns-in-BadExpression
returns-in-BadExpression c = rw c.in-BadExpression.is

pub returns-in-BitTooHigh : goal.returns-in-BitTooHigh
returns-in-BitTooHigh c = rw c.in-BitTooHigh.is

pub returns-in-BytesAfterEnd : goal.returns-in-BytesAfterEnd
returns-in-BytesAfterEnd c = rw c.in-BytesAfterEnd.is

pub returns-in-NameAbsent : goal.returns-in-NameAbsent
returns-in-NameAbsent c = rw c.in-NameAbsent.is

pub returns-in-RegisterUnfit : goal.returns-in-RegisterUnfit
returns-in-RegisterUnfit c = rw c.in-RegisterUnfit.is

pub returns-in-ChildCycle : goal.returns-in-ChildCycle
returns-in-ChildCycle c = rw c.in-ChildCycle.is

pub returns-in-BadAttentionType : goal.returns-in-BadAttentionType
returns-in-BadAttentionType c = rw c.in-BadAttentionType.is

pub returns-in-NoRoot : goal.returns-in-NoRoot
returns-in-NoRoot c = rw c.in-NoRoot.is

pub returns-in-ReadingsUnfit : goal.returns-in-ReadingsUnfit
returns-in-ReadingsUnfit c = rw c.in-ReadingsUnfit.is

pub returns-in-RegisterUnread : goal.returns-in-RegisterUnread
returns-in-RegisterUnread c = rw c.in-RegisterUnread.is

pub returns-in-NoRoom : goal.returns-in-NoRoom
returns-in-NoRoom c = rw c.in-NoRoom.is

pub returns-in-BoardUnfit : goal.returns-in-BoardUnfit
returns-in-BoardUnfit c = rw c.in-BoardUnfit.is

pub returns-in-RecordNotAllowed : goal.returns-in-RecordNotAllowed
returns-in-RecordNotAllowed c = rw c.in-RecordNotAllowed.is

pub returns-in-OutputTooShort : goal.returns-in-OutputTooShort
returns-in-OutputTooShort c = rw c.in-OutputTooShort.is

pub returns-in-TableTooShort : goal.returns-in-TableTooShort
returns-in-TableTooShort c = rw c.in-TableTooShort.is
