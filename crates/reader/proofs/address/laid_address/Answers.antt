use Rattle.format.specs.Lookup.{register_entries, register_position}
use Rattle.reader.proofs.AddressLaws.{registers_stand}
use Rattle.reader.proofs.address.laid_address.Goals as goal

pub returns : goal.returns
unfolding register_position register_entries
returns c = λ chip layout file. c.find_address.ensures _ chip.registers _ (registers_stand _ _ chip layout file)
