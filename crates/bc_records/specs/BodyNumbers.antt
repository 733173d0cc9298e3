-- The numbers of a body, as they are held.
use Rattle.bc_records.specs.declared.faults.numbers.BodyNumbers.{BodyNumbers}
use Rattle.bc_records.specs.RecordKinds.{Numbers}

abbrev pub numbers_form : BodyNumbers → Numbers
numbers_form numbers = record { first = numbers.first; values = numbers.values; blocks = numbers.blocks }
