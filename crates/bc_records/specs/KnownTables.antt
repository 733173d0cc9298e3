-- What the block MODULE says, as it is held.
use Rattle.std.specs.Prelude.{map}
use Rattle.bc_records.specs.declared.faults.tables.Tables.{Tables}
use Rattle.bc_records.specs.HeldEntries.{entry_form, operands_form}
use Rattle.bc_records.specs.RecordKinds.{Known}

abbrev pub known_by : Tables → Known
known_by tables = record {
  types = map entry_form tables.types.items;
  functions = map operands_form tables.functions.items;
  constants = tables.constants;
  metas = tables.metas;
}
