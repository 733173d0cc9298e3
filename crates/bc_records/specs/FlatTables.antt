-- The tables of the blocks that hold records alone.
use Rattle.bc_records.specs.declared.faults.flat.Flat.{Flat}
use Rattle.bc_records.specs.declared.faults.flat.Flat.TheVariants.{Types, Constants, Metadata}
use Rattle.bc_records.specs.FaultSites.{Table}
use Rattle.bc_records.specs.RecordKinds.{Known}
use Rattle.bc_records.specs.RecordFaults.{types_table, constants_table, metadata_table}

abbrev pub flat_table_of : Known → Flat → Table
flat_table_of known Types = types_table known
flat_table_of known Constants = constants_table known
flat_table_of known Metadata = metadata_table known
