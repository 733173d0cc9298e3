use Rattle.std.proofs.Common.{◌≡◌, ◌++◌, drop, map}
use Rattle.hl_meaning.specs.Views.{plain_struct as program_struct}
use Rattle.hl_rules.specs.Statements.{struct_def, struct_defs}
use Rattle.hl_values.specs.StructTables.{plain_structs}
use Rattle.hl_types.proofs.layout.struct_defs.Given as goal

abbrev pub invariant-loop-number : goal.invariant-loop-number
invariant-loop-number l =
    map program_struct l.made ++ map (struct_def (plain_structs l.structs)) (drop l.number (plain_structs l.structs))
    ≡ struct_defs (plain_structs l.structs)
