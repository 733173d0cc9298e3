-- What the body of the entry stands behind, and the parts of a program without calls that are held.
use Rattle.std.specs.Prelude.{List, ◌++◌, length}
use Rattle.hl_meaning.specs.Programs.{FunctionDef, Program}
use Rattle.hl_inline.specs.declared.inlining.Parts.{Parts}
use Rattle.hl_inline.specs.FlatTrees as plain
use Rattle.hl_inline.specs.FlatViews.{flat_of}
use Rattle.hl_inline.specs.Fresh.{Fresh, Instance, next_of}
use Rattle.hl_inline.specs.InlinedPrograms.{set_constants, set_inputs}

-- the constants and the inputs are set first
abbrev pub entry_before : Program → FunctionDef → List plain.FlatStmt
entry_before p f = set_constants p.structs 0 p.constants ++ set_inputs (length p.constants) f.parameters

-- where the entry stands, behind the variables that there are
abbrev pub entry_behind : Program → Fresh → Instance
entry_behind p fresh = record { first = length p.constants; result = next_of fresh; exit = 0 }

abbrev pub plain_parts : Parts → plain.Flat
plain_parts f = flat_of f.structs f.variables f.resources f.shared f.threads f.body
