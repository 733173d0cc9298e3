use Rattle.std.proofs.Common.{◌≡◌, List, [], ◌++◌, drop, map}
use Rattle.hl_meaning.specs.Layout.{struct_kinds_after}
use Rattle.hl_meaning.specs.Programs.{StructDef}
use Rattle.hl_meaning.specs.Views.{plain_constant}
use Rattle.hl_inline.specs.Building.{plain_code}
use Rattle.hl_inline.specs.InlinedPrograms.{set_constants}
use Rattle.hl_inline.proofs.constants.set_each.Given as goal

abbrev pub invariant-loop-number : goal.invariant-loop-number
invariant-loop-number l = (structs : List StructDef) → l.known ≡ struct_kinds_after [] structs
    → plain_code l.code ++ set_constants structs l.number (map plain_constant (drop l.number l.constant-items)) ≡ plain_code l.initial.code ++ set_constants structs 0 (map plain_constant l.constants)
