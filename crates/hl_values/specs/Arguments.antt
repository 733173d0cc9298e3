-- Arguments that were walked, as plain data.
use Rattle.std.specs.Prelude.{List, Option}
use Rattle.hl_meaning.specs.Types.{Ty}
use Rattle.hl_rules.specs.Nodes as plain
use Rattle.hl_rules.specs.Values.{valued}
use Rattle.hl_values.specs.declared.typed.Typed.{Typed}
use Rattle.hl_values.specs.Few.{each}
use Rattle.hl_values.specs.Views.{plain_code_if, plain_type_if}

-- the type of an argument, where it has one
abbrev pub typed_as : Typed → Option Ty
typed_as t = valued (plain_type_if t.ty)

abbrev pub becomes : Typed → Option plain.Code
becomes t = plain_code_if t.code

-- what arguments become, where all become something
abbrev pub plain_codes : List Typed → Option (List plain.Code)
plain_codes args = each becomes args
