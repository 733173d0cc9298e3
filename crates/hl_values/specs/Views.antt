-- The plain data of what is held.
use Rattle.std.specs.Prelude.{Option, option_map}
use Rattle.hl_meaning.specs.declared.ty.HlType.{HlType}
use Rattle.hl_meaning.specs.Types.{Ty}
use Rattle.hl_meaning.specs.Views.{plain_expr, plain_location, plain_ty}
use Rattle.hl_values.specs.declared.typed.Code.{Code}
use Rattle.hl_values.specs.declared.typed.Code.TheVariants as codes
use Rattle.hl_values.specs.declared.typed.Standing.{Standing}
use Rattle.hl_values.specs.declared.typed.Standing.TheVariants as standings
use Rattle.hl_values.specs.declared.typed.Typed.{Typed}
use Rattle.hl_rules.specs.Nodes as plain_nodes
use Rattle.hl_rules.specs.Nodes.{a_place_code, a_value_code}
use Rattle.hl_rules.specs.Values as plain_values
use Rattle.hl_rules.specs.Values.{a_place, no_place, unclear, value}

abbrev pub plain_type_if : Option HlType → Option Ty
plain_type_if ty = option_map plain_ty ty

abbrev pub plain_standing : Standing → plain_values.Standing
plain_standing standings.Unclear = unclear
plain_standing standings.NoPlace = no_place
plain_standing (standings.Place writable atomic letters) = a_place writable atomic letters

abbrev pub plain_code : Code → plain_nodes.Code
plain_code (codes.Place at place) = a_place_code at (plain_location place)
plain_code (codes.Value expr) = a_value_code (plain_expr expr)

abbrev pub plain_code_if : Option Code → Option plain_nodes.Code
plain_code_if code = option_map plain_code code

-- what is known of an expression
abbrev pub plain_value : Typed → plain_values.Value
plain_value t = value (plain_type_if t.ty) (plain_standing t.standing)
