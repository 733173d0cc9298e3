-- Places in a module.
use Rattle.std.specs.Prelude.{ℕ, ◌==◌, if◌then◌else◌, List, ◌++◌, codes, decimal}
use Rattle.ir_core.specs.declared.spot.Spot.{Spot}

-- the spots of a module, a type, a function and a named metadata
abbrev pub module_spot : Spot
module_spot = record { part = 0; first = 0; second = 0 }

abbrev pub type_spot : ℕ → Spot
type_spot number = record { part = 1; first = number; second = 0 }

abbrev pub function_spot : ℕ → Spot
function_spot place = record { part = 3; first = place; second = 0 }

abbrev pub named_spot : ℕ → Spot
named_spot place = record { part = 5; first = place; second = 0 }

-- the printed text of a spot
abbrev pub spot_text : Spot → List ℕ
spot_text s =
    if s.part == 0 then codes "module"
    else if s.part == 1 then codes "type " ++ decimal s.first
    else if s.part == 2 then codes "global " ++ decimal s.first
    else if s.part == 3 then codes "function " ++ decimal s.first
    else if s.part == 4 then codes "meta " ++ decimal s.first
    else if s.part == 5 then codes "named " ++ decimal s.first
    else codes "inst " ++ (decimal s.first ++ (codes " " ++ decimal s.second))
