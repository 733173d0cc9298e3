-- How structs are held.
use Rattle.std.specs.Prelude.{◌≡◌, List, map, option_map}
use Rattle.hl_values.specs.Innermost.{innermosts}
use Rattle.hl_values.specs.declared.structs.StructInfo.{StructInfo}
use Rattle.hl_values.specs.StructTables.{Members, plain_structs}
use Rattle.hl_values.specs.WordCounts.{counted}

abbrev pub members_of : StructInfo → Members
members_of d = (d.name.now, d.members)

-- the words of all structs are counted
abbrev pub AreCounted : List StructInfo → Type 0
AreCounted structs =
    map (λ d. d.words) structs ≡ map (λ d. option_map counted d.words) (plain_structs (map members_of structs))

-- and so are their innermost structs
abbrev pub AreInside : List StructInfo → Type 0
AreInside structs = map (λ d. d.innermost) structs ≡ innermosts (map members_of structs)

abbrev pub AreHeld : List StructInfo → Type 0
AreHeld structs = AreCounted structs × AreInside structs
