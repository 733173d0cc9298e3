-- Steps into something, one behind others: the type that they lead to, and the letters at their end.
use Rattle.std.proofs.Common.{◌≡◌, ◌∙◌, refl, ap, arith, ℕ, Bool, true, false, ◌&&◌, if◌then◌else◌, List, [], ◌∷◌, Option, None, Some}
use Rattle.std.specs.Prelude.{option_and_then}
use Rattle.hl_meaning.specs.Types.{Ty}
use Rattle.hl_meaning.specs.Trees.{PathPart, PathParts, an_expr, index_part, literal_form, member_part, more_parts, no_parts, swizzle_part}
use Rattle.hl_meaning.specs.Places.{has_distinct_letters, is_literal, is_longer_swizzle, is_without_repeats, part_type, path_type}
use Rattle.hl_meaning.specs.Programs.{StructDef}
use Rattle.hl_rules.specs.Nodes.{joined}
use Rattle.hl_rules.specs.Values.{is_longer}
use Rattle.hl_rules.proofs.Fitting.{last_letters, part_letters}

-- ---- parts

-- one more step behind several letters picks among these
abbrev pub is_picking : PathPart → Bool
is_picking (swizzle_part letters) = true
is_picking (index_part index) = is_literal index
is_picking (member_part number) = false

pub longer-same : (part : PathPart) → is_longer_swizzle part ≡ is_longer (part_letters part)
longer-same (swizzle_part letters) = refl
longer-same (index_part index) = refl
longer-same (member_part number) = refl

-- the step alone, where it picks nothing
pub joined-plain : (first part : PathPart) → is_longer (part_letters first) ≡ false → joined first part ≡ more_parts first (more_parts part no_parts)
joined-plain (swizzle_part before) (swizzle_part letters) e = rw e refl
joined-plain (swizzle_part before) (index_part (an_expr ty at (literal_form number))) e = rw e refl
joined-plain (swizzle_part before) (index_part (an_expr ty at form)) e = refl
joined-plain (swizzle_part before) (member_part number) e = refl
joined-plain (member_part number) part e = refl
joined-plain (index_part index) part e = refl

-- ---- paths

single-if : (longer : Bool) (o : Option Ty) → (if longer && false then None else option_and_then (λ t. Some t) o) ≡ o
single-if true None = refl
single-if true (Some ty) = refl
single-if false None = refl
single-if false (Some ty) = refl

-- a path of one step
pub path-single : (structs : List StructDef) (from : Ty) (part : PathPart) → path_type structs from (more_parts part no_parts) ≡ part_type structs from part
path-single structs from part = single-if (is_longer_swizzle part) (part_type structs from part)

-- what leads somewhere over several steps
pub record IsLong (structs : List StructDef) (from to : Ty) (first : PathPart) (rest : PathParts) : Type 0 where
  pub middle : Ty
  pub shorter : is_longer_swizzle first ≡ false
  pub step : part_type structs from first ≡ Some middle
  pub path : path_type structs middle rest ≡ Some to

long-if : (structs : List StructDef) (from to : Ty) (first : PathPart) (rest : PathParts) (longer : Bool) (o : Option Ty) → is_longer_swizzle first ≡ longer → part_type structs from first ≡ o → (if longer && true then None else option_and_then (λ t. path_type structs t rest) o) ≡ Some to → IsLong structs from to first rest
long-if structs from to first rest true o e h k = absurd (cc k)
long-if structs from to first rest false None e h k = absurd (cc k)
long-if structs from to first rest false (Some middle) e h k = record { middle = middle; shorter = e; step = h; path = k }

pub path-long : (structs : List StructDef) (from to : Ty) (first second : PathPart) (rest : PathParts) → path_type structs from (more_parts first (more_parts second rest)) ≡ Some to → IsLong structs from to first (more_parts second rest)
path-long structs from to first second rest e =
    long-if structs from to first (more_parts second rest) (is_longer_swizzle first) (part_type structs from first) refl refl e

pub path-more : (structs : List StructDef) (from middle to : Ty) (first : PathPart) (rest : PathParts) → is_longer_swizzle first ≡ false → part_type structs from first ≡ Some middle → path_type structs middle rest ≡ Some to → path_type structs from (more_parts first rest) ≡ Some to
path-more structs from middle to first rest e h k = rw e (rw h k)

-- ---- letters

few-letters : (letters : List ℕ) → is_longer letters ≡ false → is_without_repeats letters ≡ true
few-letters [] e = refl
few-letters (x ∷ []) e = refl
few-letters (x ∷ y ∷ letters) e = absurd (cc (e, many))
  where
    many : is_longer (x ∷ y ∷ letters) ≡ true
    many = grind arith

pub and-true : (b : Bool) → b && true ≡ b
and-true true = refl
and-true false = refl

-- swizzles of a path repeat a letter where the last one does
pub distinct-last : (structs : List StructDef) (from to : Ty) (parts : PathParts) → path_type structs from parts ≡ Some to → has_distinct_letters parts ≡ is_without_repeats (last_letters parts)
distinct-last structs from to no_parts e = refl
distinct-last structs from to (more_parts (swizzle_part letters) no_parts) e = and-true (is_without_repeats letters)
distinct-last structs from to (more_parts (member_part number) no_parts) e = refl
distinct-last structs from to (more_parts (index_part index) no_parts) e = refl
distinct-last structs from to (more_parts (swizzle_part letters) (more_parts second rest)) e =
    let l : IsLong structs from to (swizzle_part letters) (more_parts second rest) = path-long structs from to (swizzle_part letters) second rest e in
    ap (λ b. b && has_distinct_letters (more_parts second rest)) (few-letters letters l.shorter) ∙ distinct-last structs l.middle to (more_parts second rest) l.path
distinct-last structs from to (more_parts (member_part number) (more_parts second rest)) e =
    let l : IsLong structs from to (member_part number) (more_parts second rest) = path-long structs from to (member_part number) second rest e in
    distinct-last structs l.middle to (more_parts second rest) l.path
distinct-last structs from to (more_parts (index_part index) (more_parts second rest)) e =
    let l : IsLong structs from to (index_part index) (more_parts second rest) = path-long structs from to (index_part index) second rest e in
    distinct-last structs l.middle to (more_parts second rest) l.path
