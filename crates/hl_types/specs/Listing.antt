-- The kinds of a type, step by step.
use Rattle.std.specs.Prelude.{ℕ, ◌+◌, List, [], ◌∷◌, ◌++◌, drop, slice_get, unwrap_or}
use Rattle.hl_meaning.specs.declared.ty.Kind.{Kind}
use Rattle.hl_meaning.specs.Layout.{repeated}
use Rattle.hl_meaning.specs.Types.{Ty, array_type, scalar_type, struct_type, vector_type, void_type}
use Rattle.hl_types.specs.declared.kinds.Step.{Step}
use Rattle.hl_types.specs.declared.kinds.Step.TheVariants as forms
use Rattle.hl_types.specs.Kinds.{each_front, kinds_front, member_types, members_at, types_kinds}
use Rattle.hl_values.specs.StructTables.{Members}

-- the kinds behind a step
abbrev pub listed : List Members → Step → List Kind → List Kind
listed structs (forms.Members number at) kinds = kinds ++ types_kinds (kinds_front structs number) (member_types (drop at (members_at structs number)))
listed structs (forms.Repeat start more) kinds = kinds ++ repeated more (drop start kinds)

-- and behind all that is left, the last first
abbrev pub finished : List Members → List Step → List Kind → List Kind
finished structs [] kinds = kinds
finished structs (step ∷ steps) kinds = listed structs step (finished structs steps kinds)

-- How many steps a type takes, given those of each struct: one for each array, and for each struct one more than it has
-- members.
abbrev pub type_weight : List ℕ → Ty → ℕ
type_weight structs void_type = 0
type_weight structs (scalar_type kind) = 0
type_weight structs (vector_type kind size) = 0
type_weight structs (array_type element count) = 1 + type_weight structs element
type_weight structs (struct_type number) = unwrap_or (slice_get structs number) 0

abbrev pub types_weight : List ℕ → List Ty → ℕ
types_weight structs [] = 1
types_weight structs (ty ∷ types) = 1 + (type_weight structs ty + types_weight structs types)

-- those of the structs before a number
abbrev pub weights_front : List Members → (number : ℕ) → List ℕ
weights_front structs number = each_front types_weight structs number

-- how many are left with a step
abbrev pub step_weight : List Members → Step → ℕ
step_weight structs (forms.Members number at) = types_weight (weights_front structs number) (member_types (drop at (members_at structs number)))
step_weight structs (forms.Repeat start more) = 1

abbrev pub steps_weight : List Members → List Step → ℕ
steps_weight structs [] = 0
steps_weight structs (step ∷ steps) = step_weight structs step + steps_weight structs steps
