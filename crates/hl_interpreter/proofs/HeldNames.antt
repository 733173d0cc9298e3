-- What numbers name in programs that are held.
use Rattle.std.proofs.Common.{◌≡◌, ◌∙◌, ap, ℕ, true, false, List, map, slice_get, Some, None}
use Rattle.std.proofs.lemmas.Option.{slice_get-map}
use Rattle.std.specs.Prelude.{option_and_then, option_map, unwrap_or}
use Rattle.hl_meaning.specs.declared.program.Constant.{Constant}
use Rattle.hl_meaning.specs.declared.program.Resource.{Resource}
use Rattle.hl_meaning.specs.declared.program.StructDef.{StructDef}
use Rattle.hl_meaning.specs.declared.program.Variable.{Variable}
use Rattle.hl_meaning.specs.Places.{element_type, variable_type}
use Rattle.hl_meaning.specs.Types.{struct_type, void_type}
use Rattle.hl_meaning.specs.Views.{plain_constant, plain_member, plain_resource, plain_struct, plain_structs, plain_ty, plain_variable}
use Rattle.hl_source.specs.Offsets.{member_of}

-- variables

pub variable-there : (variables : List Variable) (n : ℕ) (v : Variable) → slice_get variables n ≡ Some v → unwrap_or (variable_type (map plain_variable variables) n) void_type ≡ plain_ty v.ty
variable-there variables n v there = ap (λ o. unwrap_or (option_map (λ x. x.ty) o) void_type) (slice_get-map plain_variable variables n ∙ ap (option_map plain_variable) there)

pub variable-absent : (variables : List Variable) (n : ℕ) → slice_get variables n ≡ None → unwrap_or (variable_type (map plain_variable variables) n) void_type ≡ void_type
variable-absent variables n absent = ap (λ o. unwrap_or (option_map (λ x. x.ty) o) void_type) (slice_get-map plain_variable variables n ∙ ap (option_map plain_variable) absent)

-- constants

pub constant-there : (constants : List Constant) (n : ℕ) (k : Constant) → slice_get constants n ≡ Some k → slice_get (map plain_constant constants) n ≡ Some (plain_constant k)
constant-there constants n k there = slice_get-map plain_constant constants n ∙ ap (option_map plain_constant) there

pub constant-absent : (constants : List Constant) (n : ℕ) → slice_get constants n ≡ None → slice_get (map plain_constant constants) n ≡ None
constant-absent constants n absent = slice_get-map plain_constant constants n ∙ ap (option_map plain_constant) absent

-- buffers

pub raw-there : (resources : List Resource) (n : ℕ) (r : Resource) → slice_get resources n ≡ Some r → r.raw ≡ true → unwrap_or (option_and_then element_type (slice_get (map plain_resource resources) n)) void_type ≡ void_type
raw-there resources n r there raw =
    ap (λ o. unwrap_or (option_and_then element_type o) void_type) (slice_get-map plain_resource resources n ∙ ap (option_map plain_resource) there) ∙
    ap (λ b. unwrap_or (element_type (record (plain_resource r) { raw = b })) void_type) raw

pub element-there : (resources : List Resource) (n : ℕ) (r : Resource) → slice_get resources n ≡ Some r → r.raw ≡ false → unwrap_or (option_and_then element_type (slice_get (map plain_resource resources) n)) void_type ≡ plain_ty r.element
element-there resources n r there structured =
    ap (λ o. unwrap_or (option_and_then element_type o) void_type) (slice_get-map plain_resource resources n ∙ ap (option_map plain_resource) there) ∙
    ap (λ b. unwrap_or (element_type (record (plain_resource r) { raw = b })) void_type) structured

pub resource-absent : (resources : List Resource) (n : ℕ) → slice_get resources n ≡ None → unwrap_or (option_and_then element_type (slice_get (map plain_resource resources) n)) void_type ≡ void_type
resource-absent resources n absent =
    ap (λ o. unwrap_or (option_and_then element_type o) void_type) (slice_get-map plain_resource resources n ∙ ap (option_map plain_resource) absent)

-- members of structs

pub member-there : (structs : List StructDef) (n m : ℕ) (d : StructDef) → slice_get structs n ≡ Some d → member_of (plain_structs structs) (struct_type n) m ≡ option_map plain_member (slice_get d.members m)
member-there structs n m d there =
    ap (option_and_then (λ x. slice_get x.members m)) (slice_get-map plain_struct structs n ∙ ap (option_map plain_struct) there) ∙ slice_get-map plain_member d.members m

pub struct-absent : (structs : List StructDef) (n m : ℕ) → slice_get structs n ≡ None → member_of (plain_structs structs) (struct_type n) m ≡ None
struct-absent structs n m absent =
    ap (option_and_then (λ x. slice_get x.members m)) (slice_get-map plain_struct structs n ∙ ap (option_map plain_struct) absent)
