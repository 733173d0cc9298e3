-- What a scope knows, how it stands in a typed program's environment, and what a well-formed code is there.
use Rattle.std.proofs.Common.{◌≡◌, ℕ, ◌≤◌, Bool, true, false, List, [], ◌++◌, map, length, Option, None, Some}
use Rattle.std.specs.Prelude.{◌==◌, if◌then◌else◌, slice_get}
use Rattle.std.specs.List.{All}
use Rattle.hl_lexer.specs.declared.terminal.Terminal.TheVariants as terminals
use Rattle.hl_lexer.specs.Numbers.{greatest_number}
use Rattle.hl_lexer.specs.Tokens.{Lexeme}
use Rattle.hl_meaning.specs.Types.{Ty}
use Rattle.hl_meaning.specs.Trees.{PathPart, PathParts, Root, a_location, element_root, more_parts, no_parts, swizzle_part}
use Rattle.hl_meaning.specs.Layout.{kinds_of, words_of}
use Rattle.hl_meaning.specs.Places as places
use Rattle.hl_meaning.specs.Places.{is_atomic_root, is_writable_root, root_type}
use Rattle.hl_meaning.specs.Programs.{FunctionDef, Resource, StructDef}
use Rattle.hl_meaning.specs.WellFormed.{IsDeclared, IsExpr, IsPlace, IsResult, Param as Parameter, callee_params, callee_result}
use Rattle.hl_overload.specs.Choice.{Param}
use Rattle.hl_rules.specs.Nodes.{Code, a_place_code, a_value_code}
use Rattle.hl_rules.specs.Scopes.{BufferInfo, FunctionInfo, MemberInfo, Scope, StructInfo, VariableInfo, a_buffer_name, a_variable_name, sort_of, type_words}
use Rattle.hl_rules.specs.Source.{number_at, terminal_at, text_at}
use Rattle.hl_rules.specs.Statements.{struct_defs}
use Rattle.hl_rules.specs.Values.{Standing, a_place, member_number, member_type, members_of, no_place, params_known}

-- ---- scopes

-- numbers are words of 32 bits, and names have letters
pub record AreTokens (tokens : List Lexeme) : Type 0 where
  pub numbers : (index : ℕ) → number_at tokens index ≤ greatest_number
  pub names : (index : ℕ) → terminal_at tokens index ≡ terminals.Name → 1 ≤ length (text_at tokens index)

-- a function's parameters and its result have types
pub record IsKnownFunction (f : FunctionInfo) : Type 0 where
  pub params : (known : List Param) × (params_known f.params ≡ Some known)
  pub result : (ty : Ty) × (f.result ≡ Some ty)

-- All that a scope knows has types, and its numbers name what is there. So it is where no rule is broken so far.
pub record IsKnown (s : Scope) : Type 0 where
  pub tokens : AreTokens s.tokens
  pub variables : (name : List ℕ) (v : VariableInfo) → sort_of s name ≡ Some (a_variable_name v) → (ty : Ty) × (v.ty ≡ Some ty)
  pub numbers : (name : List ℕ) (v : VariableInfo) (number : ℕ) → sort_of s name ≡ Some (a_variable_name v) → v.number ≡ Some number → number ≤ greatest_number
  pub members : (number member : ℕ) (name : List ℕ) → member_number (members_of s number) name ≡ Some member → (ty : Ty) × (member_type s number name ≡ Some ty)
  pub buffers : (name : List ℕ) (number : ℕ) → sort_of s name ≡ Some (a_buffer_name number) → (buffer : BufferInfo) × (slice_get s.buffers number ≡ Some buffer)
  pub elements : (number : ℕ) (buffer : BufferInfo) → slice_get s.buffers number ≡ Some buffer → buffer.raw ≡ false → (ty : Ty) × (buffer.element ≡ Some ty)
  pub functions : (number : ℕ) (f : FunctionInfo) → slice_get s.functions number ≡ Some f → IsKnownFunction f

-- ---- environments

-- The structs that are known stand in the program: their members have the types that are known, and the types that are
-- made of them their words and kinds.
pub record FitsStructs (structs : List StructInfo) (defs : List StructDef) : Type 0 where
  pub members : (number member : ℕ) (d : StructInfo) (m : MemberInfo) (ty : Ty) → slice_get structs number ≡ Some d → slice_get d.members member ≡ Some m → m.ty ≡ Some ty → (places.member_type defs number member ≡ Some ty) × IsDeclared defs ty
  pub words : (ty : Ty) (words : ℕ) → type_words structs ty ≡ Some words → words_of defs ty ≡ words
  pub kinds : (ty : Ty) (words : ℕ) → type_words structs ty ≡ Some words → kinds_of defs ty ≡ kinds_of (struct_defs structs) ty

-- a buffer is a resource, read-only or writable, with elements of the type where it has some
pub record FitsBuffer (env : places.Scope) (number : ℕ) (buffer : BufferInfo) : Type 0 where
  pub resource : Resource
  pub there : slice_get env.resources number ≡ Some resource
  pub raw : resource.raw ≡ buffer.raw
  pub class : resource.class ≡ (if buffer.writable then 1 else 0)
  pub element : (ty : Ty) → buffer.raw ≡ false → buffer.element ≡ Some ty → (resource.element ≡ ty) × IsDeclared env.structs ty

abbrev pub is_element_root : Root → Bool
is_element_root (element_root resource index) = true
is_element_root _ = false

-- a variable is one of the program, and one that isn't `const` may be written
pub record FitsVariable (env : places.Scope) (v : VariableInfo) (ty : Ty) : Type 0 where
  pub type : root_type env v.root ≡ Some ty
  pub declared : IsDeclared env.structs ty
  pub writes : v.is_const ≡ false → is_writable_root env v.root ≡ true
  pub whole : is_element_root v.root ≡ false

abbrev pub param_for : Param → Option Parameter
param_for p = Some (record { ty = p.ty; copying = p.copying })

-- a function is one of the program, with parameters and a result of these types
pub record FitsFunction (env : places.Scope) (f : FunctionInfo) (def : Option FunctionDef) : Type 0 where
  pub params : (known : List Param) → params_known f.params ≡ Some known → (callee_params def ≡ map param_for known) × All (λ p. IsDeclared env.structs p.ty) known
  pub result : (ty : Ty) → f.result ≡ Some ty → (callee_result def ≡ Some ty) × IsResult env.structs ty

-- the number of the function whose body stands around
abbrev pub is_inside : Option ℕ → ℕ → Bool
is_inside None number = false
is_inside (Some inside) number = inside == number

-- What a scope knows stands in the environment of a typed program. A function can name those before it.
pub record Fits (env : places.Scope) (s : Scope) : Type 0 where
  pub more : List StructDef
  pub prefix : env.structs ≡ struct_defs s.structs ++ more
  pub structs : FitsStructs s.structs env.structs
  pub buffers : (number : ℕ) (buffer : BufferInfo) → slice_get s.buffers number ≡ Some buffer → FitsBuffer env number buffer
  pub variables : (name : List ℕ) (v : VariableInfo) (ty : Ty) → sort_of s name ≡ Some (a_variable_name v) → v.ty ≡ Some ty → FitsVariable env v ty
  pub functions : (number : ℕ) (f : FunctionInfo) → slice_get s.functions number ≡ Some f → is_inside s.inside number ≡ false → FitsFunction env f (slice_get env.functions number)
  pub result : s.result ≡ Some env.result

-- ---- codes

abbrev pub part_letters : PathPart → List ℕ
part_letters (swizzle_part letters) = letters
part_letters _ = []

-- the letters of the swizzle at the end of a path, if one is there
abbrev pub last_letters : PathParts → List ℕ
last_letters no_parts = []
last_letters (more_parts first no_parts) = part_letters first
last_letters (more_parts first (more_parts second rest)) = last_letters (more_parts second rest)

-- a well-formed place, of which this is known
pub record IsStanding (env : places.Scope) (writable atomic : Bool) (letters : List ℕ) (ty : Ty) (root : Root) (parts : PathParts) : Type 0 where
  pub is : IsPlace env (a_location ty root parts)
  pub writes : writable ≡ true → is_writable_root env root ≡ true
  pub shares : atomic ≡ true → is_atomic_root env root ≡ true
  pub ends : letters ≡ last_letters parts

-- a well-formed code, of which this is known
abbrev pub IsCode : places.Scope → Standing → Code → Type 0
IsCode env (a_place writable atomic letters) (a_place_code at (a_location ty root parts)) =
    IsStanding env writable atomic letters ty root parts
IsCode env no_place (a_value_code value) = IsExpr env value
IsCode env _ _ = ⊥
