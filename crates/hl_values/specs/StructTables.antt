-- The structs that are declared so far.
use Rattle.std.specs.Prelude.{ℕ, List, [], ◌∷◌, ◌++◌, Option, map}
use Rattle.hl_meaning.specs.declared.ty.HlType.{HlType}
use Rattle.hl_values.specs.Views.{plain_type_if}
use Rattle.hl_rules.specs.Scopes.{MemberInfo, StructInfo, members_words}

-- a member: its name and its type, where it has one
abbrev pub Member : Type 0
Member = List ℕ × Option HlType

-- a struct: its name and its members
abbrev pub Members : Type 0
Members = List ℕ × List Member

abbrev pub plain_member : Member → MemberInfo
plain_member m = record { name = m.0; ty = plain_type_if m.1 }

-- a struct behind others
abbrev pub plain_struct : List StructInfo → Members → StructInfo
plain_struct before d = record {
  name = d.0;
  members = map plain_member d.1;
  words = members_words before (map plain_member d.1);
}

abbrev pub structs_behind : List StructInfo → List Members → List StructInfo
structs_behind before [] = before
structs_behind before (d ∷ structs) = structs_behind (before ++ plain_struct before d ∷ []) structs

abbrev pub plain_structs : List Members → List StructInfo
plain_structs structs = structs_behind [] structs
