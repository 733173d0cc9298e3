-- Scalars and vectors of two to four components, which every program has; and the types of what a type is made of.
use Rattle.std.proofs.Common.{◌≡◌, refl, subst, arith, ℕ, ◌≤◌, ◌*◌, Bool, true, false, if◌then◌else◌, List, le_trans, le-mul_of_pos_right, mul_comm}
use Rattle.std.specs.Prelude.{◌==◌}
use Rattle.hl_meaning.specs.declared.ty.Kind.{Kind}
use Rattle.hl_meaning.specs.Types.{Ty, array_type, components_type, is_basic, is_void, scalar_type, struct_type, vector_type, void_type, with_kind}
use Rattle.hl_meaning.specs.Layout.{words_of}
use Rattle.hl_meaning.specs.Programs.{StructDef}
use Rattle.hl_meaning.specs.WellFormed.{IsDeclared, IsResult, most_words}

-- a scalar, or a vector of two to four components
abbrev pub IsShort : Ty → Type 0
IsShort (scalar_type kind) = Unit {0}
IsShort (vector_type kind size) = (2 ≤ size) × (size ≤ 4)
IsShort _ = ⊥

pub short-declared : (structs : List StructDef) (ty : Ty) → IsShort ty → IsDeclared structs ty
unfolding words_of
short-declared structs (scalar_type kind) h = (tt, omega arith)
short-declared structs (vector_type kind size) h = (h, omega arith)
short-declared structs void_type h = absurd h
short-declared structs (array_type element size) h = absurd h
short-declared structs (struct_type number) h = absurd h

pub declared-result : (structs : List StructDef) (ty : Ty) → IsDeclared structs ty → IsResult structs ty
declared-result structs void_type h = tt
declared-result structs (scalar_type kind) h = h
declared-result structs (vector_type kind size) h = h
declared-result structs (array_type element size) h = h
declared-result structs (struct_type number) h = h

pub result-declared : (structs : List StructDef) (ty : Ty) → is_void ty ≡ false → IsResult structs ty → IsDeclared structs ty
result-declared structs void_type e h = absurd (cc e)
result-declared structs (scalar_type kind) e h = h
result-declared structs (vector_type kind size) e h = h
result-declared structs (array_type element size) e h = h
result-declared structs (struct_type number) e h = h

pub short-result : (structs : List StructDef) (ty : Ty) → IsShort ty → IsResult structs ty
short-result structs ty h = declared-result structs ty (short-declared structs ty h)

pub result-short : (structs : List StructDef) (ty : Ty) → is_basic ty ≡ true → IsResult structs ty → IsShort ty
result-short structs (scalar_type kind) e h = tt
result-short structs (vector_type kind size) e h = h.0
result-short structs void_type e h = absurd (cc e)
result-short structs (array_type element size) e h = absurd (cc e)
result-short structs (struct_type number) e h = absurd (cc e)

pub short-kind : (kind : Kind) (ty : Ty) → IsShort ty → IsShort (with_kind kind ty)
short-kind kind (scalar_type k) h = tt
short-kind kind (vector_type k size) h = h
short-kind kind void_type h = absurd h
short-kind kind (array_type element size) h = absurd h
short-kind kind (struct_type number) h = absurd h

-- one to four components of a kind
pub components-short : (kind : Kind) (count : ℕ) → 1 ≤ count → count ≤ 4 → IsShort (components_type kind count)
components-short kind count h k = on (count == 1) refl
  where
    on : (one : Bool) → count == 1 ≡ one → IsShort (if one then scalar_type kind else vector_type kind count)
    on true e = tt
    on false e = (grind arith, k)

-- ---- parts

pub words-within : (m n most : ℕ) → 1 ≤ n → n * m ≤ most → m ≤ most
words-within m n most h k = le_trans (subst (λ x. m ≤ x) (mul_comm m n) (le-mul_of_pos_right m h)) k

pub element-declared : (structs : List StructDef) (element : Ty) (size : ℕ) → IsDeclared structs (array_type element size) → IsDeclared structs element
unfolding words_of
element-declared structs element size h = (h.0.0, words-within _ size most_words h.0.1 h.1)

pub component-declared : (structs : List StructDef) (kind : Kind) (size : ℕ) → IsDeclared structs (vector_type kind size) → IsDeclared structs (scalar_type kind)
component-declared structs kind size h = short-declared structs (scalar_type kind) tt
