-- Names of variables and elements of buffers become places.
use Rattle.std.proofs.Common.{◌≡◌, ◌∙◌, refl, sym, ap, subst, ℕ, Bool, true, false, not, if◌then◌else◌, List, [], Option, None, Some}
use Rattle.std.specs.Prelude.{◌==◌, is_none, option_and_then, option_map, slice_get}
use Rattle.hl_meaning.specs.Types.{Ty, uint_type}
use Rattle.hl_meaning.specs.Trees.{Expr, Root, a_location, constant_root, element_root, no_parts, shared_root, type_of, variable_root}
use Rattle.hl_meaning.specs.Places as places
use Rattle.hl_meaning.specs.Places.{element_type, is_atomic_root, is_writable, is_writable_root, path_type, reached_type, root_type}
use Rattle.hl_meaning.specs.WellFormed.{IsExpr, IsRoot}
use Rattle.hl_rules.specs.DeclarationRules.{is_other_sort, is_variable_sort}
use Rattle.hl_rules.specs.Expressions.{element_place, variable_code}
use Rattle.hl_rules.specs.Nodes.{a_place_code}
use Rattle.hl_rules.specs.Scopes.{BufferInfo, Scope, Sort, VariableInfo, a_buffer_name, a_function_name, a_struct_name, a_variable_name, sort_of}
use Rattle.hl_rules.specs.Values.{a_place, element_value, is_shared_root, sort_value, value}
use Rattle.hl_rules.proofs.Becoming.{Becomes, IsValueIn}
use Rattle.hl_rules.proofs.Fitting.{Fits, FitsBuffer, FitsVariable, IsKnown, IsStanding, is_element_root}

-- ---- names

pub from-not : (b : Bool) → not b ≡ true → b ≡ false
from-not false e = refl
from-not true e = absurd (cc e)

whole-root : (env : places.Scope) (root : Root) → is_element_root root ≡ false → IsRoot env root
whole-root env (variable_root number) e = tt
whole-root env (constant_root number) e = tt
whole-root env (shared_root number) e = tt
whole-root env (element_root resource index) e = absurd (cc e)

shared-atomic : (env : places.Scope) (root : Root) → is_shared_root root ≡ true → is_atomic_root env root ≡ true
shared-atomic env (shared_root number) e = refl
shared-atomic env (variable_root number) e = absurd (cc e)
shared-atomic env (constant_root number) e = absurd (cc e)
shared-atomic env (element_root resource index) e = absurd (cc e)

-- the place where something begins
pub root-reached : (env : places.Scope) (root : Root) (ty : Ty) → root_type env root ≡ Some ty → reached_type env root no_parts ≡ Some ty
root-reached env root ty e = ap (λ o. option_and_then (λ t. path_type env.structs t no_parts) o) e

variable-stands : (env : places.Scope) (v : VariableInfo) (ty : Ty) → FitsVariable env v ty → IsStanding env (not v.is_const) (is_shared_root v.root) [] ty v.root no_parts
variable-stands env v ty f = record {
  is = (f.declared, whole-root env v.root f.whole, tt, root-reached env v.root ty f.type);
  writes = λ e. f.writes (from-not v.is_const e);
  shares = shared-atomic env v.root;
  ends = refl;
}

-- a name that is declared as a variable becomes its place
variable-becomes : (s : Scope) (at : ℕ) (sort : Option Sort) → ((v : VariableInfo) → sort ≡ Some (a_variable_name v) → (ty : Ty) × (v.ty ≡ Some ty)) → ((v : VariableInfo) (ty : Ty) → sort ≡ Some (a_variable_name v) → v.ty ≡ Some ty → (env : places.Scope) → Fits env s → FitsVariable env v ty) → is_none sort ≡ false → is_other_sort is_variable_sort sort ≡ false → Becomes s (sort_value sort) (variable_code at sort)
variable-becomes s at None known fits e h = absurd (cc e)
variable-becomes s at (Some (a_variable_name v)) known fits e h = record {
  to = a_place_code at (a_location (known v refl).0 v.root no_parts);
  is = ap (λ o. option_map (λ ty. a_place_code at (a_location ty v.root no_parts)) o) (known v refl).1;
  type = (known v refl).1;
  agrees = tt;
  fits = λ env f. variable-stands env v (known v refl).0 (fits v (known v refl).0 refl (known v refl).1 env f);
}
variable-becomes s at (Some (a_struct_name number)) known fits e h = absurd (cc h)
variable-becomes s at (Some (a_buffer_name number)) known fits e h = absurd (cc h)
variable-becomes s at (Some a_function_name) known fits e h = absurd (cc h)

pub name-becomes : (s : Scope) → IsKnown s → (at : ℕ) (name : List ℕ) → is_none (sort_of s name) ≡ false → is_other_sort is_variable_sort (sort_of s name) ≡ false → Becomes s (sort_value (sort_of s name)) (variable_code at (sort_of s name))
name-becomes s known at name e h =
    variable-becomes s at (sort_of s name) (λ v k. known.variables name v k) (λ v ty k l env f. f.variables name v ty k l) e h

-- ---- elements

element-root : (raw own : Bool) (element ty : Ty) → raw ≡ own → own ≡ false → element ≡ ty → (if raw then None else Some element) ≡ Some ty
element-root raw own element ty e h k = rw e (rw h (ap Some k))

one-class : (class : ℕ) (writable : Bool) → class ≡ (if writable then 1 else 0) → writable ≡ true → class == 1 ≡ true
one-class class true e h = ap (λ n. n == 1) e
one-class class false e h = absurd (cc h)

pub buffer-writes : (env : places.Scope) (number : ℕ) (buffer : BufferInfo) → FitsBuffer env number buffer → buffer.writable ≡ true → is_writable (slice_get env.resources number) ≡ true
buffer-writes env number buffer f e = ap (λ o. is_writable o) f.there ∙ one-class f.resource.class buffer.writable f.class e

pub element-stands : (env : places.Scope) (number : ℕ) (buffer : BufferInfo) (ty : Ty) (index : Expr) → FitsBuffer env number buffer → buffer.raw ≡ false → buffer.element ≡ Some ty → IsExpr env index → type_of index ≡ uint_type → IsStanding env buffer.writable buffer.writable [] ty (element_root number index) no_parts
element-stands env number buffer ty index f e h k l = record {
  is = (
    (f.element ty e h).1,
    (k, l),
    tt,
    root-reached env (element_root number index) ty
        (ap (λ o. option_and_then element_type o) f.there ∙ element-root f.resource.raw buffer.raw f.resource.element ty f.raw e (f.element ty e h).0),
  );
  writes = buffer-writes env number buffer f;
  shares = buffer-writes env number buffer f;
  ends = refl;
}

pub element-there : (s : Scope) (number : ℕ) (buffer : BufferInfo) (ty : Ty) (index : Expr) → slice_get s.buffers number ≡ Some buffer → buffer.raw ≡ false → buffer.element ≡ Some ty → element_place s number index ≡ Some (a_location ty (element_root number index) no_parts)
element-there s number buffer ty index e h k = rw e (rw h (rw k refl))

element-known : (buffer : BufferInfo) (ty : Ty) → buffer.raw ≡ false → buffer.element ≡ Some ty → value (Some ty) (a_place buffer.writable buffer.writable []) ≡ element_value buffer
element-known buffer ty e h = rw e (ap (λ o. value o (a_place buffer.writable buffer.writable [])) (sym h))

-- an element of a structured buffer becomes a place
pub element-becomes : (s : Scope) (at number : ℕ) (buffer : BufferInfo) (ty : Ty) (index : Expr) → slice_get s.buffers number ≡ Some buffer → buffer.raw ≡ false → buffer.element ≡ Some ty → IsValueIn s index → type_of index ≡ uint_type → Becomes s (element_value buffer) (option_map (a_place_code at) (element_place s number index))
element-becomes s at number buffer ty index there e h stands l =
    subst (λ v. Becomes s v (option_map (a_place_code at) (element_place s number index))) (element-known buffer ty e h) (record {
      to = a_place_code at (a_location ty (element_root number index) no_parts);
      is = ap (λ o. option_map (a_place_code at) o) (element-there s number buffer ty index there e h);
      type = refl;
      agrees = tt;
      fits = λ env f. element-stands env number buffer ty index (f.buffers number buffer there) e h (stands env f) l;
    })
