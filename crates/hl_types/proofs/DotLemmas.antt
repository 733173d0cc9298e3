-- What is known of `.` and a name, and what it breaks, by the type before it.
use Rattle.std.proofs.Common.{◌≡◌, ◌∙◌, refl, sym, ap, ℕ, Bool, false, true, not, is_some, length, List, [], ◌∷◌, Option, None, Some}
use Rattle.std.specs.Option.{is_none}
use Rattle.std.proofs.lemmas.Option.{same_Some}
use Rattle.hl_parser.specs.Trees.{Tree, a_postfix, absent, at_of}
use Rattle.hl_meaning.specs.declared.ty.HlType.{HlType}
use Rattle.hl_meaning.specs.declared.ty.Kind.{Kind}
use Rattle.hl_meaning.specs.declared.ty.HlType.TheVariants as types
use Rattle.hl_meaning.specs.Types.{Ty, array_type, component_count, components_type, scalar_type, struct_type, vector_type, void_type}
use Rattle.hl_meaning.specs.Views.{plain_ty}
use Rattle.hl_meaning.proofs.Plain.{plain_ty-Array, plain_ty-Scalar, plain_ty-Vector, plain_ty-Void}
use Rattle.hl_meaning.proofs.TypeLemmas.{type_cases}
use Rattle.hl_rules.specs.declared.found.Broken.{Broken}
use Rattle.hl_rules.specs.ExpressionRules.{is_no_member, is_no_swizzle}
use Rattle.hl_rules.specs.Expressions.{dotted_into, member_code, swizzled_code}
use Rattle.hl_rules.specs.Nodes.{Code}
use Rattle.hl_rules.specs.Operands.{kind_of}
use Rattle.hl_rules.specs.Parts.{a_dot, site}
use Rattle.hl_rules.specs.Rules.{noted}
use Rattle.hl_rules.specs.Scopes.{Scope, spelled}
use Rattle.hl_rules.specs.Sites.{expression_sites, used}
use Rattle.hl_rules.specs.Values.{Standing, dotted_value, letters_within, member_number, member_type, members_of, operand_of, stepped, swizzle_value, swizzled, type_in, value, value_of, valued}
use Rattle.hl_rules.proofs.Noting.{noted-append, noted-dot}
use Rattle.hl_types.specs.Postfix.{struct_number}
use Rattle.hl_values.specs.declared.typed.Typed.{Typed}
use Rattle.hl_values.specs.Known.{dotted_known, known, plain_known}
use Rattle.hl_values.specs.Noted.{noted_dot, noted_if, noted_use}
use Rattle.hl_values.specs.TypedViews.{IsTyped}
use Rattle.hl_values.specs.Views.{plain_value}
use Rattle.hl_values.proofs.ExpressionLemmas.{known-typed, typed-known}
use Rattle.hl_values.proofs.NoteLemmas.{used-noted}

-- ---- wholes

pub dot-typed : (s : Scope) (at mark name : ℕ) (o : Tree) (operand t : Typed) → IsTyped s o operand → plain_known t ≡ dotted_known s at name (plain_known operand) → IsTyped s (a_postfix at o mark (Some name) absent) t
dot-typed s at mark name o operand t h e =
    known-typed s (a_postfix at o mark (Some name) absent) t (e ∙ ap (λ x. dotted_known s at name x) (typed-known s o operand h))

pub dot-noted : (f : Option Broken) (s : Scope) (at mark name : ℕ) (o : Tree) → noted f (expression_sites s (a_postfix at o mark (Some name) absent)) ≡ noted_dot (noted_use (noted f (expression_sites s o)) (value_of s o) (at_of o)) s (type_in s o) name
dot-noted f s at mark name o =
    noted-append f (used s o (expression_sites s o)) (site s (a_dot o name) ∷ []) ∙
    (ap (λ g. noted g (site s (a_dot o name) ∷ [])) (used-noted f s o (expression_sites s o)) ∙
    noted-dot (noted_use (noted f (expression_sites s o)) (value_of s o) (at_of o)) s o name)

-- what is noted of what is held
pub dot-there : (old whole new : Option Broken) (s : Scope) (o : Tree) (operand : Typed) (name : ℕ) → IsTyped s o operand → old ≡ whole → new ≡ noted_dot old s (valued (plain_value operand).ty) name → new ≡ noted_dot whole s (type_in s o) name
dot-there old whole new s o operand name typed before h =
    h ∙ (ap (λ x. noted_dot x s (valued (plain_value operand).ty) name) before ∙ ap (λ v. noted_dot whole s (valued v.ty) name) typed.value)

-- what isn't there
pub none-found : {A : Type 0} (o : Option A) (b : Bool) → is_some o ≡ not b → b ≡ is_none o
none-found None true e = refl
none-found None false e = absurd (cc e)
none-found (Some x) true e = absurd (cc e)
none-found (Some x) false e = refl

-- what is noted of a name
pub dot-judged : (found mid new : Option Broken) (s : Scope) (name : ℕ) (word : List ℕ) (first second ty : Option Ty) (member swizzle : Bool) → word ≡ spelled s name → first ≡ ty → second ≡ ty → member ≡ is_no_member s word first → swizzle ≡ is_no_swizzle word second → mid ≡ noted_if found 26 member name → new ≡ noted_if mid 27 swizzle name → new ≡ noted_dot found s ty name
dot-judged found mid new s name word first second ty member swizzle spelt one two m z h k =
    k ∙ (ap (λ x. noted_if x 27 swizzle name) h ∙
    (ap (λ b. noted_if (noted_if found 26 b name) 27 swizzle name) (m ∙ (ap (λ w. is_no_member s w first) spelt ∙ ap (λ t. is_no_member s (spelled s name) t) one)) ∙
    ap (λ b. noted_if (noted_if found 26 (is_no_member s (spelled s name) ty) name) 27 b name) (z ∙ (ap (λ w. is_no_swizzle w second) spelt ∙ ap (λ t. is_no_swizzle (spelled s name) t) two))))

-- ---- structs

pub struct-other : (o : HlType) → ((n : ℕ) → o ≡ types.Struct n → ⊥) → None ≡ struct_number (plain_ty o)
struct-other = type_cases (λ o. ((n : ℕ) → o ≡ types.Struct n → ⊥) → None ≡ struct_number (plain_ty o))
    (λ other. sym (ap struct_number plain_ty-Void))
    (λ k other. sym (ap struct_number (plain_ty-Scalar k)))
    (λ k n other. sym (ap struct_number (plain_ty-Vector k n)))
    (λ e n other. sym (ap struct_number (plain_ty-Array e n)))
    (λ n other. absurd (other n refl))

pub member-other : (s : Scope) (name : List ℕ) (o : HlType) → ((n : ℕ) → o ≡ types.Struct n → ⊥) → ((e : HlType) (n : ℕ) → o ≡ types.Array e n → ⊥) → false ≡ is_no_member s name (Some (plain_ty o))
member-other s name = type_cases (λ o. ((n : ℕ) → o ≡ types.Struct n → ⊥) → ((e : HlType) (n : ℕ) → o ≡ types.Array e n → ⊥) → false ≡ is_no_member s name (Some (plain_ty o)))
    (λ struct array. sym (ap (λ t. is_no_member s name (Some t)) plain_ty-Void))
    (λ k struct array. sym (ap (λ t. is_no_member s name (Some t)) (plain_ty-Scalar k)))
    (λ k n struct array. sym (ap (λ t. is_no_member s name (Some t)) (plain_ty-Vector k n)))
    (λ e n struct array. absurd (array e n refl))
    (λ n struct array. absurd (struct n refl))

-- the struct of a number
struct-is : (t : Ty) (number : ℕ) → Some number ≡ struct_number t → t ≡ struct_type number
struct-is (struct_type n) number e = ap struct_type (same_Some n number (sym e))
struct-is void_type number e = absurd (cc e)
struct-is (scalar_type kind) number e = absurd (cc e)
struct-is (vector_type kind size) number e = absurd (cc e)
struct-is (array_type element size) number e = absurd (cc e)

-- a scalar or a vector
basic-is : (t own : Ty) → Some own ≡ operand_of (Some t) → t ≡ own
basic-is (scalar_type kind) own e = sym (same_Some own (scalar_type kind) e)
basic-is (vector_type kind size) own e = sym (same_Some own (vector_type kind size) e)
basic-is void_type own e = absurd (cc e)
basic-is (struct_type number) own e = absurd (cc e)
basic-is (array_type element size) own e = absurd (cc e)

-- ---- swizzles

by_components : (name : List ℕ) (t : Ty) → Some t ≡ operand_of (Some t) → is_no_swizzle name (Some t) ≡ is_none (letters_within (component_count t) name)
by_components name (scalar_type kind) e = refl
by_components name (vector_type kind size) e = refl
by_components name void_type e = absurd (cc e)
by_components name (struct_type number) e = absurd (cc e)
by_components name (array_type element size) e = absurd (cc e)

pub swizzle-basic : (name : List ℕ) (t own : Ty) → Some own ≡ operand_of (Some t) → is_no_swizzle name (Some t) ≡ is_none (letters_within (component_count own) name)
swizzle-basic name t own e =
    let same : t ≡ own = basic-is t own e in
    by_components name t (ap Some same ∙ e) ∙ ap (λ x. is_none (letters_within (component_count x) name)) same

pub swizzle-other : (name : List ℕ) (t : Ty) → None ≡ operand_of (Some t) → false ≡ is_no_swizzle name (Some t)
swizzle-other name (scalar_type kind) e = absurd (cc e)
swizzle-other name (vector_type kind size) e = absurd (cc e)
swizzle-other name void_type e = refl
swizzle-other name (struct_type number) e = refl
swizzle-other name (array_type element size) e = refl

-- ---- values

pub value-struct : (s : Scope) (name : List ℕ) (t : Ty) (standing : Standing) (number : ℕ) → Some number ≡ struct_number t → value (member_type s number name) (stepped standing) ≡ dotted_value s name (Some t) standing
value-struct s name t standing number e = ap (λ x. dotted_value s name (Some x) standing) (sym (struct-is t number e))

value-own : (s : Scope) (name : List ℕ) (t : Ty) (standing : Standing) → Some t ≡ operand_of (Some t) → swizzle_value (kind_of t) (letters_within (component_count t) name) standing ≡ dotted_value s name (Some t) standing
value-own s name (scalar_type kind) standing e = refl
value-own s name (vector_type kind size) standing e = refl
value-own s name void_type standing e = absurd (cc e)
value-own s name (struct_type number) standing e = absurd (cc e)
value-own s name (array_type element size) standing e = absurd (cc e)

pub value-basic : (s : Scope) (name : List ℕ) (t own : Ty) (standing : Standing) → Some own ≡ operand_of (Some t) → swizzle_value (kind_of own) (letters_within (component_count own) name) standing ≡ dotted_value s name (Some t) standing
value-basic s name t own standing e =
    let same : t ≡ own = basic-is t own e in
    value-own s name own standing (e ∙ ap (λ x. operand_of (Some x)) same) ∙ ap (λ x. dotted_value s name (Some x) standing) (sym same)

pub value-other : (s : Scope) (name : List ℕ) (t : Ty) (standing : Standing) → None ≡ struct_number t → None ≡ operand_of (Some t) → value None (stepped standing) ≡ dotted_value s name (Some t) standing
value-other s name void_type standing e h = refl
value-other s name (array_type element size) standing e h = refl
value-other s name (scalar_type kind) standing e h = absurd (cc h)
value-other s name (vector_type kind size) standing e h = absurd (cc h)
value-other s name (struct_type number) standing e h = absurd (cc e)

-- what a swizzle gives
pub swizzle-made : (kind : Kind) (given : Option (List ℕ)) (letters : List ℕ) (ty : Ty) (n : ℕ) (standing behind : Standing) (code : Option Code) → given ≡ Some letters → ty ≡ components_type kind n → n ≡ length letters → behind ≡ swizzled letters standing → known (value (Some ty) behind) None code ≡ known (swizzle_value kind given standing) None code
swizzle-made kind given letters ty n standing behind code g h k e =
    ap (λ t. known (value (Some t) behind) None code) (h ∙ ap (components_type kind) k) ∙
    (ap (λ x. known (value (Some (components_type kind (length letters))) x) None code) e ∙
    ap (λ o. known (swizzle_value kind o standing) None code) (sym g))

-- ---- code

pub code-struct : (s : Scope) (at : ℕ) (name : List ℕ) (t : Ty) (code : Code) (number : ℕ) → Some number ≡ struct_number t → member_code at (member_number (members_of s number) name) (member_type s number name) code ≡ dotted_into s at name t code
code-struct s at name t code number e = ap (λ x. dotted_into s at name x code) (sym (struct-is t number e))

code-own : (s : Scope) (at : ℕ) (name : List ℕ) (t : Ty) (code : Code) → Some t ≡ operand_of (Some t) → swizzled_code at (kind_of t) (letters_within (component_count t) name) code ≡ dotted_into s at name t code
code-own s at name (scalar_type kind) code e = refl
code-own s at name (vector_type kind size) code e = refl
code-own s at name void_type code e = absurd (cc e)
code-own s at name (struct_type number) code e = absurd (cc e)
code-own s at name (array_type element size) code e = absurd (cc e)

pub code-basic : (s : Scope) (at : ℕ) (name : List ℕ) (t own : Ty) (code : Code) → Some own ≡ operand_of (Some t) → swizzled_code at (kind_of own) (letters_within (component_count own) name) code ≡ dotted_into s at name t code
code-basic s at name t own code e =
    let same : t ≡ own = basic-is t own e in
    code-own s at name own code (e ∙ ap (λ x. operand_of (Some x)) same) ∙ ap (λ x. dotted_into s at name x code) (sym same)

pub code-other : (s : Scope) (at : ℕ) (name : List ℕ) (t : Ty) (code : Code) → None ≡ struct_number t → None ≡ operand_of (Some t) → None ≡ dotted_into s at name t code
code-other s at name void_type code e h = refl
code-other s at name (array_type element size) code e h = refl
code-other s at name (scalar_type kind) code e h = absurd (cc h)
code-other s at name (vector_type kind size) code e h = absurd (cc h)
code-other s at name (struct_type number) code e h = absurd (cc e)
