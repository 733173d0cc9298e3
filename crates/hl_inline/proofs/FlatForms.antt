-- A form that isn't a call stays well formed where values take the place of its operands, and the variables of its
-- function stand further on among those of a program without calls.
use Rattle.std.proofs.Common.{◌≡◌, ◌∙◌, refl, sym, ap, subst, ℕ, ◌+◌, Bool, true, false, List, [], ◌∷◌, ◌++◌, length, drop, Option, None, Some, slice_get}
use Rattle.std.specs.Prelude.{◌&&◌, not, if◌then◌else◌, nat_lt, IsTrue, option_and_then, option_map}
use Rattle.std.proofs.lemmas.Bool.{false≢true, true≢false}
use Rattle.std.proofs.lemmas.Option.{none-some}
use Rattle.lane_core.specs.declared.event.AtomicKind.{AtomicKind}
use Rattle.lane_core.specs.declared.event.AtomicKind.TheVariants.{Add, And, Or, Xor, IMin, IMax, UMin, UMax, Exchange}
use Rattle.hl_meaning.specs.declared.ty.Kind.TheVariants.{Uint as UintKind}
use Rattle.hl_meaning.specs.Types.{Ty, array_type, components_type, scalar_type, struct_type, ty_eq, vector_type, void_type}
use Rattle.hl_meaning.specs.Conversions.{converts}
use Rattle.hl_meaning.specs.Operators.{binary_type, unary_type}
use Rattle.hl_meaning.specs.Intrinsics.{TakesAndGives}
use Rattle.hl_meaning.specs.Trees.{Expr, Exprs, Form, Location, MaybeExpr, MaybeLocation, PathParts, Root, Target, a_location, an_expr, atomic_form, binary_form, build_form, bytes_target, call_form, choose_form, constant_root, convert_form, element_root, index_part, intrinsic_form, literal_form, member_part, method_form, more_exprs, more_parts, no_expr, no_exprs, no_location, no_parts, pick_form, place_target, place_type, read_form, shared_root, some_expr, some_location, swizzle_part, type_of, types_of, unary_form, variable_root, write_form}
use Rattle.hl_meaning.specs.Programs.{Constant, StructDef, Variable}
use Rattle.hl_meaning.specs.Places.{Scope, has_distinct_letters, has_literal_indexes, is_atomic_place, is_end, is_index_within, is_literal, is_writable, is_writable_place, is_without_repeats, part_type, path_type, reached_type, root_type, variable_type}
use Rattle.hl_meaning.specs.Views.{exprs_of}
use Rattle.hl_meaning.specs.WellFormed.{AreExprs, AreParts, Assigns, Builds, IsCompared, IsExpr, IsForm, IsMethod, IsOriginal, IsPlace, IsResult, IsTarget, IsWord}
use Rattle.typed_laws.proofs.OperandExpressions.{expr_if_list, exprs_list, operand_exprs, place_if_exprs}
use Rattle.hl_inline.specs.Operands.{behind_expr_if, behind_target, filled, filled_expr_if, filled_parts, filled_place, filled_place_if, filled_root, filled_target, first_expr}
use Rattle.typed_laws.specs.Operands.{parts_exprs, place_exprs, target_exprs}
use Rattle.typed_laws.proofs.OperandValues.{is_call_form}
use Rattle.typed_laws.proofs.Typed.{and_left, and_right, never}
use Rattle.hl_inline.proofs.FilledLemmas.{place_type_filled}

-- what can be named in a program without calls, which has the structs and the memory of another
abbrev pub scope_over : Scope → List Variable → Scope
scope_over s V = record {
  structs = s.structs;
  resources = s.resources;
  shared = s.shared;
  constants = [];
  functions = [];
  variables = V;
  result = void_type;
}

-- The variables of a function stand among others from a number on, and the constants are the first of them.
pub record StandsFrom (constants : List Constant) (own V : List Variable) (first : ℕ) : Type 0 where
  pub own_type : (v : ℕ) (ty : Ty) → variable_type own v ≡ Some ty → variable_type V (first + v) ≡ Some ty
  pub constant_type : (k : ℕ) (ty : Ty) → option_map (λ c. c.variable.ty) (slice_get constants k) ≡ Some ty → variable_type V k ≡ Some ty

-- a value that may stand where an expression does
pub record Replaces (S : Scope) (e value : Expr) : Type 0 where
  pub well : IsExpr S value
  pub same : type_of value ≡ type_of e
  pub index : (size : ℕ) → IsTrue (is_index_within size e) → IsTrue (is_index_within size value)

-- values that may stand where expressions do, each where one does
abbrev pub ReplaceAll : Scope → List Expr → List Expr → Type 0
ReplaceAll S [] [] = Unit {0}
ReplaceAll S [] (value ∷ values) = ⊥
ReplaceAll S (e ∷ es) [] = ⊥
ReplaceAll S (e ∷ es) (value ∷ values) = Replaces S e value × ReplaceAll S es values

-- the same with more values behind them
abbrev pub ReplaceFirst : Scope → List Expr → List Expr → Type 0
ReplaceFirst S [] values = Unit {0}
ReplaceFirst S (e ∷ es) [] = ⊥
ReplaceFirst S (e ∷ es) (value ∷ values) = Replaces S e value × ReplaceFirst S es values

pub all_first : (S : Scope) (es values : List Expr) → ReplaceAll S es values → ReplaceFirst S es values
all_first S [] values r = tt
all_first S (e ∷ es) [] r = absurd r
all_first S (e ∷ es) (value ∷ values) r = (r.0, all_first S es values r.1)

pub first_front : (S : Scope) (es more values : List Expr) → ReplaceFirst S (es ++ more) values → ReplaceFirst S es values
first_front S [] more values r = tt
first_front S (e ∷ es) more [] r = absurd r
first_front S (e ∷ es) more (value ∷ values) r = (r.0, first_front S es more values r.1)

pub first_back : (S : Scope) (es more values : List Expr) → ReplaceFirst S (es ++ more) values → ReplaceFirst S more (drop (length es) values)
first_back S [] more values r = r
first_back S (e ∷ es) more [] r = absurd r
first_back S (e ∷ es) more (value ∷ values) r = first_back S es more values r.1

pub first_replaces : (S : Scope) (e : Expr) (es values : List Expr) → ReplaceFirst S (e ∷ es) values → Replaces S e (first_expr values)
first_replaces S e es [] r = absurd r
first_replaces S e es (value ∷ values) r = r.0

pub rest_replaces : (S : Scope) (e : Expr) (es values : List Expr) → ReplaceFirst S (e ∷ es) values → ReplaceFirst S es (drop 1 values)
rest_replaces S e es [] r = absurd r
rest_replaces S e es (value ∷ values) r = r.1

-- parts of places

end_filled : (parts : PathParts) (values : List Expr) → is_end (filled_parts parts values) ≡ is_end parts
end_filled no_parts values = refl
end_filled (more_parts (index_part index) rest) values = refl
end_filled (more_parts (member_part number) rest) values = refl
end_filled (more_parts (swizzle_part letters) rest) values = refl

letters_filled : (parts : PathParts) (values : List Expr) → has_distinct_letters (filled_parts parts values) ≡ has_distinct_letters parts
letters_filled no_parts values = refl
letters_filled (more_parts (index_part index) rest) values = letters_filled rest (drop 1 values)
letters_filled (more_parts (member_part number) rest) values = letters_filled rest values
letters_filled (more_parts (swizzle_part letters) rest) values = ap (λ b. is_without_repeats letters && b) (letters_filled rest values)

-- steps that lead on alike
leads_on : (f g : Ty → Option Ty) (o : Option Ty) (to : Ty) → ((t : Ty) → f t ≡ Some to → g t ≡ Some to) → option_and_then f o ≡ Some to → option_and_then g o ≡ Some to
leads_on f g None to h e = absurd (none-some to e)
leads_on f g (Some t) to h e = h t e

leads_from : (f : Ty → Option Ty) (o u : Option Ty) (to : Ty) → ((t : Ty) → o ≡ Some t → u ≡ Some t) → option_and_then f o ≡ Some to → option_and_then f u ≡ Some to
leads_from f None u to h e = absurd (none-some to e)
leads_from f (Some t) u to h e = ap (option_and_then f) (h t refl) ∙ e

unless_longer : (stops ends other : Bool) (o u : Option Ty) (to : Ty) → other ≡ ends → (o ≡ Some to → u ≡ Some to) → (if stops && not ends then None else o) ≡ Some to →
    (if stops && not other then None else u) ≡ Some to
unless_longer stops ends other o u to same h e = subst (λ b. (if stops && not b then None else u) ≡ Some to) (sym same) (by_test (stops && not ends) e)
  where
    by_test : (b : Bool) → (if b then None else o) ≡ Some to → (if b then None else u) ≡ Some to
    by_test true e = absurd (none-some to e)
    by_test false e = h e

-- a value as an index
index_filled : (S : Scope) (structs : List StructDef) (ty : Ty) (index value : Expr) (t : Ty) → Replaces S index value → part_type structs ty (index_part index) ≡ Some t → part_type structs ty (index_part value) ≡ Some t
index_filled S structs void_type index value t r e = absurd (none-some t e)
index_filled S structs (scalar_type kind) index value t r e = absurd (none-some t e)
index_filled S structs (vector_type kind size) index value t r e = within (is_index_within size index) (is_index_within size value) (scalar_type kind) t (r.index size) e
  where
    within : (a b : Bool) (element t : Ty) → (IsTrue a → IsTrue b) → (if a then Some element else None) ≡ Some t → (if b then Some element else None) ≡ Some t
    within true true element t h e = e
    within true false element t h e = absurd (false≢true (h refl))
    within false b element t h e = absurd (none-some t e)
index_filled S structs (array_type element size) index value t r e = within (is_index_within size index) (is_index_within size value) element t (r.index size) e
  where
    within : (a b : Bool) (element t : Ty) → (IsTrue a → IsTrue b) → (if a then Some element else None) ≡ Some t → (if b then Some element else None) ≡ Some t
    within true true element t h e = e
    within true false element t h e = absurd (false≢true (h refl))
    within false b element t h e = absurd (none-some t e)
index_filled S structs (struct_type number) index value t r e = absurd (none-some t e)

-- the steps of a place lead to the same type
path_filled : (S : Scope) (structs : List StructDef) (parts : PathParts) (values : List Expr) (to : Ty) → ReplaceFirst S (parts_exprs parts) values → (ty : Ty) →
    path_type structs ty parts ≡ Some to → path_type structs ty (filled_parts parts values) ≡ Some to
path_filled S structs no_parts values to r ty e = e
path_filled S structs (more_parts (index_part index) rest) [] to r ty e = absurd r
path_filled S structs (more_parts (index_part index) rest) (value ∷ values) to r ty e =
    leads_on (λ t. path_type structs t rest) (λ t. path_type structs t (filled_parts rest values)) (part_type structs ty (index_part value)) to (λ t. path_filled S structs rest values to r.1 t)
    (leads_from (λ t. path_type structs t rest) (part_type structs ty (index_part index)) (part_type structs ty (index_part value)) to (λ t. index_filled S structs ty index value t r.0) e)
path_filled S structs (more_parts (member_part number) rest) values to r ty e =
    leads_on (λ t. path_type structs t rest) (λ t. path_type structs t (filled_parts rest values)) (part_type structs ty (member_part number)) to (λ t. path_filled S structs rest values to r t) e
path_filled S structs (more_parts (swizzle_part letters) rest) values to r ty e =
    unless_longer (nat_lt 1 (length letters)) (is_end rest) (is_end (filled_parts rest values)) _ _ to (end_filled rest values)
    (leads_on (λ t. path_type structs t rest) (λ t. path_type structs t (filled_parts rest values)) (part_type structs ty (swizzle_part letters)) to (λ t. path_filled S structs rest values to r t)) e

-- values in place of a list of expressions

exprs_filled : (S : Scope) (parts : Exprs) (values : List Expr) → ReplaceAll S (exprs_list parts) values → AreExprs S (exprs_of values) × (types_of (exprs_of values) ≡ types_of parts)
exprs_filled S no_exprs [] r = (tt, refl)
exprs_filled S no_exprs (value ∷ values) r = absurd r
exprs_filled S (more_exprs first rest) [] r = absurd r
exprs_filled S (more_exprs first rest) (value ∷ values) r = let others = exprs_filled S rest values r.1 in ((r.0.well, others.0), both (type_of value) (type_of first) (types_of (exprs_of values)) (types_of rest) r.0.same others.1)
  where
    both : (t u : Ty) (ts us : List Ty) → t ≡ u → ts ≡ us → t ∷ ts ≡ u ∷ us
    both t u ts us e e' = ap (λ x. x ∷ ts) e ∙ ap (λ xs. u ∷ xs) e'

-- parts whose indexes are literals name nothing
literal_parts : (s S : Scope) (parts : PathParts) → S.structs ≡ s.structs → IsTrue (has_literal_indexes parts) → AreParts s parts → AreParts S parts
literal_parts s S no_parts e literal h = tt
literal_parts s S (more_parts (member_part number) rest) e literal h = (tt, literal_parts s S rest e literal h.1)
literal_parts s S (more_parts (swizzle_part letters) rest) e literal h = (tt, literal_parts s S rest e literal h.1)
literal_parts s S (more_parts (index_part index) rest) e literal h =
    ((literal_index index (and_left (is_literal index) (has_literal_indexes rest) literal) h.0.0, h.0.1), literal_parts s S rest e (and_right (is_literal index) (has_literal_indexes rest) literal) h.1)
  where
    literal_index : (index : Expr) → IsTrue (is_literal index) → IsExpr s index → IsExpr S index
    literal_index (an_expr ty at (literal_form word)) literal h = (subst (λ structs. IsResult structs ty) (sym e) h.0, h.1)
    literal_index (an_expr ty at (read_form place)) literal h = never literal
    literal_index (an_expr ty at (write_form to op common value old)) literal h = never literal
    literal_index (an_expr ty at (convert_form value)) literal h = never literal
    literal_index (an_expr ty at (unary_form op value)) literal h = never literal
    literal_index (an_expr ty at (binary_form op left right)) literal h = never literal
    literal_index (an_expr ty at (choose_form cond consequent alternative)) literal h = never literal
    literal_index (an_expr ty at (build_form parts)) literal h = never literal
    literal_index (an_expr ty at (pick_form value parts)) literal h = never literal
    literal_index (an_expr ty at (call_form function args)) literal h = never literal
    literal_index (an_expr ty at (intrinsic_form number args)) literal h = never literal
    literal_index (an_expr ty at (method_form resource count address value)) literal h = never literal
    literal_index (an_expr ty at (atomic_form target kind compare value original)) literal h = never literal

module _ (s : Scope) (V : List Variable) (first : ℕ) (stands : StandsFrom s.constants s.variables V first) where
  parts_filled : (parts : PathParts) (values : List Expr) → AreParts s parts → ReplaceFirst (scope_over s V) (parts_exprs parts) values → AreParts (scope_over s V) (filled_parts parts values)
  parts_filled no_parts values h r = tt
  parts_filled (more_parts (index_part index) rest) [] h r = absurd r
  parts_filled (more_parts (index_part index) rest) (value ∷ values) h r = ((r.0.well, r.0.same ∙ h.0.1), parts_filled rest values h.1 r.1)
  parts_filled (more_parts (member_part number) rest) values h r = (tt, parts_filled rest values h.1 r)
  parts_filled (more_parts (swizzle_part letters) rest) values h r = (tt, parts_filled rest values h.1 r)

  -- places

  root_filled : (root : Root) (values : List Expr) (ty : Ty) → root_type s root ≡ Some ty → root_type (scope_over s V) (filled_root first root values) ≡ Some ty
  root_filled (variable_root number) values ty e = stands.own_type number ty e
  root_filled (constant_root number) values ty e = stands.constant_type number ty e
  root_filled (shared_root number) values ty e = e
  root_filled (element_root resource index) values ty e = e

  reached_filled : (root : Root) (parts : PathParts) (values behind : List Expr) (ty : Ty) → ReplaceFirst (scope_over s V) (parts_exprs parts) behind → reached_type s root parts ≡ Some ty →
      reached_type (scope_over s V) (filled_root first root values) (filled_parts parts behind) ≡ Some ty
  reached_filled root parts values behind ty r e =
      leads_on (λ t. path_type s.structs t parts) (λ t. path_type s.structs t (filled_parts parts behind)) (root_type (scope_over s V) (filled_root first root values)) ty (path_filled (scope_over s V) s.structs parts behind ty r)
      (leads_from (λ t. path_type s.structs t parts) (root_type s root) (root_type (scope_over s V) (filled_root first root values)) ty (root_filled root values) e)

  pub place_filled : (place : Location) (values : List Expr) → IsPlace s place → ReplaceFirst (scope_over s V) (place_exprs place) values → IsPlace (scope_over s V) (filled_place first place values)
  place_filled (a_location ty (variable_root number) parts) values h r = (h.0, tt, parts_filled parts values h.2 r, reached_filled (variable_root number) parts values values ty r h.3)
  place_filled (a_location ty (constant_root number) parts) values h r = (h.0, tt, parts_filled parts values h.2 r, reached_filled (constant_root number) parts values values ty r h.3)
  place_filled (a_location ty (shared_root number) parts) values h r = (h.0, tt, parts_filled parts values h.2 r, reached_filled (shared_root number) parts values values ty r h.3)
  place_filled (a_location ty (element_root resource index) parts) [] h r = absurd r
  place_filled (a_location ty (element_root resource index) parts) (value ∷ values) h r =
      (h.0, (r.0.well, r.0.same ∙ h.1.1), parts_filled parts values h.2 r.1, reached_filled (element_root resource index) parts (value ∷ values) values ty r.1 h.3)

  pub writable_filled : (place : Location) (values : List Expr) → IsTrue (is_writable_place s place) → IsTrue (is_writable_place (scope_over s V) (filled_place first place values))
  writable_filled (a_location ty (variable_root number) parts) values h = letters_filled parts values ∙ h
  writable_filled (a_location ty (constant_root number) parts) values h = never h
  writable_filled (a_location ty (shared_root number) parts) values h = letters_filled parts values ∙ h
  writable_filled (a_location ty (element_root resource index) parts) values h = ap (λ b. is_writable (slice_get s.resources resource) && b) (letters_filled parts (drop 1 values)) ∙ h

  atomic_filled : (place : Location) (values : List Expr) → IsTrue (is_atomic_place s place) → IsTrue (is_atomic_place (scope_over s V) (filled_place first place values))
  atomic_filled (a_location ty (variable_root number) parts) values h = never h
  atomic_filled (a_location ty (constant_root number) parts) values h = never h
  atomic_filled (a_location ty (shared_root number) parts) values h = h
  atomic_filled (a_location ty (element_root resource index) parts) values h = h

  -- parts of forms

  method_filled : (resource : ℕ) (words ty : Ty) (value : MaybeExpr) (values : List Expr) → IsMethod s resource words ty value → ReplaceFirst (scope_over s V) (expr_if_list value) values →
      IsMethod (scope_over s V) resource words ty (filled_expr_if value values)
  method_filled resource words ty no_expr values h r = h
  method_filled resource words ty (some_expr value) values h r =
      let w = first_replaces (scope_over s V) value [] values r in (h.0, h.1, w.well, w.same ∙ h.3)

  target_filled : (ty : Ty) (target : Target) (values : List Expr) → IsTarget s ty target → ReplaceFirst (scope_over s V) (target_exprs target) values → IsTarget (scope_over s V) ty (filled_target first target values)
  target_filled ty (place_target place) values h r = (place_filled place values h.0 r, place_type_filled first place values ∙ h.1, atomic_filled place values h.2)
  target_filled ty (bytes_target resource address) values h r = let w = first_replaces (scope_over s V) address [] values r in (h.0, w.well, w.same ∙ h.2)

  compared_filled : (ty : Ty) (kind : Option AtomicKind) (compare : MaybeExpr) (values : List Expr) → IsCompared s ty kind compare → ReplaceFirst (scope_over s V) (expr_if_list compare) values →
      IsCompared (scope_over s V) ty kind (filled_expr_if compare values)
  compared_filled ty (Some kind) no_expr values h r = h
  compared_filled ty (Some kind) (some_expr compare) values h r = absurd h
  compared_filled ty None no_expr values h r = absurd h
  compared_filled ty None (some_expr compare) values h r = let w = first_replaces (scope_over s V) compare [] values r in (w.well, w.same ∙ h.1)

  -- whatever the kind, the original value goes to a place
  none_filled : (target other : Target) (kind : Option AtomicKind) → IsOriginal s target kind no_location → IsOriginal (scope_over s V) other kind no_location
  none_filled target other None h = tt
  none_filled target other (Some Add) h = tt
  none_filled target other (Some And) h = tt
  none_filled target other (Some Or) h = tt
  none_filled target other (Some Xor) h = tt
  none_filled target other (Some IMin) h = tt
  none_filled target other (Some IMax) h = tt
  none_filled target other (Some UMin) h = tt
  none_filled target other (Some UMax) h = tt
  none_filled target other (Some Exchange) h = absurd h

  behind_place : (place original : Location) (kind : Option AtomicKind) (at to : List Expr) → ReplaceFirst (scope_over s V) (place_exprs original) to →
      IsOriginal s (place_target place) kind (some_location original) → IsOriginal (scope_over s V) (place_target (filled_place first place at)) kind (some_location (filled_place first original to))
  behind_place place original kind at to r = by_kind kind
    where
      given : IsPlace s original × IsTrue (is_writable_place s original) × (place_type original ≡ place_type place) →
          IsPlace (scope_over s V) (filled_place first original to) × IsTrue (is_writable_place (scope_over s V) (filled_place first original to)) × (place_type (filled_place first original to) ≡ place_type (filled_place first place at))
      given h = (place_filled original to h.0 r, writable_filled original to h.1, place_type_filled first original to ∙ (h.2 ∙ sym (place_type_filled first place at)))

      by_kind : (kind : Option AtomicKind) → IsOriginal s (place_target place) kind (some_location original) →
          IsOriginal (scope_over s V) (place_target (filled_place first place at)) kind (some_location (filled_place first original to))
      by_kind None h = given h
      by_kind (Some Add) h = given h
      by_kind (Some And) h = given h
      by_kind (Some Or) h = given h
      by_kind (Some Xor) h = given h
      by_kind (Some IMin) h = given h
      by_kind (Some IMax) h = given h
      by_kind (Some UMin) h = given h
      by_kind (Some UMax) h = given h
      by_kind (Some Exchange) h = given h

  behind_bytes : (resource other : ℕ) (address index : Expr) (original : Location) (kind : Option AtomicKind) (to : List Expr) → ReplaceFirst (scope_over s V) (place_exprs original) to →
      IsOriginal s (bytes_target resource address) kind (some_location original) → IsOriginal (scope_over s V) (bytes_target other index) kind (some_location (filled_place first original to))
  behind_bytes resource other address index original kind to r = by_kind kind
    where
      given : IsPlace s original × IsTrue (is_writable_place s original) × IsWord (place_type original) →
          IsPlace (scope_over s V) (filled_place first original to) × IsTrue (is_writable_place (scope_over s V) (filled_place first original to)) × IsWord (place_type (filled_place first original to))
      given h = (place_filled original to h.0 r, writable_filled original to h.1, subst IsWord (sym (place_type_filled first original to)) h.2)

      by_kind : (kind : Option AtomicKind) → IsOriginal s (bytes_target resource address) kind (some_location original) →
          IsOriginal (scope_over s V) (bytes_target other index) kind (some_location (filled_place first original to))
      by_kind None h = given h
      by_kind (Some Add) h = given h
      by_kind (Some And) h = given h
      by_kind (Some Or) h = given h
      by_kind (Some Xor) h = given h
      by_kind (Some IMin) h = given h
      by_kind (Some IMax) h = given h
      by_kind (Some UMin) h = given h
      by_kind (Some UMax) h = given h
      by_kind (Some Exchange) h = given h

  original_filled : (target : Target) (kind : Option AtomicKind) (original : MaybeLocation) (at to : List Expr) → IsOriginal s target kind original → ReplaceFirst (scope_over s V) (place_if_exprs original) to →
      IsOriginal (scope_over s V) (filled_target first target at) kind (filled_place_if first original to)
  original_filled target kind no_location at to h r = none_filled target (filled_target first target at) kind h
  original_filled (place_target place) kind (some_location original) at to h r = behind_place place original kind at to r h
  original_filled (bytes_target resource address) kind (some_location original) at to h r = behind_bytes resource resource address (first_expr at) original kind to r h

  -- forms

  write_filled : (ty : Ty) (to : Location) (op : Option ℕ) (common : Ty) (value : Expr) (old : Bool) (values : List Expr) → IsForm s ty (write_form to op common value old) →
      ReplaceFirst (scope_over s V) (place_exprs to ++ value ∷ []) values → IsForm (scope_over s V) ty (filled first (write_form to op common value old) values)
  write_filled ty to op common value old values h r =
      let w = first_replaces (scope_over s V) value [] (drop (length (place_exprs to)) values) (first_back (scope_over s V) (place_exprs to) (value ∷ []) values r) in (
        place_filled to values h.0 (first_front (scope_over s V) (place_exprs to) (value ∷ []) values r),
        writable_filled to values h.1,
        place_type_filled first to values ∙ h.2,
        w.well,
        subst (λ t. Assigns op ty common t old) (sym w.same) h.4,
      )

  convert_filled : (ty : Ty) (value v : Expr) → IsForm s ty (convert_form value) → Replaces (scope_over s V) value v → IsForm (scope_over s V) ty (convert_form v)
  convert_filled ty value v h w = (w.well, subst (λ t. IsTrue (converts t ty)) (sym w.same) h.1, subst (λ t. IsTrue (not (ty_eq t ty))) (sym w.same) h.2)

  unary_filled : (ty : Ty) (op : ℕ) (value v : Expr) → IsForm s ty (unary_form op value) → Replaces (scope_over s V) value v → IsForm (scope_over s V) ty (unary_form op v)
  unary_filled ty op value v h w = (w.well, ap (unary_type op) w.same ∙ h.1)

  binary_filled : (ty : Ty) (op : ℕ) (left right a b : Expr) → IsForm s ty (binary_form op left right) → Replaces (scope_over s V) left a → Replaces (scope_over s V) right b → IsForm (scope_over s V) ty (binary_form op a b)
  binary_filled ty op left right a b h v w = (v.well, w.well, v.same ∙ (h.2 ∙ sym w.same), ap (binary_type op) v.same ∙ h.3)

  choose_filled : (ty : Ty) (cond consequent alternative a b d : Expr) → IsForm s ty (choose_form cond consequent alternative) → Replaces (scope_over s V) cond a → Replaces (scope_over s V) consequent b →
      Replaces (scope_over s V) alternative d → IsForm (scope_over s V) ty (choose_form a b d)
  choose_filled ty cond consequent alternative a b d h u v w = (u.well, v.well, w.well, u.same ∙ h.3, v.same ∙ h.4, w.same ∙ h.5, h.6)

  build_filled : (ty : Ty) (parts : Exprs) (values : List Expr) → IsForm s ty (build_form parts) → ReplaceAll (scope_over s V) (exprs_list parts) values → IsForm (scope_over s V) ty (build_form (exprs_of values))
  build_filled ty parts values h r = let f = exprs_filled (scope_over s V) parts values r in (f.0, subst (λ types. Builds s.structs ty types) (sym f.1) h.1)

  pick_filled : (ty : Ty) (value v : Expr) (parts : PathParts) → IsForm s ty (pick_form value parts) → Replaces (scope_over s V) value v → IsForm (scope_over s V) ty (pick_form v parts)
  pick_filled ty value v parts h w = (w.well, literal_parts s (scope_over s V) parts refl h.2 h.1, h.2, h.3, ap (λ t. path_type s.structs t parts) w.same ∙ h.4)

  intrinsic_filled : (ty : Ty) (number : ℕ) (args : Exprs) (values : List Expr) → IsForm s ty (intrinsic_form number args) → ReplaceAll (scope_over s V) (exprs_list args) values →
      IsForm (scope_over s V) ty (intrinsic_form number (exprs_of values))
  intrinsic_filled ty number args values h r = let f = exprs_filled (scope_over s V) args values r in (f.0, subst (λ types. TakesAndGives number types ty) (sym f.1) h.1)

  method_form_filled : (ty : Ty) (resource count : ℕ) (address : Expr) (value : MaybeExpr) (values : List Expr) → IsForm s ty (method_form resource count address value) →
      ReplaceFirst (scope_over s V) (address ∷ expr_if_list value) values → IsForm (scope_over s V) ty (filled first (method_form resource count address value) values)
  method_form_filled ty resource count address value values h r =
      let w = first_replaces (scope_over s V) address (expr_if_list value) values r in
      (h.0, h.1, h.2, w.well, w.same ∙ h.4, method_filled resource (components_type UintKind count) ty value (drop 1 values) h.5 (rest_replaces (scope_over s V) address (expr_if_list value) values r))

  -- what stands behind a value that is compared with
  behind_compared : (compare : MaybeExpr) (es values : List Expr) → ReplaceFirst (scope_over s V) (expr_if_list compare ++ es) values → ReplaceFirst (scope_over s V) es (behind_expr_if compare values)
  behind_compared no_expr es values r = r
  behind_compared (some_expr compare) es values r = rest_replaces (scope_over s V) compare es values r

  atomic_form_filled : (ty : Ty) (target : Target) (kind : Option AtomicKind) (compare : MaybeExpr) (value : Expr) (original : MaybeLocation) (values : List Expr) → IsForm s ty (atomic_form target kind compare value original) →
      ReplaceFirst (scope_over s V) (target_exprs target ++ (expr_if_list compare ++ value ∷ place_if_exprs original)) values → IsForm (scope_over s V) ty (filled first (atomic_form target kind compare value original) values)
  atomic_form_filled ty target kind compare value original values h r = given w (rest_replaces (scope_over s V) value (place_if_exprs original) (behind_expr_if compare (behind_target target values)) behind)
    where
      rest : ReplaceFirst (scope_over s V) (expr_if_list compare ++ value ∷ place_if_exprs original) (behind_target target values)
      rest = first_back (scope_over s V) (target_exprs target) (expr_if_list compare ++ value ∷ place_if_exprs original) values r

      behind : ReplaceFirst (scope_over s V) (value ∷ place_if_exprs original) (behind_expr_if compare (behind_target target values))
      behind = behind_compared compare (value ∷ place_if_exprs original) (behind_target target values) rest

      w : Replaces (scope_over s V) value (first_expr (behind_expr_if compare (behind_target target values)))
      w = first_replaces (scope_over s V) value (place_if_exprs original) (behind_expr_if compare (behind_target target values)) behind

      given : Replaces (scope_over s V) value (first_expr (behind_expr_if compare (behind_target target values))) →
          ReplaceFirst (scope_over s V) (place_if_exprs original) (drop 1 (behind_expr_if compare (behind_target target values))) → IsForm (scope_over s V) ty (filled first (atomic_form target kind compare value original) values)
      given w last = (
        h.0,
        subst (λ t. IsTarget (scope_over s V) t (filled_target first target values)) (sym w.same)
            (target_filled (type_of value) target values h.1 (first_front (scope_over s V) (target_exprs target) (expr_if_list compare ++ value ∷ place_if_exprs original) values r)),
        w.well,
        subst IsWord (sym w.same) h.3,
        subst (λ t. IsCompared (scope_over s V) t kind (filled_expr_if compare (behind_target target values))) (sym w.same)
            (compared_filled (type_of value) kind compare (behind_target target values) h.4 (first_front (scope_over s V) (expr_if_list compare) (value ∷ place_if_exprs original) (behind_target target values) rest)),
        original_filled target kind original values (drop 1 (behind_expr_if compare (behind_target target values))) h.5 last,
      )

  -- a form that isn't a call, with values in place of its operands
  pub form_filled : (ty : Ty) (form : Form) (values : List Expr) → is_call_form form ≡ false → IsForm s ty form → ReplaceAll (scope_over s V) (operand_exprs form) values → IsForm (scope_over s V) ty (filled first form values)
  form_filled ty (literal_form word) values _ h r = h
  form_filled ty (read_form place) values _ h r = (place_filled place values h.0 (all_first (scope_over s V) (place_exprs place) values r), place_type_filled first place values ∙ h.1)
  form_filled ty (write_form to op common value old) values _ h r = write_filled ty to op common value old values h (all_first (scope_over s V) (place_exprs to ++ value ∷ []) values r)
  form_filled ty (convert_form value) values _ h r = convert_filled ty value (first_expr values) h (first_replaces (scope_over s V) value [] values (all_first (scope_over s V) (value ∷ []) values r))
  form_filled ty (unary_form op value) values _ h r = unary_filled ty op value (first_expr values) h (first_replaces (scope_over s V) value [] values (all_first (scope_over s V) (value ∷ []) values r))
  form_filled ty (binary_form op left right) [] _ h r = absurd r
  form_filled ty (binary_form op left right) (a ∷ values) _ h r =
      binary_filled ty op left right a (first_expr values) h r.0 (first_replaces (scope_over s V) right [] values (all_first (scope_over s V) (right ∷ []) values r.1))
  form_filled ty (choose_form cond consequent alternative) [] _ h r = absurd r
  form_filled ty (choose_form cond consequent alternative) (a ∷ []) _ h r = absurd r.1
  form_filled ty (choose_form cond consequent alternative) (a ∷ b ∷ values) _ h r =
      choose_filled ty cond consequent alternative a b (first_expr values) h r.0 r.1.0 (first_replaces (scope_over s V) alternative [] values (all_first (scope_over s V) (alternative ∷ []) values r.1.1))
  form_filled ty (build_form parts) values _ h r = build_filled ty parts values h r
  form_filled ty (pick_form value parts) values _ h r = pick_filled ty value (first_expr values) parts h (first_replaces (scope_over s V) value [] values (all_first (scope_over s V) (value ∷ []) values r))
  form_filled ty (call_form function args) values e h r = absurd (true≢false e)
  form_filled ty (intrinsic_form number args) values _ h r = intrinsic_filled ty number args values h r
  form_filled ty (method_form resource count address value) values _ h r = method_form_filled ty resource count address value values h (all_first (scope_over s V) (address ∷ expr_if_list value) values r)
  form_filled ty (atomic_form target kind compare value original) values _ h r =
      atomic_form_filled ty target kind compare value original values h (all_first (scope_over s V) (target_exprs target ++ (expr_if_list compare ++ value ∷ place_if_exprs original)) values r)
