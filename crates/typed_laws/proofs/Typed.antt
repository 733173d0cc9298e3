-- What is known of the operands of a form that is well formed.
use Rattle.std.proofs.Common.{◌≡◌, ◌∙◌, refl, sym, ap, subst, ℕ, zero, suc, Bool, true, false, List, [], ◌∷◌, ◌++◌, map, Option, None, Some, slice_get}
use Rattle.hl_meaning.specs.declared.program.Parameter.{Parameter}
use Rattle.std.specs.Prelude.{◌==◌, ◌&&◌, not, if◌then◌else◌, IsTrue, replicate, option_map}
use Rattle.std.specs.List.{list_all}
use Rattle.std.proofs.lemmas.Bool.{false≢true}
use Rattle.std.proofs.lemmas.Option.{none-some}
use Rattle.lane_core.specs.declared.event.AtomicKind.{AtomicKind}
use Rattle.lane_core.specs.declared.event.AtomicKind.TheVariants.{Add, And, Or, Xor, IMin, IMax, UMin, UMax, Exchange}
use Rattle.hl_meaning.specs.declared.ty.Kind.{Kind}
use Rattle.hl_meaning.specs.declared.ty.Kind.TheVariants.{Bool as BoolKind, Uint as UintKind}
use Rattle.hl_meaning.specs.declared.intrinsic.Signature.{Signature}
use Rattle.hl_meaning.specs.declared.intrinsic.Signature.TheVariants.{Numbers, Uints, Truths, Bits, Atomic, Barrier, LaneTruth, LaneNumber, Vote, Ballot, AllEqual, ReadLaneAt, ReadLaneFirst, CountTruths}
use Rattle.hl_meaning.specs.declared.program.Copying.{Copying}
use Rattle.hl_meaning.specs.declared.program.Copying.TheVariants.{CopyBoth, CopyIn, CopyOut}
use Rattle.hl_meaning.specs.Types.{Ty, array_type, components_type, is_alike, is_basic, is_numeric, is_of, is_scalar, is_void, scalar_type, struct_type, uint_type, vector_type, void_type, with_kind}
use Rattle.hl_meaning.specs.Conversions.{converts}
use Rattle.hl_meaning.specs.Operators.{binary_type, comparing, computing, is_among, joining, negating, signing, unary_type}
use Rattle.hl_meaning.specs.Intrinsics.{HasSignature, HasSignatureOf, signature_of}
use Rattle.hl_meaning.specs.Trees.{Arg, Args, Expr, Exprs, Form, Location, MaybeExpr, MaybeLocation, PathParts, Target, a_location, atomic_form, binary_form, build_form, bytes_target, call_form, choose_form, constant_root, convert_form, element_root, index_part, intrinsic_form, literal_form, member_part, method_form, more_args, more_exprs, more_parts, no_args, no_expr, no_exprs, no_location, no_parts, pick_form, place_arg, place_target, place_type, read_form, shared_root, some_expr, some_location, swizzle_part, type_of, types_of, unary_form, value_arg, variable_root, write_form}
use Rattle.hl_meaning.specs.Programs.{StructDef, Variable}
use Rattle.hl_meaning.specs.Places.{Scope, is_end, is_longer_swizzle, path_type, variable_type}
use Rattle.hl_meaning.specs.WellFormed.{AreExprs, AreParts, ArePassed, Assigns, Builds, IsCompared, IsDeclared, IsExpr, IsForm, IsMethod, IsOriginal, IsPassed, IsPlace, IsTarget, IsWord, Param, callee_params, param_of}
use Rattle.typed_laws.proofs.OperandExpressions.{arg_exprs, args_exprs, expr_if_list, exprs_list, operand_exprs, place_if_exprs}
use Rattle.typed_laws.specs.Operands.{parts_exprs, place_exprs, target_exprs}
use Rattle.typed_laws.proofs.Induction.{Every, every_append}

-- what isn't true holds nowhere
pub never : {A : Type 0} → IsTrue false → A
never h = absurd (false≢true h)

-- a type that something may have
abbrev pub IsSome : Ty → Type 0
IsSome ty = is_void ty ≡ false

-- an expression that is well formed, and has a value
abbrev pub IsValue : Scope → Expr → Type 0
IsValue s e = IsExpr s e × IsSome (type_of e)

pub some_declared : (structs : List StructDef) (ty : Ty) → IsDeclared structs ty → IsSome ty
some_declared structs void_type h = absurd h.0
some_declared structs (scalar_type kind) h = refl
some_declared structs (vector_type kind size) h = refl
some_declared structs (array_type element count) h = refl
some_declared structs (struct_type number) h = refl

some_of : (e : Expr) (ty : Ty) → type_of e ≡ ty → IsSome ty → IsSome (type_of e)
some_of e ty is some = ap is_void is ∙ some

pub some_numeric : (ty : Ty) → IsTrue (is_numeric ty) → IsSome ty
some_numeric void_type h = never h
some_numeric (scalar_type kind) h = refl
some_numeric (vector_type kind size) h = refl
some_numeric (array_type element count) h = refl
some_numeric (struct_type number) h = refl

pub some_of_kind : (kind : Kind) (ty : Ty) → IsTrue (is_of kind ty) → IsSome ty
some_of_kind kind void_type h = never h
some_of_kind kind (scalar_type k) h = refl
some_of_kind kind (vector_type k size) h = refl
some_of_kind kind (array_type element count) h = refl
some_of_kind kind (struct_type number) h = refl

pub some_basic : (ty : Ty) → IsTrue (is_basic ty) → IsSome ty
some_basic void_type h = never h
some_basic (scalar_type kind) h = refl
some_basic (vector_type kind size) h = refl
some_basic (array_type element count) h = refl
some_basic (struct_type number) h = refl

some_converts : (from to : Ty) → IsTrue (converts from to) → IsSome from
some_converts void_type to h = never h
some_converts (scalar_type kind) to h = refl
some_converts (vector_type kind size) to h = refl
some_converts (array_type element count) to h = refl
some_converts (struct_type number) to h = refl

unary_void : (op : ℕ) → unary_type op void_type ≡ None
unary_void op = by_tests (is_among signing op) (is_among negating op)
  where
    by_tests : (a b : Bool) → (if a && false then Some void_type else (if b && false then Some void_type else None)) ≡ None
    by_tests true true = refl
    by_tests true false = refl
    by_tests false true = refl
    by_tests false false = refl

binary_void : (op : ℕ) → binary_type op void_type ≡ None
binary_void op = by_tests (is_among computing op) (is_among comparing op) (is_among joining op)
  where
    by_tests : (a b d : Bool) → (if a && false then Some void_type else (if b && false then Some void_type else (if d && false then Some void_type else None))) ≡ None
    by_tests true true true = refl
    by_tests true true false = refl
    by_tests true false true = refl
    by_tests true false false = refl
    by_tests false true true = refl
    by_tests false true false = refl
    by_tests false false true = refl
    by_tests false false false = refl

some_unary : (op : ℕ) (from to : Ty) → unary_type op from ≡ Some to → IsSome from
some_unary op void_type to h = absurd (none-some to (sym (unary_void op) ∙ h))
some_unary op (scalar_type kind) to h = refl
some_unary op (vector_type kind size) to h = refl
some_unary op (array_type element count) to h = refl
some_unary op (struct_type number) to h = refl

some_binary : (op : ℕ) (from to : Ty) → binary_type op from ≡ Some to → IsSome from
some_binary op void_type to h = absurd (none-some to (sym (binary_void op) ∙ h))
some_binary op (scalar_type kind) to h = refl
some_binary op (vector_type kind size) to h = refl
some_binary op (array_type element count) to h = refl
some_binary op (struct_type number) to h = refl

some_path : (structs : List StructDef) (from : Ty) (parts : PathParts) (to : Ty) → IsTrue (not (is_end parts)) → path_type structs from parts ≡ Some to → IsSome from
some_path structs void_type no_parts to some h = never some
some_path structs void_type (more_parts part rest) to some h = by_test (is_longer_swizzle part && not (is_end rest)) h
  where
    by_test : (b : Bool) → (if b then None else None) ≡ Some to → IsSome void_type
    by_test true h = absurd (none-some to h)
    by_test false h = absurd (none-some to h)
some_path structs (scalar_type kind) parts to some h = refl
some_path structs (vector_type kind size) parts to some h = refl
some_path structs (array_type element count) parts to some h = refl
some_path structs (struct_type number) parts to some h = refl

some_with_kind : (kind : Kind) (ty : Ty) → IsTrue (is_basic ty) → IsSome (with_kind kind ty)
some_with_kind kind void_type h = never h
some_with_kind kind (scalar_type k) h = refl
some_with_kind kind (vector_type k size) h = refl
some_with_kind kind (array_type element count) h = never h
some_with_kind kind (struct_type number) h = never h

some_components : (kind : Kind) (count : ℕ) → IsSome (components_type kind count)
some_components kind count = by_test (count == 1)
  where
    by_test : (b : Bool) → IsSome (if b then scalar_type kind else vector_type kind count)
    by_test true = refl
    by_test false = refl

pub and_left : (a b : Bool) → IsTrue (a && b) → IsTrue a
and_left true b h = refl
and_left false b h = h

pub and_right : (a b : Bool) → IsTrue (a && b) → IsTrue b
and_right true b h = h
and_right false b h = never h

some_word : (ty : Ty) → IsWord ty → IsSome ty
some_word ty h = some_numeric ty (and_right (is_scalar ty) (is_numeric ty) h)

-- types of lists of expressions

alike_some : (ty other : Ty) → IsTrue (is_alike ty other) → IsSome other
alike_some ty void_type h = by_type ty h
  where
    by_type : (ty : Ty) → IsTrue (is_alike ty void_type) → IsSome void_type
    by_type void_type h = never h
    by_type (scalar_type kind) h = never h
    by_type (vector_type kind size) h = never h
    by_type (array_type element count) h = never h
    by_type (struct_type number) h = never h
alike_some ty (scalar_type kind) h = refl
alike_some ty (vector_type kind size) h = refl
alike_some ty (array_type element count) h = refl
alike_some ty (struct_type number) h = refl

all_alike : (ty : Ty) (types : List Ty) → IsTrue (list_all (is_alike ty) types) → Every IsSome types
all_alike ty [] h = tt
all_alike ty (t ∷ types) h = (alike_some ty t (and_left (is_alike ty t) _ h), all_alike ty types (and_right (is_alike ty t) _ h))

all_scalars : (kinds : List Kind) → Every IsSome (map scalar_type kinds)
all_scalars [] = tt
all_scalars (kind ∷ kinds) = (refl, all_scalars kinds)

builds_some : (structs : List StructDef) (ty : Ty) (types : List Ty) → Builds structs ty types → Every IsSome types
builds_some structs void_type types h = absurd h
builds_some structs (scalar_type kind) types h = all_alike (scalar_type kind) types h.0
builds_some structs (vector_type kind size) types h = all_alike (vector_type kind size) types h.0
builds_some structs (array_type element count) types h = subst (Every IsSome) (sym h) (all_scalars _)
builds_some structs (struct_type number) types h = subst (Every IsSome) (sym h) (all_scalars _)

all_replicated : (count : ℕ) (ty : Ty) → IsSome ty → Every IsSome (replicate count ty)
all_replicated zero ty h = tt
all_replicated (suc count) ty h = (h, all_replicated count ty h)

signature_some : (signature : Signature) (types : List Ty) (result : Ty) → HasSignature signature types result → Every IsSome types
signature_some (Numbers count) types result h = subst (Every IsSome) (sym h.0) (all_replicated count result (some_numeric result h.1))
signature_some Uints types result h = subst (Every IsSome) (sym h.0) (some_of_kind UintKind result h.1, tt)
signature_some Truths [] result h = absurd h
signature_some Truths (x ∷ []) result h = (some_of_kind BoolKind x h.0, tt)
signature_some Truths (x ∷ y ∷ types) result h = absurd h
signature_some (Bits kind) [] result h = absurd h
signature_some (Bits kind) (x ∷ []) result h = (some_numeric x h.0, tt)
signature_some (Bits kind) (x ∷ y ∷ types) result h = absurd h
signature_some Atomic types result h = absurd h
signature_some Barrier types result h = subst (Every IsSome) (sym h.0) tt
signature_some LaneTruth types result h = subst (Every IsSome) (sym h.0) tt
signature_some LaneNumber types result h = subst (Every IsSome) (sym h.0) tt
signature_some Vote types result h = subst (Every IsSome) (sym h.0) (refl, tt)
signature_some Ballot types result h = subst (Every IsSome) (sym h.0) (refl, tt)
signature_some AllEqual [] result h = absurd h
signature_some AllEqual (x ∷ []) result h = (some_basic x h.0, tt)
signature_some AllEqual (x ∷ y ∷ types) result h = absurd h
signature_some ReadLaneAt types result h = subst (Every IsSome) (sym h.0) (some_basic result h.1, (refl, tt))
signature_some ReadLaneFirst types result h = subst (Every IsSome) (sym h.0) (some_basic result h.1, tt)
signature_some CountTruths [] result h = absurd h
signature_some CountTruths (x ∷ []) result h = (some_of_kind BoolKind x h.0, tt)
signature_some CountTruths (x ∷ y ∷ types) result h = absurd h

signature_of_some : (signature : Option Signature) (types : List Ty) (result : Ty) → HasSignatureOf signature types result → Every IsSome types
signature_of_some None types result h = absurd h
signature_of_some (Some signature) types result h = signature_some signature types result h

exprs_values : (s : Scope) (es : Exprs) → AreExprs s es → Every IsSome (types_of es) → Every (IsValue s) (exprs_list es)
exprs_values s no_exprs h some = tt
exprs_values s (more_exprs first rest) h some = ((h.0, some.0), exprs_values s rest h.1 some.1)

-- places

pub parts_values : (s : Scope) (parts : PathParts) → AreParts s parts → Every (IsValue s) (parts_exprs parts)
parts_values s no_parts h = tt
parts_values s (more_parts (index_part index) rest) h = ((h.0.0, some_of index uint_type h.0.1 refl), parts_values s rest h.1)
parts_values s (more_parts (member_part number) rest) h = parts_values s rest h.1
parts_values s (more_parts (swizzle_part letters) rest) h = parts_values s rest h.1

pub place_values : (s : Scope) (place : Location) → IsPlace s place → Every (IsValue s) (place_exprs place)
place_values s (a_location ty (variable_root number) parts) h = parts_values s parts h.2
place_values s (a_location ty (constant_root number) parts) h = parts_values s parts h.2
place_values s (a_location ty (shared_root number) parts) h = parts_values s parts h.2
place_values s (a_location ty (element_root resource index) parts) h = ((h.1.0, some_of index uint_type h.1.1 refl), parts_values s parts h.2)

place_some : (s : Scope) (place : Location) → IsPlace s place → IsSome (place_type place)
place_some s (a_location ty root parts) h = some_declared s.structs ty h.0

-- each parameter may be there
abbrev pub ParamsSome : List (Option Param) → Type 0
ParamsSome [] = Unit {0}
ParamsSome (None ∷ params) = ParamsSome params
ParamsSome (Some param ∷ params) = IsSome param.ty × ParamsSome params

-- the parameters of a function whose variables have values
pub params_some : (variables : List Variable) (parameters : List Parameter) → ((v : ℕ) (ty : Ty) → variable_type variables v ≡ Some ty → IsSome ty) → ParamsSome (map (param_of variables) parameters)
params_some variables [] h = tt
params_some variables (p ∷ parameters) h = by_type (variable_type variables p.variable) refl (params_some variables parameters h)
  where
    by_type : (o : Option Ty) → variable_type variables p.variable ≡ o → ParamsSome (map (param_of variables) parameters) → ParamsSome (option_map (λ ty. record { ty = ty; copying = p.copying }) o ∷ map (param_of variables) parameters)
    by_type None e rest = rest
    by_type (Some ty) e rest = (h p.variable ty e, rest)

passed_values : (s : Scope) (ty : Ty) (copying : Copying) (arg : Arg) → IsSome ty → IsPassed s ty copying arg → Every (IsValue s) (arg_exprs arg)
passed_values s ty CopyIn (value_arg value) some h = ((h.0, some_of value ty h.1 some), tt)
passed_values s ty CopyIn (place_arg place) some h = absurd h
passed_values s ty CopyOut (value_arg value) some h = absurd h
passed_values s ty CopyOut (place_arg place) some h = place_values s place h.0
passed_values s ty CopyBoth (value_arg value) some h = absurd h
passed_values s ty CopyBoth (place_arg place) some h = place_values s place h.0

args_values : (s : Scope) (params : List (Option Param)) (args : Args) → ParamsSome params → ArePassed s params args → Every (IsValue s) (args_exprs args)
args_values s [] no_args some h = tt
args_values s [] (more_args first rest) some h = absurd h
args_values s (None ∷ params) no_args some h = absurd h
args_values s (None ∷ params) (more_args first rest) some h = absurd h
args_values s (Some param ∷ params) no_args some h = absurd h
args_values s (Some param ∷ params) (more_args first rest) some h =
    every_append (IsValue s) (arg_exprs first) (args_exprs rest) (passed_values s param.ty param.copying first some.0 h.0) (args_values s params rest some.1 h.1)

-- forms

assigned_some : (s : Scope) (op : Option ℕ) (to : Location) (common : Ty) (value : Expr) (old : Bool) → IsPlace s to → (ty : Ty) → place_type to ≡ ty → Assigns op ty common (type_of value) old → IsSome (type_of value)
assigned_some s None to common value old place ty is h = some_of value ty h.1 (ap is_void (sym is) ∙ place_some s to place)
assigned_some s (Some op) to common value old place ty is h = some_of value common h.1 (some_numeric common h.2)

method_values : (s : Scope) (resource : ℕ) (words ty : Ty) (value : MaybeExpr) → IsSome words → IsMethod s resource words ty value → Every (IsValue s) (expr_if_list value)
method_values s resource words ty no_expr some h = tt
method_values s resource words ty (some_expr value) some h = ((h.2, some_of value words h.3 some), tt)

target_values : (s : Scope) (ty : Ty) (target : Target) → IsTarget s ty target → Every (IsValue s) (target_exprs target)
target_values s ty (place_target place) h = place_values s place h.0
target_values s ty (bytes_target resource address) h = ((h.1, some_of address uint_type h.2 refl), tt)

compared_values : (s : Scope) (ty : Ty) (kind : Option AtomicKind) (compare : MaybeExpr) → IsSome ty → IsCompared s ty kind compare → Every (IsValue s) (expr_if_list compare)
compared_values s ty (Some kind) no_expr some h = tt
compared_values s ty (Some kind) (some_expr compare) some h = absurd h
compared_values s ty None no_expr some h = absurd h
compared_values s ty None (some_expr compare) some h = ((h.0, some_of compare ty h.1 some), tt)

original_values : (s : Scope) (target : Target) (kind : Option AtomicKind) (original : MaybeLocation) → IsOriginal s target kind original → Every (IsValue s) (place_if_exprs original)
original_values s target kind no_location h = tt
original_values s (place_target place) kind (some_location original) h = place_values s original (original_is kind h)
  where
    original_is : (kind : Option AtomicKind) → IsOriginal s (place_target place) kind (some_location original) → IsPlace s original
    original_is None h = h.0
    original_is (Some Add) h = h.0
    original_is (Some And) h = h.0
    original_is (Some Or) h = h.0
    original_is (Some Xor) h = h.0
    original_is (Some IMin) h = h.0
    original_is (Some IMax) h = h.0
    original_is (Some UMin) h = h.0
    original_is (Some UMax) h = h.0
    original_is (Some Exchange) h = h.0
original_values s (bytes_target resource address) kind (some_location original) h = place_values s original (original_is kind h)
  where
    original_is : (kind : Option AtomicKind) → IsOriginal s (bytes_target resource address) kind (some_location original) → IsPlace s original
    original_is None h = h.0
    original_is (Some Add) h = h.0
    original_is (Some And) h = h.0
    original_is (Some Or) h = h.0
    original_is (Some Xor) h = h.0
    original_is (Some IMin) h = h.0
    original_is (Some IMax) h = h.0
    original_is (Some UMin) h = h.0
    original_is (Some UMax) h = h.0
    original_is (Some Exchange) h = h.0

-- the operands of a form that is well formed are well formed, and have values
pub form_values : (s : Scope) → ((function : ℕ) → ParamsSome (callee_params (slice_get s.functions function))) → (ty : Ty) (form : Form) → IsForm s ty form → Every (IsValue s) (operand_exprs form)
form_values s callees ty (literal_form word) h = tt
form_values s callees ty (read_form place) h = place_values s place h.0
form_values s callees ty (write_form to op common value old) h =
    every_append (IsValue s) (place_exprs to) (value ∷ []) (place_values s to h.0) ((h.3, assigned_some s op to common value old h.0 ty h.2 h.4), tt)
form_values s callees ty (convert_form value) h = ((h.0, some_converts (type_of value) ty h.1), tt)
form_values s callees ty (unary_form op value) h = ((h.0, some_unary op (type_of value) ty h.1), tt)
form_values s callees ty (binary_form op left right) h =
    let some = some_binary op (type_of left) ty h.3 in
    ((h.0, some), ((h.1, some_of right (type_of left) (sym h.2) some), tt))
form_values s callees ty (choose_form cond consequent alternative) h =
    let some = some_basic ty h.6 in
    ((h.0, some_of cond (with_kind BoolKind ty) h.3 (some_with_kind BoolKind ty h.6)), ((h.1, some_of consequent ty h.4 some), ((h.2, some_of alternative ty h.5 some), tt)))
form_values s callees ty (build_form parts) h = exprs_values s parts h.0 (builds_some s.structs ty (types_of parts) h.1)
form_values s callees ty (pick_form value parts) h = ((h.0, some_path s.structs (type_of value) parts ty h.3 h.4), tt)
form_values s callees ty (call_form function args) h = args_values s (callee_params (slice_get s.functions function)) args (callees function) h.1
form_values s callees ty (intrinsic_form number args) h = exprs_values s args h.0 (signature_of_some (signature_of number) (types_of args) ty h.1)
form_values s callees ty (method_form resource count address value) h =
    ((h.3, some_of address uint_type h.4 refl), method_values s resource (components_type UintKind count) ty value (some_components UintKind count) h.5)
form_values s callees ty (atomic_form target kind compare value original) h =
    let some = some_word (type_of value) h.3 in
    every_append (IsValue s) (target_exprs target) (expr_if_list compare ++ value ∷ place_if_exprs original) (target_values s (type_of value) target h.1)
    (every_append (IsValue s) (expr_if_list compare) (value ∷ place_if_exprs original) (compared_values s (type_of value) kind compare some h.4)
    ((h.2, some), original_values s target kind original h.5))
