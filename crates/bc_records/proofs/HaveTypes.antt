-- Each value of a module, and of a body, has its type in the type table.
use Rattle.std.proofs.Common.{◌≡◌, ℕ, zero, suc, ◌+◌, ◌<◌, List, [], ◌∷◌, map, length, get_or, refl, ap, sym, ◌∙◌, subst, arith}
use Rattle.std.specs.Prelude.{Bool, true, false, cond, nat_eq, if◌then◌else◌, Some, None, Option, is_some, IsSome, IfSome, option_and_then, slice_get, All}
use Rattle.std.specs.List.{filter, position_from}
use Rattle.std.specs.Option.{option_map_or}
use lib.Pointwise.{pointwise}
use Rattle.std.proofs.lemmas.Option.{none-some, same_Some, slice_get-get_or}
use Rattle.std.proofs.lemmas.List.Elements.{All-nil, All-cons, All-head, All-tail}
use Rattle.ir_core.specs.declared.instruction.Inst.{Inst}
use Rattle.ir_core.specs.declared.instruction.Inst.TheVariants.{Bin, Cast, Cmp, Select, Phi, Alloca, Gep, Load, Store, Extract, Call, Rmw, CmpXchg, Jump, Branch, Ret}
use Rattle.ir_core.specs.declared.module.Ty.{Ty}
use Rattle.ir_core.specs.declared.module.Ty.TheVariants.{Void, Label, Metadata, Int, Pointer, Array, Vector, Struct, Function as FunctionType}
use Rattle.ir_core.specs.declared.module.Const.{Const}
use Rattle.ir_core.specs.declared.module.Function.{Function}
use Rattle.ir_core.specs.declared.module.Module.{Module}
use Rattle.ir_core.specs.Values.{Value, function_value, constant_value, parameter_value, instruction_value, name_eq, ty_eq, number_of, least_number, signature_of, callee_signature, is_void, has_value, parameters, value_type, type_among, type_within}
use Rattle.ir_core.specs.Soundness.{EachHasType, IsSoundType, Names}
use Rattle.bc_records.specs.FirstList.{IsListedInst}
use Rattle.bc_records.proofs.Tests.{equal, both, same_passes}
use Rattle.std.proofs.lemmas.Bool.{true≢false}

-- entries of the type table

name_same : (name : Option (List ℕ)) → name_eq name name ≡ true
name_same None = refl
name_same (Some text) = same_passes text

ty_same : (t : Ty) → ty_eq t t ≡ true
ty_same Void = refl
ty_same Label = refl
ty_same Metadata = refl
ty_same (Int w) = equal w w refl
ty_same (Pointer to space) = both (nat_eq to to) (nat_eq space space) (equal to to refl) (equal space space refl)
ty_same (Array n of) = both (nat_eq n n) (nat_eq of of) (equal n n refl) (equal of of refl)
ty_same (Vector n of) = both (nat_eq n n) (nat_eq of of) (equal n n refl) (equal of of refl)
ty_same (Struct name of) = both (name_eq name name) (pointwise nat_eq of of) (name_same name) (same_passes of)
ty_same (FunctionType result params) = both (nat_eq result result) (pointwise nat_eq params params) (equal result result refl) (same_passes params)

found_if : (b : Bool) (i : ℕ) (more : Option ℕ) → is_some more ≡ true → is_some (cond b (Some i) more) ≡ true
found_if true i more some = refl
found_if false i more some = some

stands_from : (t : Ty) (i : ℕ) (types : List Ty) (k : ℕ) → slice_get types k ≡ Some t → is_some (position_from (ty_eq t) i types) ≡ true
stands_from t i [] k at = absurd (none-some t at)
stands_from t i (u ∷ types) zero at =
    ap (λ b. is_some (cond b (Some i) (position_from (ty_eq t) (i + 1) types))) (ap (ty_eq t) (same_Some u t at) ∙ ty_same t)
stands_from t i (u ∷ types) (suc k) at = found_if (ty_eq t u) i (position_from (ty_eq t) (i + 1) types) (stands_from t (i + 1) types k at)

pub least_some : (types : List Ty) (k : ℕ) → is_some (slice_get types k) ≡ true → is_some (least_number types k) ≡ true
least_some types k some = by (slice_get types k) refl some
  where
    by : (o : Option Ty) → slice_get types k ≡ o → is_some o ≡ true → is_some (option_and_then (number_of types) o) ≡ true
    by None at some = some
    by (Some t) at some = stands_from t 0 types k at

in_table : (types : List Ty) (k : ℕ) → k < length types → is_some (slice_get types k) ≡ true
in_table types k within = ap is_some (slice_get-get_or types k Void within)

position_in : (test : Ty → Bool) (i : ℕ) (types : List Ty) (k : ℕ) → position_from test i types ≡ Some k → k < i + length types
position_in test i [] k at = absurd (none-some k at)
position_in test i (u ∷ types) k at = by (test u) at (λ h. position_in test (i + 1) types k h)
  where
    by : (b : Bool) → cond b (Some i) (position_from test (i + 1) types) ≡ Some k → (position_from test (i + 1) types ≡ Some k → k < i + 1 + length types) → k < i + length (u ∷ types)
    by true at more = omega (arith, same_Some i k at)
    by false at more = omega (arith, more at)

typed_number : (types : List Ty) (t : Ty) → is_some (number_of types t) ≡ true → is_some (option_and_then (least_number types) (number_of types t)) ≡ true
typed_number types t some = by (number_of types t) refl some
  where
    by : (o : Option ℕ) → number_of types t ≡ o → is_some o ≡ true → is_some (option_and_then (least_number types) o) ≡ true
    by None at some = some
    by (Some k) at some = least_some types k (in_table types k (omega (arith, position_in (ty_eq t) 0 types k at)))

-- values

-- a value has a type, whatever stands around it
abbrev pub HasType : Module → Value → Type 0
HasType m x = (values : List Value) (of : ℕ → Option ℕ) → is_some (option_and_then (least_number m.types) (value_type m values of x)) ≡ true

pub have_types : (m : Module) (values : List Value) → All (HasType m) values → EachHasType m values
unfolding type_among
have_types m values all v within =
    let at : slice_get values v ≡ Some (get_or values v (parameter_value 0)) = slice_get-get_or values v (parameter_value 0) within in
    subst (λ o. is_some (option_and_then (least_number m.types) (option_and_then (value_type m values (type_within (length values) m values)) o)) ≡ true) (sym at)
    (all v (parameter_value 0) within values (type_within (length values) m values))

pub functions_typed : (m : Module) (fs : List Function) → All (λ (f : Function). IsSome (number_of m.types (Pointer f.ty 0))) fs → All (HasType m) (map function_value fs)
functions_typed m [] all = All-nil (HasType m)
functions_typed m (f ∷ fs) all =
    let P = λ (f : Function). IsSome (number_of m.types (Pointer f.ty 0)) in
    All-cons (HasType m) (function_value f) (map function_value fs) (λ values of. typed_number m.types (Pointer f.ty 0) (All-head P f fs all)) (functions_typed m fs (All-tail P f fs all))

pub constants_typed : (m : Module) (cs : List Const) → All (λ (c : Const). Names (length m.types) c.ty) cs → All (HasType m) (map constant_value cs)
constants_typed m [] all = All-nil (HasType m)
constants_typed m (c ∷ cs) all =
    let P = λ (c : Const). Names (length m.types) c.ty in
    All-cons (HasType m) (constant_value c) (map constant_value cs) (λ values of. least_some m.types c.ty (in_table m.types c.ty (All-head P c cs all))) (constants_typed m cs (All-tail P c cs all))

pub parameters_typed : (m : Module) (params : List ℕ) → All (Names (length m.types)) params → All (HasType m) (map parameter_value params)
parameters_typed m [] all = All-nil (HasType m)
parameters_typed m (p ∷ ps) all =
    All-cons (HasType m) (parameter_value p) (map parameter_value ps) (λ values of. least_some m.types p (in_table m.types p (All-head (Names (length m.types)) p ps all)))
    (parameters_typed m ps (All-tail (Names (length m.types)) p ps all))

-- the parameters of a function have types
found_sound : (n : ℕ) (types : List Ty) (k : ℕ) → All (IsSoundType n) types → IfSome (slice_get types k) (IsSoundType n)
found_sound n [] k all = tt
found_sound n (t ∷ types) zero all = All-head (IsSoundType n) t types all
found_sound n (t ∷ types) (suc k) all = found_sound n types k (All-tail (IsSoundType n) t types all)

params_of : Option Ty → List ℕ
params_of o = option_map_or (λ (s : ℕ × List ℕ). s.1) (option_and_then signature_of o) []

params_named : (n : ℕ) (o : Option Ty) → IfSome o (IsSoundType n) → All (Names n) (params_of o)
unfolding params_of
params_named n None sound = All-nil (Names n)
params_named n (Some Void) sound = All-nil (Names n)
params_named n (Some Label) sound = All-nil (Names n)
params_named n (Some Metadata) sound = All-nil (Names n)
params_named n (Some (Int w)) sound = All-nil (Names n)
params_named n (Some (Pointer to space)) sound = All-nil (Names n)
params_named n (Some (Array k of)) sound = All-nil (Names n)
params_named n (Some (Vector k of)) sound = All-nil (Names n)
params_named n (Some (Struct name of)) sound = All-nil (Names n)
params_named n (Some (FunctionType result params)) sound = sound.1

pub parameters_named : (m : Module) (f : Function) → All (IsSoundType (length m.types)) m.types → All (Names (length m.types)) (parameters m f)
unfolding params_of
parameters_named m f sound = params_named (length m.types) (slice_get m.types f.ty) (found_sound (length m.types) m.types f.ty sound)

-- the value of a call has the result's type
result_typed : (types : List Ty) (s : Option (ℕ × List ℕ)) →
    is_some (option_and_then (λ (s : ℕ × List ℕ). option_and_then (λ t. if is_void t then None else Some s.0) (slice_get types s.0)) s) ≡ true →
    is_some (option_and_then (least_number types) (option_and_then (λ (s : ℕ × List ℕ). option_and_then (λ t. if is_void t then None else Some s.0) (slice_get types s.0)) s)) ≡ true
result_typed types None some = some
result_typed types (Some s) some = by (slice_get types s.0) refl some
  where
    value : (b : Bool) (k : ℕ) → is_some (slice_get types k) ≡ true → is_some (if b then None else Some k) ≡ true → is_some (option_and_then (least_number types) (if b then None else Some k)) ≡ true
    value true k at some = some
    value false k at some = least_some types k at

    by : (o : Option Ty) → slice_get types s.0 ≡ o → is_some (option_and_then (λ t. if is_void t then None else Some s.0) o) ≡ true →
        is_some (option_and_then (least_number types) (option_and_then (λ t. if is_void t then None else Some s.0) o)) ≡ true
    by None at some = some
    by (Some t) at some = value (is_void t) s.0 (ap is_some at) some

inst_typed : (m : Module) (inst : Inst) → IsListedInst inst → has_value m inst ≡ true → HasType m (instruction_value inst)
inst_typed m (Call function args) listed valued values of = result_typed m.types (callee_signature m function) valued
inst_typed m Ret listed valued values of = absurd (true≢false (sym valued))
inst_typed m (Bin op left right) listed valued values of = absurd listed
inst_typed m (Cast op value ty) listed valued values of = absurd listed
inst_typed m (Cmp op left right) listed valued values of = absurd listed
inst_typed m (Select first second c) listed valued values of = absurd listed
inst_typed m (Phi ty arms) listed valued values of = absurd listed
inst_typed m (Alloca ty count align) listed valued values of = absurd listed
inst_typed m (Gep ty base indexes) listed valued values of = absurd listed
inst_typed m (Load ty from align) listed valued values of = absurd listed
inst_typed m (Store to value align) listed valued values of = absurd listed
inst_typed m (Extract value index) listed valued values of = absurd listed
inst_typed m (Rmw op to value) listed valued values of = absurd listed
inst_typed m (CmpXchg to compare value) listed valued values of = absurd listed
inst_typed m (Jump target) listed valued values of = absurd listed
inst_typed m (Branch c first second) listed valued values of = absurd listed

pub insts_typed : (m : Module) (insts : List Inst) → All IsListedInst insts → All (HasType m) (map instruction_value (filter (has_value m) insts))
insts_typed m [] listed = All-nil (HasType m)
insts_typed m (inst ∷ insts) listed =
    by (has_value m inst) (inst_typed m inst (All-head IsListedInst inst insts listed)) (insts_typed m insts (All-tail IsListedInst inst insts listed))
  where
    by : (b : Bool) → (b ≡ true → HasType m (instruction_value inst)) → All (HasType m) (map instruction_value (filter (has_value m) insts)) →
        All (HasType m) (map instruction_value (if b then inst ∷ filter (has_value m) insts else filter (has_value m) insts))
    by true own more = All-cons (HasType m) (instruction_value inst) (map instruction_value (filter (has_value m) insts)) (own refl) more
    by false own more = more
