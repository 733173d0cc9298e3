-- The records of a module agree with the module.
use mathlib.Core.Logic.{◌⊎◌, inl, inr}
use Rattle.std.proofs.Common.{◌≡◌, ℕ, zero, suc, ◌+◌, ◌-◌, ◌<◌, List, [], ◌∷◌, ◌++◌, map, length, refl, ap, sym, ◌∙◌, subst, arith}
use Rattle.std.specs.Prelude.{Bool, true, false, not, cond, ◌==◌, ◌&&◌, ◌||◌, Option, None, Some, IsSome, is_some, option_map, option_and_then, slice_get, get_or, nat_eq, All}
use Rattle.std.specs.List.{position_from}
use Rattle.std.specs.Option.{option_map_or}
use Rattle.std.proofs.lemmas.Bool.Decides.{eqb_tells}
use Rattle.ir_core.specs.declared.module.Ty.TheVariants.{Pointer}
use Rattle.ir_core.specs.declared.module.Function.{Function}
use Rattle.ir_core.specs.declared.module.GlobalVar.{GlobalVar}
use Rattle.ir_core.specs.declared.module.Module.{Module}
use Rattle.ir_core.specs.Values.{Value, global_value, function_value, constant_value, signature_of, ty_eq, number_of, least_number, module_values, function_at, type_among, type_within, value_type}
use Rattle.ir_core.specs.Soundness.{EachHasType}
use Rattle.bc_records.specs.Entries.{Entry, entry}
use Rattle.bc_records.specs.TypeRecords.{TypeRecord, number_of_entries, void_type, integer_type, pointer_type, metadata_type, struct_name, struct_type, function_type, type_entry, table_of}
use Rattle.bc_records.specs.ModuleRecords.{ModuleRecord, version_record, triple_record, layout_record, function_record, module_entry, declarations, declaration_of}
use Rattle.bc_records.specs.RecordKinds.{type_entries, signature_of_entry, code_of, has_entry, function_entries}
use Rattle.bc_records.proofs.Agreement.{is_value}
use Rattle.bc_records.proofs.Tests.{both, equal}
use Rattle.bc_records.proofs.ValueLemmas.{from_globals, value_count}

-- types

abbrev table_entries : List TypeRecord → List Entry
table_entries rs = type_entries (map type_entry rs)

pub signature_same : (name : List ℕ) (rs : List TypeRecord) (v : ℕ) →
    option_and_then signature_of_entry (slice_get (table_entries rs) v) ≡ option_and_then signature_of (slice_get (table_of name rs) v)
signature_same name [] v = refl
signature_same name (number_of_entries k ∷ rs) v = signature_same name rs v
signature_same name (struct_name next ∷ rs) v = signature_same next rs v
signature_same name (void_type ∷ rs) zero = refl
signature_same name (void_type ∷ rs) (suc v) = signature_same name rs v
signature_same name (integer_type w ∷ rs) zero = refl
signature_same name (integer_type w ∷ rs) (suc v) = signature_same name rs v
signature_same name (pointer_type a b ∷ rs) zero = refl
signature_same name (pointer_type a b ∷ rs) (suc v) = signature_same name rs v
signature_same name (metadata_type ∷ rs) zero = refl
signature_same name (metadata_type ∷ rs) (suc v) = signature_same name rs v
signature_same name (struct_type a ∷ rs) zero = refl
signature_same name (struct_type a ∷ rs) (suc v) = signature_same [] rs v
signature_same name (function_type a b ∷ rs) zero = refl
signature_same name (function_type a b ∷ rs) (suc v) = signature_same name rs v

pub value_type_same : (name : List ℕ) (rs : List TypeRecord) (v : ℕ) →
    option_map_or (λ e. not (code_of e == 2)) (slice_get (table_entries rs) v) false ≡ is_value (slice_get (table_of name rs) v)
value_type_same name [] v = refl
value_type_same name (number_of_entries k ∷ rs) v = value_type_same name rs v
value_type_same name (struct_name next ∷ rs) v = value_type_same next rs v
value_type_same name (void_type ∷ rs) zero = refl
value_type_same name (void_type ∷ rs) (suc v) = value_type_same name rs v
value_type_same name (integer_type w ∷ rs) zero = refl
value_type_same name (integer_type w ∷ rs) (suc v) = value_type_same name rs v
value_type_same name (pointer_type a b ∷ rs) zero = refl
value_type_same name (pointer_type a b ∷ rs) (suc v) = value_type_same name rs v
value_type_same name (metadata_type ∷ rs) zero = refl
value_type_same name (metadata_type ∷ rs) (suc v) = value_type_same name rs v
value_type_same name (struct_type a ∷ rs) zero = refl
value_type_same name (struct_type a ∷ rs) (suc v) = value_type_same [] rs v
value_type_same name (function_type a b ∷ rs) zero = refl
value_type_same name (function_type a b ∷ rs) (suc v) = value_type_same name rs v

or_right : (a b : Bool) → b ≡ true → (a || b) ≡ true
or_right true b h = refl
or_right false b h = h

pointer_here : (v k to space : ℕ) (name : List ℕ) (rs : List TypeRecord) →
    ((nat_eq v to ≡ true) × (v ≡ to)) ⊎ ((nat_eq v to ≡ false) × (v ≡ to → ⊥)) → ((nat_eq 0 space ≡ true) × (0 ≡ space)) ⊎ ((nat_eq 0 space ≡ false) × (0 ≡ space → ⊥)) →
    (is_some (position_from (ty_eq (Pointer v 0)) (k + 1) (table_of name rs)) ≡ true → has_entry (table_entries rs) (entry 8 (v ∷ 0 ∷ [])) ≡ true) →
    is_some (position_from (ty_eq (Pointer v 0)) k (table_of name (pointer_type to space ∷ rs))) ≡ true →
    has_entry (table_entries (pointer_type to space ∷ rs)) (entry 8 (v ∷ 0 ∷ [])) ≡ true
pointer_here v k to space name rs (inl p) (inl q) later found =
    ap (λ b. b || has_entry (table_entries rs) (entry 8 (v ∷ 0 ∷ [])))
    (both (to == v) ((space == 0) && true) (equal to v (sym p.1)) (both (space == 0) true (equal space 0 (sym q.1)) refl))
pointer_here v k to space name rs (inl p) (inr q) later found =
    or_right _ (has_entry (table_entries rs) (entry 8 (v ∷ 0 ∷ [])))
    (later (sym (ap (λ b. is_some (cond b (Some k) (position_from (ty_eq (Pointer v 0)) (k + 1) (table_of name rs)))) (ap (λ b. b && nat_eq 0 space) p.0 ∙ q.0)) ∙ found))
pointer_here v k to space name rs (inr p) q later found =
    or_right _ (has_entry (table_entries rs) (entry 8 (v ∷ 0 ∷ [])))
    (later (sym (ap (λ b. is_some (cond (b && nat_eq 0 space) (Some k) (position_from (ty_eq (Pointer v 0)) (k + 1) (table_of name rs)))) p.0) ∙ found))

-- a pointer type that the table has stands among its records
pub pointer_found : (v k : ℕ) (name : List ℕ) (rs : List TypeRecord) → is_some (position_from (ty_eq (Pointer v 0)) k (table_of name rs)) ≡ true →
    has_entry (table_entries rs) (entry 8 (v ∷ 0 ∷ [])) ≡ true
pointer_found v k name [] found = absurd (impossible found)
  where
    impossible : false ≡ true → ⊥
    impossible h = cc
pointer_found v k name (number_of_entries n ∷ rs) found = pointer_found v k name rs found
pointer_found v k name (struct_name next ∷ rs) found = pointer_found v k next rs found
pointer_found v k name (void_type ∷ rs) found = pointer_found v (k + 1) name rs found
pointer_found v k name (integer_type w ∷ rs) found = pointer_found v (k + 1) name rs found
pointer_found v k name (metadata_type ∷ rs) found = pointer_found v (k + 1) name rs found
pointer_found v k name (struct_type a ∷ rs) found = pointer_found v (k + 1) [] rs found
pointer_found v k name (function_type a b ∷ rs) found = pointer_found v (k + 1) name rs found
pointer_found v k name (pointer_type to space ∷ rs) found =
    pointer_here v k to space name rs (eqb_tells v to) (eqb_tells 0 space) (pointer_found v (k + 1) name rs) found

-- functions

pub functions_long : (rs : List ModuleRecord) → length (function_entries (map module_entry rs)) ≡ length (declarations rs)
functions_long [] = refl
functions_long (version_record ∷ rs) = functions_long rs
functions_long (triple_record t ∷ rs) = functions_long rs
functions_long (layout_record t ∷ rs) = functions_long rs
functions_long (function_record a b c d e ∷ rs) = ap suc (functions_long rs)

function_type_in : (rs : List ModuleRecord) (v : ℕ) →
    option_and_then (λ operands. slice_get operands 0) (slice_get (function_entries (map module_entry rs)) v) ≡ option_map (λ (d : ℕ × ℕ). d.0) (slice_get (declarations rs) v)
function_type_in [] v = refl
function_type_in (version_record ∷ rs) v = function_type_in rs v
function_type_in (triple_record t ∷ rs) v = function_type_in rs v
function_type_in (layout_record t ∷ rs) v = function_type_in rs v
function_type_in (function_record a b c d e ∷ rs) zero = refl
function_type_in (function_record a b c d e ∷ rs) (suc v) = function_type_in rs v

declared_type : (fs : List Function) (v : ℕ) → option_map (λ (d : ℕ × ℕ). d.0) (slice_get (map declaration_of fs) v) ≡ option_map (λ (f : Function). f.ty) (slice_get fs v)
declared_type [] v = refl
declared_type (f ∷ fs) zero = refl
declared_type (f ∷ fs) (suc v) = declared_type fs v

pub function_types_same : (m : Module) (rs : List ModuleRecord) → m.globals ≡ [] → declarations rs ≡ map declaration_of m.functions → (v : ℕ) →
    option_and_then (λ operands. slice_get operands 0) (slice_get (function_entries (map module_entry rs)) v) ≡ option_map (λ (f : Function). f.ty) (function_at m v)
function_types_same m rs none same v =
    let place : v - length m.globals ≡ v = omega (arith, ap length none) in
    let at : function_at m v ≡ slice_get m.functions v = from_globals m v (omega (arith, ap length none)) ∙ ap (slice_get m.functions) place in
    function_type_in rs v ∙ (ap (λ ds. option_map (λ (d : ℕ × ℕ). d.0) (slice_get ds v)) same ∙ (declared_type m.functions v ∙ ap (option_map (λ (f : Function). f.ty)) (sym at)))

-- the type of each function's value is in the table

value_at : (fs : List Function) (rest : List Value) (i : ℕ) (d : Function) → i < length fs → slice_get (map function_value fs ++ rest) i ≡ Some (function_value (get_or fs i d))
value_at [] rest i d within = absurd (omega (arith, within))
value_at (f ∷ fs) rest zero d within = refl
value_at (f ∷ fs) rest (suc i) d within = value_at fs rest i d (omega (arith, within))

value_of_function : (m : Module) → m.globals ≡ [] → (i : ℕ) (d : Function) → i < length m.functions → slice_get (module_values m) i ≡ Some (function_value (get_or m.functions i d))
value_of_function m none i d within =
    ap (λ (gs : List GlobalVar). slice_get (map global_value gs ++ (map function_value m.functions ++ map constant_value m.consts)) i) none
    ∙ value_at m.functions (map constant_value m.consts) i d within

first_some : (o : Option ℕ) (f : ℕ → Option ℕ) → is_some (option_and_then f o) ≡ true → is_some o ≡ true
first_some None f h = h
first_some (Some x) f h = refl

typed_function : (m : Module) (v : ℕ) (f : Function) → slice_get (module_values m) v ≡ Some (function_value f) → IsSome (type_among m (module_values m) v) → IsSome (number_of m.types (Pointer f.ty 0))
unfolding type_among
typed_function m v f at typed =
    let values : List Value = module_values m in
    first_some (number_of m.types (Pointer f.ty 0)) (least_number m.types)
    (subst (λ o. is_some (option_and_then (least_number m.types) (option_and_then (value_type m values (type_within (length values) m values)) o)) ≡ true) at typed)

pub pointers_typed : (m : Module) → m.globals ≡ [] → EachHasType m (module_values m) → All (λ (f : Function). IsSome (number_of m.types (Pointer f.ty 0))) m.functions
pointers_typed m none typed = λ i d within.
    typed_function m i (get_or m.functions i d) (value_of_function m none i d within) (typed i (omega (arith, within, value_count m)))
