-- Ways to show that a module is sound.
use Rattle.std.proofs.Common.{◌≡◌, ℕ, Bool, true, ◌&&◌, nat_lt, List, [], ◌∷◌, length, Option, Some, None, IsSome, IfSome}
use Rattle.std.proofs.lemmas.Bool.{ltb-true, and_parts}
use Rattle.std.proofs.lemmas.List.Elements.{All-nil, All-cons}
use Rattle.std.proofs.lemmas.Option.{slice_get-get_or}
use Rattle.std.specs.Option.{option_and_then}
use Rattle.std.specs.List.{All, list_all}
use Rattle.ir_core.specs.declared.module.Ty.{Ty}
use Rattle.ir_core.specs.declared.module.Ty.TheVariants.{Void, Label, Metadata, Int, Pointer, Array, Vector, Struct, Function as FunctionType}
use Rattle.ir_core.specs.declared.module.Meta.{Meta}
use Rattle.ir_core.specs.declared.module.Meta.TheVariants.{Chars, Value as ValueNode, Node}
use Rattle.ir_core.specs.declared.module.Module.{Module}
use Rattle.ir_core.specs.Values.{Value, parameter_value, least_number, value_type, type_within, type_among}
use Rattle.ir_core.specs.Soundness.{Names, IsSoundType, IsSoundMeta, EachHasType}

-- what a test shows of each part of a list
pub all_by_test : {A : Type 0} (P : A → Type 0) (test : A → Bool) → ((x : A) → test x ≡ true → P x) → (xs : List A) → list_all test xs ≡ true → All P xs
all_by_test P test shows [] h = All-nil P
all_by_test P test shows (x ∷ xs) h =
    let both : (test x ≡ true) × (list_all test xs ≡ true) = and_parts (test x) (list_all test xs) h in
    All-cons P x xs (shows x both.0) (all_by_test P test shows xs both.1)

pub names_by_test : (n : ℕ) (xs : List ℕ) → list_all (λ x. nat_lt x n) xs ≡ true → All (Names n) xs
names_by_test n = all_by_test (Names n) (λ x. nat_lt x n) (λ x h. ltb-true x n h)

-- types

abbrev pub type_test : ℕ → Ty → Bool
type_test n (Pointer to space) = nat_lt to n
type_test n (Array len of) = nat_lt of n
type_test n (Vector len of) = nat_lt of n
type_test n (Struct name of) = list_all (λ x. nat_lt x n) of
type_test n (FunctionType result params) = nat_lt result n && list_all (λ x. nat_lt x n) params
type_test n _ = true

type_by_test : (n : ℕ) (ty : Ty) → type_test n ty ≡ true → IsSoundType n ty
type_by_test n Void h = tt
type_by_test n Label h = tt
type_by_test n Metadata h = tt
type_by_test n (Int width) h = tt
type_by_test n (Pointer to space) h = ltb-true to n h
type_by_test n (Array len of) h = ltb-true of n h
type_by_test n (Vector len of) h = ltb-true of n h
type_by_test n (Struct name of) h = names_by_test n of h
type_by_test n (FunctionType result params) h =
    let both : (nat_lt result n ≡ true) × (list_all (λ x. nat_lt x n) params ≡ true) = and_parts (nat_lt result n) (list_all (λ x. nat_lt x n) params) h in
    (ltb-true result n both.0, names_by_test n params both.1)

pub types_by_test : (n : ℕ) (types : List Ty) → list_all (type_test n) types ≡ true → All (IsSoundType n) types
types_by_test n = all_by_test (IsSoundType n) (type_test n) (type_by_test n)

-- metadata

abbrev pub part_test : ℕ → Option ℕ → Bool
part_test n None = true
part_test n (Some x) = nat_lt x n

part_by_test : (n : ℕ) (part : Option ℕ) → part_test n part ≡ true → IfSome part (Names n)
part_by_test n None h = tt
part_by_test n (Some x) h = ltb-true x n h

abbrev pub meta_test : (types values metas : ℕ) → Meta → Bool
meta_test types values metas (Chars text) = true
meta_test types values metas (ValueNode ty value) = nat_lt ty types && nat_lt value values
meta_test types values metas (Node parts) = list_all (part_test metas) parts

meta_by_test : (types values metas : ℕ) (meta : Meta) → meta_test types values metas meta ≡ true → IsSoundMeta types values metas meta
meta_by_test types values metas (Chars text) h = tt
meta_by_test types values metas (ValueNode ty value) h =
    let both : (nat_lt ty types ≡ true) × (nat_lt value values ≡ true) = and_parts (nat_lt ty types) (nat_lt value values) h in
    (ltb-true ty types both.0, ltb-true value values both.1)
meta_by_test types values metas (Node parts) h =
    all_by_test (λ part. IfSome part (Names metas)) (part_test metas) (part_by_test metas) parts h

pub metas_by_test : (types values metas : ℕ) (list : List Meta) → list_all (meta_test types values metas) list ≡ true → All (IsSoundMeta types values metas) list
metas_by_test types values metas =
    all_by_test (IsSoundMeta types values metas) (meta_test types values metas) (meta_by_test types values metas)

-- types of values

-- the value has its type whatever types the others have
abbrev pub HasOwnType : Module → List Value → Value → Type 0
HasOwnType m values value = (of : ℕ → Option ℕ) → IsSome (option_and_then (least_number m.types) (value_type m values of value))

-- where each value has its type by itself, each has one
pub own_types : (m : Module) (values : List Value) → All (HasOwnType m values) values → EachHasType m values
unfolding type_among
own_types m values owns v within =
    rw (slice_get-get_or values v (parameter_value 0) within) (owns v (parameter_value 0) within (type_within (length values) m values))
