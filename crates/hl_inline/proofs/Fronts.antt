-- Fronts of lists of variables, and the types of variables behind them.
use Rattle.std.proofs.Common.{◌≡◌, ◌∙◌, refl, sym, ap, ℕ, zero, suc, ◌+◌, ◌<◌, ◌≤◌, false, List, [], ◌∷◌, ◌++◌, length, map, Some, slice_get, arith}
use Rattle.typed_laws.proofs.Induction.{Every}
use Rattle.std.specs.Prelude.{if◌then◌else◌, option_map}
use Rattle.std.proofs.lemmas.List.{append_assoc, append-nil, length-append, length-map}
use Rattle.std.proofs.lemmas.Option.{none-some}
use Rattle.hl_meaning.specs.Types.{Ty, is_void}
use Rattle.hl_meaning.specs.Places.{variable_type}
use Rattle.hl_meaning.specs.Programs.{Variable}
use Rattle.hl_meaning.proofs.LayoutForms.{get-front, get-next}
use Rattle.hl_inline.specs.Fresh.{nameless, unnamed}
use Rattle.hl_inline.specs.InlinedCalls.{result_variables}

abbrev pub IsFront : List Variable → List Variable → Type 0
IsFront xs ys = (more : List Variable) × (ys ≡ xs ++ more)

pub front_refl : (xs : List Variable) → IsFront xs xs
front_refl xs = ([], sym (append-nil xs))

pub front_trans : (xs ys zs : List Variable) → IsFront xs ys → IsFront ys zs → IsFront xs zs
front_trans xs ys zs (m, e) (n, e') = (m ++ n, e' ∙ (ap (λ l. l ++ n) e ∙ append_assoc xs m n))

pub front_more : (xs more : List Variable) → IsFront xs (xs ++ more)
front_more xs more = (more, refl)

pub front_length : (xs ys : List Variable) → IsFront xs ys → length xs ≤ length ys
front_length xs ys (m, e) = omega (arith, ap length e, length-append xs m)

-- the variable behind a front
pub next_variable : (xs V : List Variable) (v : Variable) → IsFront (xs ++ v ∷ []) V → variable_type V (length xs) ≡ Some v.ty
next_variable xs V v (m, e) =
    ap (λ l. variable_type l (length xs)) (e ∙ append_assoc xs (v ∷ []) m) ∙ ap (λ o. option_map (λ x. x.ty) o) (get-next xs v m)

-- a variable of a type is there
pub type_there : (V : List Variable) (w : ℕ) (ty : Ty) → variable_type V w ≡ Some ty → w < length V
type_there [] w ty e = absurd (none-some ty e)
type_there (v ∷ V) zero ty e = omega arith
type_there (v ∷ V) (suc w) ty e = omega (arith, type_there V w ty e)

-- a variable that is there has a type
pub type_at : (V : List Variable) (v : ℕ) → v < length V → (ty : Ty) × (variable_type V v ≡ Some ty)
type_at [] v low = absurd (omega (arith, low))
type_at (x ∷ V) zero low = (x.ty, refl)
type_at (x ∷ V) (suc v) low = type_at V v (omega (arith, low))

get_behind : {A : Type 0} (xs ys : List A) (v : ℕ) → slice_get (xs ++ ys) (length xs + v) ≡ slice_get ys v
get_behind [] ys v = ap (slice_get ys) (omega arith)
get_behind (x ∷ xs) ys v = ap (slice_get (x ∷ (xs ++ ys))) (suc_add (length xs) v) ∙ get_behind xs ys v
  where
    suc_add : (m v : ℕ) → suc m + v ≡ suc (m + v)
    suc_add m v = omega arith

pub type_behind : (xs ys : List Variable) (v : ℕ) → variable_type (xs ++ ys) (length xs + v) ≡ variable_type ys v
type_behind xs ys v = ap (λ o. option_map (λ x. x.ty) o) (get_behind xs ys v)

pub type_front : (xs ys : List Variable) (v : ℕ) (ty : Ty) → variable_type xs v ≡ Some ty → variable_type (xs ++ ys) v ≡ Some ty
type_front xs ys v ty e = ap (λ o. option_map (λ x. x.ty) o) (get-front xs ys v (type_there xs v ty e)) ∙ e

-- the variables of an instance have their types among all
pub instance_type : (before own more V : List Variable) (v : ℕ) (ty : Ty) → IsFront (before ++ (own ++ more)) V → variable_type own v ≡ Some ty → variable_type V (length before + v) ≡ Some ty
instance_type before own more V v ty (rest, e) typed =
    ap (λ l. variable_type l (length before + v)) (e ∙ append_assoc before (own ++ more) rest) ∙
    (type_behind before ((own ++ more) ++ rest) v ∙ (type_front (own ++ more) rest v ty (type_front own more v ty typed)))

-- the variable of a result is the first behind those of its function
pub result_type_at : (before own V : List Variable) (ty : Ty) (at : ℕ) → IsFront (before ++ (own ++ result_variables ty at)) V → is_void ty ≡ false → variable_type V (length before + length own) ≡ Some ty
result_type_at before own V ty at (rest, e) some =
    ap (λ l. variable_type l (length before + length own)) (e ∙ append_assoc before (own ++ result_variables ty at) rest) ∙
    (type_behind before ((own ++ result_variables ty at) ++ rest) (length own) ∙
    (ap (λ b. variable_type ((own ++ (if b then [] else unnamed ty at ∷ [])) ++ rest) (length own)) some ∙
    (ap (λ l. variable_type l (length own)) (append_assoc own (unnamed ty at ∷ []) rest) ∙
    ap (λ o. option_map (λ x. x.ty) o) (get-next own (unnamed ty at) rest))))

-- ---- variables without their names

pub nameless_type : (vs : List Variable) (v : ℕ) → variable_type (map nameless vs) v ≡ variable_type vs v
nameless_type [] v = refl
nameless_type (x ∷ vs) zero = refl
nameless_type (x ∷ vs) (suc v) = nameless_type vs v

pub nameless_every : (P : Ty → Type 0) (vs : List Variable) → Every (λ v. P v.ty) vs → Every (λ v. P v.ty) (map nameless vs)
nameless_every P [] all = tt
nameless_every P (x ∷ vs) all = (all.0, nameless_every P vs all.1)

pub nameless_length : (vs : List Variable) → length (map nameless vs) ≡ length vs
nameless_length vs = length-map vs nameless
