-- The common type of several operands: each converts to it.
use Rattle.std.proofs.Common.{◌≡◌, refl, subst, arith, ◌≤◌, Bool, true, false, if◌then◌else◌, List, [], ◌∷◌, Option, None, Some, le_trans}
use Rattle.std.specs.Prelude.{min}
use Rattle.std.proofs.lemmas.Option.{same_Some}
use Rattle.hl_meaning.specs.declared.ty.Kind.{Kind}
use Rattle.hl_meaning.specs.Types.{Ty, array_type, is_basic, is_numeric, scalar_type, struct_type, vector_type, void_type, with_kind}
use Rattle.hl_meaning.specs.Conversions.{converts}
use Rattle.hl_meaning.specs.Places as places
use Rattle.hl_rules.specs.Operands.{common_behind, common_kind, common_of, common_type, computing_kind, kind_of, sized}
use Rattle.hl_rules.proofs.Arguments.{AllResults}
use Rattle.hl_rules.proofs.BinaryForms.{common-number, computing-number}
use Rattle.hl_rules.proofs.ShortTypes.{IsShort, result-short, short-kind}
use Rattle.hl_rules.proofs.SignForms.{numeric-kind}
use Rattle.hl_rules.proofs.TypeLemmas.{cut-converts, is_number_kind, min-left, min-low, min-right, number-numeric}

-- ---- sizes

-- A type is at least as large as another: a scalar is as any scalar or vector, and a vector as one that isn't longer. So
-- it converts to it in any kind.
abbrev pub IsAbove : Ty → Ty → Type 0
IsAbove (scalar_type k) (scalar_type l) = Unit {0}
IsAbove (scalar_type k) (vector_type l n) = Unit {0}
IsAbove (vector_type k m) (vector_type l n) = n ≤ m
IsAbove _ _ = ⊥

pub above-converts : (from to : Ty) → IsAbove from to → converts from to ≡ true
above-converts (scalar_type k) (scalar_type l) h = refl
above-converts (scalar_type k) (vector_type l n) h = refl
above-converts (vector_type k m) (vector_type l n) h = cut-converts k l m n h
above-converts (scalar_type k) void_type h = absurd h
above-converts (scalar_type k) (array_type element size) h = absurd h
above-converts (scalar_type k) (struct_type number) h = absurd h
above-converts (vector_type k m) (scalar_type l) h = absurd h
above-converts (vector_type k m) void_type h = absurd h
above-converts (vector_type k m) (array_type element size) h = absurd h
above-converts (vector_type k m) (struct_type number) h = absurd h
above-converts void_type to h = absurd h
above-converts (array_type element size) to h = absurd h
above-converts (struct_type number) to h = absurd h

above-trans : (a b c : Ty) → IsAbove a b → IsAbove b c → IsAbove a c
above-trans (scalar_type k) (scalar_type l) (scalar_type j) h e = tt
above-trans (scalar_type k) (scalar_type l) (vector_type j n) h e = tt
above-trans (scalar_type k) (vector_type l m) (vector_type j n) h e = tt
above-trans (vector_type k q) (vector_type l m) (vector_type j n) h e = omega arith
above-trans void_type b c h e = absurd h
above-trans (array_type element size) b c h e = absurd h
above-trans (struct_type number) b c h e = absurd h
above-trans (scalar_type k) void_type c h e = absurd h
above-trans (scalar_type k) (array_type element size) c h e = absurd h
above-trans (scalar_type k) (struct_type number) c h e = absurd h
above-trans (scalar_type k) (scalar_type l) void_type h e = absurd e
above-trans (scalar_type k) (scalar_type l) (array_type element size) h e = absurd e
above-trans (scalar_type k) (scalar_type l) (struct_type number) h e = absurd e
above-trans (scalar_type k) (vector_type l m) void_type h e = absurd e
above-trans (scalar_type k) (vector_type l m) (array_type element size) h e = absurd e
above-trans (scalar_type k) (vector_type l m) (struct_type number) h e = absurd e
above-trans (scalar_type k) (vector_type l m) (scalar_type j) h e = absurd e
above-trans (vector_type k q) void_type c h e = absurd h
above-trans (vector_type k q) (array_type element size) c h e = absurd h
above-trans (vector_type k q) (struct_type number) c h e = absurd h
above-trans (vector_type k q) (scalar_type j) c h e = absurd h
above-trans (vector_type k q) (vector_type l m) void_type h e = absurd e
above-trans (vector_type k q) (vector_type l m) (array_type element size) h e = absurd e
above-trans (vector_type k q) (vector_type l m) (struct_type number) h e = absurd e
above-trans (vector_type k q) (vector_type l m) (scalar_type j) h e = absurd e

-- two operands are at least as large as their common size
record IsCommon (kind : Kind) (a b ty : Ty) : Type 0 where
  basic : is_basic ty ≡ true
  left : IsAbove a ty
  right : IsAbove b ty
  short : IsShort a → IsShort b → IsShort ty
  numeric : is_number_kind kind ≡ true → is_numeric ty ≡ true

sized-above : (kind : Kind) (a b ty : Ty) → sized kind a b ≡ Some ty → IsCommon kind a b ty
sized-above kind (scalar_type a) (scalar_type b) ty e =
    subst (λ t. IsCommon kind (scalar_type a) (scalar_type b) t) (same_Some (scalar_type kind) ty e)
    (record { basic = refl; left = tt; right = tt; short = λ h k. tt; numeric = number-numeric kind })
sized-above kind (scalar_type a) (vector_type b n) ty e =
    subst (λ t. IsCommon kind (scalar_type a) (vector_type b n) t) (same_Some (vector_type kind n) ty e)
    (record { basic = refl; left = tt; right = omega arith; short = λ h k. k; numeric = number-numeric kind })
sized-above kind (vector_type a m) (scalar_type b) ty e =
    subst (λ t. IsCommon kind (vector_type a m) (scalar_type b) t) (same_Some (vector_type kind m) ty e)
    (record { basic = refl; left = omega arith; right = tt; short = λ h k. h; numeric = number-numeric kind })
sized-above kind (vector_type a m) (vector_type b n) ty e =
    subst (λ t. IsCommon kind (vector_type a m) (vector_type b n) t) (same_Some (vector_type kind (min m n)) ty e)
    (record {
      basic = refl;
      left = min-left m n;
      right = min-right m n;
      short = λ h k. (min-low m n 2 h.0 k.0, le_trans (min-left m n) h.1);
      numeric = number-numeric kind;
    })
sized-above kind void_type b ty e = absurd (cc e)
sized-above kind (array_type element size) b ty e = absurd (cc e)
sized-above kind (struct_type number) b ty e = absurd (cc e)
sized-above kind (scalar_type a) void_type ty e = absurd (cc e)
sized-above kind (scalar_type a) (array_type element size) ty e = absurd (cc e)
sized-above kind (scalar_type a) (struct_type number) ty e = absurd (cc e)
sized-above kind (vector_type a m) void_type ty e = absurd (cc e)
sized-above kind (vector_type a m) (array_type element size) ty e = absurd (cc e)
sized-above kind (vector_type a m) (struct_type number) ty e = absurd (cc e)

-- ---- the common type of several

abbrev pub AllAbove : List Ty → Ty → Type 0
AllAbove [] to = Unit {0}
AllAbove (ty ∷ types) to = IsAbove ty to × AllAbove types to

-- all are at least as large as their common type, which is one of numbers
record AreCommon (before : Ty) (types : List Ty) (ty : Ty) : Type 0 where
  first : IsAbove before ty
  rest : AllAbove types ty
  short : (env : places.Scope) → IsShort before → AllResults env types → IsShort ty
  numeric : is_numeric before ≡ true → is_numeric ty ≡ true

-- what has a common type with something is a scalar or a vector
sized-basic : (kind : Kind) (a b ty : Ty) → sized kind a b ≡ Some ty → (is_basic a ≡ true) × (is_basic b ≡ true)
sized-basic kind (scalar_type a) (scalar_type b) ty e = (refl, refl)
sized-basic kind (scalar_type a) (vector_type b n) ty e = (refl, refl)
sized-basic kind (vector_type a m) (scalar_type b) ty e = (refl, refl)
sized-basic kind (vector_type a m) (vector_type b n) ty e = (refl, refl)
sized-basic kind void_type b ty e = absurd (cc e)
sized-basic kind (array_type element size) b ty e = absurd (cc e)
sized-basic kind (struct_type number) b ty e = absurd (cc e)
sized-basic kind (scalar_type a) void_type ty e = absurd (cc e)
sized-basic kind (scalar_type a) (array_type element size) ty e = absurd (cc e)
sized-basic kind (scalar_type a) (struct_type number) ty e = absurd (cc e)
sized-basic kind (vector_type a m) void_type ty e = absurd (cc e)
sized-basic kind (vector_type a m) (array_type element size) ty e = absurd (cc e)
sized-basic kind (vector_type a m) (struct_type number) ty e = absurd (cc e)

pub above-same : (ty : Ty) → is_basic ty ≡ true → IsAbove ty ty
above-same (scalar_type kind) e = tt
above-same (vector_type kind size) e = omega arith
above-same void_type e = absurd (cc e)
above-same (array_type element size) e = absurd (cc e)
above-same (struct_type number) e = absurd (cc e)

none-behind : (types : List Ty) (ty : Ty) → common_behind None types ≡ Some ty → ⊥
none-behind [] ty e = cc e
none-behind (x ∷ types) ty e = none-behind types ty e

behind-common : (before : Ty) (types : List Ty) (ty : Ty) → is_basic before ≡ true → common_behind (Some before) types ≡ Some ty → AreCommon before types ty
behind-common before [] ty e h =
    subst (λ t. AreCommon before [] t) (same_Some before ty h)
    (record { first = above-same before e; rest = tt; short = λ env k r. k; numeric = λ k. k })
behind-common before (x ∷ types) ty e h = on (common_type before x) refl h (λ mid k l. behind-common mid types ty k l)
  where
    kind : Kind
    kind = common_kind (kind_of before) (kind_of x)

    joined : (mid : Ty) → common_type before x ≡ Some mid → IsCommon kind before x mid → AreCommon mid types ty → AreCommon before (x ∷ types) ty
    joined mid k c a = record {
      first = above-trans before mid ty c.left a.first;
      rest = (above-trans x mid ty c.right a.first, a.rest);
      short = λ env b r. a.short env (c.short b (result-short env.structs x (sized-basic kind before x mid k).1 r.0)) r.1;
      numeric = λ n. a.numeric (c.numeric (common-number (computing_kind (kind_of before)) (computing_kind (kind_of x))));
    }

    on : (mid : Option Ty) → common_type before x ≡ mid → common_behind mid types ≡ Some ty → ((m : Ty) → is_basic m ≡ true → common_behind (Some m) types ≡ Some ty → AreCommon m types ty) → AreCommon before (x ∷ types) ty
    on None k l rest = absurd (none-behind types ty l)
    on (Some mid) k l rest =
        let c : IsCommon kind before x mid = sized-above kind before x mid k in
        joined mid k c (rest mid c.basic l)

above-kind : (kind : Kind) (ty : Ty) → is_basic ty ≡ true → IsAbove ty (with_kind kind ty)
above-kind kind (scalar_type k) e = tt
above-kind kind (vector_type k size) e = omega arith
above-kind kind void_type e = absurd (cc e)
above-kind kind (array_type element size) e = absurd (cc e)
above-kind kind (struct_type number) e = absurd (cc e)

basic-kind : (kind : Kind) (ty : Ty) → is_basic ty ≡ true → is_basic (with_kind kind ty) ≡ true
basic-kind kind (scalar_type k) e = refl
basic-kind kind (vector_type k size) e = refl
basic-kind kind void_type e = absurd (cc e)
basic-kind kind (array_type element size) e = absurd (cc e)
basic-kind kind (struct_type number) e = absurd (cc e)

-- the common type of arguments
pub record AreOne (types : List Ty) (ty : Ty) : Type 0 where
  pub above : AllAbove types ty
  pub short : (env : places.Scope) → AllResults env types → IsShort ty
  pub numeric : is_numeric ty ≡ true

pub one-common : (types : List Ty) (ty : Ty) → common_of types ≡ Some ty → AreOne types ty
one-common [] ty e = absurd (cc e)
one-common (x ∷ types) ty e = on (is_basic x) refl e
  where
    kind : Kind
    kind = computing_kind (kind_of x)

    given : is_basic x ≡ true → AreCommon (with_kind kind x) types ty → AreOne (x ∷ types) ty
    given h c = record {
      above = (above-trans x (with_kind kind x) ty (above-kind kind x h) c.first, c.rest);
      short = λ env r. c.short env (short-kind kind x (result-short env.structs x h r.0)) r.1;
      numeric = c.numeric (numeric-kind kind x (computing-number (kind_of x)) h);
    }

    on : (basic : Bool) → is_basic x ≡ basic → common_behind (if basic then Some (with_kind kind x) else None) types ≡ Some ty → AreOne (x ∷ types) ty
    on true h k = given h (behind-common (with_kind kind x) types ty (basic-kind kind x h) k)
    on false h k = absurd (none-behind types ty k)
