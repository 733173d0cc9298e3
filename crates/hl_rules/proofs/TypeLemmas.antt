-- Types of operands, and their conversions.
use Rattle.std.proofs.Common.{◌≡◌, ◌∙◌, refl, ap, arith, ℕ, ◌≤◌, Bool, true, false, ◌&&◌, if◌then◌else◌, nat_lt, None, Some, le_trans}
use Rattle.std.specs.Prelude.{◌==◌, ◌+◌, min, is_some}
use Rattle.hl_meaning.specs.declared.ty.Kind.{Kind}
use Rattle.hl_meaning.specs.declared.ty.Kind.TheVariants.{Bool as BoolKind, Int as IntKind, Uint as UintKind}
use Rattle.hl_meaning.specs.Types.{Ty, array_type, is_basic, is_numeric, is_of, is_scalar, kind_eq, scalar_type, struct_type, ty_eq, vector_type, void_type, with_kind}
use Rattle.hl_meaning.specs.Conversions.{converts, kind_cost}
use Rattle.hl_rules.specs.Operands.{sized}
use Rattle.hl_rules.proofs.ShortTypes.{IsShort}

-- ---- equality

kind_eq-same : (a b : Kind) → kind_eq a b ≡ true → a ≡ b
kind_eq-same BoolKind BoolKind e = refl
kind_eq-same IntKind IntKind e = refl
kind_eq-same UintKind UintKind e = refl
kind_eq-same BoolKind IntKind e = absurd (cc e)
kind_eq-same BoolKind UintKind e = absurd (cc e)
kind_eq-same IntKind BoolKind e = absurd (cc e)
kind_eq-same IntKind UintKind e = absurd (cc e)
kind_eq-same UintKind BoolKind e = absurd (cc e)
kind_eq-same UintKind IntKind e = absurd (cc e)

pub and-left : (a b : Bool) → a && b ≡ true → a ≡ true
and-left true b e = refl
and-left false b e = absurd (cc e)

pub and-right : (a b : Bool) → a && b ≡ true → b ≡ true
and-right true b e = e
and-right false b e = absurd (cc e)

pub same-number : (m n : ℕ) → m == n ≡ true → m ≡ n
same-number m n e = grind arith

pub ty_eq-same : (a b : Ty) → ty_eq a b ≡ true → a ≡ b
ty_eq-same void_type void_type e = refl
ty_eq-same (scalar_type a) (scalar_type b) e = ap (λ k. scalar_type k) (kind_eq-same a b e)
ty_eq-same (vector_type a m) (vector_type b n) e =
    ap (λ k. vector_type k m) (kind_eq-same a b (and-left (kind_eq a b) (m == n) e))
    ∙ ap (λ k. vector_type b k) (same-number m n (and-right (kind_eq a b) (m == n) e))
ty_eq-same (array_type s m) (array_type t n) e =
    ap (λ k. array_type k m) (ty_eq-same s t (and-left (ty_eq s t) (m == n) e))
    ∙ ap (λ k. array_type t k) (same-number m n (and-right (ty_eq s t) (m == n) e))
ty_eq-same (struct_type m) (struct_type n) e = ap (λ k. struct_type k) (same-number m n e)
ty_eq-same void_type (scalar_type b) e = absurd (cc e)
ty_eq-same void_type (vector_type b n) e = absurd (cc e)
ty_eq-same void_type (array_type t n) e = absurd (cc e)
ty_eq-same void_type (struct_type n) e = absurd (cc e)
ty_eq-same (scalar_type a) void_type e = absurd (cc e)
ty_eq-same (scalar_type a) (vector_type b n) e = absurd (cc e)
ty_eq-same (scalar_type a) (array_type t n) e = absurd (cc e)
ty_eq-same (scalar_type a) (struct_type n) e = absurd (cc e)
ty_eq-same (vector_type a m) void_type e = absurd (cc e)
ty_eq-same (vector_type a m) (scalar_type b) e = absurd (cc e)
ty_eq-same (vector_type a m) (array_type t n) e = absurd (cc e)
ty_eq-same (vector_type a m) (struct_type n) e = absurd (cc e)
ty_eq-same (array_type s m) void_type e = absurd (cc e)
ty_eq-same (array_type s m) (scalar_type b) e = absurd (cc e)
ty_eq-same (array_type s m) (vector_type b n) e = absurd (cc e)
ty_eq-same (array_type s m) (struct_type n) e = absurd (cc e)
ty_eq-same (struct_type m) void_type e = absurd (cc e)
ty_eq-same (struct_type m) (scalar_type b) e = absurd (cc e)
ty_eq-same (struct_type m) (vector_type b n) e = absurd (cc e)
ty_eq-same (struct_type m) (array_type t n) e = absurd (cc e)

-- ---- sizes

-- a vector converts to one that isn't longer
cut-there : (c d m n : ℕ) (same shorter : Bool) → m == n ≡ same → nat_lt n m ≡ shorter → n ≤ m → is_some (if same then Some c else (if shorter then Some d else None)) ≡ true
cut-there c d m n true shorter e k h = refl
cut-there c d m n false true e k h = refl
cut-there c d m n false false e k h = grind arith

pub min-left : (m n : ℕ) → min m n ≤ m
min-left m n = omega arith

pub min-right : (m n : ℕ) → min m n ≤ n
min-right m n = omega arith

pub min-low : (m n low : ℕ) → low ≤ m → low ≤ n → low ≤ min m n
min-low m n low h k = omega arith

pub cut-converts : (k l : Kind) (m n : ℕ) → n ≤ m → converts (vector_type k m) (vector_type l n) ≡ true
cut-converts k l m n h = cut-there (kind_cost k l) (kind_cost k l + 8) m n (m == n) (nat_lt n m) refl refl h

-- whether a kind is one of numbers
abbrev pub is_number_kind : Kind → Bool
is_number_kind BoolKind = false
is_number_kind IntKind = true
is_number_kind UintKind = true

pub number-numeric : (kind : Kind) → is_number_kind kind ≡ true → is_numeric (scalar_type kind) ≡ true
number-numeric IntKind e = refl
number-numeric UintKind e = refl
number-numeric BoolKind e = absurd (cc e)

bool-bools : (kind : Kind) → kind ≡ BoolKind → is_of BoolKind (scalar_type kind) ≡ true
bool-bools kind e = ap (λ k. kind_eq BoolKind k) e

-- Two scalars or vectors have a common size, and both convert to it, in any kind.
pub record IsSized (kind : Kind) (a b ty : Ty) : Type 0 where
  pub is : sized kind a b ≡ Some ty
  pub basic : is_basic ty ≡ true
  pub left : converts a ty ≡ true
  pub right : converts b ty ≡ true
  pub back : is_scalar b ≡ true → converts ty a ≡ true
  pub kinds : with_kind kind ty ≡ ty
  pub short : IsShort a → IsShort b → IsShort ty
  pub bools : kind ≡ BoolKind → is_of BoolKind ty ≡ true
  pub numbers : is_number_kind kind ≡ true → is_numeric ty ≡ true

pub sized-there : (kind : Kind) (a b : Ty) → is_basic a ≡ true → is_basic b ≡ true → (ty : Ty) × IsSized kind a b ty
sized-there kind (scalar_type a) (scalar_type b) h k = (
  scalar_type kind,
  record {
    is = refl;
    basic = refl;
    left = refl;
    right = refl;
    back = λ e. refl;
    kinds = refl;
    short = λ e l. tt;
    bools = bool-bools kind;
    numbers = number-numeric kind;
  },
)
sized-there kind (scalar_type a) (vector_type b n) h k = (
  vector_type kind n,
  record {
    is = refl;
    basic = refl;
    left = refl;
    right = cut-converts b kind n n (omega arith);
    back = λ e. refl;
    kinds = refl;
    short = λ e l. l;
    bools = bool-bools kind;
    numbers = number-numeric kind;
  },
)
sized-there kind (vector_type a m) (scalar_type b) h k = (
  vector_type kind m,
  record {
    is = refl;
    basic = refl;
    left = cut-converts a kind m m (omega arith);
    right = refl;
    back = λ e. cut-converts kind a m m (omega arith);
    kinds = refl;
    short = λ e l. e;
    bools = bool-bools kind;
    numbers = number-numeric kind;
  },
)
sized-there kind (vector_type a m) (vector_type b n) h k = (
  vector_type kind (min m n),
  record {
    is = refl;
    basic = refl;
    left = cut-converts a kind m (min m n) (min-left m n);
    right = cut-converts b kind n (min m n) (min-right m n);
    back = λ e. absurd (cc e);
    kinds = refl;
    short = λ e l. (min-low m n 2 e.0 l.0, le_trans (min-left m n) e.1);
    bools = bool-bools kind;
    numbers = number-numeric kind;
  },
)
sized-there kind void_type b h k = absurd (cc h)
sized-there kind (array_type s m) b h k = absurd (cc h)
sized-there kind (struct_type m) b h k = absurd (cc h)
sized-there kind (scalar_type a) void_type h k = absurd (cc k)
sized-there kind (scalar_type a) (array_type t n) h k = absurd (cc k)
sized-there kind (scalar_type a) (struct_type n) h k = absurd (cc k)
sized-there kind (vector_type a m) void_type h k = absurd (cc k)
sized-there kind (vector_type a m) (array_type t n) h k = absurd (cc k)
sized-there kind (vector_type a m) (struct_type n) h k = absurd (cc k)
