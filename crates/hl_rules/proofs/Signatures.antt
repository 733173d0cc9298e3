-- What arguments of intrinsic functions are converted to, and what these give.
use Rattle.std.proofs.Common.{◌≡◌, refl, subst, arith, ℕ, Bool, true, false, ◌&&◌, if◌then◌else◌, List, [], ◌∷◌, length, replicate, Option, None, Some}
use Rattle.std.specs.Prelude.{◌==◌, option_map}
use Rattle.std.proofs.lemmas.Option.{same_Some}
use Rattle.hl_meaning.specs.declared.intrinsic.Signature.{Signature}
use Rattle.hl_meaning.specs.declared.intrinsic.Signature.TheVariants.{AllEqual, Atomic, Ballot, Barrier, Bits, CountTruths, LaneNumber, LaneTruth, Numbers, ReadLaneAt, ReadLaneFirst, Truths, Uints, Vote}
use Rattle.hl_meaning.specs.declared.ty.Kind.{Kind}
use Rattle.hl_meaning.specs.declared.ty.Kind.TheVariants.{Bool as BoolKind, Uint as UintKind}
use Rattle.hl_meaning.specs.Types.{Ty, array_type, bool_type, is_basic, is_numeric, is_scalar, scalar_type, struct_type, uint_type, vector_type, void_type, with_kind}
use Rattle.hl_meaning.specs.Conversions.{converts}
use Rattle.hl_meaning.specs.Intrinsics.{HasSignature}
use Rattle.hl_meaning.specs.Places as places
use Rattle.hl_meaning.specs.WellFormed.{IsResult}
use Rattle.hl_rules.specs.Intrinsics.{Passing, passed, passing_if}
use Rattle.hl_rules.specs.Operands.{common_of}
use Rattle.hl_rules.proofs.Arguments.{AllConvert, AllResults}
use Rattle.hl_rules.proofs.BuildForms.{kind-is}
use Rattle.hl_rules.proofs.CommonTypes.{AllAbove, AreOne, above-converts, above-same, one-common}
use Rattle.hl_rules.proofs.ShortTypes.{result-short, short-kind, short-result}
use Rattle.hl_rules.proofs.SignForms.{kind-converts}
use Rattle.hl_rules.proofs.TypeLemmas.{and-left, and-right, same-number}

-- ---- signatures

abbrev pub a_passing : List Ty → Ty → Passing
a_passing takes gives = record { takes = takes; gives = gives }

-- arguments of these types are converted to what a signature takes, which gives what it should
pub record IsPassing (signature : Signature) (types : List Ty) (p : Passing) : Type 0 where
  pub converting : AllConvert p.takes types
  pub has : HasSignature signature p.takes p.gives
  pub results : (env : places.Scope) → AllResults env types → AllResults env p.takes × IsResult env.structs p.gives

all-convert : (types : List Ty) (ty : Ty) → AllAbove types ty → AllConvert (replicate (length types) ty) types
all-convert [] ty h = tt
all-convert (x ∷ types) ty h = (above-converts x ty h.0, all-convert types ty h.1)

all-results : (env : places.Scope) (ty : Ty) (types : List Ty) → IsResult env.structs ty → AllResults env (replicate (length types) ty)
all-results env ty [] h = tt
all-results env ty (x ∷ types) h = (h, all-results env ty types h)

numbers-passing : (count : ℕ) (types : List Ty) (ty : Ty) → length types ≡ count → AreOne types ty → IsPassing (Numbers count) types (a_passing (replicate count ty) ty)
numbers-passing count types ty e one =
    subst (λ n. IsPassing (Numbers n) types (a_passing (replicate n ty) ty)) e (record {
      converting = all-convert types ty one.above;
      has = (refl, one.numeric);
      results = λ env r.
          let result : IsResult env.structs ty = short-result env.structs ty (one.short env r) in
          (all-results env ty types result, result);
    })

numbers-says : (count : ℕ) (types : List Ty) (p : Passing) → passed (Numbers count) types ≡ Some p → IsPassing (Numbers count) types p
numbers-says count types p e = on (length types == count) refl e
  where
    made : length types ≡ count → (common : Option Ty) → common_of types ≡ common → option_map (λ ty. a_passing (replicate count ty) ty) common ≡ Some p → IsPassing (Numbers count) types p
    made h None k l = absurd (cc l)
    made h (Some ty) k l =
        subst (λ q. IsPassing (Numbers count) types q) (same_Some (a_passing (replicate count ty) ty) p l) (numbers-passing count types ty h (one-common types ty k))

    on : (same : Bool) → length types == count ≡ same → (if same then option_map (λ ty. a_passing (replicate count ty) ty) (common_of types) else None) ≡ Some p → IsPassing (Numbers count) types p
    on true h k = made (same-number (length types) count h) (common_of types) refl k
    on false h k = absurd (cc k)

if-says : (signature : Signature) (types : List Ty) (fits : Bool) (takes : List Ty) (gives : Ty) (p : Passing) → (fits ≡ true → IsPassing signature types (a_passing takes gives)) → passing_if fits takes gives ≡ Some p → IsPassing signature types p
if-says signature types true takes gives p h e = subst (λ q. IsPassing signature types q) (same_Some (a_passing takes gives) p e) (h refl)
if-says signature types false takes gives p h e = absurd (cc e)

kind-result : (env : places.Scope) (kind : Kind) (x : Ty) → is_basic x ≡ true → IsResult env.structs x → IsResult env.structs (with_kind kind x)
kind-result env kind x e h = short-result env.structs (with_kind kind x) (short-kind kind x (result-short env.structs x e h))

scalar-converts : (x : Ty) (kind : Kind) → is_scalar x ≡ true → converts x (scalar_type kind) ≡ true
scalar-converts (scalar_type k) kind e = refl
scalar-converts void_type kind e = absurd (cc e)
scalar-converts (vector_type k size) kind e = absurd (cc e)
scalar-converts (array_type element size) kind e = absurd (cc e)
scalar-converts (struct_type number) kind e = absurd (cc e)

scalar-result : (env : places.Scope) (kind : Kind) → IsResult env.structs (scalar_type kind)
scalar-result env kind = short-result env.structs (scalar_type kind) tt

numeric-basic : (x : Ty) → is_numeric x ≡ true → is_basic x ≡ true
numeric-basic (scalar_type kind) e = refl
numeric-basic (vector_type kind size) e = refl
numeric-basic void_type e = absurd (cc e)
numeric-basic (array_type element size) e = absurd (cc e)
numeric-basic (struct_type number) e = absurd (cc e)

same-converts : (x : Ty) → is_basic x ≡ true → converts x x ≡ true
same-converts x e = above-converts x x (above-same x e)

again-kind : (kind first : Kind) (x : Ty) → with_kind kind x ≡ with_kind kind (with_kind first x)
again-kind kind first (scalar_type k) = refl
again-kind kind first (vector_type k size) = refl
again-kind kind first void_type = refl
again-kind kind first (array_type element size) = refl
again-kind kind first (struct_type number) = refl

one-says : (signature : Signature) (x : Ty) (p : Passing) → passed signature (x ∷ []) ≡ Some p → IsPassing signature (x ∷ []) p
one-says (Numbers count) x p e = numbers-says count (x ∷ []) p e
one-says Uints x p e = if-says Uints (x ∷ []) (is_basic x) (with_kind UintKind x ∷ []) (with_kind UintKind x) p (λ h. record {
  converting = (kind-converts UintKind x h, tt);
  has = (refl, kind-is UintKind x h);
  results = λ env r. ((kind-result env UintKind x h r.0, tt), kind-result env UintKind x h r.0);
}) e
one-says Truths x p e = if-says Truths (x ∷ []) (is_basic x) (with_kind BoolKind x ∷ []) bool_type p (λ h. record {
  converting = (kind-converts BoolKind x h, tt);
  has = (kind-is BoolKind x h, refl);
  results = λ env r. ((kind-result env BoolKind x h r.0, tt), scalar-result env BoolKind);
}) e
one-says (Bits kind) x p e = if-says (Bits kind) (x ∷ []) (is_numeric x) (x ∷ []) (with_kind kind x) p (λ h. record {
  converting = (same-converts x (numeric-basic x h), tt);
  has = (h, refl);
  results = λ env r. ((r.0, tt), kind-result env kind x (numeric-basic x h) r.0);
}) e
one-says Vote x p e = if-says Vote (x ∷ []) (is_scalar x) (bool_type ∷ []) bool_type p (λ h. record {
  converting = (scalar-converts x BoolKind h, tt);
  has = (refl, refl);
  results = λ env r. ((scalar-result env BoolKind, tt), scalar-result env BoolKind);
}) e
one-says Ballot x p e = if-says Ballot (x ∷ []) (is_scalar x) (bool_type ∷ []) (vector_type UintKind 4) p (λ h. record {
  converting = (scalar-converts x BoolKind h, tt);
  has = (refl, refl);
  results = λ env r. ((scalar-result env BoolKind, tt), short-result env.structs (vector_type UintKind 4) (omega arith, omega arith));
}) e
one-says AllEqual x p e = if-says AllEqual (x ∷ []) (is_basic x) (x ∷ []) (with_kind BoolKind x) p (λ h. record {
  converting = (same-converts x h, tt);
  has = (h, refl);
  results = λ env r. ((r.0, tt), kind-result env BoolKind x h r.0);
}) e
one-says ReadLaneFirst x p e = if-says ReadLaneFirst (x ∷ []) (is_basic x) (x ∷ []) x p (λ h. record {
  converting = (same-converts x h, tt);
  has = (refl, h);
  results = λ env r. ((r.0, tt), r.0);
}) e
one-says CountTruths x p e = if-says CountTruths (x ∷ []) (is_basic x) (with_kind BoolKind x ∷ []) (with_kind UintKind x) p (λ h. record {
  converting = (kind-converts BoolKind x h, tt);
  has = (kind-is BoolKind x h, again-kind UintKind BoolKind x);
  results = λ env r. ((kind-result env BoolKind x h r.0, tt), kind-result env UintKind x h r.0);
}) e
one-says Atomic x p e = absurd (cc e)
one-says Barrier x p e = absurd (cc e)
one-says LaneTruth x p e = absurd (cc e)
one-says LaneNumber x p e = absurd (cc e)
one-says ReadLaneAt x p e = absurd (cc e)

none-says : (signature : Signature) (p : Passing) → passed signature [] ≡ Some p → IsPassing signature [] p
none-says (Numbers count) p e = numbers-says count [] p e
none-says Barrier p e = if-says Barrier [] true [] void_type p (λ h. record { converting = tt; has = (refl, refl); results = λ env r. (tt, tt) }) e
none-says LaneTruth p e = if-says LaneTruth [] true [] bool_type p (λ h. record { converting = tt; has = (refl, refl); results = λ env r. (tt, scalar-result env BoolKind) }) e
none-says LaneNumber p e = if-says LaneNumber [] true [] uint_type p (λ h. record { converting = tt; has = (refl, refl); results = λ env r. (tt, scalar-result env UintKind) }) e
none-says Uints p e = absurd (cc e)
none-says Truths p e = absurd (cc e)
none-says (Bits kind) p e = absurd (cc e)
none-says Vote p e = absurd (cc e)
none-says Ballot p e = absurd (cc e)
none-says AllEqual p e = absurd (cc e)
none-says ReadLaneFirst p e = absurd (cc e)
none-says CountTruths p e = absurd (cc e)
none-says Atomic p e = absurd (cc e)
none-says ReadLaneAt p e = absurd (cc e)

two-says : (signature : Signature) (x y : Ty) (p : Passing) → passed signature (x ∷ y ∷ []) ≡ Some p → IsPassing signature (x ∷ y ∷ []) p
two-says (Numbers count) x y p e = numbers-says count (x ∷ y ∷ []) p e
two-says ReadLaneAt x y p e = if-says ReadLaneAt (x ∷ y ∷ []) (is_basic x && is_scalar y) (x ∷ uint_type ∷ []) x p (λ h. record {
  converting = (same-converts x (and-left (is_basic x) (is_scalar y) h), (scalar-converts y UintKind (and-right (is_basic x) (is_scalar y) h), tt));
  has = (refl, and-left (is_basic x) (is_scalar y) h);
  results = λ env r. ((r.0, (scalar-result env UintKind, tt)), r.0);
}) e
two-says Uints x y p e = absurd (cc e)
two-says Truths x y p e = absurd (cc e)
two-says (Bits kind) x y p e = absurd (cc e)
two-says Vote x y p e = absurd (cc e)
two-says Ballot x y p e = absurd (cc e)
two-says AllEqual x y p e = absurd (cc e)
two-says ReadLaneFirst x y p e = absurd (cc e)
two-says CountTruths x y p e = absurd (cc e)
two-says Atomic x y p e = absurd (cc e)
two-says Barrier x y p e = absurd (cc e)
two-says LaneTruth x y p e = absurd (cc e)
two-says LaneNumber x y p e = absurd (cc e)

more-says : (signature : Signature) (x y z : Ty) (types : List Ty) (p : Passing) → passed signature (x ∷ y ∷ z ∷ types) ≡ Some p → IsPassing signature (x ∷ y ∷ z ∷ types) p
more-says (Numbers count) x y z types p e = numbers-says count (x ∷ y ∷ z ∷ types) p e
more-says Uints x y z types p e = absurd (cc e)
more-says Truths x y z types p e = absurd (cc e)
more-says (Bits kind) x y z types p e = absurd (cc e)
more-says Vote x y z types p e = absurd (cc e)
more-says Ballot x y z types p e = absurd (cc e)
more-says AllEqual x y z types p e = absurd (cc e)
more-says ReadLaneFirst x y z types p e = absurd (cc e)
more-says CountTruths x y z types p e = absurd (cc e)
more-says Atomic x y z types p e = absurd (cc e)
more-says Barrier x y z types p e = absurd (cc e)
more-says LaneTruth x y z types p e = absurd (cc e)
more-says LaneNumber x y z types p e = absurd (cc e)
more-says ReadLaneAt x y z types p e = absurd (cc e)

pub passed-says : (signature : Signature) (types : List Ty) (p : Passing) → passed signature types ≡ Some p → IsPassing signature types p
passed-says signature [] p e = none-says signature p e
passed-says signature (x ∷ []) p e = one-says signature x p e
passed-says signature (x ∷ y ∷ []) p e = two-says signature x y p e
passed-says signature (x ∷ y ∷ z ∷ types) p e = more-says signature x y z types p e
