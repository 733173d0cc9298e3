-- Interlocked operations become what is known of them.
use Rattle.std.proofs.Common.{◌≡◌, ◌∙◌, refl, sym, subst, ℕ, Bool, true, false, ◌&&◌, Option, None, Some}
use Rattle.std.specs.Prelude.{IsTrue, is_none, is_some}
use Rattle.std.proofs.lemmas.Bool.{and_parts}
use Rattle.lane_core.specs.declared.event.AtomicKind.{AtomicKind}
use Rattle.lane_core.specs.declared.event.AtomicKind.TheVariants.{Add, And, Exchange, IMax, IMin, Or, UMax, UMin, Xor}
use Rattle.hl_meaning.specs.declared.ty.Kind.{Kind}
use Rattle.hl_meaning.specs.Types.{Ty, scalar_type, void_type}
use Rattle.hl_meaning.specs.Places as places
use Rattle.hl_meaning.specs.Places.{is_writable_place}
use Rattle.hl_meaning.specs.Trees.{Expr, Location, Target, an_expr, atomic_form, bytes_target, no_expr, no_location, place_target, place_type, some_expr, some_location, type_of}
use Rattle.hl_meaning.specs.WellFormed.{IsCompared, IsExpr, IsOriginal, IsPlace, IsTarget, IsWord}
use Rattle.hl_rules.specs.declared.interlocked.Interlocked.{Interlocked}
use Rattle.hl_rules.specs.declared.interlocked.Presence.{Presence}
use Rattle.hl_rules.specs.Intrinsics.{Operands, interlocked_form, may_be_absent}
use Rattle.hl_rules.specs.Nodes.{Code, a_value, a_value_code, converted_code, expr_if, interlocked, kind_for, location_if, perhaps, place_of_code, value_of_code}
use Rattle.hl_rules.specs.Scopes.{Scope}
use Rattle.hl_rules.specs.Values.{Value, holds_if, is_basic_value, is_word, is_written_place, operands_fit, plain_value}
use Rattle.hl_rules.proofs.Arguments.{argument-stands}
use Rattle.hl_rules.proofs.AtomicKinds.{IsKinded, a_comparing, a_plain, form-kinded, is_exchange}
use Rattle.hl_rules.proofs.AtomicOperands.{AreOperands, IsComparedWith, IsOriginalAt, basic-converted, compared-there, original-there}
use Rattle.hl_rules.proofs.Becoming.{Becomes, IsConverted}
use Rattle.hl_rules.proofs.Fitting.{Fits}
use Rattle.hl_rules.proofs.ShortTypes.{short-result}

-- ---- what is compared with

compared-is : (env : places.Scope) (ty : Ty) (kind : Option AtomicKind) (compares : Bool) (original : Presence) (to : Option Expr) → IsKinded compares original kind ty → is_some to ≡ compares → ((e : Expr) → to ≡ Some e → IsExpr env e × (type_of e ≡ ty)) → IsCompared env ty kind (expr_if to)
compared-is env ty kind compares original None (a_plain own k c good absent) e h = subst (λ o. IsCompared env ty o no_expr) (sym k) good
compared-is env ty kind compares original (Some x) (a_plain own k c good absent) e h = absurd (cc (e, c))
compared-is env ty kind compares original None (a_comparing k c) e h = absurd (cc (e, c))
compared-is env ty kind compares original (Some x) (a_comparing k c) e h = subst (λ o. IsCompared env ty o (some_expr x)) (sym k) (h x refl)

-- ---- where the original goes

no-original : (env : places.Scope) (target : Target) (kind : AtomicKind) → is_exchange kind ≡ false → IsOriginal env target (Some kind) no_location
no-original env (place_target place) Add e = tt
no-original env (place_target place) And e = tt
no-original env (place_target place) Or e = tt
no-original env (place_target place) Xor e = tt
no-original env (place_target place) IMin e = tt
no-original env (place_target place) IMax e = tt
no-original env (place_target place) UMin e = tt
no-original env (place_target place) UMax e = tt
no-original env (place_target place) Exchange e = absurd (cc e)
no-original env (bytes_target number address) Add e = tt
no-original env (bytes_target number address) And e = tt
no-original env (bytes_target number address) Or e = tt
no-original env (bytes_target number address) Xor e = tt
no-original env (bytes_target number address) IMin e = tt
no-original env (bytes_target number address) IMax e = tt
no-original env (bytes_target number address) UMin e = tt
no-original env (bytes_target number address) UMax e = tt
no-original env (bytes_target number address) Exchange e = absurd (cc e)

none-original : (env : places.Scope) (target : Target) → IsOriginal env target None no_location
none-original env (place_target place) = tt
none-original env (bytes_target number address) = tt

pub place-original : (env : places.Scope) (place : Location) (kind : Option AtomicKind) (original : Location) → IsPlace env original → IsTrue (is_writable_place env original) → place_type original ≡ place_type place → IsOriginal env (place_target place) kind (some_location original)
place-original env place None original h k e = (h, k, e)
place-original env place (Some Add) original h k e = (h, k, e)
place-original env place (Some And) original h k e = (h, k, e)
place-original env place (Some Or) original h k e = (h, k, e)
place-original env place (Some Xor) original h k e = (h, k, e)
place-original env place (Some IMin) original h k e = (h, k, e)
place-original env place (Some IMax) original h k e = (h, k, e)
place-original env place (Some UMin) original h k e = (h, k, e)
place-original env place (Some UMax) original h k e = (h, k, e)
place-original env place (Some Exchange) original h k e = (h, k, e)

pub bytes-original : (env : places.Scope) (number : ℕ) (address : Expr) (kind : Option AtomicKind) (original : Location) → IsPlace env original → IsTrue (is_writable_place env original) → IsWord (place_type original) → IsOriginal env (bytes_target number address) kind (some_location original)
bytes-original env number address None original h k e = (h, k, e)
bytes-original env number address (Some Add) original h k e = (h, k, e)
bytes-original env number address (Some And) original h k e = (h, k, e)
bytes-original env number address (Some Or) original h k e = (h, k, e)
bytes-original env number address (Some Xor) original h k e = (h, k, e)
bytes-original env number address (Some IMin) original h k e = (h, k, e)
bytes-original env number address (Some IMax) original h k e = (h, k, e)
bytes-original env number address (Some UMin) original h k e = (h, k, e)
bytes-original env number address (Some UMax) original h k e = (h, k, e)
bytes-original env number address (Some Exchange) original h k e = (h, k, e)

original-is : (env : places.Scope) (ty : Ty) (target : Target) (kind : Option AtomicKind) (compares : Bool) (original : Presence) (to : Option Location) → IsKinded compares original kind ty → (is_none to ≡ true → may_be_absent original ≡ true) → ((place : Location) → to ≡ Some place → IsOriginal env target kind (some_location place)) → IsOriginal env target kind (location_if to)
original-is env ty target kind compares original (Some place) k e h = h place refl
original-is env ty target kind compares original None (a_plain own k c good absent) e h =
    subst (λ o. IsOriginal env target o no_location) (sym k) (no-original env target own (absent (e refl)))
original-is env ty target kind compares original None (a_comparing k c) e h = subst (λ o. IsOriginal env target o no_location) (sym k) (none-original env target)

-- ---- operations

interlocked-made : (at : ℕ) (target : Target) (ty : Ty) (form : Interlocked) (o : Operands Code) (compare : Option Expr) (value : Expr) (original : Option Location) → perhaps (converted_code ty) o.compare ≡ Some compare → converted_code ty o.value ≡ Some value → perhaps place_of_code o.original ≡ Some original → interlocked at target ty form o ≡ a_value void_type at (atomic_form target (kind_for form ty) (expr_if compare) value (location_if original))
interlocked-made at target ty form o compare value original e h k = rw e (rw h (rw k refl))

-- an interlocked operation on a target that is a word
pub interlocked-becomes : (s : Scope) (at : ℕ) (target : Target) (kind : Kind) (number : ℕ) (form : Interlocked) (test : Ty → Bool) (o : Operands Value) (made : Option (Operands Code)) (a : AreOperands s form.compares form.original o made) → interlocked_form number ≡ Some form → is_word (scalar_type kind) ≡ true → operands_fit test o ≡ true → ((env : places.Scope) → Fits env s → IsTarget env (scalar_type kind) target) → ((env : places.Scope) (k : Option AtomicKind) (place : Location) → IsPlace env place → IsTrue (is_writable_place env place) → test (place_type place) ≡ true → IsOriginal env target k (some_location place)) → Becomes s (plain_value (Some void_type)) (interlocked at target (scalar_type kind) form a.to)
interlocked-becomes s at target kind number form test o made a found word fit targets originals =
    given (compared-there s o.compare a.to.compare kind a.compare_is fits.1.0) (basic-converted s o.value a.to.value kind a.value_is fits.0) (original-there s o.original a.to.original test a.original_is fits.1.1)
  where
    fits : (is_basic_value o.value ≡ true) × ((holds_if is_basic_value o.compare ≡ true) × (holds_if (is_written_place test) o.original ≡ true))
    fits =
        let p : (is_basic_value o.value ≡ true) × (holds_if is_basic_value o.compare && holds_if (is_written_place test) o.original ≡ true) = and_parts (is_basic_value o.value) (holds_if is_basic_value o.compare && holds_if (is_written_place test) o.original) fit in
        (p.0, and_parts (holds_if is_basic_value o.compare) (holds_if (is_written_place test) o.original) p.1)

    kinded : IsKinded form.compares form.original (kind_for form (scalar_type kind)) (scalar_type kind)
    kinded = form-kinded number form (scalar_type kind) found word

    given : IsComparedWith s (scalar_type kind) a.to.compare (perhaps (converted_code (scalar_type kind)) a.to.compare) → IsConverted (scalar_type kind) (value_of_code a.to.value) (converted_code (scalar_type kind) a.to.value) → IsOriginalAt s test a.to.original (perhaps place_of_code a.to.original) → Becomes s (plain_value (Some void_type)) (interlocked at target (scalar_type kind) form a.to)
    given c v r = record {
      to = a_value_code (an_expr void_type at (atomic_form target (kind_for form (scalar_type kind)) (expr_if c.to) v.to (location_if r.to)));
      is = interlocked-made at target (scalar_type kind) form a.to c.to v.to r.to c.is v.is r.is;
      type = refl;
      agrees = tt;
      fits = λ env f.
          let result = short-result env.structs (scalar_type kind) tt in (
            tt,
            (
              refl,
              subst (λ t. IsTarget env t target) (sym v.type) (targets env f),
              v.stands env (argument-stands s o.value a.to.value a.value_is env f) result,
              subst (λ t. IsWord t) (sym v.type) word,
              subst (λ t. IsCompared env t (kind_for form (scalar_type kind)) (expr_if c.to)) (sym v.type)
                  (compared-is env (scalar_type kind) (kind_for form (scalar_type kind)) form.compares form.original c.to kinded (c.there ∙ a.comparing) (λ x k. c.stands env f result x k)),
              original-is env (scalar_type kind) target (kind_for form (scalar_type kind)) form.compares form.original r.to kinded (λ k. a.absent (sym r.there ∙ k))
                  (λ place k.
                  let p : IsPlace env place × IsTrue (is_writable_place env place) × (test (place_type place) ≡ true) = r.stands env f place k in
                  originals env (kind_for form (scalar_type kind)) place p.0 p.1 p.2),
            ),
          );
    }
