-- Calls of interlocked functions become what is known of them.
use Rattle.std.proofs.Common.{◌≡◌, ◌∙◌, refl, sym, ap, subst, ℕ, Bool, true, false, not, if◌then◌else◌, List, [], ◌∷◌, Option, None, Some}
use Rattle.std.specs.Prelude.{IsTrue, is_none}
use Rattle.std.proofs.lemmas.Bool.{or_parts}
use Rattle.hl_meaning.specs.declared.ty.Kind.{Kind}
use Rattle.hl_meaning.specs.declared.ty.Kind.TheVariants.{Int as IntKind, Uint as UintKind}
use Rattle.hl_meaning.specs.Types.{Ty, is_void, scalar_type, ty_eq, void_type}
use Rattle.hl_meaning.specs.Places as places
use Rattle.hl_meaning.specs.Places.{is_atomic_place}
use Rattle.hl_meaning.specs.Trees.{Location, a_location, place_target, place_type}
use Rattle.hl_meaning.specs.WellFormed.{IsPlace}
use Rattle.hl_rules.specs.declared.interlocked.Interlocked.{Interlocked}
use Rattle.hl_rules.specs.ExpressionRules.{is_no_target}
use Rattle.hl_rules.specs.Expressions.{interlocked_code}
use Rattle.hl_rules.specs.Intrinsics.{Operands, interlocked_form, operands_of}
use Rattle.hl_rules.specs.Nodes.{Code, a_place_code, a_value_code, interlocked, place_of_code, type_of_code}
use Rattle.hl_rules.specs.Scopes.{Scope}
use Rattle.hl_rules.specs.Values.{Standing, Value, a_place, atomic_fits, is_word, no_place, operands_fit, plain_value, result_by_form, target_operands_fit, unclear, value, valued, is_known}
use Rattle.hl_rules.proofs.Arguments.{ArgumentsBecome, IsArgument}
use Rattle.hl_rules.proofs.AtomicForms.{interlocked-becomes, place-original}
use Rattle.hl_rules.proofs.AtomicKinds.{WordView, is_int, is_uint, word-view}
use Rattle.hl_rules.proofs.AtomicOperands.{AreOperands, operands-there}
use Rattle.hl_rules.proofs.Becoming.{Agrees, Becomes, not-true, valued-there}
use Rattle.hl_rules.proofs.Fitting.{Fits, IsCode, IsStanding}
use Rattle.hl_rules.proofs.PlaceForms.{from-not}
use Rattle.hl_rules.proofs.TypeLemmas.{ty_eq-same}

-- ---- targets

-- a place that lanes share, which is a word
record IsShared (s : Scope) (code : Code) : Type 0 where
  place : Location
  is : place_of_code code ≡ Some place
  type : place_type place ≡ type_of_code code
  word : is_word (type_of_code code) ≡ true
  stands : (env : places.Scope) → Fits env s → IsPlace env place × IsTrue (is_atomic_place env place)

known-word : (ty : Ty) → is_void ty ≡ false → is_known (λ t. not (is_word t)) (valued (Some ty)) ≡ false → is_word ty ≡ true
known-word ty e h = not-true (is_word ty) (sym (ap (λ o. is_known (λ t. not (is_word t)) o) (valued-there ty e)) ∙ h)

shared-there : (s : Scope) (standing : Standing) (code : Code) → is_void (type_of_code code) ≡ false → Agrees standing code → ((env : places.Scope) → Fits env s → IsCode env standing code) → is_no_target (value (Some (type_of_code code)) standing) ≡ false → IsShared s code
shared-there s (a_place w a letters) (a_place_code at (a_location ty root parts)) used agrees fits free =
    let p : (not a ≡ false) × (is_known (λ t. not (is_word t)) (valued (Some ty)) ≡ false) = or_parts (not a) (is_known (λ t. not (is_word t)) (valued (Some ty))) free in
    record {
      place = a_location ty root parts;
      is = refl;
      type = refl;
      word = known-word ty used p.1;
      stands = λ env f.
          let standing : IsStanding env w a letters ty root parts = fits env f in
          (standing.is, standing.shares (not-true a p.0));
    }
shared-there s (a_place w a letters) (a_value_code value) used agrees fits free = absurd agrees
shared-there s no_place code used agrees fits free = absurd (cc free)
shared-there s unclear code used agrees fits free = absurd agrees

target-shared : (s : Scope) (v : Value) (code : Code) → IsArgument s v code → is_no_target v ≡ false → IsShared s code
target-shared s v code a free =
    shared-there s v.standing code a.used a.agrees a.fits (sym (ap (λ o. is_no_target (value o v.standing)) a.type) ∙ free)

-- ---- calls

call-made : (at : ℕ) (form : Interlocked) (target : Code) (codes : List Code) (o : Operands Code) (place : Location) → operands_of form codes ≡ Some o → place_of_code target ≡ Some place → interlocked_code at form (target ∷ codes) ≡ interlocked at (place_target place) (place_type place) form o
call-made at form target codes o place e h = rw e (rw h refl)

-- an interlocked operation whose operands fit its target
operation-becomes : (s : Scope) (at number : ℕ) (form : Interlocked) (ty : Ty) (place : Location) (o : Operands Value) (made : Option (Operands Code)) (a : AreOperands s form.compares form.original o made) → interlocked_form number ≡ Some form → is_word ty ≡ true → place_type place ≡ ty → ((env : places.Scope) → Fits env s → IsPlace env place × IsTrue (is_atomic_place env place)) → operands_fit (ty_eq ty) o ≡ true → Becomes s (plain_value (Some void_type)) (interlocked at (place_target place) ty form a.to)
operation-becomes s at number form ty place o made a found word type stands fit = on (word-view ty word)
  where
    of_kind : (kind : Kind) → ty ≡ scalar_type kind → Becomes s (plain_value (Some void_type)) (interlocked at (place_target place) ty form a.to)
    of_kind kind e =
        subst (λ t. Becomes s (plain_value (Some void_type)) (interlocked at (place_target place) t form a.to)) (sym e)
        (interlocked-becomes s at (place_target place) kind number form (ty_eq ty) o made a found (ap (λ t. is_word t) (sym e) ∙ word) fit
        (λ env f. ((stands env f).0, type ∙ e, (stands env f).1))
        (λ env k original h w same. place-original env place k original h w (sym (ty_eq-same ty (place_type original) same) ∙ sym type)))

    on : WordView ty → Becomes s (plain_value (Some void_type)) (interlocked at (place_target place) ty form a.to)
    on (is_int e) = of_kind IntKind e
    on (is_uint e) = of_kind UintKind e

fits-if : (b : Bool) (o : Bool) → b ≡ true → (if b then o else true) ≡ true → o ≡ true
fits-if true o e h = h
fits-if false o e h = absurd (cc e)

-- what the operands of an operation that fits are
record IsFitting (s : Scope) (form : Interlocked) (ty : Ty) (values : List Value) : Type 0 where
  o : Operands Value
  is : operands_of form values ≡ Some o
  fit : operands_fit (ty_eq ty) o ≡ true

fitting-there : (s : Scope) (form : Interlocked) (ty : Ty) (values : List Value) → is_word ty ≡ true → target_operands_fit (Some ty) (operands_of form values) ≡ true → IsFitting s form ty values
fitting-there s form ty values word e = on (operands_of form values) refl e
  where
    on : (o : Option (Operands Value)) → operands_of form values ≡ o → target_operands_fit (Some ty) o ≡ true → IsFitting s form ty values
    on None h k = absurd (cc k)
    on (Some o) h k = record { o = o; is = h; fit = fits-if (is_word ty) (operands_fit (ty_eq ty) o) word k }

atomic-fits : (form : Interlocked) (number : ℕ) (values : List Value) (types : List Ty) → is_none (result_by_form (Some form) number values types) ≡ false → (atomic_fits form values ≡ true) × (result_by_form (Some form) number values types ≡ Some void_type)
atomic-fits form number values types e = on (atomic_fits form values) e
  where
    on : (fits : Bool) → is_none (if fits then Some void_type else None) ≡ false → (fits ≡ true) × ((if fits then Some void_type else None) ≡ Some void_type)
    on true h = (refl, refl)
    on false h = absurd (cc h)

-- the first of the arguments is a target
abbrev pub is_targeted : List Value → Bool
is_targeted [] = true
is_targeted (v ∷ values) = not (is_no_target v)

targeted-becomes : (s : Scope) (at number : ℕ) (form : Interlocked) (v : Value) (values : List Value) (code : Code) (codes : List Code) → IsArgument s v code → ArgumentsBecome s values codes → interlocked_form number ≡ Some form → is_no_target v ≡ false → target_operands_fit v.ty (operands_of form values) ≡ true → Becomes s (plain_value (Some void_type)) (interlocked_code at form (code ∷ codes))
targeted-becomes s at number form v values code codes a h found free fits =
    made (target-shared s v code a free)
  where
    operated : (t : IsShared s code) (p : IsFitting s form (type_of_code code) values) → AreOperands s form.compares form.original p.o (operands_of form codes) → Becomes s (plain_value (Some void_type)) (interlocked_code at form (code ∷ codes))
    operated t p q =
        subst (λ c. Becomes s (plain_value (Some void_type)) c) (sym (call-made at form code codes q.to t.place q.is t.is))
        (subst (λ ty. Becomes s (plain_value (Some void_type)) (interlocked at (place_target t.place) ty form q.to)) (sym t.type)
        (operation-becomes s at number form (type_of_code code) t.place p.o (operands_of form codes) q found t.word t.type t.stands p.fit))

    fitted : (t : IsShared s code) → IsFitting s form (type_of_code code) values → Becomes s (plain_value (Some void_type)) (interlocked_code at form (code ∷ codes))
    fitted t p = operated t p (operands-there s form values codes p.o h p.is)

    made : IsShared s code → Becomes s (plain_value (Some void_type)) (interlocked_code at form (code ∷ codes))
    made t = fitted t (fitting-there s form (type_of_code code) values t.word (sym (ap (λ o. target_operands_fit o (operands_of form values)) a.type) ∙ fits))

-- an interlocked function
pub atomic-becomes : (s : Scope) (at number : ℕ) (form : Interlocked) (values : List Value) (codes : List Code) (types : List Ty) → ArgumentsBecome s values codes → interlocked_form number ≡ Some form → is_targeted values ≡ true → is_none (result_by_form (Some form) number values types) ≡ false → Becomes s (plain_value (result_by_form (Some form) number values types)) (interlocked_code at form codes)
atomic-becomes s at number form [] codes types h found free e = absurd (cc e)
atomic-becomes s at number form (v ∷ values) [] types h found free e = absurd h
atomic-becomes s at number form (v ∷ values) (code ∷ codes) types h found free e =
    let p : (atomic_fits form (v ∷ values) ≡ true) × (result_by_form (Some form) number (v ∷ values) types ≡ Some void_type) = atomic-fits form number (v ∷ values) types e in
    subst (λ o. Becomes s (plain_value o) (interlocked_code at form (code ∷ codes))) (sym p.1)
    (targeted-becomes s at number form v values code codes h.0 h.1 found (from-not (is_no_target v) free) p.0)
