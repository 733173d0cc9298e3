-- Interlocked operations have kinds that fit their operands.
use Rattle.std.proofs.Common.{◌≡◌, refl, sym, subst, ℕ, zero, suc, ◌-◌, Bool, true, false, ◌&&◌, ◌||◌, not, if◌then◌else◌, nat_le, List, [], ◌∷◌, Option, None, Some}
use Rattle.std.specs.Prelude.{is_none, slice_get}
use Rattle.std.specs.List.{list_all}
use Rattle.std.proofs.lemmas.Bool.{and_parts}
use Rattle.std.proofs.lemmas.Option.{none-some, same_Some}
use Rattle.lane_core.specs.declared.event.AtomicKind.{AtomicKind}
use Rattle.lane_core.specs.declared.event.AtomicKind.TheVariants.{Exchange}
use Rattle.hl_meaning.specs.declared.ty.Kind.TheVariants.{Bool as BoolKind, Int as IntKind, Uint as UintKind}
use Rattle.hl_meaning.specs.Types.{Ty, array_type, scalar_type, struct_type, vector_type, void_type}
use Rattle.hl_meaning.specs.WellFormed.{is_kind_for}
use Rattle.hl_rules.specs.declared.interlocked.Interlocked.{Interlocked}
use Rattle.hl_rules.specs.declared.interlocked.Presence.{Presence}
use Rattle.hl_rules.specs.Intrinsics.{atomic, first_atomic, interlocked_form, interlocked_forms, may_be_absent}
use Rattle.hl_rules.specs.Nodes.{kind_for}
use Rattle.hl_rules.specs.Values.{is_word}

-- ---- words

-- a scalar of int or uint
pub data WordView (ty : Ty) : Type 0 where
  is_int : ty ≡ scalar_type IntKind → WordView ty
  is_uint : ty ≡ scalar_type UintKind → WordView ty

pub word-view : (ty : Ty) → is_word ty ≡ true → WordView ty
word-view (scalar_type IntKind) e = is_int refl
word-view (scalar_type UintKind) e = is_uint refl
word-view (scalar_type BoolKind) e = absurd (cc e)
word-view void_type e = absurd (cc e)
word-view (vector_type kind size) e = absurd (cc e)
word-view (array_type element size) e = absurd (cc e)
word-view (struct_type number) e = absurd (cc e)

-- ---- forms

abbrev pub is_exchange : AtomicKind → Bool
is_exchange Exchange = true
is_exchange _ = false

-- whether a kind fits a type, and an exchange has an original
abbrev is_good_kind : Ty → Presence → Option AtomicKind → Bool
is_good_kind ty original None = false
is_good_kind ty original (Some kind) = is_kind_for kind ty && (not (is_exchange kind) || not (may_be_absent original))

abbrev is_good : Interlocked → Bool
is_good form =
    if form.compares then is_none form.signed && is_none form.unsigned
    else is_good_kind (scalar_type IntKind) form.original form.signed && is_good_kind (scalar_type UintKind) form.original form.unsigned

get-all : {A : Type 0} (test : A → Bool) (xs : List A) (place : ℕ) (x : A) → list_all test xs ≡ true → slice_get xs place ≡ Some x → test x ≡ true
get-all test [] place x e h = absurd (none-some x h)
get-all test (y ∷ ys) zero x e h = subst (λ z. test z ≡ true) (same_Some y x h) (and_parts (test y) (list_all test ys) e).0
get-all test (y ∷ ys) (suc place) x e h = get-all test ys place x (and_parts (test y) (list_all test ys) e).1 h

form-good : (number : ℕ) (form : Interlocked) → interlocked_form number ≡ Some form → is_good form ≡ true
form-good number form e = on (nat_le first_atomic number) e
  where
    on : (there : Bool) → (if there then slice_get interlocked_forms (number - first_atomic) else None) ≡ Some form → is_good form ≡ true
    on true h = get-all is_good interlocked_forms (number - first_atomic) form refl h
    on false h = absurd (none-some form h)

-- what the kind of an operation is: a compare exchange has none
pub data IsKinded (compares : Bool) (original : Presence) (kind : Option AtomicKind) (ty : Ty) : Type 0 where
  a_plain : (own : AtomicKind) → kind ≡ Some own → compares ≡ false → is_kind_for own ty ≡ true → (may_be_absent original ≡ true → is_exchange own ≡ false) → IsKinded compares original kind ty
  a_comparing : kind ≡ None → compares ≡ true → IsKinded compares original kind ty

no-exchange : (exchange absent : Bool) → not exchange || not absent ≡ true → absent ≡ true → exchange ≡ false
no-exchange false absent e h = refl
no-exchange true true e h = absurd (cc e)
no-exchange true false e h = absurd (cc h)

good-kinded : (ty : Ty) (original : Presence) (kind : Option AtomicKind) → is_good_kind ty original kind ≡ true → IsKinded false original kind ty
good-kinded ty original None e = absurd (cc e)
good-kinded ty original (Some kind) e =
    let p : (is_kind_for kind ty ≡ true) × (not (is_exchange kind) || not (may_be_absent original) ≡ true) = and_parts (is_kind_for kind ty) (not (is_exchange kind) || not (may_be_absent original)) e in
    a_plain kind refl refl p.0 (no-exchange (is_exchange kind) (may_be_absent original) p.1)

none-kinded : (ty : Ty) (original : Presence) (kind : Option AtomicKind) → is_none kind ≡ true → IsKinded true original kind ty
none-kinded ty original None e = a_comparing refl refl
none-kinded ty original (Some kind) e = absurd (cc e)

int-kinded : (compares : Bool) (original : Presence) (signed unsigned : Option AtomicKind) → is_good (atomic compares original signed unsigned) ≡ true → IsKinded compares original signed (scalar_type IntKind)
int-kinded true original signed unsigned e = none-kinded (scalar_type IntKind) original signed (and_parts (is_none signed) (is_none unsigned) e).0
int-kinded false original signed unsigned e =
    good-kinded (scalar_type IntKind) original signed (and_parts (is_good_kind (scalar_type IntKind) original signed) (is_good_kind (scalar_type UintKind) original unsigned) e).0

uint-kinded : (compares : Bool) (original : Presence) (signed unsigned : Option AtomicKind) → is_good (atomic compares original signed unsigned) ≡ true → IsKinded compares original unsigned (scalar_type UintKind)
uint-kinded true original signed unsigned e = none-kinded (scalar_type UintKind) original unsigned (and_parts (is_none signed) (is_none unsigned) e).1
uint-kinded false original signed unsigned e =
    good-kinded (scalar_type UintKind) original unsigned (and_parts (is_good_kind (scalar_type IntKind) original signed) (is_good_kind (scalar_type UintKind) original unsigned) e).1

pub form-kinded : (number : ℕ) (form : Interlocked) (ty : Ty) → interlocked_form number ≡ Some form → is_word ty ≡ true → IsKinded form.compares form.original (kind_for form ty) ty
form-kinded number form ty e h = on (word-view ty h)
  where
    on : WordView ty → IsKinded form.compares form.original (kind_for form ty) ty
    on (is_int k) = subst (λ t. IsKinded form.compares form.original (kind_for form t) t) (sym k) (int-kinded form.compares form.original form.signed form.unsigned (form-good number form e))
    on (is_uint k) = subst (λ t. IsKinded form.compares form.original (kind_for form t) t) (sym k) (uint-kinded form.compares form.original form.signed form.unsigned (form-good number form e))
