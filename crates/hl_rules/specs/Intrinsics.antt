-- What intrinsic functions and methods of buffers take and give (HLSL, "Intrinsic Functions", "Buffer Objects").
use Rattle.std.specs.Prelude.{ℕ, ◌==◌, ◌&&◌, Bool, true, false, if◌then◌else◌, nat_le, List, [], ◌∷◌, length, replicate, codes, position, Option, None, Some, option_map, option_and_then, slice_get, bytes_eq, find, not, ◌-◌}
use Rattle.lane_core.specs.declared.event.AtomicKind.{AtomicKind}
use Rattle.lane_core.specs.declared.event.AtomicKind.TheVariants.{Add, And, Or, Xor, IMin, IMax, UMin, UMax, Exchange}
use Rattle.hl_meaning.specs.declared.ty.Kind.TheVariants.{Bool as BoolKind, Uint as UintKind}
use Rattle.hl_meaning.specs.declared.intrinsic.Signature.{Signature}
use Rattle.hl_meaning.specs.declared.intrinsic.Signature.TheVariants.{Numbers, Uints, Truths, Bits, Barrier, LaneTruth, LaneNumber, Vote, Ballot, AllEqual, ReadLaneAt, ReadLaneFirst, CountTruths}
use Rattle.hl_meaning.specs.Types.{Ty, bool_type, is_basic, is_numeric, is_scalar, uint_type, vector_type, void_type, with_kind}
use Rattle.hl_meaning.specs.Intrinsics.{intrinsics}
use Rattle.hl_rules.specs.declared.interlocked.Interlocked.{Interlocked}
use Rattle.hl_rules.specs.declared.interlocked.Method.{Method}
use Rattle.hl_rules.specs.declared.interlocked.Method.TheVariants.{DoesAtomic, LoadsElement, LoadsWords, StoresWords}
use Rattle.hl_rules.specs.declared.interlocked.Presence.{Presence}
use Rattle.hl_rules.specs.declared.interlocked.Presence.TheVariants.{Always, Never, Perhaps}
use Rattle.hl_rules.specs.Operands.{common_of}
use Rattle.hl_rules.specs.Scopes.{BufferInfo}

-- ---- intrinsic functions

-- the number of the intrinsic function of a name
abbrev pub intrinsic_named : List ℕ → Option ℕ
intrinsic_named name = position (λ r. bytes_eq r.name name) intrinsics

-- what arguments are converted to, and what a call gives
pub record Passing : Type 0 where
  pub takes : List Ty
  pub gives : Ty

abbrev pub passing : List Ty → Ty → Option Passing
passing takes gives = Some (record { takes = takes; gives = gives })

abbrev pub passing_if : Bool → List Ty → Ty → Option Passing
passing_if fits takes gives = if fits then passing takes gives else None

-- What a signature takes and gives for arguments of these types, where they fit. Arguments are converted, but what must
-- be a scalar is one already.
abbrev pub passed : Signature → List Ty → Option Passing
passed (Numbers count) args = if length args == count then option_map (λ ty. record { takes = replicate count ty; gives = ty }) (common_of args) else None
passed Uints (x ∷ []) = passing_if (is_basic x) (with_kind UintKind x ∷ []) (with_kind UintKind x)
passed Truths (x ∷ []) = passing_if (is_basic x) (with_kind BoolKind x ∷ []) bool_type
passed (Bits kind) (x ∷ []) = passing_if (is_numeric x) (x ∷ []) (with_kind kind x)
passed Barrier [] = passing [] void_type
passed LaneTruth [] = passing [] bool_type
passed LaneNumber [] = passing [] uint_type
passed Vote (x ∷ []) = passing_if (is_scalar x) (bool_type ∷ []) bool_type
passed Ballot (x ∷ []) = passing_if (is_scalar x) (bool_type ∷ []) (vector_type UintKind 4)
passed AllEqual (x ∷ []) = passing_if (is_basic x) (x ∷ []) (with_kind BoolKind x)
passed ReadLaneAt (x ∷ lane ∷ []) = passing_if (is_basic x && is_scalar lane) (x ∷ uint_type ∷ []) x
passed ReadLaneFirst (x ∷ []) = passing_if (is_basic x) (x ∷ []) x
passed CountTruths (x ∷ []) = passing_if (is_basic x) (with_kind BoolKind x ∷ []) (with_kind UintKind x)
passed _ _ = None

-- ---- interlocked operations

abbrev pub atomic : Bool → Presence → Option AtomicKind → Option AtomicKind → Interlocked
atomic compares original signed unsigned = record { compares = compares; original = original; signed = signed; unsigned = unsigned }

-- the interlocked operations, whose first one is the intrinsic function 11
abbrev pub interlocked_forms : List Interlocked
interlocked_forms =
    atomic false Perhaps (Some Add) (Some Add) ∷
    atomic false Perhaps (Some And) (Some And) ∷
    atomic false Perhaps (Some Or) (Some Or) ∷
    atomic false Perhaps (Some Xor) (Some Xor) ∷
    atomic false Perhaps (Some IMin) (Some UMin) ∷
    atomic false Perhaps (Some IMax) (Some UMax) ∷
    atomic false Always (Some Exchange) (Some Exchange) ∷
    atomic true Always None None ∷
    atomic true Never None None ∷ []

abbrev pub first_atomic : ℕ
first_atomic = 11

-- the interlocked operation of an intrinsic function's number
abbrev pub interlocked_form : ℕ → Option Interlocked
interlocked_form number = if nat_le first_atomic number then slice_get interlocked_forms (number - first_atomic) else None

-- what stands behind the target or the address
pub record Operands (A : Type 0) : Type 0 where
  pub compare : Option A
  pub value : A
  pub original : Option A

abbrev pub operands : {A : Type 0} → Option A → A → Option A → Option (Operands A)
operands compare value original = Some (record { compare = compare; value = value; original = original })

abbrev pub may_be_absent : Presence → Bool
may_be_absent Always = false
may_be_absent _ = true

abbrev pub may_be_present : Presence → Bool
may_be_present Never = false
may_be_present _ = true

-- a value, and an original that may or must be there
abbrev pub operands_behind : {A : Type 0} → (compare : Option A) → Presence → List A → Option (Operands A)
operands_behind compare presence (value ∷ []) = if may_be_absent presence then operands compare value None else None
operands_behind compare presence (value ∷ original ∷ []) = if may_be_present presence then operands compare value (Some original) else None
operands_behind compare presence _ = None

-- the same behind what is compared
abbrev pub operands_compared : {A : Type 0} → Presence → List A → Option (Operands A)
operands_compared presence [] = None
operands_compared presence (compare ∷ args) = operands_behind (Some compare) presence args

-- the operands of an interlocked operation, in the order compare, value, original, where their number is right
abbrev pub operands_of : {A : Type 0} → Interlocked → List A → Option (Operands A)
operands_of form args = if form.compares then operands_compared form.original args else operands_behind None form.original args

-- ---- methods

pub record MethodRow : Type 0 where
  pub name : List ℕ
  pub method : Method

abbrev pub method_row : List ℕ → Method → MethodRow
method_row name method = record { name = name; method = method }

-- the methods of byte-address buffers that read
abbrev pub reading_methods : List MethodRow
reading_methods =
    method_row (codes "Load") (LoadsWords 1) ∷
    method_row (codes "Load2") (LoadsWords 2) ∷
    method_row (codes "Load3") (LoadsWords 3) ∷
    method_row (codes "Load4") (LoadsWords 4) ∷ []

-- and those of writable ones that write
abbrev pub storing_methods : List MethodRow
storing_methods =
    method_row (codes "Store") (StoresWords 1) ∷
    method_row (codes "Store2") (StoresWords 2) ∷
    method_row (codes "Store3") (StoresWords 3) ∷
    method_row (codes "Store4") (StoresWords 4) ∷ []

-- the methods of structured buffers
abbrev pub element_methods : List MethodRow
element_methods = method_row (codes "Load") LoadsElement ∷ []

abbrev pub method_among : List ℕ → List MethodRow → Option Method
method_among name rows = option_map (λ r. r.method) (find (λ r. bytes_eq r.name name) rows)

-- the interlocked methods have the names of the intrinsic functions
abbrev pub atomic_named : List ℕ → Option Interlocked
atomic_named name = option_and_then interlocked_form (intrinsic_named name)

-- the first of two that is there
abbrev pub or_else : {A : Type 0} → Option A → Option A → Option A
or_else None other = other
or_else (Some x) other = Some x

-- the method of a name that a buffer has
abbrev pub method_of : BufferInfo → List ℕ → Option Method
method_of buffer name =
    if not buffer.raw then method_among name element_methods else (
    if not buffer.writable then method_among name reading_methods else
    or_else (method_among name reading_methods) (or_else (method_among name storing_methods) (option_map DoesAtomic (atomic_named name))))
