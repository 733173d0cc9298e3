-- The intrinsic functions (HLSL, "Intrinsic Functions"), in the order of their numbers.
use Rattle.std.specs.Prelude.{◌≡◌, ℕ, List, [], ◌∷◌, codes, replicate, IsTrue, Option, Some, None, option_map, slice_get}
use Rattle.hl_meaning.specs.declared.ty.Kind.TheVariants.{Bool as BoolKind, Int as IntKind, Uint as UintKind}
use Rattle.hl_meaning.specs.declared.intrinsic.Signature.{Signature}
use Rattle.hl_meaning.specs.declared.intrinsic.Signature.TheVariants.{Numbers, Uints, Truths, Bits, Atomic, Barrier, LaneTruth, LaneNumber, Vote, Ballot, AllEqual, ReadLaneAt, ReadLaneFirst, CountTruths}
use Rattle.hl_meaning.specs.Types.{Ty, bool_type, is_basic, is_numeric, is_of, uint_type, vector_type, void_type, with_kind}

pub record Intrinsic : Type 0 where
  pub name : List ℕ
  pub signature : Signature

abbrev pub row : List ℕ → Signature → Intrinsic
row name signature = record { name = name; signature = signature }

-- the number of an intrinsic function is its place
abbrev pub intrinsics : List Intrinsic
intrinsics =
    row (codes "abs") (Numbers 1) ∷
    row (codes "min") (Numbers 2) ∷
    row (codes "max") (Numbers 2) ∷
    row (codes "clamp") (Numbers 3) ∷
    row (codes "countbits") Uints ∷
    row (codes "reversebits") Uints ∷
    row (codes "firstbitlow") Uints ∷
    row (codes "any") Truths ∷
    row (codes "all") Truths ∷
    row (codes "asuint") (Bits UintKind) ∷
    row (codes "asint") (Bits IntKind) ∷
    row (codes "InterlockedAdd") Atomic ∷
    row (codes "InterlockedAnd") Atomic ∷
    row (codes "InterlockedOr") Atomic ∷
    row (codes "InterlockedXor") Atomic ∷
    row (codes "InterlockedMin") Atomic ∷
    row (codes "InterlockedMax") Atomic ∷
    row (codes "InterlockedExchange") Atomic ∷
    row (codes "InterlockedCompareExchange") Atomic ∷
    row (codes "InterlockedCompareStore") Atomic ∷
    row (codes "GroupMemoryBarrier") Barrier ∷
    row (codes "GroupMemoryBarrierWithGroupSync") Barrier ∷
    row (codes "DeviceMemoryBarrier") Barrier ∷
    row (codes "DeviceMemoryBarrierWithGroupSync") Barrier ∷
    row (codes "AllMemoryBarrier") Barrier ∷
    row (codes "AllMemoryBarrierWithGroupSync") Barrier ∷
    row (codes "WaveIsFirstLane") LaneTruth ∷
    row (codes "WaveGetLaneIndex") LaneNumber ∷
    row (codes "WaveGetLaneCount") LaneNumber ∷
    row (codes "WaveActiveAnyTrue") Vote ∷
    row (codes "WaveActiveAllTrue") Vote ∷
    row (codes "WaveActiveBallot") Ballot ∷
    row (codes "WaveActiveAllEqual") AllEqual ∷
    row (codes "WaveReadLaneAt") ReadLaneAt ∷
    row (codes "WaveReadLaneFirst") ReadLaneFirst ∷
    row (codes "WaveActiveSum") (Numbers 1) ∷
    row (codes "WaveActiveProduct") (Numbers 1) ∷
    row (codes "WaveActiveMin") (Numbers 1) ∷
    row (codes "WaveActiveMax") (Numbers 1) ∷
    row (codes "WavePrefixSum") (Numbers 1) ∷
    row (codes "WavePrefixProduct") (Numbers 1) ∷
    row (codes "WaveActiveBitAnd") Uints ∷
    row (codes "WaveActiveBitOr") Uints ∷
    row (codes "WaveActiveBitXor") Uints ∷
    row (codes "WaveActiveCountBits") CountTruths ∷
    row (codes "WavePrefixCountBits") CountTruths ∷ []

-- what the arguments and the result of a signature are; an atomic operation is a form of its own
abbrev pub HasSignature : Signature → List Ty → Ty → Type 0
HasSignature (Numbers count) args result = (args ≡ replicate count result) × IsTrue (is_numeric result)
HasSignature Uints args result = (args ≡ result ∷ []) × IsTrue (is_of UintKind result)
HasSignature Truths (x ∷ []) result = IsTrue (is_of BoolKind x) × (result ≡ bool_type)
HasSignature (Bits kind) (x ∷ []) result = IsTrue (is_numeric x) × (result ≡ with_kind kind x)
HasSignature Barrier args result = (args ≡ []) × (result ≡ void_type)
HasSignature LaneTruth args result = (args ≡ []) × (result ≡ bool_type)
HasSignature LaneNumber args result = (args ≡ []) × (result ≡ uint_type)
HasSignature Vote args result = (args ≡ bool_type ∷ []) × (result ≡ bool_type)
HasSignature Ballot args result = (args ≡ bool_type ∷ []) × (result ≡ vector_type UintKind 4)
HasSignature AllEqual (x ∷ []) result = IsTrue (is_basic x) × (result ≡ with_kind BoolKind x)
HasSignature ReadLaneAt args result = (args ≡ result ∷ uint_type ∷ []) × IsTrue (is_basic result)
HasSignature ReadLaneFirst args result = (args ≡ result ∷ []) × IsTrue (is_basic result)
HasSignature CountTruths (x ∷ []) result = IsTrue (is_of BoolKind x) × (result ≡ with_kind UintKind x)
HasSignature _ _ _ = ⊥

abbrev pub signature_of : ℕ → Option Signature
signature_of number = option_map (λ r. r.signature) (slice_get intrinsics number)

abbrev pub HasSignatureOf : Option Signature → List Ty → Ty → Type 0
HasSignatureOf None args result = ⊥
HasSignatureOf (Some signature) args result = HasSignature signature args result

-- the intrinsic function of a number takes these types and gives that one
abbrev pub TakesAndGives : ℕ → List Ty → Ty → Type 0
TakesAndGives number args result = HasSignatureOf (signature_of number) args result
