-- How the code finds intrinsic functions by their names.
use Rattle.std.specs.Prelude.{ℕ, ◌+◌, ◌-◌, ◌*◌, ◌/◌, ◌%◌, List, [], ◌∷◌, length, map, slice_index, Option, None, Some, option_and_then}
use Rattle.hl_meaning.specs.declared.intrinsic.Signature.{Signature}
use Rattle.hl_meaning.specs.declared.intrinsic.Signature.TheVariants.{AllEqual, Ballot, Bits, CountTruths, ReadLaneFirst, Truths, Uints, Vote}
use Rattle.hl_meaning.specs.Intrinsics.{intrinsics}
use Rattle.hl_meaning.specs.Types.{Ty}
use Rattle.hl_meaning.specs.Views.{plain_ty}
use Rattle.hl_rules.specs.Intrinsics as plain
use Rattle.hl_rules.specs.Intrinsics.{passed, passing}
use Rattle.hl_rules.specs.Values.{operand_of}
use Rattle.hl_values.specs.declared.passing.Passing.{Passing}
use Rattle.hl_values.specs.declared.passing.Single.{Single}
use Rattle.hl_values.specs.Basics.{basic_ty}

-- the names of intrinsic functions, in the order of their numbers
abbrev pub intrinsic_names : List (List ℕ)
intrinsic_names = map (λ r. r.name) intrinsics

-- the slot of a name among 128, which differs from function to function
abbrev pub name_slot : List ℕ → ℕ
name_slot name =
    (length name + 5 * slice_index name (length name / 2) + 11 * slice_index name (length name * 3 / 4) + 28 * slice_index name (length name - 2)) % 128

-- ---- what is passed

abbrev pub plain_passing : Passing → plain.Passing
plain_passing p = record { takes = map plain_ty p.takes; gives = plain_ty p.gives }

abbrev pub plain_single : Single → plain.Passing
plain_single s = record { takes = basic_ty s.takes ∷ []; gives = basic_ty s.gives }

-- what a signature takes and gives that has no arguments
abbrev pub nothing_passed : Ty → List Ty → Option plain.Passing
nothing_passed gives [] = passing [] gives
nothing_passed gives (x ∷ args) = None

-- the one of some types, where it is alone and a scalar or a vector
abbrev pub only_basic : List Ty → Option Ty
only_basic (x ∷ []) = operand_of (Some x)
only_basic _ = None

-- what a signature takes and gives that has one argument
abbrev pub of_one : Signature → Ty → Option plain.Passing
of_one Uints x = passed Uints (x ∷ [])
of_one Truths x = passed Truths (x ∷ [])
of_one (Bits kind) x = passed (Bits kind) (x ∷ [])
of_one Vote x = passed Vote (x ∷ [])
of_one Ballot x = passed Ballot (x ∷ [])
of_one AllEqual x = passed AllEqual (x ∷ [])
of_one ReadLaneFirst x = passed ReadLaneFirst (x ∷ [])
of_one CountTruths x = passed CountTruths (x ∷ [])
of_one _ x = None

abbrev pub single_passed : Signature → List Ty → Option plain.Passing
single_passed signature args = option_and_then (of_one signature) (only_basic args)
