-- What holds of every choice.
use Rattle.std.specs.Prelude.{◌≡◌, ℕ, List, Option}
use Rattle.std.specs.declared.result.Result.{Result}
use Rattle.hl_overload.specs.declared.choice.ChoiceFault.{ChoiceFault}
use Rattle.hl_meaning.specs.Types.{Ty}
use Rattle.hl_overload.specs.Best.{choice_of}
use Rattle.hl_overload.specs.Choice.{Chooses, Param, sums_of}

-- a list of sums has at most one answer
abbrev pub AtMostOneChoice : Type 0
AtMostOneChoice = (sums : List (Option ℕ)) (one other : Result ℕ ChoiceFault) → Chooses sums one → Chooses sums other → one ≡ other

-- the answer that is computed is the one that the relation says
abbrev pub ChoiceOfChooses : Type 0
ChoiceOfChooses = (candidates : List (List Param)) (args : List Ty) → Chooses (sums_of candidates args) (choice_of candidates args)
