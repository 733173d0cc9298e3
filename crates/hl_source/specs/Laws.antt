-- What holds of every program.
use Rattle.std.specs.Prelude.{◌≡◌, ℕ, ◌<◌, ◌==◌, Bool, true, false, List}
use Rattle.std.specs.List.{list_any}
use Rattle.hl_meaning.specs.Slots.{least_free}

-- whether a number is among those that are taken
abbrev pub is_taken : List ℕ → ℕ → Bool
is_taken taken number = list_any (λ t. t == number) taken

-- the least free number isn't taken, and each number below it is
abbrev pub FreeRegisterIsLeast : Type 0
FreeRegisterIsLeast =
    (taken : List ℕ) → (is_taken taken (least_free taken) ≡ false) × ((number : ℕ) → number < least_free taken → is_taken taken number ≡ true)
