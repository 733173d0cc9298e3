-- What is free in a program without calls as far as it is made: the number of the next variable and the next name, and
-- where a function that is called once has its own. These definitions are this project's own: no public standard
-- speaks of them.
use Rattle.std.specs.Prelude.{ℕ, List, [], ◌++◌, length}
use Rattle.hl_meaning.specs.Types.{Ty}
use Rattle.hl_meaning.specs.Programs.{Variable}

-- The variables that there are so far, whose count is the number of the next one, and the next name.
pub record Fresh : Type 0 where
  pub variables : List Variable
  pub names : ℕ

abbrev pub next_of : Fresh → ℕ
next_of fresh = length fresh.variables

-- A function that is called once, in place: its variable of a number stands `first` further, its result in a variable of
-- its own, and a `return` leaves the name `exit`.
pub record Instance : Type 0 where
  pub first : ℕ
  pub result : ℕ
  pub exit : ℕ

abbrev pub with_variables : List Variable → Fresh → Fresh
with_variables variables fresh = record fresh { variables = fresh.variables ++ variables }

-- a variable that no source names
abbrev pub unnamed : Ty → (at : ℕ) → Variable
unnamed ty at = record { name = []; ty = ty; at = at }

-- The same variable without its name. A name may be long, and each call has variables of its own.
abbrev pub nameless : Variable → Variable
nameless v = unnamed v.ty v.at
