-- The variables that are used before their declaration, as they are found: how often each variable is declared around
-- a statement, and marks of those that are used before.
use Rattle.std.specs.Prelude.{ℕ, suc, ◌==◌, Bool, true, false, if◌then◌else◌, List, [], ◌∷◌, filter, get_or, length, map, set, Option, None, Some}
use Rattle.std.specs.List.{range_with_len}
use Rattle.hl_meaning.specs.Trees.{Stmt, local_stmt, variable_root}
use Rattle.hl_inline.specs.declared.undeclared_uses.Usage.{Usage}
use Rattle.hl_inline.specs.Occurrences.{Occurrence, place_occurrence}

-- how often a variable is declared
abbrev pub declarations : (declared : List ℕ) → (number : ℕ) → ℕ
declarations [] number = 0
declarations (n ∷ declared) number = if number == n then suc (declarations declared number) else declarations declared number

-- the same of each of so many variables
abbrev pub counts_of : (size : ℕ) → (declared : List ℕ) → List ℕ
counts_of size declared = map (declarations declared) (range_with_len 0 size)

-- the variable that a statement declares
abbrev pub declared_variable : Stmt → Option ℕ
declared_variable (local_stmt variable init) = Some variable
declared_variable _ = None

-- marks, with that of a variable set
abbrev pub mark : (number : ℕ) → List Bool → List Bool
mark number marks = set marks number true

-- the same unless it is declared
abbrev pub mark_free : (counts : List ℕ) → (number : ℕ) → List Bool → List Bool
mark_free counts number marks = if get_or counts number 1 == 0 then mark number marks else marks

abbrev pub mark_occurrence : (counts : List ℕ) → Occurrence → List Bool → List Bool
mark_occurrence counts (place_occurrence (variable_root number) parts) marks = mark_free counts number marks
mark_occurrence counts _ marks = marks

-- the variables among occurrences that aren't declared
abbrev pub mark_occurrences : (counts : List ℕ) → List Occurrence → List Bool → List Bool
mark_occurrences counts [] marks = marks
mark_occurrences counts (m ∷ occurrences) marks = mark_occurrences counts occurrences (mark_occurrence counts m marks)

abbrev pub mark_all : List ℕ → List Bool → List Bool
mark_all [] marks = marks
mark_all (number ∷ numbers) marks = mark_all numbers (mark number marks)

-- the numbers that are marked, in order
abbrev pub marked_numbers : List Bool → List ℕ
marked_numbers marks = filter (λ number. get_or marks number false) (range_with_len 0 (length marks))

-- what is counted and marked
pub record Marking : Type 0 where
  pub counts : List ℕ
  pub marks : List Bool

abbrev pub plain_usage : Usage → Marking
plain_usage r = record { counts = r.declared.items; marks = r.used_undeclared.items }

-- where these variables are declared
abbrev pub marking : (declared : List ℕ) → (marks : List Bool) → Marking
marking declared marks = record { counts = counts_of (length marks) declared; marks = marks }
