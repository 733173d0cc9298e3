-- The arguments of a call, as operands.
use Rattle.std.specs.Prelude.{ℕ, List, [], ◌∷◌}
use Rattle.hl_meaning.specs.Trees.{Arg, place_arg, place_type, value_arg}
use Rattle.hl_source.specs.Expressions.{argument_operands, value_of_words}
use Rattle.hl_source.specs.Memory.{write_place}
use Rattle.hl_source.specs.State.{Context, Progress, State, goes_with}
use Rattle.hl_interpreter.specs.declared.calling.PassedArgument.{PassedArgument}
use Rattle.hl_interpreter.specs.declared.calling.Passed.{Passed}

-- the words of indexes, and those that parameters have at first, in turn
abbrev pub interleaved : (indexes initial : List (List ℕ)) → List (List ℕ)
interleaved (indexes ∷ rest) (words ∷ initial) = indexes ∷ words ∷ interleaved rest initial
interleaved _ _ = []

abbrev pub operands_of : Passed → List (List ℕ)
operands_of passed = interleaved passed.indexes passed.initial_parameters

abbrev pub pair_of : PassedArgument → List (List ℕ)
pair_of a = argument_operands a.indexes a.initial

-- the value of a parameter is written back where its argument is a place
abbrev pub copies_if : Context → Arg → (indexes words : List ℕ) → State → Progress (List ℕ)
copies_if c (place_arg place) indexes words s = write_place c place indexes (value_of_words c (place_type place) words) s
copies_if c (value_arg value) indexes words s = goes_with [] s
