use Rattle.std.proofs.Common.{◌≡◌, ◌++◌, drop, length}
use Rattle.std.specs.Prelude.{option_map}
use Rattle.hl_rules.specs.Values.{letters_in}
use Rattle.hl_values.proofs.standing.letters_in.Given as goal

abbrev pub invariant-loop-letter : goal.invariant-loop-letter
invariant-loop-letter l =
    (option_map (λ rest. l.letters ++ rest) (letters_in l.alphabet (drop l.letter-index l.name)) ≡ letters_in l.alphabet l.name)
    × (length l.letters ≡ l.letter-index)
