-- The arguments of methods, as the code judges them.
use Rattle.std.specs.Prelude.{ℕ, Bool, false, List, [], ◌∷◌}
use Rattle.hl_meaning.specs.declared.ty.Kind.TheVariants.{Uint as UintKind}
use Rattle.hl_meaning.specs.Types.{components_type}
use Rattle.hl_rules.specs.Values.{Value, converts_to}

-- whether there is one argument, and it converts to so many words
abbrev pub are_words : (count : ℕ) → List Value → Bool
are_words count (v ∷ []) = converts_to (components_type UintKind count) v
are_words count _ = false
