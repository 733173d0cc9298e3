-- Words that are a value of a type, and parts of runs that give such.
use Rattle.std.specs.Prelude.{◌≡◌, ℕ, List, [], ◌∷◌}
use Rattle.hl_meaning.specs.declared.ty.Kind.{Kind}
use Rattle.hl_meaning.specs.Types.{Ty}
use Rattle.hl_meaning.specs.Programs.{StructDef}
use Rattle.hl_meaning.specs.Layout.{kinds_of}
use Rattle.hl_source.specs.Operations.{word_as}
use Rattle.hl_source.specs.State.{Progress, State, ends_at, goes_with}

-- Words of these kinds, in order: a word is of a kind where reading it as one leaves it as it is, so a bool is 0 or 1.
abbrev pub HasKinds : List Kind → List ℕ → Type 0
HasKinds [] [] = Unit {0}
HasKinds (kind ∷ kinds) (word ∷ words) = (word_as kind word ≡ word) × HasKinds kinds words
HasKinds _ _ = ⊥

-- Words of a type: as many as the type has, each of the kind that the type has there.
abbrev pub Fits : List StructDef → Ty → List ℕ → Type 0
Fits structs ty words = HasKinds (kinds_of structs ty) words

-- what is given by a part, if it gives something
abbrev pub Yields : {A : Type 0} → (A → Type 0) → Progress A → Type 0
Yields P (goes_with a s) = P a
Yields P (ends_at run) = Unit {0}

-- what holds of the state in which a part goes on, if it goes on
abbrev pub LeadsTo : {A : Type 0} → (State → Type 0) → Progress A → Type 0
LeadsTo P (goes_with a s) = P s
LeadsTo P (ends_at run) = Unit {0}
