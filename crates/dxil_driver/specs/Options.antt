-- The words behind `compile`: the entry and the target that they choose, each at most once, in either order.
use Rattle.std.specs.Prelude.{◌≡◌, ℕ, List, [], ◌∷◌, codes}
use Rattle.hl_lexer.specs.Tokens.{IsName}
use Rattle.dxil_driver.specs.declared.options.Options.{Options}
use Rattle.dxil_driver.specs.declared.options.Target.{Target}
use Rattle.dxil_driver.specs.declared.options.Target.TheVariants.{Cs60}

abbrev pub name_of : Target → List ℕ
name_of Cs60 = codes "cs_6_0"

-- the entry where no word names one
abbrev pub default_entry : List ℕ
default_entry = codes "main"

abbrev pub options : (entry : List ℕ) → Target → Options
options entry target = record { entry = entry; target = target }

-- an option and its value name a target
abbrev pub NamesTarget : (option value : List ℕ) → Target → Type 0
NamesTarget option value target = (option ≡ codes "--target") × (value ≡ name_of target)

-- an option and its value name an entry, which is a name of the language
abbrev pub NamesEntry : (option value : List ℕ) → Type 0
NamesEntry option value = (option ≡ codes "--entry") × IsName value

-- the options that the words behind `compile` choose
pub data Chooses : List (List ℕ) → Options → Type 0 where
  nothing : Chooses [] (options default_entry Cs60)
  a_target : (option value : List ℕ) (target : Target) → NamesTarget option value target → Chooses (option ∷ value ∷ []) (options default_entry target)
  an_entry : (option value : List ℕ) → NamesEntry option value → Chooses (option ∷ value ∷ []) (options value Cs60)
  target_and_entry : (first one second other : List ℕ) (target : Target) → NamesTarget first one target → NamesEntry second other
      → Chooses (first ∷ one ∷ second ∷ other ∷ []) (options other target)
  entry_and_target : (first one second other : List ℕ) (target : Target) → NamesEntry first one → NamesTarget second other target
      → Chooses (first ∷ one ∷ second ∷ other ∷ []) (options one target)

-- the words choose no options
abbrev pub ChoosesNone : List (List ℕ) → Type 0
ChoosesNone words = (chosen : Options) → ¬ Chooses words chosen
