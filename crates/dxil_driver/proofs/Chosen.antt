-- What one option and two options choose.
use Rattle.std.proofs.Common.{◌≡◌, ℕ, List, [], ◌∷◌, Option, None, Some, sym, subst}
use Rattle.std.specs.Prelude.{MatchOption}
use Rattle.std.specs.Option.{option_map}
use Rattle.dxil_driver.specs.Options.{Chooses, a_target, an_entry, target_and_entry, entry_and_target, ChoosesNone, NamesEntry, NamesTarget, default_entry, options}
use Rattle.dxil_driver.specs.declared.options.Options.{Options}
use Rattle.dxil_driver.specs.declared.options.Target.{Target}
use Rattle.dxil_driver.proofs.ChosenOnce.{other_option}

-- the words choose what was found, or none where nothing was found
abbrev pub Found : List (List ℕ) → Option Options → Type 0
Found words found = MatchOption found (ChoosesNone words) (Chooses words)

-- the target that was found, or none where the option and its value name none
abbrev pub FoundTarget : (option value : List ℕ) → Option Target → Type 0
FoundTarget option value found = MatchOption found ((target : Target) → ¬ NamesTarget option value target) (NamesTarget option value)

module _ (option value : List ℕ) where
  no_one : ¬ NamesEntry option value → ((target : Target) → ¬ NamesTarget option value target) → ChoosesNone (option ∷ value ∷ [])
  no_one no_entry no_target _ (a_target _ _ target t) = no_target target t
  no_one no_entry no_target _ (an_entry _ _ e) = no_entry e

  one_found : ¬ NamesEntry option value → (target : Option Target) → FoundTarget option value target → Found (option ∷ value ∷ []) (option_map (options default_entry) target)
  one_found no_entry None none = no_one no_entry none
  one_found no_entry (Some target) t = a_target option value target t

  pub one_target : ¬ NamesEntry option value → (target : Option Target) → FoundTarget option value target → (found : Option Options) → found ≡ option_map (options default_entry) target → Found (option ∷ value ∷ []) found
  one_target no_entry target t found e = subst (Found (option ∷ value ∷ [])) (sym e) (one_found no_entry target t)

module _ (first one second other : List ℕ) where
  abbrev words : List (List ℕ)
  words = first ∷ one ∷ second ∷ other ∷ []

  no_target_behind : NamesEntry first one → ((target : Target) → ¬ NamesTarget second other target) → ChoosesNone words
  no_target_behind e none _ (target_and_entry _ _ _ _ target t f) = other_option first t.0 e.0
  no_target_behind e none _ (entry_and_target _ _ _ _ target f t) = none target t

  no_target_before : NamesEntry second other → ((target : Target) → ¬ NamesTarget first one target) → ChoosesNone words
  no_target_before e none _ (target_and_entry _ _ _ _ target t f) = none target t
  no_target_before e none _ (entry_and_target _ _ _ _ target f t) = other_option second t.0 e.0

  behind_found : NamesEntry first one → (target : Option Target) → FoundTarget second other target → Found words (option_map (options one) target)
  behind_found e None none = no_target_behind e none
  behind_found e (Some target) t = entry_and_target first one second other target e t

  before_found : NamesEntry second other → (target : Option Target) → FoundTarget first one target → Found words (option_map (options other) target)
  before_found e None none = no_target_before e none
  before_found e (Some target) t = target_and_entry first one second other target t e

  -- the entry, and then the target
  pub entry_first : NamesEntry first one → (target : Option Target) → FoundTarget second other target → (found : Option Options) → found ≡ option_map (options one) target → Found words found
  entry_first e target t found same = subst (Found words) (sym same) (behind_found e target t)

  -- the target, and then the entry
  pub target_first : NamesEntry second other → (target : Option Target) → FoundTarget first one target → (found : Option Options) → found ≡ option_map (options other) target → Found words found
  target_first e target t found same = subst (Found words) (sym same) (before_found e target t)
