-- Where nothing is found behind places, nothing was found before, and they break no rule.
use Rattle.std.proofs.Common.{◌≡◌, ◌∙◌, refl, sym, List, [], ◌∷◌, Option, None, Some}
use Rattle.std.proofs.lemmas.Option.{none-some}
use Rattle.hl_rules.specs.declared.found.Broken.{Broken}
use Rattle.hl_rules.specs.Found.{first_of, gathered}
use Rattle.hl_rules.specs.Parts.{Site}
use Rattle.hl_rules.specs.Rules.{broken_in, noted}
use Rattle.hl_rules.proofs.Free.{IsFree}
use Rattle.hl_rules.proofs.Gathering.{gathered-some}

never-none : (b : Broken) (more : List Broken) → gathered (Some b) more ≡ None → ⊥
never-none b more e = let first = gathered-some b more in none-some first.0 (sym e ∙ first.1)

none-gathered : (found : Option Broken) (more : List Broken) → gathered found more ≡ None → found ≡ None
none-gathered None more e = refl
none-gathered (Some b) more e = absurd (never-none b more e)

empty-gathered : (found : Option Broken) (more : List Broken) → gathered found more ≡ None → more ≡ []
empty-gathered found [] e = refl
empty-gathered found (b ∷ more) e = absurd (never-none (first_of found b) more e)

-- nothing was found before
pub none-before : (found behind : Option Broken) (sites : List Site) → behind ≡ noted found sites → behind ≡ None → found ≡ None
unfolding noted
none-before found behind sites e none = none-gathered found (broken_in sites) (sym e ∙ none)

-- the places break no rule
pub free-noted : (found behind : Option Broken) (sites : List Site) → behind ≡ noted found sites → behind ≡ None → IsFree sites
unfolding noted
free-noted found behind sites e none = empty-gathered found (broken_in sites) (sym e ∙ none)
