-- Where nothing was found behind sites, nothing was found before them, and they break nothing.
use Rattle.std.proofs.Common.{◌≡◌, refl, List, [], ◌∷◌, Option, None, Some}
use Rattle.hl_rules.specs.declared.found.Broken.{Broken}
use Rattle.hl_rules.specs.Found.{first_of, gathered}
use Rattle.hl_rules.specs.Parts.{Site}
use Rattle.hl_rules.specs.Rules.{broken_in, noted}
use Rattle.hl_rules.proofs.Free.{IsFree}

-- something that was found stays
some-stays : (more : List Broken) (b : Broken) → gathered (Some b) more ≡ None → ⊥
some-stays [] b e = cc e
some-stays (x ∷ more) b e = some-stays more (first_of (Some b) x) e

pub gathered-none : (found : Option Broken) (more : List Broken) → gathered found more ≡ None → (found ≡ None) × (more ≡ [])
gathered-none found [] e = (e, refl)
gathered-none found (b ∷ more) e = absurd (some-stays more (first_of found b) e)

-- nothing was found before, and the sites break nothing
pub found_nothing : (found : Option Broken) (sites : List Site) → noted found sites ≡ None → (found ≡ None) × IsFree sites
unfolding noted
found_nothing found sites e = gathered-none found (broken_in sites) e
