-- Rules that are broken at tokens, and the first of several.
use Rattle.std.specs.Prelude.{◌≡◌, map, ℕ, ◌<◌, ◌≤◌, ◌==◌, ◌&&◌, ◌||◌, ◌⊎◌, Bool, if◌then◌else◌, nat_lt, List, [], ◌∷◌, Option, None, Some}
use Rattle.hl_rules.specs.declared.found.Broken.{Broken}

-- it stands in a list
abbrev pub Among : {A : Type 0} → List A → A → Type 0
Among [] x = ⊥
Among (y ∷ ys) x = (y ≡ x) ⊎ Among ys x

abbrev pub broken : (at rule : ℕ) → Broken
broken at rule = record { at = at; rule = rule }

-- the tokens at which something is broken: this one, if it is
abbrev pub broken_if : Bool → ℕ → List ℕ
broken_if broken at = if broken then at ∷ [] else []

-- a rule that is broken at tokens
abbrev pub breaking : (rule : ℕ) → List ℕ → List Broken
breaking rule tokens = map (λ at. broken at rule) tokens

-- it isn't behind the other: it is at a lesser token, or at the same one with a rule that is no greater
abbrev pub IsNotBehind : Broken → Broken → Type 0
IsNotBehind a b = (a.at < b.at) ⊎ (a.at ≡ b.at) × (a.rule ≤ b.rule)

abbrev pub is_before : Broken → Broken → Bool
is_before a b = nat_lt a.at b.at || a.at == b.at && nat_lt a.rule b.rule

-- the first of what was found and one more
abbrev pub first_of : Option Broken → Broken → Broken
first_of None b = b
first_of (Some a) b = if is_before b a then b else a

-- the first of what was found and several more
abbrev pub gathered : Option Broken → List Broken → Option Broken
gathered found [] = found
gathered found (b ∷ more) = gathered (Some (first_of found b)) more
