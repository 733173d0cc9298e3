-- Broken rules: the tokens of a program at which one of the 42 rules is broken.
use Rattle.std.specs.Prelude.{ℕ, List, [], ◌∷◌, flat_map, Option, None, Some}
use Rattle.hl_lexer.specs.Tokens.{Lexeme}
use Rattle.hl_parser.specs.Trees.{Tree}
use Rattle.hl_rules.specs.DeclarationRules.{rule_1, rule_2, rule_3, rule_4, rule_5, rule_6, rule_7, rule_8, rule_9, rule_10, rule_11, rule_12, rule_13, rule_14, rule_15, rule_16, rule_17, rule_21, rule_42}
use Rattle.hl_rules.specs.ExpressionRules.{rule_18, rule_19, rule_20, rule_22, rule_23, rule_24, rule_25, rule_26, rule_27, rule_28, rule_29, rule_30, rule_31, rule_32, rule_33, rule_34, rule_35, rule_36, rule_37, rule_38, rule_39, rule_40, rule_41}
use Rattle.hl_rules.specs.Found.{Among, IsNotBehind, breaking, broken, gathered}
use Rattle.hl_rules.specs.declared.found.Broken.{Broken}
use Rattle.hl_rules.specs.Parts.{Part, Site}
use Rattle.hl_rules.specs.Scopes.{Scope}
use Rattle.hl_rules.specs.Sites.{program_sites}

-- a rule by its number, with the tokens at which a part breaks it in a scope
pub record Rule : Type 0 where
  pub number : ℕ
  pub tokens : Scope → Part → List ℕ

abbrev pub a_rule : (number : ℕ) → (Scope → Part → List ℕ) → Rule
a_rule number tokens = record { number = number; tokens = tokens }

abbrev pub rules : List Rule
rules =
    a_rule 1 rule_1 ∷
    a_rule 2 rule_2 ∷
    a_rule 3 rule_3 ∷
    a_rule 4 rule_4 ∷
    a_rule 5 rule_5 ∷
    a_rule 6 rule_6 ∷
    a_rule 7 rule_7 ∷
    a_rule 8 rule_8 ∷
    a_rule 9 rule_9 ∷
    a_rule 10 rule_10 ∷
    a_rule 11 rule_11 ∷
    a_rule 12 rule_12 ∷
    a_rule 13 rule_13 ∷
    a_rule 14 rule_14 ∷
    a_rule 15 rule_15 ∷
    a_rule 16 rule_16 ∷
    a_rule 17 rule_17 ∷
    a_rule 18 rule_18 ∷
    a_rule 19 rule_19 ∷
    a_rule 20 rule_20 ∷
    a_rule 21 rule_21 ∷
    a_rule 22 rule_22 ∷
    a_rule 23 rule_23 ∷
    a_rule 24 rule_24 ∷
    a_rule 25 rule_25 ∷
    a_rule 26 rule_26 ∷
    a_rule 27 rule_27 ∷
    a_rule 28 rule_28 ∷
    a_rule 29 rule_29 ∷
    a_rule 30 rule_30 ∷
    a_rule 31 rule_31 ∷
    a_rule 32 rule_32 ∷
    a_rule 33 rule_33 ∷
    a_rule 34 rule_34 ∷
    a_rule 35 rule_35 ∷
    a_rule 36 rule_36 ∷
    a_rule 37 rule_37 ∷
    a_rule 38 rule_38 ∷
    a_rule 39 rule_39 ∷
    a_rule 40 rule_40 ∷
    a_rule 41 rule_41 ∷
    a_rule 42 rule_42 ∷ []

-- what a part breaks
abbrev pub broken_by : Scope → Part → List Broken
broken_by s part = flat_map (λ r. breaking r.number (r.tokens s part)) rules

-- A rule is broken at a token of a program: somewhere in it stands a part that breaks it there.
pub record Breaks (tree : Tree) (tokens : List Lexeme) (entry : List ℕ) (at rule : ℕ) : Type 0 where
  pub place : Site
  pub stands : Among (program_sites tokens entry tree) place
  pub breaks : Among (broken_by place.scope place.part) (broken at rule)

-- This rule is broken at this token, and none at an earlier one, nor a lesser one at this one.
pub record BreaksFirst (tree : Tree) (tokens : List Lexeme) (entry : List ℕ) (at rule : ℕ) : Type 0 where
  pub breaks : Breaks tree tokens entry at rule
  pub first : (other_at other : ℕ) → Breaks tree tokens entry other_at other → IsNotBehind (broken at rule) (broken other_at other)

-- no rule is broken anywhere
abbrev pub BreaksNothing : Tree → List Lexeme → (entry : List ℕ) → Type 0
BreaksNothing tree tokens entry = (at rule : ℕ) → ¬ Breaks tree tokens entry at rule

-- what the sites break, one behind the other
abbrev pub broken_in : List Site → List Broken
broken_in sites = flat_map (λ place. broken_by place.scope place.part) sites

-- the first of what was found and what these sites break
unfoldable pub noted : Option Broken → List Site → Option Broken
noted found sites = gathered found (broken_in sites)

-- what is the first that a program breaks, if it breaks anything
abbrev pub first_broken : Tree → List Lexeme → (entry : List ℕ) → Option Broken
first_broken tree tokens entry = gathered None (broken_in (program_sites tokens entry tree))

-- what is found is the first broken rule, or no rule is broken
abbrev pub IsFirstBroken : Tree → List Lexeme → (entry : List ℕ) → Option Broken → Type 0
IsFirstBroken tree tokens entry None = BreaksNothing tree tokens entry
IsFirstBroken tree tokens entry (Some found) = BreaksFirst tree tokens entry found.at found.rule
