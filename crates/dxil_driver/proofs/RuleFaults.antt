-- The fault of a tree with its place, from what its elaboration answers.
use Rattle.std.proofs.Common.{◌≡◌, ◌∙◌, sym, ap, ℕ, List}
use Rattle.std.specs.Prelude.{Result, Err}
use Rattle.base_core.specs.declared.place.Place.{Place}
use Rattle.hl_lexer.specs.Tokens.{Lexeme}
use Rattle.hl_parser.specs.Trees as plain
use Rattle.hl_meaning.specs.declared.program.Program.{Program}
use Rattle.hl_rules.specs.Rules.{BreaksFirst}
use Rattle.hl_types.specs.Elaborating.{GivesFault}
use Rattle.hl_types.specs.declared.fault.RuleFault.{RuleFault}
use Rattle.hl_types.specs.declared.fault.RuleFault.TheVariants.{Broken, Memory as NoRoomForProgram}
use Rattle.dxil_driver.specs.CompileFaults.{TreeBreaks}
use Rattle.dxil_driver.specs.SourceText.{place_at}
use Rattle.dxil_driver.specs.declared.compiler.CompileFault.TheVariants.{Rule}

module _ (tree : plain.Tree) (tokens : List Lexeme) (end : Place) (entry : List ℕ) where
  -- a fault of the tree is one that its elaboration gives
  pub gives_rule : (r : Result Program RuleFault) → ((at rule : ℕ) → BreaksFirst tree tokens entry at rule → GivesFault r (Broken rule at))
      → (fault : RuleFault) (place : Place) → TreeBreaks tree tokens end entry fault place → GivesFault r fault
  gives_rule r every (Broken rule at) place (first, is) = every at rule first
  gives_rule r every NoRoomForProgram place h = absurd h

  pub rule_named : (rule at : ℕ) (place : Place) → place ≡ place_at tokens end at
      → ((fault : RuleFault) (other : Place) → TreeBreaks tree tokens end entry fault other → GivesFault (Err (Broken rule at)) fault)
      → (fault : RuleFault) (other : Place) → TreeBreaks tree tokens end entry fault other
      → Rule (Broken rule at) place ≡ Rule fault other
  rule_named rule at place is gives (Broken rule' at') other h =
      let same : Broken rule at ≡ Broken rule' at' = gives (Broken rule' at') other h in
      let there : place ≡ other = is ∙ (ap (λ (n : ℕ). place_at tokens end n) (same_index same) ∙ sym h.1) in
      ap (λ (f : RuleFault). Rule f place) same ∙ ap (λ (p : Place). Rule (Broken rule' at') p) there
    where
      same_index : Broken rule at ≡ Broken rule' at' → at ≡ at'
      same_index e = cc
  rule_named rule at place is gives NoRoomForProgram other h = absurd h
