-- A program that breaks no rule becomes a program, which is well formed.
use Rattle.std.proofs.Common.{◌≡◌, refl, ℕ, List, [], ◌∷◌, inl, Some}
use Rattle.hl_lexer.specs.Tokens.{Lexeme}
use Rattle.hl_meaning.specs.Programs.{Program}
use Rattle.hl_meaning.specs.WellFormed.{IsWellFormed}
use Rattle.hl_parser.specs.Trees.{Tree}
use Rattle.hl_rules.specs.declared.found.Broken.{Broken}
use Rattle.hl_rules.specs.Elaboration.{program_of}
use Rattle.hl_rules.specs.Found.{Among}
use Rattle.hl_rules.specs.Laws.{FreeIsWellFormed}
use Rattle.hl_rules.specs.Parts.{Site}
use Rattle.hl_rules.specs.Rules.{BreaksNothing, broken_by, broken_in}
use Rattle.hl_rules.specs.Sites.{program_sites}
use Rattle.hl_rules.proofs.ExpressionForms.{expression-becomes}
use Rattle.hl_rules.proofs.Free.{IsFree}
use Rattle.hl_rules.proofs.Gathering.{flat-among}
use Rattle.hl_rules.proofs.LexemeForms.{tokens-known}
use Rattle.hl_rules.proofs.ProgramForms.{IsMadeProgram, program-made}
use Rattle.hl_rules.proofs.StatementShapes.{program-shape}
use Rattle.hl_rules.proofs.ValueForms.{ExpressionsBecome}

none-among : {A : Type 0} (xs : List A) → ((x : A) → ¬ Among xs x) → xs ≡ []
none-among [] h = refl
none-among (x ∷ xs) h = absurd (h x (inl refl))

pub nothing-free : (tree : Tree) (tokens : List Lexeme) (entry : List ℕ) → BreaksNothing tree tokens entry → IsFree (program_sites tokens entry tree)
nothing-free tree tokens entry none = none-among (broken_in (program_sites tokens entry tree)) (λ b h. on b (flat-among (λ place. broken_by place.scope place.part) (program_sites tokens entry tree) b h))
  where
    on : (b : Broken) → (place : Site) × Among (program_sites tokens entry tree) place × Among (broken_by place.scope place.part) b → ⊥
    on b r = none b.at b.rule (record { place = r.0; stands = r.1; breaks = r.2 })

expressions_become : ExpressionsBecome
expressions_become s e known shape free = expression-becomes s known e shape free

-- a source that breaks no rule becomes a program, and it is well formed
pub free_is_well_formed : FreeIsWellFormed
free_is_well_formed text entry tokens end tree list spelled none =
    on (program-made expressions_become tokens entry tree (tokens-known text tokens end list) (program-shape tokens tree spelled) (nothing-free tree tokens entry none))
  where
    on : IsMadeProgram (program_of tokens entry tree) → (program : Program) × (program_of tokens entry tree ≡ Some program) × IsWellFormed program
    on made = (made.program, made.is, made.well_formed)
