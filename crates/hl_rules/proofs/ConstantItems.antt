-- Groupshared variables and constants that break no rule keep what those of a program keep.
use Rattle.std.proofs.Common.{◌≡◌, ◌∙◌, sym, ap, subst, List, [], ◌++◌, length, Option, Some, arith}
use Rattle.std.specs.Prelude.{option_and_then, unwrap_or}
use Rattle.std.proofs.lemmas.List.{append-nil, length-map}
use Rattle.hl_parser.specs.Trees.{Tree}
use Rattle.hl_meaning.specs.Layout.{kinds_of}
use Rattle.hl_meaning.specs.Places as places
use Rattle.hl_meaning.specs.Programs.{StructDef}
use Rattle.hl_meaning.specs.Types.{Ty, void_type}
use Rattle.hl_meaning.specs.WellFormed.{HoldWords, IsConstant, IsDeclared}
use Rattle.hl_rules.specs.Constants.{declarator_type}
use Rattle.hl_rules.specs.Elaboration.{declared_constant, declared_variable, init_words}
use Rattle.hl_rules.specs.Scopes.{Scope, words_if}
use Rattle.hl_rules.specs.Sites.{constant_sites}
use Rattle.hl_rules.specs.Statements.{struct_def, struct_defs}
use Rattle.hl_rules.proofs.ConstantForms.{HasWords}
use Rattle.hl_rules.proofs.ConstantWords.{constant-words}
use Rattle.hl_rules.proofs.DeclaratorForms.{IsKnownAs}
use Rattle.hl_rules.proofs.Free.{IsFree}
use Rattle.hl_meaning.proofs.LayoutForms.{below-more, kinds_of-front, length-kinds_of}
use Rattle.hl_rules.proofs.ResourceForms.{known-words_of}
use Rattle.hl_rules.proofs.ScopeForms.{FitsNames, declared-there}
use Rattle.hl_rules.proofs.Soundness.{IsSound}
use Rattle.hl_rules.proofs.StructForms.{IsKnownType, known_words, type_below, words_known}

-- a variable of a known type has a type that something of the program may have
pub variable-kept : (env : places.Scope) (s : Scope) → IsSound s → FitsNames env s → (ty : Option Ty) (declarator : Tree) → IsKnownAs s (declarator_type s ty declarator) → IsDeclared env.structs (declared_variable s ty declarator).ty
variable-kept env s sound fits ty declarator known =
    subst (λ o. IsDeclared env.structs (unwrap_or o void_type)) (sym known.is) (declared-there env s known.type sound fits known.known)

-- a known type has as many kinds as words, and they are those of the program
known-kinds : (s : Scope) (ty : Ty) → IsSound s → IsKnownType (known_words s.structs) ty → words_if s.structs (Some ty) ≡ Some (length (kinds_of (struct_defs s.structs) ty))
known-kinds s ty sound known = known-words_of s (struct_defs s.structs) [] ty sound (sym (append-nil (struct_defs s.structs))) known ∙ ap (λ n. Some n) (sym (length-kinds_of (struct_defs s.structs) ty))

program-kinds : (s : Scope) (structs more : List StructDef) (ty : Ty) → structs ≡ struct_defs s.structs ++ more → IsKnownType (known_words s.structs) ty → kinds_of structs ty ≡ kinds_of (struct_defs s.structs) ty
program-kinds s structs more ty e known =
    ap (λ l. kinds_of l ty) e
    ∙ kinds_of-front (struct_defs s.structs) more ty
    (below-more (length (known_words s.structs)) (length (struct_defs s.structs)) ty (omega (arith, length-map s.structs words_known, length-map s.structs (struct_def s.structs))) (type_below (length (known_words s.structs)) ty known.is_type))

pub constant-kept : (env : places.Scope) (s : Scope) → IsSound s → FitsNames env s → (ty : Option Ty) (declarator init : Tree) → IsKnownAs s (declarator_type s ty declarator) → IsFree (constant_sites s (declarator_type s ty declarator) init) → IsConstant env.structs (declared_constant s ty declarator init)
constant-kept env s sound fits ty declarator init known free = record {
  type = variable-kept env s sound fits ty declarator known;
  words =
      subst (λ o. HoldWords (kinds_of env.structs (unwrap_or o void_type)) (unwrap_or (option_and_then (λ own. init_words s (kinds_of (struct_defs s.structs) own) init) o) [])) (sym known.is)
      (subst (λ kinds. HoldWords kinds (unwrap_or (init_words s (kinds_of (struct_defs s.structs) known.type) init) [])) (sym (program-kinds s env.structs fits.more known.type fits.prefix known.known))
      (subst (λ o. HoldWords (kinds_of (struct_defs s.structs) known.type) (unwrap_or o [])) (sym words.is) words.hold));
}
  where
    words : HasWords (kinds_of (struct_defs s.structs) known.type) (init_words s (kinds_of (struct_defs s.structs) known.type) init)
    words =
        constant-words s sound.known (declarator_type s ty declarator) init (kinds_of (struct_defs s.structs) known.type)
        (ap (λ o. words_if s.structs o) known.is ∙ known-kinds s known.type sound known.known) free
