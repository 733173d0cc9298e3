-- Behind groupshared variables and constants what is known stands in the program.
use Rattle.std.proofs.Common.{◌≡◌, ◌∙◌, refl, sym, ap, subst, ℕ, suc, ◌≤◌, Bool, true, false, if◌then◌else◌, List, [], ◌∷◌, ◌++◌, Option, None, Some}
use Rattle.std.specs.Prelude.{option_map, unwrap_or}
use Rattle.hl_lexer.specs.Numbers.{greatest_number}
use Rattle.hl_parser.specs.Trees.{Tree, an_init, at_of, present}
use Rattle.hl_meaning.specs.Programs.{Constant, FunctionDef, Resource, StructDef, Variable}
use Rattle.hl_meaning.specs.Trees.{constant_root, shared_root}
use Rattle.hl_meaning.specs.Types.{Ty, void_type}
use Rattle.hl_rules.specs.Constants.{declarator_type}
use Rattle.hl_rules.specs.Declarations.{constant_value, init_number, is_number_type, variable, with_constant, with_shared}
use Rattle.hl_rules.specs.Elaboration.{declared_constant, declared_variable}
use Rattle.hl_rules.specs.Scopes.{Scope, named, spelled, with_global}
use Rattle.hl_rules.specs.Statements.{struct_defs}
use Rattle.hl_rules.proofs.ConstantNumbers.{number-fits}
use Rattle.hl_rules.proofs.DeclaratorForms.{IsKnownAs}
use Rattle.hl_rules.proofs.Fitting.{FitsVariable, IsKnown}
use Rattle.hl_rules.proofs.GlobalForms.{sound-counts}
use Rattle.hl_rules.proofs.ProgramScopes.{Stands, program_env}
use Rattle.hl_rules.proofs.ProgramSteps.{get-at, length-push}
use Rattle.hl_rules.proofs.ScopeForms.{FitSort, FitsNames, declared-there, sorts-global, sound-global}
use Rattle.hl_rules.proofs.StructForms.{IsKnownType, known_words}

-- the number of a constant is a word of 32 bits
init-fits : (s : Scope) → IsKnown s → (init : Tree) (n : ℕ) → init_number s init ≡ Some n → n ≤ greatest_number
init-fits s known (an_init at (present value) parts) n e = number-fits s known value n e
init-fits s known other n e = absurd (cc e)

if-there : (number : Bool) (o : Option ℕ) (n : ℕ) → (if number then o else None) ≡ Some n → o ≡ Some n
if-there true o n e = e
if-there false o n e = absurd (cc e)

value-fits : (s : Scope) → IsKnown s → (ty : Option Ty) (init : Tree) (n : ℕ) → constant_value s ty init ≡ Some n → n ≤ greatest_number
value-fits s known ty init n e = init-fits s known init n (if-there (is_number_type ty) (init_number s init) n e)

same-type : (s : Scope) (ty : Option Ty) (known : IsKnownAs s ty) (own : Ty) → ty ≡ Some own → IsKnownType (known_words s.structs) own
same-type s ty known own e = subst (λ t. IsKnownType (known_words s.structs) t) (ap (λ o. unwrap_or o own) (sym known.is ∙ e)) known.known

module _ (structs : List StructDef) (resources : List Resource) (shared : List Variable) (constants : List Constant) (s : Scope) (rs : List Resource) (ss : List Variable) (cs : List Constant) (fs : List FunctionDef) (stands : Stands (program_env structs resources shared constants) s rs ss cs fs) (more : List StructDef) (prefix : structs ≡ struct_defs s.structs ++ more) where
  names-here : FitsNames (program_env structs resources shared constants) s
  names-here = record { more = more; prefix = prefix; names = stands.names }

  -- ---- groupshared variables

  shared-fits : (ty : Option Ty) (declarator : Tree) (behind : List Variable) (known : IsKnownAs s (declarator_type s ty declarator)) → shared ≡ ss ++ declared_variable s ty declarator ∷ behind → (own : Ty) → declarator_type s ty declarator ≡ Some own → FitsVariable (program_env structs resources shared constants) (record { root = shared_root s.shared; ty = declarator_type s ty declarator; is_const = false; number = None }) own
  shared-fits ty declarator behind known e own is = record {
    type = ap (λ o. option_map (λ (v : Variable). v.ty) o) (get-at shared ss (declared_variable s ty declarator) behind s.shared e stands.shared) ∙ ap (λ o. Some (unwrap_or o void_type)) is;
    declared = declared-there (program_env structs resources shared constants) s own stands.sound names-here (same-type s (declarator_type s ty declarator) known own is);
    writes = λ h. refl;
    whole = refl;
  }

  pub stands-shared : (ty : Option Ty) (declarator : Tree) (behind : List Variable) → IsKnownAs s (declarator_type s ty declarator) → shared ≡ ss ++ declared_variable s ty declarator ∷ behind → Stands (program_env structs resources shared constants) (with_shared ty s declarator) rs (ss ++ declared_variable s ty declarator ∷ []) cs fs
  stands-shared ty declarator behind known e = record {
    sound =
        sound-counts (with_global (named (spelled s (at_of declarator)) (variable (shared_root s.shared) (declarator_type s ty declarator) false None)) s) (suc s.shared) s.constants
        (sound-global (named (spelled s (at_of declarator)) (variable (shared_root s.shared) (declarator_type s ty declarator) false None)) s stands.sound ((known.type, known.is), λ number h. absurd (cc h)));
    outside = stands.outside;
    resources = stands.resources;
    shared = length-push ss (declared_variable s ty declarator) s.shared stands.shared;
    constants = stands.constants;
    functions = stands.functions;
    buffers = stands.buffers;
    names = sorts-global (FitSort (program_env structs resources shared constants)) s (named (spelled s (at_of declarator)) (variable (shared_root s.shared) (declarator_type s ty declarator) false None)) stands.names (λ own is. shared-fits ty declarator behind known e own is);
    callees = stands.callees;
  }

  -- ---- constants

  constant-fits : (ty : Option Ty) (declarator init : Tree) (behind : List Constant) (known : IsKnownAs s (declarator_type s ty declarator)) → constants ≡ cs ++ declared_constant s ty declarator init ∷ behind → (own : Ty) → declarator_type s ty declarator ≡ Some own → FitsVariable (program_env structs resources shared constants) (record { root = constant_root s.constants; ty = declarator_type s ty declarator; is_const = true; number = constant_value s (declarator_type s ty declarator) init }) own
  constant-fits ty declarator init behind known e own is = record {
    type = ap (λ o. option_map (λ (c : Constant). c.variable.ty) o) (get-at constants cs (declared_constant s ty declarator init) behind s.constants e stands.constants) ∙ ap (λ o. Some (unwrap_or o void_type)) is;
    declared = declared-there (program_env structs resources shared constants) s own stands.sound names-here (same-type s (declarator_type s ty declarator) known own is);
    writes = λ h. absurd (cc h);
    whole = refl;
  }

  pub stands-constant : (ty : Option Ty) (declarator init : Tree) (behind : List Constant) → IsKnownAs s (declarator_type s ty declarator) → constants ≡ cs ++ declared_constant s ty declarator init ∷ behind → Stands (program_env structs resources shared constants) (with_constant s (declarator_type s ty declarator) declarator init) rs ss (cs ++ declared_constant s ty declarator init ∷ []) fs
  stands-constant ty declarator init behind known e = record {
    sound =
        sound-counts (with_global (named (spelled s (at_of declarator)) (variable (constant_root s.constants) (declarator_type s ty declarator) true (constant_value s (declarator_type s ty declarator) init))) s) s.shared (suc s.constants)
        (sound-global (named (spelled s (at_of declarator)) (variable (constant_root s.constants) (declarator_type s ty declarator) true (constant_value s (declarator_type s ty declarator) init))) s stands.sound
        ((known.type, known.is), λ number h. value-fits s stands.sound.known (declarator_type s ty declarator) init number h));
    outside = stands.outside;
    resources = stands.resources;
    shared = stands.shared;
    constants = length-push cs (declared_constant s ty declarator init) s.constants stands.constants;
    functions = stands.functions;
    buffers = stands.buffers;
    names = sorts-global (FitSort (program_env structs resources shared constants)) s (named (spelled s (at_of declarator)) (variable (constant_root s.constants) (declarator_type s ty declarator) true (constant_value s (declarator_type s ty declarator) init))) stands.names (λ own is. constant-fits ty declarator init behind known e own is);
    callees = stands.callees;
  }
