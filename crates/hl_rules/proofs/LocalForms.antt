-- Variables that are declared: what is known behind them, and that they stand in the environment of the program.
use Rattle.std.proofs.Common.{◌≡◌, refl, sym, subst, ℕ, Bool, List, [], ◌∷◌, ◌++◌, length, Option, length-append}
use Rattle.std.specs.Prelude.{is_some, unwrap_or}
use Rattle.std.specs.List.{All}
use Rattle.std.proofs.lemmas.List.Elements.{All-append, All-cons, All-nil}
use Rattle.hl_parser.specs.Trees.{Maybe, Tree, Trees, a_param, a_start, at_of, more_trees, no_trees}
use Rattle.hl_meaning.specs.Types.{Ty, void_type}
use Rattle.hl_meaning.specs.Places as places
use Rattle.hl_meaning.specs.Programs.{Variable}
use Rattle.hl_rules.specs.Constants.{declarator_type, named_type}
use Rattle.hl_rules.specs.Declarations.{after_param, after_params, after_start, after_starts, with_variable}
use Rattle.hl_rules.specs.Elaboration.{param_variable, param_variables, start_variable, starts_variables, variable_of}
use Rattle.hl_rules.specs.Parts.{a_local_name, site}
use Rattle.hl_rules.specs.Scopes.{Scope}
use Rattle.hl_rules.specs.Sites.{and_tree, declarator_sites, entry_sites, init_if, param_sites, params_sites, start_sites, starts_sites, type_sites}
use Rattle.hl_rules.proofs.DeclaratorForms.{IsKnownAs, declarator-known, named-known}
use Rattle.hl_rules.proofs.Fitting.{Fits}
use Rattle.hl_rules.proofs.Free.{IsFree, free-left, free-right}
use Rattle.hl_rules.proofs.ScopeForms.{FitsNames, HoldsPart, fits-behind, holds-first, holds-left, holds-right, names-fit, names-variable, sound-variable}
use Rattle.hl_rules.proofs.Soundness.{IsSound}
use Rattle.hl_rules.proofs.StructForms.{IsKnownType, known_words}
use Rattle.hl_rules.proofs.TreeShapes.{AllTrees, IsParam, IsStart}
use Rattle.hl_rules.proofs.VariableCounts.{IsBehind, behind-joined, behind-none}

-- variables of types that something may have
abbrev pub AreKnownVariables : List ℕ → List Variable → Type 0
AreKnownVariables words variables = All (λ v. IsKnownType words v.ty) variables

-- From one place to a later one these variables are declared, which have known types; where they stand in an environment,
-- so does what is known behind them.
pub record IsDeclaring (s t : Scope) (variables : List Variable) : Type 0 where
  pub same : IsBehind (length variables) s t
  pub sound : IsSound t
  pub types : AreKnownVariables (known_words s.structs) variables
  pub names : (env : places.Scope) → FitsNames env s → HoldsPart env.variables s.variables variables → FitsNames env t

pub declaring-fits : (s t : Scope) (variables : List Variable) → IsDeclaring s t variables → (env : places.Scope) → Fits env s → HoldsPart env.variables s.variables variables → Fits env t
declaring-fits s t variables d env fits holds = fits-behind env (length variables) s t fits d.same (d.names env (names-fit env s fits) holds)

pub declaring-none : (s : Scope) → IsSound s → IsDeclaring s s []
declaring-none s sound = record {
  same = behind-none s;
  sound = sound;
  types = All-nil (λ (v : Variable). IsKnownType (known_words s.structs) v.ty);
  names = λ env fits holds. fits;
}

-- the variables behind others, where these are counted
pub holds-behind : (s t : Scope) (variables a b : List Variable) → IsBehind (length a) s t → HoldsPart variables s.variables (a ++ b) → HoldsPart variables t.variables b
holds-behind s t variables a b same holds = subst (λ n. HoldsPart variables n b) (sym same.variables) (holds-right variables s.variables (length a) a b refl holds)

pub declaring-joined : (s t u : Scope) (a b : List Variable) → IsDeclaring s t a → IsDeclaring t u b → IsDeclaring s u (a ++ b)
declaring-joined s t u a b first rest = record {
  same = subst (λ n. IsBehind n s u) (sym (length-append a b)) (behind-joined (length a) (length b) s t u first.same rest.same);
  sound = rest.sound;
  types =
      All-append (λ (v : Variable). IsKnownType (known_words s.structs) v.ty) a b first.types
      (subst (λ l. AreKnownVariables (known_words l) b) first.same.structs rest.types);
  names = λ env fits holds.
      rest.names env (first.names env fits (holds-left env.variables s.variables a b holds)) (holds-behind s t env.variables a b first.same holds);
}

-- a type that is known is known where the structs are the same
pub known-behind : (s t : Scope) (ty : Option Ty) → t.structs ≡ s.structs → IsKnownAs s ty → IsKnownAs t ty
known-behind s t ty e known = record { type = known.type; is = known.is; known = subst (λ l. IsKnownType (known_words l) known.type) (sym e) known.known }

-- ---- one variable

known-variable : (s : Scope) (name : ℕ) (ty : Option Ty) → IsKnownAs s ty → IsKnownType (known_words s.structs) (variable_of s name ty).ty
known-variable s name ty known = subst (λ o. IsKnownType (known_words s.structs) (unwrap_or o void_type)) (sym known.is) known.known

pub variable-declares : (s : Scope) (name : ℕ) (ty : Option Ty) (is_const : Bool) → IsSound s → IsKnownAs s ty → IsDeclaring s (with_variable name ty is_const s) (variable_of s name ty ∷ [])
variable-declares s name ty is_const sound known = record {
  same = record { tokens = refl; structs = refl; buffers = refl; functions = refl; inside = refl; in_loop = refl; result = refl; variables = refl };
  sound = sound-variable name ty is_const s sound known;
  types =
      All-cons (λ (v : Variable). IsKnownType (known_words s.structs) v.ty) (variable_of s name ty) [] (known-variable s name ty known)
      (All-nil (λ (v : Variable). IsKnownType (known_words s.structs) v.ty));
  names = λ env fits holds.
      names-variable env s name ty is_const sound known fits (holds-first env.variables s.variables (variable_of s name ty) [] holds);
}

-- ---- declarators with initialisers

-- the type of the variable of a start
pub start-known : (s : Scope) → IsSound s → (ty : Option Ty) → IsKnownAs s ty → (at : ℕ) (declarator : Tree) (init : Maybe) → IsStart s.tokens (a_start at declarator init) → IsFree (start_sites s ty (a_start at declarator init)) → IsKnownAs s (declarator_type s ty declarator)
start-known s sound ty known at declarator init shape free =
    declarator-known s sound ty known declarator shape.1
    (free-left (declarator_sites s ty declarator) (site s (a_local_name at) ∷ init_if s (declarator_type s ty declarator) init) free)

pub start-declares : (s : Scope) → IsSound s → (ty : Option Ty) → IsKnownAs s ty → (is_const : Bool) (tree : Tree) → IsStart s.tokens tree → IsFree (start_sites s ty tree) → IsDeclaring s (after_start ty is_const s tree) (start_variable s ty tree)
start-declares s sound ty known is_const (a_start at declarator init) shape free =
    variable-declares s at (declarator_type s ty declarator) is_const sound (start-known s sound ty known at declarator init shape free)
start-declares s sound ty known is_const other shape free = absurd shape

pub starts-declares : (s : Scope) → IsSound s → (ty : Option Ty) → IsKnownAs s ty → (is_const : Bool) (starts : Trees) → AllTrees (IsStart s.tokens) starts → IsFree (starts_sites s ty is_const starts) → IsDeclaring s (after_starts ty is_const s starts) (starts_variables s ty is_const starts)
starts-declares s sound ty known is_const no_trees shape free = declaring-none s sound
starts-declares s sound ty known is_const (more_trees first rest) shape free =
    let declares = start-declares s sound ty known is_const first shape.0 (free-left (start_sites s ty first) (starts_sites (after_start ty is_const s first) ty is_const rest) free) in
    declaring-joined s (after_start ty is_const s first) (after_starts ty is_const (after_start ty is_const s first) rest) (start_variable s ty first) (starts_variables (after_start ty is_const s first) ty is_const rest)
    declares
    (starts-declares (after_start ty is_const s first) declares.sound ty (known-behind s (after_start ty is_const s first) ty declares.same.structs known) is_const rest
    (subst (λ tokens. AllTrees (IsStart tokens) rest) (sym declares.same.tokens) shape.1)
    (free-right (start_sites s ty first) (starts_sites (after_start ty is_const s first) ty is_const rest) free))

-- ---- parameters

-- the type of a parameter
pub param-known : (s : Scope) → IsSound s → (at : ℕ) (constant : Option ℕ) (direction : Maybe) (type declarator : Tree) (semantic : Option ℕ) → IsParam s.tokens (a_param at constant direction type declarator semantic) → IsFree (param_sites s (a_param at constant direction type declarator semantic)) → IsKnownAs s (declarator_type s (named_type s type) declarator)
param-known s sound at constant direction type declarator semantic shape free =
    declarator-known s sound (named_type s type)
    (named-known s sound type shape.1 (free-left (type_sites s type) (declarator_sites s (named_type s type) declarator ++ site s (a_local_name (at_of declarator)) ∷ []) free))
    declarator shape.2
    (free-left (declarator_sites s (named_type s type) declarator) (site s (a_local_name (at_of declarator)) ∷ []) (free-right (type_sites s type) (declarator_sites s (named_type s type) declarator ++ site s (a_local_name (at_of declarator)) ∷ []) free))

pub param-declares : (s : Scope) → IsSound s → (tree : Tree) → IsParam s.tokens tree → IsFree (param_sites s tree) → IsDeclaring s (after_param s tree) (param_variable s tree)
param-declares s sound (a_param at constant direction type declarator semantic) shape free =
    variable-declares s (at_of declarator) (declarator_type s (named_type s type) declarator) (is_some constant) sound (param-known s sound at constant direction type declarator semantic shape free)
param-declares s sound other shape free = absurd shape

pub params-declare : (s : Scope) → IsSound s → (entry : Bool) (before params : Trees) → AllTrees (IsParam s.tokens) params → IsFree (params_sites s entry before params) → IsDeclaring s (after_params s params) (param_variables s params)
params-declare s sound entry before no_trees shape free = declaring-none s sound
params-declare s sound entry before (more_trees first rest) shape free =
    let declares = param-declares s sound first shape.0 (free-left (param_sites s first) (entry_sites s entry before first ++ params_sites (after_param s first) entry (and_tree before first) rest) free) in
    declaring-joined s (after_param s first) (after_params (after_param s first) rest) (param_variable s first) (param_variables (after_param s first) rest)
    declares
    (params-declare (after_param s first) declares.sound entry (and_tree before first) rest
    (subst (λ tokens. AllTrees (IsParam tokens) rest) (sym declares.same.tokens) shape.1)
    (free-right (entry_sites s entry before first) (params_sites (after_param s first) entry (and_tree before first) rest) (free-right (param_sites s first) (entry_sites s entry before first ++ params_sites (after_param s first) entry (and_tree before first) rest) free)))
