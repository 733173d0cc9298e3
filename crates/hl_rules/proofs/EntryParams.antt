-- The parameters of an entry that breaks no rule are inputs, and no two have one semantic.
use Rattle.std.proofs.Common.{◌≡◌, ◌∙◌, refl, sym, ap, subst, ℕ, suc, Bool, true, false, List, [], ◌∷◌, ◌++◌, map, length, Option, Some, append_assoc}
use Rattle.std.specs.Prelude.{◌==◌, ◌||◌, not, ◌&&◌, option_map, unwrap_or}
use Rattle.std.specs.List.{All, list_any}
use Rattle.std.proofs.lemmas.List.Elements.{All-cons, All-nil}
use Rattle.hl_lexer.specs.Tokens.{Lexeme}
use Rattle.hl_parser.specs.Trees.{Maybe, Tree, Trees, a_param, more_trees, no_trees}
use Rattle.hl_meaning.specs.declared.program.Parameter.{Parameter}
use Rattle.hl_meaning.specs.declared.program.Semantic.{Semantic}
use Rattle.hl_meaning.specs.declared.program.Semantic.TheVariants.{DispatchThreadId, GroupId, GroupIndex, GroupThreadId}
use Rattle.hl_meaning.specs.Places.{is_without_repeats, variable_type}
use Rattle.hl_meaning.specs.Programs.{Variable}
use Rattle.hl_meaning.specs.Types.{Ty, void_type}
use Rattle.hl_meaning.specs.WellFormed.{HasSemanticIf, IsInput, semantic_number}
use Rattle.hl_rules.specs.Constants.{declarator_type, named_type}
use Rattle.hl_rules.specs.DeclarationRules.{has_semantic, is_same_semantic, is_semantic_among, param_semantic}
use Rattle.hl_rules.specs.Declarations.{after_param, param_copying}
use Rattle.hl_rules.specs.Elaboration.{declared_variable, param_variables, parameters_from}
use Rattle.hl_rules.specs.Scopes.{Scope}
use Rattle.hl_rules.specs.Sites.{and_tree, params_sites}
use Rattle.hl_rules.proofs.Free.{IsFree}
use Rattle.hl_rules.proofs.InputForms.{AreKnownParams, IsInputParam, among-tokens, copying-tokens, first-input, free-params, param-tokens, param_semantic-tokens}
use Rattle.hl_rules.proofs.TreeShapes.{AllTrees, IsParam}
use Rattle.hl_rules.proofs.Options.{length-one, or-true}
use Rattle.hl_meaning.proofs.LayoutForms.{get-next}

-- ---- the variables of parameters

-- ---- inputs

input-kept : (s t : Scope) (pre more : List Variable) (number : ℕ) (before : Trees) (at : ℕ) (constant : Option ℕ) (direction : Maybe) (type declarator : Tree) (semantic : Option ℕ) (ty : Ty) → number ≡ length pre → t.tokens ≡ s.tokens → declarator_type t (named_type t type) declarator ≡ Some ty → IsInputParam t before (a_param at constant direction type declarator semantic) ty → IsInput (pre ++ declared_variable t (named_type t type) declarator ∷ more) (record { variable = number; copying = param_copying s (a_param at constant direction type declarator semantic); semantic = param_semantic s (a_param at constant direction type declarator semantic) })
input-kept s t pre more number before at constant direction type declarator semantic ty n e k input = record {
  copying = sym (copying-tokens t s direction e) ∙ input.copying;
  semantic =
      subst (λ o. HasSemanticIf o (variable_type (pre ++ declared_variable t (named_type t type) declarator ∷ more) number)) (sym (sym (param_semantic-tokens t s (a_param at constant direction type declarator semantic) e) ∙ input.is))
      (subst (λ o. HasSemanticIf (Some input.semantic) o) (sym there) input.fits);
}
  where
    there : variable_type (pre ++ declared_variable t (named_type t type) declarator ∷ more) number ≡ Some ty
    there =
        ap (λ place. variable_type (pre ++ declared_variable t (named_type t type) declarator ∷ more) place) n
        ∙ (ap (λ o. option_map (λ (v : Variable). v.ty) o) (get-next pre (declared_variable t (named_type t type) declarator) more)
        ∙ ap (λ o. Some (unwrap_or o void_type)) k)

pub inputs-there : (s t : Scope) (tokens : List Lexeme) (pre more : List Variable) (number : ℕ) (before params : Trees) → number ≡ length pre → t.tokens ≡ s.tokens → AllTrees (IsParam tokens) params → AreKnownParams t params → IsFree (params_sites t true before params) → All (IsInput (pre ++ (param_variables t params ++ more))) (parameters_from s number params)
inputs-there s t tokens pre more number before no_trees n e shape known free = All-nil (IsInput (pre ++ more))
inputs-there s t tokens pre more number before (more_trees (a_param at constant direction type declarator semantic) rest) n e shape known free =
    All-cons (IsInput (pre ++ (first ∷ (param_variables behind rest ++ more))))
    (record { variable = number; copying = param_copying s param; semantic = param_semantic s param })
    (parameters_from s (suc number) rest)
    (input-kept s t pre (param_variables behind rest ++ more) number before at constant direction type declarator semantic known.0.0 n e known.0.1 (first-input t before param rest known.0.0 free known.0.1))
    (subst (λ l. All (IsInput l) (parameters_from s (suc number) rest)) (append_assoc pre (first ∷ []) (param_variables behind rest ++ more))
    (inputs-there s behind tokens (pre ++ first ∷ []) more (suc number) (and_tree before param) rest (ap suc n ∙ sym (length-one pre first)) (param-tokens t param ∙ e) shape.1 known.1 (free-params t true before param rest free)))
  where
    param : Tree
    param = a_param at constant direction type declarator semantic

    first : Variable
    first = declared_variable t (named_type t type) declarator

    behind : Scope
    behind = after_param t param
inputs-there s t tokens pre more number before (more_trees other rest) n e shape known free = absurd shape.0

-- ---- distinct semantics

other-number : (a b : Semantic) (P : Semantic → Bool) → P a ≡ true → P b ≡ false → (semantic_number (Some a) == semantic_number (Some b)) ≡ false
other-number DispatchThreadId DispatchThreadId P e h = absurd (cc (sym e ∙ h))
other-number GroupId GroupId P e h = absurd (cc (sym e ∙ h))
other-number GroupThreadId GroupThreadId P e h = absurd (cc (sym e ∙ h))
other-number GroupIndex GroupIndex P e h = absurd (cc (sym e ∙ h))
other-number a b P e h = refl

same-semantic : (a : Semantic) → is_same_semantic a a ≡ true
same-semantic DispatchThreadId = refl
same-semantic GroupId = refl
same-semantic GroupThreadId = refl
same-semantic GroupIndex = refl

among-more : (s : Scope) (semantic : Semantic) (before : Trees) (tree : Tree) → is_semantic_among s semantic before ≡ true → is_semantic_among s semantic (and_tree before tree) ≡ true
among-more s semantic no_trees tree e = absurd (cc e)
among-more s semantic (more_trees first rest) tree e = on (has_semantic semantic (param_semantic s first)) (λ h. among-more s semantic rest tree h) e
  where
    on : (here : Bool) → (is_semantic_among s semantic rest ≡ true → is_semantic_among s semantic (and_tree rest tree) ≡ true) → here || is_semantic_among s semantic rest ≡ true → here || is_semantic_among s semantic (and_tree rest tree) ≡ true
    on true next h = refl
    on false next h = next h

among-last : (s : Scope) (semantic : Semantic) (before : Trees) (tree : Tree) → param_semantic s tree ≡ Some semantic → is_semantic_among s semantic (and_tree before tree) ≡ true
among-last s semantic no_trees tree e = ap (λ o. has_semantic semantic o || false) e ∙ ap (λ b. b || false) (same-semantic semantic)
among-last s semantic (more_trees first rest) tree e =
    ap (λ b. has_semantic semantic (param_semantic s first) || b) (among-last s semantic rest tree e) ∙ or-true (has_semantic semantic (param_semantic s first))

abbrev pub semantics_from : Scope → ℕ → Trees → List ℕ
semantics_from s number params = map (λ (p : Parameter). semantic_number p.semantic) (parameters_from s number params)

-- a semantic among those before is none of the parameters
fresh-there : (s t : Scope) (semantic : Semantic) (number : ℕ) (before params : Trees) → t.tokens ≡ s.tokens → AreKnownParams t params → IsFree (params_sites t true before params) → is_semantic_among t semantic before ≡ true → list_any (λ y. semantic_number (Some semantic) == y) (semantics_from s number params) ≡ false
fresh-there s t semantic number before no_trees e known free h = refl
fresh-there s t semantic number before (more_trees first rest) e known free h =
    ap (λ o. (semantic_number (Some semantic) == semantic_number o) || list_any (λ y. semantic_number (Some semantic) == y) (semantics_from s (suc number) rest)) (sym (param_semantic-tokens t s first e) ∙ input.is)
    ∙ (ap (λ b. b || list_any (λ y. semantic_number (Some semantic) == y) (semantics_from s (suc number) rest)) (other-number semantic input.semantic (λ x. is_semantic_among t x before) h input.fresh)
    ∙ fresh-there s (after_param t first) semantic (suc number) (and_tree before first) rest (param-tokens t first ∙ e) known.1 (free-params t true before first rest free)
    (among-tokens (after_param t first) t semantic (and_tree before first) (param-tokens t first) ∙ among-more t semantic before first h))
  where
    input : IsInputParam t before first known.0.0
    input = first-input t before first rest known.0.0 free known.0.1

pub distinct-there : (s t : Scope) (number : ℕ) (before params : Trees) → t.tokens ≡ s.tokens → AreKnownParams t params → IsFree (params_sites t true before params) → is_without_repeats (semantics_from s number params) ≡ true
distinct-there s t number before no_trees e known free = refl
distinct-there s t number before (more_trees first rest) e known free =
    ap (λ o. not (list_any (λ y. semantic_number o == y) (semantics_from s (suc number) rest)) && is_without_repeats (semantics_from s (suc number) rest)) (sym (param_semantic-tokens t s first e) ∙ input.is)
    ∙ (ap (λ b. not b && is_without_repeats (semantics_from s (suc number) rest))
    (fresh-there s (after_param t first) input.semantic (suc number) (and_tree before first) rest (param-tokens t first ∙ e) known.1 (free-params t true before first rest free)
    (among-tokens (after_param t first) t input.semantic (and_tree before first) (param-tokens t first) ∙ among-last t input.semantic before first input.is))
    ∙ distinct-there s (after_param t first) (suc number) (and_tree before first) rest (param-tokens t first ∙ e) known.1 (free-params t true before first rest free))
  where
    input : IsInputParam t before first known.0.0
    input = first-input t before first rest known.0.0 free known.0.1
