-- What is known in a function, where its name is declared before its parameters or behind them.
use Rattle.std.proofs.Common.{◌≡◌, ◌∙◌, refl, sym, ap, ℕ, Bool, true, false, List, [], ◌∷◌, ◌++◌, length, Option, None, Some, option_map, option_and_then, nat_le, if◌then◌else◌, bytes_eq, find, cond, is_some}
use Rattle.std.specs.Option.{option_or}
use Rattle.hl_lexer.specs.declared.terminal.Terminal.{Terminal}
use Rattle.hl_lexer.specs.declared.terminal.Terminal.TheVariants as terminals
use Rattle.hl_parser.specs.Trees.{Tree, Trees, absent, present, no_trees, more_trees, a_binary, a_declarator, a_param, a_primary, a_result, a_type, at_of}
use Rattle.hl_meaning.specs.Types.{Ty, array_type}
use Rattle.hl_rules.specs.Constants.{array_length, array_of, combined, constant_number, declarator_type, length_if, most_lengths, named_type, number_of_sort, result_type, struct_of_sort, tree_count, word_number}
use Rattle.hl_rules.specs.Declarations.{after_param, after_params, at_params, in_body, params_info, with_function, with_variable}
use Rattle.hl_rules.specs.Scopes.{Named, ParamInfo, Scope, Sort, a_function_name, declared_among, declared_in, named, sort_at, spelled}
use Rattle.hl_rules.specs.Source.{terminal_at}
use Rattle.hl_values.specs.ScopeChanges.{inside_of, with_function_named}

-- ---- names, where a function's name is declared behind them

declared-more : (names : List Named) (n : Named) (name : List ℕ) → declared_in (names ++ n ∷ []) name ≡ option_or (declared_in names name) (declared_in (n ∷ []) name)
declared-more [] n name = by (bytes_eq n.name name)
  where
    by : (b : Bool) → option_map (λ x. x.sort) (cond b (Some n) None) ≡ option_or None (option_map (λ x. x.sort) (cond b (Some n) None))
    by true = refl
    by false = refl
declared-more (m ∷ names) n name = by (bytes_eq m.name name) (declared-more names n name)
  where
    by : (b : Bool) → declared_in (names ++ n ∷ []) name ≡ option_or (declared_in names name) (declared_in (n ∷ []) name)
        → option_map (λ x. x.sort) (cond b (Some m) (find (λ x. bytes_eq x.name name) (names ++ n ∷ []))) ≡ option_or (option_map (λ x. x.sort) (cond b (Some m) (find (λ x. bytes_eq x.name name) names))) (declared_in (n ∷ []) name)
    by true rest = refl
    by false rest = rest

-- what tells nothing of a function's name
pub record Ignores {B : Type 0} (f : Option Sort → B) : Type 0 where
  pub function : f (Some a_function_name) ≡ f None

one-ignored : {B : Type 0} (f : Option Sort → B) → Ignores f → (text name : List ℕ) → f (declared_in (named text a_function_name ∷ []) name) ≡ f None
one-ignored f ignores text name = by (bytes_eq text name)
  where
    by : (b : Bool) → f (option_map (λ x. x.sort) (cond b (Some (named text a_function_name)) None)) ≡ f None
    by true = ignores.function
    by false = refl

global-ignored : {B : Type 0} (f : Option Sort → B) → Ignores f → (o : Option Sort) (text name : List ℕ) → f (option_or o (declared_in (named text a_function_name ∷ []) name)) ≡ f o
global-ignored f ignores None text name = one-ignored f ignores text name
global-ignored f ignores (Some sort) text name = refl

among-ignored : {B : Type 0} (f : Option Sort → B) (blocks : List (List Named)) (name : List ℕ) (x y : Option Sort) → f x ≡ f y → f (declared_among blocks name x) ≡ f (declared_among blocks name y)
among-ignored f [] name x y e = e
among-ignored f (block ∷ blocks) name x y e = by (declared_in block name) (among-ignored f blocks name x y e)
  where
    by : (o : Option Sort) → f (declared_among blocks name x) ≡ f (declared_among blocks name y) → f (option_or o (declared_among blocks name x)) ≡ f (option_or o (declared_among blocks name y))
    by None rest = rest
    by (Some sort) rest = refl

-- behind the declaration of a function
sort-ignored : {B : Type 0} (f : Option Sort → B) → Ignores f → (function : ℕ) (params : List ParamInfo) (gives : Option Ty) (s : Scope) (at : ℕ)
    → f (sort_at (with_function_named function params gives s) at) ≡ f (sort_at s at)
sort-ignored f ignores function params gives s at =
    among-ignored f s.blocks (spelled s at) (declared_in (s.globals ++ named (spelled s function) a_function_name ∷ []) (spelled s at)) (declared_in s.globals (spelled s at))
    (ap f (declared-more s.globals (named (spelled s function) a_function_name) (spelled s at)) ∙ global-ignored f ignores (declared_in s.globals (spelled s at)) (spelled s function) (spelled s at))

-- ---- constant numbers and types

word-same : (function : ℕ) (params : List ParamInfo) (gives : Option Ty) (s : Scope) (t : Terminal) (at : ℕ)
    → word_number (with_function_named function params gives s) t at ≡ word_number s t at
word-same function params gives s terminals.Number at = refl
word-same function params gives s terminals.Name at = sort-ignored number_of_sort (record { function = refl }) function params gives s at
word-same function params gives s t at = refl

number-same : (function : ℕ) (params : List ParamInfo) (gives : Option Ty) (s : Scope) (e : Tree)
    → constant_number (with_function_named function params gives s) e ≡ constant_number s e
number-same function params gives s (a_primary at absent absent) = word-same function params gives s (terminal_at s.tokens at) at
number-same function params gives s (a_primary at (present inner) absent) = number-same function params gives s inner
number-same function params gives s (a_primary at absent (present arguments)) = refl
number-same function params gives s (a_primary at (present inner) (present arguments)) = refl
number-same function params gives s (a_binary production at left mark right) =
    ap (λ n. combined (terminal_at s.tokens mark) n (constant_number (with_function_named function params gives s) right)) (number-same function params gives s left) ∙
    ap (λ n. combined (terminal_at s.tokens mark) (constant_number s left) n) (number-same function params gives s right)
number-same function params gives s e = refl

pub named-same : (function : ℕ) (params : List ParamInfo) (gives : Option Ty) (s : Scope) (t : Tree)
    → named_type (with_function_named function params gives s) t ≡ named_type s t
named-same function params gives s (a_type at (present basic)) = refl
named-same function params gives s (a_type at absent) = sort-ignored struct_of_sort (record { function = refl }) function params gives s at
named-same function params gives s t = refl

pub result-same : (function : ℕ) (params : List ParamInfo) (gives : Option Ty) (s : Scope) (t : Tree)
    → result_type (with_function_named function params gives s) t ≡ result_type s t
result-same function params gives s (a_result at absent) = refl
result-same function params gives s (a_result at (present type)) = named-same function params gives s type
result-same function params gives s t = refl

array-same : (function : ℕ) (params : List ParamInfo) (gives : Option Ty) (s : Scope) (lengths : Trees) (element : Option Ty)
    → array_of (with_function_named function params gives s) lengths element ≡ array_of s lengths element
array-same function params gives s no_trees element = refl
array-same function params gives s (more_trees first rest) element =
    ap (λ n. option_and_then (λ size. option_map (λ ty. array_type ty size) (array_of (with_function_named function params gives s) rest element)) (length_if n)) (number-same function params gives s first) ∙
    ap (λ own. option_and_then (λ size. option_map (λ ty. array_type ty size) own) (array_length s first)) (array-same function params gives s rest element)

declarator-same : (function : ℕ) (params : List ParamInfo) (gives : Option Ty) (s : Scope) (ty : Option Ty) (t : Tree)
    → declarator_type (with_function_named function params gives s) ty t ≡ declarator_type s ty t
declarator-same function params gives s ty (a_declarator at lengths) =
    ap (λ own. if nat_le (tree_count lengths) most_lengths then own else None) (array-same function params gives s lengths ty)
declarator-same function params gives s ty t = refl

-- ---- parameters

param-same : (function : ℕ) (params : List ParamInfo) (gives : Option Ty) (s : Scope) (t : Tree)
    → after_param (with_function_named function params gives s) t ≡ with_function_named function params gives (after_param s t)
param-same function params gives s (a_param at constant direction type declarator semantic) =
    ap (λ ty. with_variable (at_of declarator) ty (is_some constant) (with_function_named function params gives s))
    (ap (λ named'. declarator_type (with_function_named function params gives s) named' declarator) (named-same function params gives s type) ∙
    declarator-same function params gives s (named_type s type) declarator)
param-same function params gives s t = refl

pub params-same : (function : ℕ) (params : List ParamInfo) (gives : Option Ty) (s : Scope) (ts : Trees)
    → after_params (with_function_named function params gives s) ts ≡ with_function_named function params gives (after_params s ts)
params-same function params gives s no_trees = refl
params-same function params gives s (more_trees first rest) =
    ap (λ x. after_params x rest) (param-same function params gives s first) ∙ params-same function params gives (after_param s first) rest

-- parameters change blocks and variables alone
abbrev pub with_blocks : Scope → List (List Named) → ℕ → Scope
with_blocks s blocks variables = record s { blocks = blocks; variables = variables }

pub params-change : (s : Scope) (ts : Trees) → with_blocks s (after_params s ts).blocks (after_params s ts).variables ≡ after_params s ts
params-change s no_trees = refl
params-change s (more_trees first rest) = by first (params-change (after_param s first) rest)
  where
    by : (t : Tree) → with_blocks (after_param s t) (after_params (after_param s t) rest).blocks (after_params (after_param s t) rest).variables ≡ after_params (after_param s t) rest
        → with_blocks s (after_params (after_param s t) rest).blocks (after_params (after_param s t) rest).variables ≡ after_params (after_param s t) rest
    by (a_param at constant direction type declarator semantic) e = e
    by t e = e

-- ---- the body

pub body-scope : (s p : Scope) (result : Tree) (name : ℕ) (params : Trees) (infos : List ParamInfo) (gives : Option Ty) (number : ℕ)
    → p ≡ after_params (at_params s result) params → infos ≡ params_info (at_params s result) params → gives ≡ result_type s result → number ≡ length s.functions
    → inside_of number (with_function_named name infos gives p) ≡ in_body s result name params
body-scope s p result name params infos gives number e i g n =
    ap (inside_of number) (ap (with_function_named name infos gives) e ∙
    (sym (params-same name infos gives (at_params s result) params) ∙
    (ap (λ r. after_params (record (with_function_named name infos gives s) { blocks = [] ∷ []; variables = 0; in_loop = false; result = r }) params) (sym (result-same name infos gives s result)) ∙
    (ap (λ x. after_params (at_params (with_function_named name x gives s) result) params) i ∙
    ap (λ x. after_params (at_params (with_function_named name (params_info (at_params s result) params) x s) result) params) g)))) ∙
    ap (λ x. inside_of x (after_params (at_params (with_function s result name params) result) params)) n
