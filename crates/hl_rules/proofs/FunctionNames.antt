-- The name of a function changes no type and no constant number.
use Rattle.std.proofs.Common.{◌≡◌, ◌∙◌, refl, ap, ℕ, Bool, true, false, if◌then◌else◌, nat_le, List, [], ◌∷◌, ◌++◌, Option, None, Some}
use Rattle.std.specs.Prelude.{bytes_eq, is_some, option_and_then, option_map}
use Rattle.hl_lexer.specs.declared.terminal.Terminal.{Terminal}
use Rattle.hl_lexer.specs.declared.terminal.Terminal.TheVariants as terminals
use Rattle.hl_parser.specs.Trees.{Tree, Trees, a_binary, a_declarator, a_param, a_primary, a_result, a_type, absent, at_of, more_trees, no_trees, present}
use Rattle.hl_meaning.specs.Types.{Ty, array_type}
use Rattle.hl_rules.specs.Constants.{array_length, array_of, combined, constant_number, declarator_type, length_if, most_lengths, named_type, number_of_sort, result_type, struct_of_sort, tree_count, word_number}
use Rattle.hl_rules.specs.Declarations.{after_param, after_params, with_variable}
use Rattle.hl_rules.specs.Scopes.{FunctionInfo, Named, Scope, Sort, a_function_name, declared_among, declared_in, named, sort_of, spelled}
use Rattle.hl_rules.specs.Source.{terminal_at}

-- ---- names

-- what is the same of a function's name as of none is the same behind a function's name
in-push : {A : Type 0} (f : Option Sort → A) (names : List Named) (n : Named) (name : List ℕ) → f (Some n.sort) ≡ f None → f (declared_in (names ++ n ∷ []) name) ≡ f (declared_in names name)
in-push f [] n name e = on (bytes_eq n.name name) refl
  where
    on : (b : Bool) → bytes_eq n.name name ≡ b → f (declared_in (n ∷ []) name) ≡ f None
    on true h = rw h e
    on false h = rw h refl
in-push f (m ∷ names) n name e = on (bytes_eq m.name name) refl (in-push f names n name e)
  where
    on : (b : Bool) → bytes_eq m.name name ≡ b → f (declared_in (names ++ n ∷ []) name) ≡ f (declared_in names name) → f (declared_in (m ∷ (names ++ n ∷ [])) name) ≡ f (declared_in (m ∷ names) name)
    on true h next = rw h refl
    on false h next = rw h next

among-apply : {A : Type 0} (f : Option Sort → A) (blocks : List (List Named)) (name : List ℕ) (a b : Option Sort) → f a ≡ f b → f (declared_among blocks name a) ≡ f (declared_among blocks name b)
among-apply f [] name a b e = e
among-apply f (block ∷ blocks) name a b e = on (declared_in block name) refl (among-apply f blocks name a b e)
  where
    on : (found : Option Sort) → declared_in block name ≡ found → f (declared_among blocks name a) ≡ f (declared_among blocks name b) → f (declared_among (block ∷ blocks) name a) ≡ f (declared_among (block ∷ blocks) name b)
    on None h next = rw h next
    on (Some sort) h next = rw h refl

-- a scope with one more function's name among the global ones
abbrev pub and_function : List ℕ → List FunctionInfo → Scope → Scope
and_function name functions s = record s { globals = s.globals ++ named name a_function_name ∷ []; functions = functions }

module _ (f_name : List ℕ) (functions : List FunctionInfo) where
  sort-apply : {A : Type 0} (f : Option Sort → A) (s : Scope) (name : List ℕ) → f (Some a_function_name) ≡ f None → f (sort_of (and_function f_name functions s) name) ≡ f (sort_of s name)
  sort-apply f s name e =
      among-apply f s.blocks name (declared_in (s.globals ++ named f_name a_function_name ∷ []) name) (declared_in s.globals name)
      (in-push f s.globals (named f_name a_function_name) name e)

  word-kept : (s : Scope) (terminal : Terminal) (index : ℕ) → word_number (and_function f_name functions s) terminal index ≡ word_number s terminal index
  word-kept s terminals.Name index = sort-apply (λ o. number_of_sort o) s (spelled s index) refl
  word-kept s other index = refl

  number-kept : (s : Scope) (e : Tree) → constant_number (and_function f_name functions s) e ≡ constant_number s e
  number-kept s (a_primary at absent absent) = word-kept s (terminal_at s.tokens at) at
  number-kept s (a_primary at (present inner) absent) = number-kept s inner
  number-kept s (a_binary production at left mark right) =
      ap (λ o. combined (terminal_at s.tokens mark) o (constant_number (and_function f_name functions s) right)) (number-kept s left)
      ∙ ap (λ o. combined (terminal_at s.tokens mark) (constant_number s left) o) (number-kept s right)
  number-kept s other = refl

  named-kept : (s : Scope) (type : Tree) → named_type (and_function f_name functions s) type ≡ named_type s type
  named-kept s (a_type at (present basic)) = refl
  named-kept s (a_type at absent) = sort-apply (λ o. struct_of_sort o) s (spelled s at) refl
  named-kept s other = refl

  array-kept : (s : Scope) (lengths : Trees) (element : Option Ty) → array_of (and_function f_name functions s) lengths element ≡ array_of s lengths element
  array-kept s no_trees element = refl
  array-kept s (more_trees first rest) element =
      ap (λ o. option_and_then (λ length. option_map (λ ty. array_type ty length) (array_of (and_function f_name functions s) rest element)) (length_if o)) (number-kept s first)
      ∙ ap (λ o. option_and_then (λ length. option_map (λ ty. array_type ty length) o) (array_length s first)) (array-kept s rest element)

  declarator-kept : (s : Scope) (ty : Option Ty) (declarator : Tree) → declarator_type (and_function f_name functions s) ty declarator ≡ declarator_type s ty declarator
  declarator-kept s ty (a_declarator at lengths) = ap (λ o. if nat_le (tree_count lengths) most_lengths then o else None) (array-kept s lengths ty)
  declarator-kept s ty other = refl

  -- what a function gives
  pub result-kept : (s : Scope) (result : Tree) → result_type (and_function f_name functions s) result ≡ result_type s result
  result-kept s (a_result at absent) = refl
  result-kept s (a_result at (present type)) = named-kept s type
  result-kept s other = refl

  -- parameters declare the same variables
  param-kept : (s : Scope) (param : Tree) → after_param (and_function f_name functions s) param ≡ and_function f_name functions (after_param s param)
  param-kept s (a_param at constant direction type declarator semantic) =
      ap (λ ty. with_variable (at_of declarator) ty (is_some constant) (and_function f_name functions s))
      (declarator-kept s (named_type (and_function f_name functions s) type) declarator ∙ ap (λ o. declarator_type s o declarator) (named-kept s type))
  param-kept s other = refl

  pub params-kept : (s : Scope) (params : Trees) → after_params (and_function f_name functions s) params ≡ and_function f_name functions (after_params s params)
  params-kept s no_trees = refl
  params-kept s (more_trees first rest) = ap (λ t. after_params t rest) (param-kept s first) ∙ params-kept (after_param s first) rest
