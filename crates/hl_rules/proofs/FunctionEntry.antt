-- A function that is the entry and breaks no rule keeps what an entry keeps.
use Rattle.std.proofs.Common.{◌≡◌, ◌∙◌, refl, sym, subst, ℕ, true, false, List, [], ◌∷◌, ◌++◌, Some}
use Rattle.std.specs.Prelude.{◌&&◌, not}
use Rattle.std.proofs.lemmas.Option.{same_Some}
use Rattle.hl_lexer.specs.Tokens.{Lexeme}
use Rattle.hl_parser.specs.Trees.{Tree, Trees, a_function, a_result, absent, at_of, no_trees, present}
use Rattle.hl_meaning.specs.Programs.{FunctionDef}
use Rattle.hl_meaning.specs.Trees.{Stmts}
use Rattle.hl_meaning.specs.Types.{Ty, void_type}
use Rattle.hl_meaning.specs.WellFormed.{IsEntry}
use Rattle.hl_rules.specs.Constants.{result_type}
use Rattle.hl_rules.specs.DeclarationRules.{has_numthreads, is_no_result}
use Rattle.hl_rules.specs.Declarations.{at_params, in_body}
use Rattle.hl_rules.specs.Elaboration.{attribute_threads, body_code, body_variables, function_def, param_variables, parameters_from}
use Rattle.hl_rules.specs.Parts.{Site, a_whole_function, site}
use Rattle.hl_rules.specs.Scopes.{Scope, spelled}
use Rattle.hl_rules.specs.Sites.{body_sites, function_attributes_sites, is_entry, item_sites, params_sites, result_sites}
use Rattle.hl_rules.proofs.EntryParams.{distinct-there, inputs-there}
use Rattle.hl_rules.proofs.Free.{IsFree, Obeys, free-first, free-left, free-rest, free-right, not_broken}
use Rattle.hl_rules.proofs.InputForms.{AreKnownParams}
use Rattle.hl_rules.proofs.Options.{IsOfTwo, not-both, two-there}
use Rattle.hl_rules.proofs.ThreadForms.{HasThreads, threads-there}
use Rattle.hl_rules.proofs.TreeShapes.{AllTrees, IsParam}

-- what the sites of a function are made of
pub record IsFreeFunction (s : Scope) (attributes : Trees) (result : Tree) (name : ℕ) (params : Trees) (block : Tree) : Type 0 where
  pub in_attributes : IsFree (function_attributes_sites s false attributes)
  pub in_result : IsFree (result_sites s result)
  pub in_params : IsFree (params_sites (at_params s result) (is_entry s name) no_trees params)
  pub whole : Obeys s (a_whole_function attributes result name params block)
  pub inside : IsFree (body_sites (in_body s result name params) block)

free-parts : (a b c : List Site) (first : Site) (d : List Site) → IsFree (a ++ (b ++ (c ++ (first ∷ d)))) → IsFree a × IsFree b × IsFree c × Obeys first.scope first.part × IsFree d
free-parts a b c first d free =
    let behind = free-right a (b ++ (c ++ (first ∷ d))) free in
    let last = free-right b (c ++ (first ∷ d)) behind in
    (free-left a (b ++ (c ++ (first ∷ d))) free, free-left b (c ++ (first ∷ d)) behind, free-left c (first ∷ d) last, free-first first d (free-right c (first ∷ d) last), free-rest first d (free-right c (first ∷ d) last))

pub free-function : (s : Scope) (at : ℕ) (attributes : Trees) (result : Tree) (name : ℕ) (params : Trees) (block : Tree) → IsFree (item_sites s (a_function at attributes result name params block)) → IsFreeFunction s attributes result name params block
free-function s at attributes result name params block free = record {
  in_attributes = parts.0;
  in_result = parts.1;
  in_params = parts.2;
  whole = parts.3;
  inside = parts.4;
}
  where
    parts : IsFree (function_attributes_sites s false attributes) × IsFree (result_sites s result) × IsFree (params_sites (at_params s result) (is_entry s name) no_trees params) × Obeys s (a_whole_function attributes result name params block) × IsFree (body_sites (in_body s result name params) block)
    parts =
        free-parts (function_attributes_sites s false attributes) (result_sites s result) (params_sites (at_params s result) (is_entry s name) no_trees params)
        (site s (a_whole_function attributes result name params block)) (body_sites (in_body s result name params) block) free

-- the parts that make a function of a program
abbrev pub made_function : Scope → (result : Tree) → (name : ℕ) → (params : Trees) → (block : Tree) → Ty → Stmts → FunctionDef
made_function s result name params block ty body = record {
  name = spelled s name;
  result = ty;
  parameters = parameters_from s 0 params;
  variables = param_variables (at_params s result) params ++ body_variables (in_body s result name params) block;
  body = body;
}

no-result : (s : Scope) (result : Tree) → is_no_result result ≡ true → result_type s result ≡ Some void_type
no-result s (a_result at absent) e = refl
no-result s (a_result at (present type)) e = absurd (cc e)
no-result s other e = absurd (cc e)

-- an entry keeps what an entry keeps
pub entry-kept : (s : Scope) (tokens : List Lexeme) (attributes : Trees) (result : Tree) (name : ℕ) (params : Trees) (block : Tree) (f : FunctionDef) → is_entry s name ≡ true → IsFreeFunction s attributes result name params block → AllTrees (IsParam tokens) params → AreKnownParams (at_params s result) params → function_def s result name params block ≡ Some f → IsEntry f
entry-kept s tokens attributes result name params block f e free shape known made =
    subst (λ g. IsEntry g) (same_Some (made_function s result name params block parts.one parts.other) f parts.gives) (record {
      result = same_Some parts.one void_type (sym parts.is_one ∙ no-result s result (not-both (is_entry s name) (is_no_result result) (not_broken (is_entry s name && not (is_no_result result)) (at_of result) free.whole.obeys_16) e));
      inputs = inputs-there s (at_params s result) tokens [] (body_variables (in_body s result name params) block) 0 no_trees params refl refl shape known sites;
      distinct = distinct-there s (at_params s result) 0 no_trees params refl known sites;
    })
  where
    sites : IsFree (params_sites (at_params s result) true no_trees params)
    sites = subst (λ b. IsFree (params_sites (at_params s result) b no_trees params)) e free.in_params

    parts : IsOfTwo (λ ty body. Some (made_function s result name params block ty body)) (result_type s result) (body_code (in_body s result name params) block) f
    parts = two-there (λ ty body. Some (made_function s result name params block ty body)) (result_type s result) (body_code (in_body s result name params) block) f made

-- and it has threads
pub entry-threads : (s : Scope) (attributes : Trees) (result : Tree) (name : ℕ) (params : Trees) (block : Tree) → is_entry s name ≡ true → IsFreeFunction s attributes result name params block → HasThreads (attribute_threads s attributes)
entry-threads s attributes result name params block e free =
    threads-there s false attributes free.in_attributes
    (not-both (is_entry s name) (has_numthreads s attributes) (not_broken (is_entry s name && not (has_numthreads s attributes)) name free.whole.obeys_14) e)
