-- As many variables stand behind a statement as it declares, and the rest of what is known tbehind-none stays.
use Rattle.std.proofs.Common.{◌≡◌, ◌∙◌, refl, ℕ, ◌+◌, Bool, List, ◌++◌, length, Option, length-append, arith}
use Rattle.std.specs.Prelude.{is_some}
use Rattle.hl_parser.specs.Trees.{Maybe, Tree, Trees, a_block, a_do, a_for, a_local, a_param, a_start, a_stmt, a_while, absent, an_if, more_trees, no_trees, present}
use Rattle.hl_meaning.specs.Types.{Ty}
use Rattle.hl_rules.specs.Constants.{named_type}
use Rattle.hl_rules.specs.Declarations.{after_first, after_param, after_params, after_start, after_starts, after_statement, locals_among, locals_first, locals_if, locals_in, start_count, starts_count}
use Rattle.hl_rules.specs.Elaboration.{first_variables, param_variable, param_variables, start_variable, starts_variables, statement_variables, statements_variables, variables_if}
use Rattle.hl_rules.specs.Scopes.{Scope, behind, looped, opened}

-- ---- as many variables as are counted

length-start : (s : Scope) (ty : Option Ty) (tree : Tree) → length (start_variable s ty tree) ≡ start_count tree
length-start s ty (a_start at declarator init) = refl
length-start s ty other = refl

pub length-starts : (s : Scope) (ty : Option Ty) (is_const : Bool) (starts : Trees) → length (starts_variables s ty is_const starts) ≡ starts_count starts
length-starts s ty is_const no_trees = refl
length-starts s ty is_const (more_trees first rest) =
    omega (arith, length-append (start_variable s ty first) (starts_variables (after_start ty is_const s first) ty is_const rest), length-start s ty first, length-starts (after_start ty is_const s first) ty is_const rest)

pub length-first : (s : Scope) (first : Maybe) → length (first_variables s first) ≡ locals_first first
length-first s absent = refl
length-first s (present (a_local at constant type starts)) = length-starts s (named_type s type) (is_some constant) starts
length-first s (present other) = refl

length-both : {A : Type 0} (a b : List A) (m n : ℕ) → length a ≡ m → length b ≡ n → length (a ++ b) ≡ m + n
length-both a b m n h k = omega (arith, length-append a b, h, k)

mutual
  pub length-statement : (s : Scope) (tree : Tree) → length (statement_variables s tree) ≡ locals_in tree
  length-statement s (a_stmt at part) = length-if s part
  length-statement s (a_block at statements) = length-statements (opened s) statements
  length-statement s (a_local at constant type starts) = length-starts s (named_type s type) (is_some constant) starts
  length-statement s (an_if at attributes condition consequent alternative) =
      length-both (statement_variables (opened s) consequent) (variables_if (opened (behind (locals_in consequent) s)) alternative) (locals_in consequent) (locals_if alternative)
      (length-statement (opened s) consequent) (length-if (opened (behind (locals_in consequent) s)) alternative)
  length-statement s (a_for at attributes first condition step body) =
      length-both (first_variables (opened s) first) (statement_variables (looped (after_first s first)) body) (locals_first first) (locals_in body)
      (length-first (opened s) first) (length-statement (looped (after_first s first)) body)
  length-statement s (a_while at attributes condition body) = length-statement (looped s) body
  length-statement s (a_do at attributes body condition) = length-statement (looped s) body
  length-statement s other = refl

  pub length-statements : (s : Scope) (trees : Trees) → length (statements_variables s trees) ≡ locals_among trees
  length-statements s no_trees = refl
  length-statements s (more_trees first rest) =
      length-both (statement_variables s first) (statements_variables (after_statement s first) rest) (locals_in first) (locals_among rest)
      (length-statement s first) (length-statements (after_statement s first) rest)

  pub length-if : (s : Scope) (part : Maybe) → length (variables_if s part) ≡ locals_if part
  length-if s absent = refl
  length-if s (present tree) = length-statement s tree

-- ---- what stays

-- another place in the same function, behind so many more variables
pub record IsBehind (count : ℕ) (s t : Scope) : Type 0 where
  pub tokens : t.tokens ≡ s.tokens
  pub structs : t.structs ≡ s.structs
  pub buffers : t.buffers ≡ s.buffers
  pub functions : t.functions ≡ s.functions
  pub inside : t.inside ≡ s.inside
  pub in_loop : t.in_loop ≡ s.in_loop
  pub result : t.result ≡ s.result
  pub variables : t.variables ≡ s.variables + count

pub behind-none : (s : Scope) → IsBehind 0 s s
behind-none s = record { tokens = refl; structs = refl; buffers = refl; functions = refl; inside = refl; in_loop = refl; result = refl; variables = omega arith }

pub behind-joined : (m n : ℕ) (s t u : Scope) → IsBehind m s t → IsBehind n t u → IsBehind (m + n) s u
behind-joined m n s t u a b = record {
  tokens = b.tokens ∙ a.tokens;
  structs = b.structs ∙ a.structs;
  buffers = b.buffers ∙ a.buffers;
  functions = b.functions ∙ a.functions;
  inside = b.inside ∙ a.inside;
  in_loop = b.in_loop ∙ a.in_loop;
  result = b.result ∙ a.result;
  variables = omega (arith, a.variables, b.variables);
}

after-more : (count : ℕ) (s : Scope) → IsBehind count s (behind count s)
after-more count s = record { tokens = refl; structs = refl; buffers = refl; functions = refl; inside = refl; in_loop = refl; result = refl; variables = refl }

pub behind-start : (ty : Option Ty) (is_const : Bool) (s : Scope) (tree : Tree) → IsBehind (start_count tree) s (after_start ty is_const s tree)
behind-start ty is_const s (a_start at declarator init) = record { tokens = refl; structs = refl; buffers = refl; functions = refl; inside = refl; in_loop = refl; result = refl; variables = refl }
behind-start ty is_const s other = behind-none s

pub behind-starts : (ty : Option Ty) (is_const : Bool) (s : Scope) (starts : Trees) → IsBehind (starts_count starts) s (after_starts ty is_const s starts)
behind-starts ty is_const s no_trees = behind-none s
behind-starts ty is_const s (more_trees first rest) =
    behind-joined (start_count first) (starts_count rest) s (after_start ty is_const s first) (after_starts ty is_const (after_start ty is_const s first) rest)
    (behind-start ty is_const s first) (behind-starts ty is_const (after_start ty is_const s first) rest)

pub behind-statement : (s : Scope) (tree : Tree) → IsBehind (locals_in tree) s (after_statement s tree)
behind-statement s (a_stmt at absent) = behind-none s
behind-statement s (a_stmt at (present part)) = behind-statement s part
behind-statement s (a_local at constant type starts) = behind-starts (named_type s type) (is_some constant) s starts
behind-statement s other = after-more (locals_in other) s

-- the first part of a `for` stands in a block of its own
pub behind-first : (s : Scope) (first : Maybe) → IsBehind (locals_first first) (opened s) (after_first s first)
behind-first s absent = behind-none (opened s)
behind-first s (present (a_local at constant type starts)) = behind-starts (named_type (opened s) type) (is_some constant) (opened s) starts
behind-first s (present other) = behind-none (opened s)

-- ---- parameters

-- how many variables a parameter declares
abbrev pub param_count : Tree → ℕ
param_count (a_param at constant direction type declarator semantic) = 1
param_count _ = 0

abbrev pub params_count : Trees → ℕ
params_count no_trees = 0
params_count (more_trees first rest) = param_count first + params_count rest

pub length-param : (s : Scope) (tree : Tree) → length (param_variable s tree) ≡ param_count tree
length-param s (a_param at constant direction type declarator semantic) = refl
length-param s other = refl

pub length-params : (s : Scope) (params : Trees) → length (param_variables s params) ≡ params_count params
length-params s no_trees = refl
length-params s (more_trees first rest) =
    length-both (param_variable s first) (param_variables (after_param s first) rest) (param_count first) (params_count rest)
    (length-param s first) (length-params (after_param s first) rest)

pub behind-param : (s : Scope) (tree : Tree) → IsBehind (param_count tree) s (after_param s tree)
behind-param s (a_param at constant direction type declarator semantic) = record { tokens = refl; structs = refl; buffers = refl; functions = refl; inside = refl; in_loop = refl; result = refl; variables = refl }
behind-param s other = behind-none s

pub behind-params : (s : Scope) (params : Trees) → IsBehind (params_count params) s (after_params s params)
behind-params s no_trees = behind-none s
behind-params s (more_trees first rest) =
    behind-joined (param_count first) (params_count rest) s (after_param s first) (after_params (after_param s first) rest)
    (behind-param s first) (behind-params (after_param s first) rest)
