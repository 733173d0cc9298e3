-- Statements that break no rule become statements that are well formed.
use Rattle.std.proofs.Common.{◌≡◌, ◌∙◌, ◌⊎◌, refl, sym, ap, subst, ℕ, ◌+◌, false, List, [], ◌++◌, length, Option, Some}
use Rattle.std.specs.Prelude.{is_some}
use Rattle.hl_parser.specs.Trees.{Maybe, Tree, Trees, a_block, a_do, a_for, a_jump, a_local, a_stmt, a_while, absent, an_if, more_trees, no_trees, present}
use Rattle.hl_meaning.specs.Trees.{block_stmt, no_stmts}
use Rattle.hl_meaning.specs.Programs.{Variable}
use Rattle.hl_meaning.specs.Types.{void_type}
use Rattle.hl_rules.specs.Constants.{named_type}
use Rattle.hl_rules.specs.DeclarationRules.{always_returns, is_return_word, one_returns, returns_if}
use Rattle.hl_rules.specs.Declarations.{after_first, after_starts, after_statement, locals_in}
use Rattle.hl_rules.specs.Elaboration.{first_variables, starts_variables, statement_variables, statements_variables, variables_if}
use Rattle.hl_rules.specs.Scopes.{Scope, behind, looped, opened}
use Rattle.hl_rules.specs.Sites.{attributes_sites, condition_if, condition_sites, expression_if, first_if, starts_sites, statement_if, statement_sites, statements_sites, type_sites}
use Rattle.hl_rules.specs.Source.{terminal_at}
use Rattle.hl_rules.specs.Statements.{condition_code, condition_code_if, first_code_if, one_stmt, return_code, starts_code, statement_code, statement_code_if, statements_code, value_code_if}
use Rattle.hl_rules.proofs.DeclaratorForms.{IsKnownResult, named-known}
use Rattle.hl_rules.proofs.Free.{IsFree, free-left, free-right}
use Rattle.hl_rules.proofs.JumpForms.{IsInBody, jump-made, return-made}
use Rattle.hl_rules.proofs.LocalForms.{AreKnownVariables, IsDeclaring, declaring-none, starts-declares}
use Rattle.hl_rules.proofs.Shapes.{IsExpression}
use Rattle.hl_rules.proofs.ScopeForms.{sound-behind, sound-looped, sound-opened}
use Rattle.hl_rules.proofs.Soundness.{IsSound}
use Rattle.hl_rules.proofs.StartForms.{condition-made, condition_if-made, run-made, starts-made, step-made}
use Rattle.hl_rules.proofs.StatementParts.{IsMade, IsMadeIf, block-made, do-made, for-made, if-made, made-joined, no-made, none-made, one-made, some-made, while-made}
use Rattle.hl_rules.proofs.StructForms.{IsKnownType, known_words}
use Rattle.hl_rules.proofs.TreeShapes.{AreStatements, IfTree, IsFirstPart, IsLocal, IsPart, IsStatement, IsStatementIf}
use Rattle.hl_rules.proofs.ValueForms.{ExpressionsBecome}
use Rattle.hl_rules.proofs.VariableCounts.{IsBehind, length-statement}

-- ---- bodies

body-opened : (s : Scope) → IsInBody s → IsInBody (opened s)
body-opened s body = record {
  sound = sound-opened s body.sound;
  result = record { type = body.result.type; is = body.result.is; known = body.result.known };
}

body-looped : (s : Scope) → IsInBody s → IsInBody (looped s)
body-looped s body = record {
  sound = sound-looped s body.sound;
  result = record { type = body.result.type; is = body.result.is; known = body.result.known };
}

body-more : (count : ℕ) (s : Scope) → IsInBody s → IsInBody (behind count s)
body-more count s body = record {
  sound = sound-behind count s body.sound;
  result = record { type = body.result.type; is = body.result.is; known = body.result.known };
}

known-result-behind : (s t : Scope) (count : ℕ) → IsBehind count s t → IsKnownResult s s.result → IsKnownResult t t.result
known-result-behind s t count same result = record {
  type = result.type;
  is = same.result ∙ result.is;
  known = subst (λ l. (result.type ≡ void_type) ⊎ IsKnownType (known_words l) result.type) (sym same.structs) result.known;
}

body-behind : (s t : Scope) (variables : List Variable) → IsInBody s → IsDeclaring s t variables → IsInBody t
body-behind s t variables body declares = record { sound = declares.sound; result = known-result-behind s t (length variables) declares.same body.result }

-- ---- locals

local-made : ExpressionsBecome → (s : Scope) → IsSound s → (at : ℕ) (constant : Option ℕ) (type : Tree) (starts : Trees) → IsLocal s.tokens (a_local at constant type starts) → IsFree (type_sites s type ++ starts_sites s (named_type s type) (is_some constant) starts) →
    IsMade s (starts_variables s (named_type s type) (is_some constant) starts) (starts_code s (named_type s type) (is_some constant) starts) false
local-made claim s sound at constant type starts shape free =
    starts-made claim s sound (named_type s type) (named-known s sound type shape.0 (free-left (type_sites s type) (starts_sites s (named_type s type) (is_some constant) starts) free)) (is_some constant) starts shape.2
    (free-right (type_sites s type) (starts_sites s (named_type s type) (is_some constant) starts) free)

local-declares : (s : Scope) → IsSound s → (at : ℕ) (constant : Option ℕ) (type : Tree) (starts : Trees) → IsLocal s.tokens (a_local at constant type starts) → IsFree (type_sites s type ++ starts_sites s (named_type s type) (is_some constant) starts) →
    IsDeclaring s (after_starts (named_type s type) (is_some constant) s starts) (starts_variables s (named_type s type) (is_some constant) starts)
local-declares s sound at constant type starts shape free =
    starts-declares s sound (named_type s type) (named-known s sound type shape.0 (free-left (type_sites s type) (starts_sites s (named_type s type) (is_some constant) starts) free)) (is_some constant) starts shape.2
    (free-right (type_sites s type) (starts_sites s (named_type s type) (is_some constant) starts) free)

-- ---- the first part of a `for`

first-made : ExpressionsBecome → (s : Scope) → IsSound s → (first : Maybe) → IfTree (IsFirstPart s.tokens) first → IsFree (first_if s first) → IsMade s (first_variables s first) (first_code_if s first) false
first-made claim s sound absent shape free = none-made s
first-made claim s sound (present (a_local at constant type starts)) shape free = local-made claim s sound at constant type starts shape free
first-made claim s sound (present other) shape free = run-made s other (claim s other sound.known shape free)

first-declares : (s : Scope) → IsSound s → (first : Maybe) → IfTree (IsFirstPart s.tokens) first → IsFree (first_if (opened s) first) → IsDeclaring (opened s) (after_first s first) (first_variables (opened s) first)
first-declares s sound absent shape free = declaring-none (opened s) (sound-opened s sound)
first-declares s sound (present (a_local at constant type starts)) shape free = local-declares (opened s) (sound-opened s sound) at constant type starts shape free
first-declares s sound (present other) shape free = declaring-none (opened s) (sound-opened s sound)

-- ---- what is declared

-- behind a statement that declares no name for what comes behind it
behind-declares : (s : Scope) (count : ℕ) (variables : List Variable) → IsSound s → length variables ≡ count → AreKnownVariables (known_words s.structs) variables → IsDeclaring s (behind count s) variables
behind-declares s count variables sound e types = record {
  same = record { tokens = refl; structs = refl; buffers = refl; functions = refl; inside = refl; in_loop = refl; result = refl; variables = ap (λ n. s.variables + n) (sym e) };
  sound = sound-behind count s sound;
  types = types;
  names = λ env fits holds. record { more = fits.more; prefix = fits.prefix; names = fits.names };
}

part-declares : (s : Scope) → IsSound s → (tree : Tree) → IsPart s.tokens tree → IsFree (statement_sites s tree) → AreKnownVariables (known_words s.structs) (statement_variables s tree) → IsDeclaring s (after_statement s tree) (statement_variables s tree)
part-declares s sound (a_local at constant type starts) shape free types = local-declares s sound at constant type starts shape free
part-declares s sound (a_stmt at part) shape free types = absurd shape
part-declares s sound other shape free types = behind-declares s (locals_in other) (statement_variables s other) sound (length-statement s other) types

pub statement-declares : (s : Scope) → IsSound s → (tree : Tree) → IsStatement s.tokens tree → IsFree (statement_sites s tree) → AreKnownVariables (known_words s.structs) (statement_variables s tree) → IsDeclaring s (after_statement s tree) (statement_variables s tree)
statement-declares s sound (a_stmt at absent) shape free types = declaring-none s sound
statement-declares s sound (a_stmt at (present part)) shape free types = part-declares s sound part shape free types
statement-declares s sound other shape free types = absurd shape

-- ---- statements

mutual
  -- what a statement holds
  pub part-made : ExpressionsBecome → (s : Scope) → IsInBody s → (tree : Tree) → IsPart s.tokens tree → IsFree (statement_sites s tree) → IsMade s (statement_variables s tree) (statement_code s tree) (always_returns s.tokens tree)
  part-made claim s body (a_block at statements) shape free =
      block-made s (statements_variables (opened s) statements) (statements_code (opened s) statements) (one_returns s.tokens statements)
      (statements-made claim (opened s) (body-opened s body) statements shape free)
  part-made claim s body (a_local at constant type starts) shape free = local-made claim s body.sound at constant type starts shape free
  part-made claim s body (an_if at attributes condition consequent alternative) shape free =
      let inner = free-right (attributes_sites s attributes) (condition_sites s condition ++ (statement_sites (opened s) consequent ++ statement_if (opened (behind (locals_in consequent) s)) alternative)) free in
      let branches = free-right (condition_sites s condition) (statement_sites (opened s) consequent ++ statement_if (opened (behind (locals_in consequent) s)) alternative) inner in
      if-made s (locals_in consequent) (statement_variables (opened s) consequent) (variables_if (opened (behind (locals_in consequent) s)) alternative)
      (condition_code s condition) (statement_code (opened s) consequent) (statement_code_if (opened (behind (locals_in consequent) s)) alternative)
      (always_returns s.tokens consequent) (returns_if s.tokens alternative) (length-statement (opened s) consequent)
      (condition-made claim s condition body.sound shape.1 (free-left (condition_sites s condition) (statement_sites (opened s) consequent ++ statement_if (opened (behind (locals_in consequent) s)) alternative) inner))
      (statement-made claim (opened s) (body-opened s body) consequent shape.2 (free-left (statement_sites (opened s) consequent) (statement_if (opened (behind (locals_in consequent) s)) alternative) branches))
      (if_there-made claim (opened (behind (locals_in consequent) s)) (body-opened (behind (locals_in consequent) s) (body-more (locals_in consequent) s body)) alternative shape.3
      (free-right (statement_sites (opened s) consequent) (statement_if (opened (behind (locals_in consequent) s)) alternative) branches))
  part-made claim s body (a_for at attributes first condition step inside) shape free =
      let t = after_first s first in
      let variables = first_variables (opened s) first in
      let behind_attributes = free-right (attributes_sites s attributes) (first_if (opened s) first ++ (condition_if t condition ++ (expression_if t step ++ statement_sites (looped t) inside))) free in
      let at_first = free-left (first_if (opened s) first) (condition_if t condition ++ (expression_if t step ++ statement_sites (looped t) inside)) behind_attributes in
      let behind_first = free-right (first_if (opened s) first) (condition_if t condition ++ (expression_if t step ++ statement_sites (looped t) inside)) behind_attributes in
      let behind_condition = free-right (condition_if t condition) (expression_if t step ++ statement_sites (looped t) inside) behind_first in
      let declares = first-declares s body.sound first shape.1 at_first in
      let there = body-behind (opened s) t variables (body-opened s body) declares in
      for-made s t variables (statement_variables (looped t) inside) (first_code_if (opened s) first) (condition_code_if t condition) (value_code_if t step) (statement_code (looped t) inside)
      false (always_returns t.tokens inside)
      (first-made claim (opened s) (sound-opened s body.sound) first shape.1 at_first)
      declares
      (condition_if-made claim t condition there.sound (subst (λ tokens. IfTree (IsExpression tokens) condition) (sym declares.same.tokens) shape.2) (free-left (condition_if t condition) (expression_if t step ++ statement_sites (looped t) inside) behind_first))
      (step-made claim t step there.sound (subst (λ tokens. IfTree (IsExpression tokens) step) (sym declares.same.tokens) shape.3) (free-left (expression_if t step) (statement_sites (looped t) inside) behind_condition))
      (statement-made claim (looped t) (body-looped t there) inside (subst (λ tokens. IsStatement tokens inside) (sym declares.same.tokens) shape.4) (free-right (expression_if t step) (statement_sites (looped t) inside) behind_condition))
  part-made claim s body (a_while at attributes condition inside) shape free =
      let inner = free-right (attributes_sites s attributes) (condition_sites s condition ++ statement_sites (looped s) inside) free in
      while-made s (statement_variables (looped s) inside) (condition_code s condition) (statement_code (looped s) inside) (always_returns s.tokens inside)
      (condition-made claim s condition body.sound shape.1 (free-left (condition_sites s condition) (statement_sites (looped s) inside) inner))
      (statement-made claim (looped s) (body-looped s body) inside shape.2 (free-right (condition_sites s condition) (statement_sites (looped s) inside) inner))
  part-made claim s body (a_do at attributes inside condition) shape free =
      let inner = free-right (attributes_sites s attributes) (condition_sites s condition ++ statement_sites (looped s) inside) free in
      do-made s (statement_variables (looped s) inside) (condition_code s condition) (statement_code (looped s) inside) (always_returns s.tokens inside)
      (condition-made claim s condition body.sound shape.2 (free-left (condition_sites s condition) (statement_sites (looped s) inside) inner))
      (statement-made claim (looped s) (body-looped s body) inside shape.1 (free-right (condition_sites s condition) (statement_sites (looped s) inside) inner))
  part-made claim s body (a_jump at absent) shape free = jump-made s body (terminal_at s.tokens at) at shape free
  part-made claim s body (a_jump at (present value)) shape free =
      subst (λ r. IsMade s [] (return_code s value) r) (ap is_return_word (sym shape.0)) (return-made claim s body at value shape.1 free)
  part-made claim s body (a_stmt at part) shape free = absurd shape
  part-made claim s body other shape free = run-made s other (claim s other body.sound.known shape free)

  pub statement-made : ExpressionsBecome → (s : Scope) → IsInBody s → (tree : Tree) → IsStatement s.tokens tree → IsFree (statement_sites s tree) → IsMade s (statement_variables s tree) (statement_code s tree) (always_returns s.tokens tree)
  statement-made claim s body (a_stmt at absent) shape free = one-made s (block_stmt no_stmts) (Some (one_stmt (block_stmt no_stmts))) refl (λ env fits. tt)
  statement-made claim s body (a_stmt at (present part)) shape free = part-made claim s body part shape free
  statement-made claim s body other shape free = absurd shape

  pub if_there-made : ExpressionsBecome → (s : Scope) → IsInBody s → (part : Maybe) → IsStatementIf s.tokens part → IsFree (statement_if s part) → IsMadeIf s (variables_if s part) (statement_code_if s part) (returns_if s.tokens part)
  if_there-made claim s body absent shape free = no-made s
  if_there-made claim s body (present tree) shape free = some-made s (statement_variables s tree) (statement_code s tree) (always_returns s.tokens tree) (statement-made claim s body tree shape free)

  pub statements-made : ExpressionsBecome → (s : Scope) → IsInBody s → (trees : Trees) → AreStatements s.tokens trees → IsFree (statements_sites s trees) → IsMade s (statements_variables s trees) (statements_code s trees) (one_returns s.tokens trees)
  statements-made claim s body no_trees shape free = none-made s
  statements-made claim s body (more_trees first rest) shape free =
      let t = after_statement s first in
      let variables = statement_variables s first in
      let at_first = free-left (statement_sites s first) (statements_sites t rest) free in
      let made = statement-made claim s body first shape.0 at_first in
      let declares = statement-declares s body.sound first shape.0 at_first made.types in
      let more = statements-made claim t (body-behind s t variables body declares) rest (subst (λ tokens. AreStatements tokens rest) (sym declares.same.tokens) shape.1) (free-right (statement_sites s first) (statements_sites t rest) free) in
      made-joined s t variables (statements_variables t rest) (statement_code s first) (statements_code t rest) (always_returns s.tokens first) (one_returns s.tokens rest) made declares
      (subst (λ tokens. IsMade t (statements_variables t rest) (statements_code t rest) (one_returns tokens rest)) declares.same.tokens more)
