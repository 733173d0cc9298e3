-- What a walk over a statement's parts says of the statement.
use Rattle.std.proofs.Common.{◌≡◌, ◌∙◌, refl, sym, ap, ℕ, ◌+◌, Bool, List, [], ◌++◌, is_some, Option, option_map}
use Rattle.hl_parser.specs.Trees.{Maybe, Tree, Trees, a_block, a_do, a_for, a_jump, a_local, a_stmt, a_while, an_if, present}
use Rattle.hl_meaning.specs.Programs.{Variable}
use Rattle.hl_meaning.specs.Trees.{Stmts, block_stmt, some_stmt}
use Rattle.hl_rules.specs.declared.found.Broken.{Broken}
use Rattle.hl_rules.specs.Constants.{named_type}
use Rattle.hl_rules.specs.Declarations.{after_starts, after_statement, locals_among, locals_first, locals_if, locals_in}
use Rattle.hl_rules.specs.Elaboration.{starts_variables, statement_variables, statements_variables, variables_if}
use Rattle.hl_rules.specs.Parts.{Site}
use Rattle.hl_rules.specs.Rules.{noted}
use Rattle.hl_rules.specs.Scopes.{Scope, behind, looped, opened}
use Rattle.hl_rules.specs.Sites.{starts_sites, statement_if, statement_sites, statements_sites, type_sites}
use Rattle.hl_rules.specs.Statements.{one_stmt, single, starts_code, statement_code, statement_code_if, statements_code}
use Rattle.hl_types.specs.Walks.{after_part, part_code}
use Rattle.hl_types.proofs.Closing.{behind-none}
use Rattle.hl_types.proofs.StatementNotes.{part-found, part-is, part-scope}
use Rattle.hl_types.proofs.Walking.{local-is}

-- what is said of a statement
pub record IsWalk (s : Scope) (t : Tree) (code' : Option Stmts) (sites : List Site) (behind' : Scope) (declared : List Variable) : Type 0 where
  pub code : code' ≡ statement_code s t
  pub found : (f : Option Broken) → noted f sites ≡ noted f (statement_sites s t)
  pub scope : behind' ≡ after_statement s t
  pub variables : (v : List Variable) → v ++ declared ≡ v ++ statement_variables s t

pub walk-if : (s : Scope) (at : ℕ) (attributes : Trees) (condition consequent : Tree) (alternative : Maybe) (t : Tree) → t ≡ an_if at attributes condition consequent alternative
    → IsWalk s t (statement_code s (an_if 0 attributes condition consequent alternative)) (statement_sites s (an_if 0 attributes condition consequent alternative))
    (behind (locals_in consequent + locals_if alternative) s) (statement_variables s (an_if 0 attributes condition consequent alternative))
walk-if s at attributes condition consequent alternative t e = record {
  code = sym (ap (statement_code s) e);
  found = λ f. sym (ap (λ x. noted f (statement_sites s x)) e);
  scope = sym (ap (after_statement s) e);
  variables = λ v. sym (ap (λ x. v ++ statement_variables s x) e);
}

pub walk-for : (s : Scope) (at : ℕ) (attributes : Trees) (first condition step : Maybe) (body t : Tree) → t ≡ a_for at attributes first condition step body
    → IsWalk s t (statement_code s (a_for 0 attributes first condition step body)) (statement_sites s (a_for 0 attributes first condition step body))
    (behind (locals_first first + locals_in body) s) (statement_variables s (a_for 0 attributes first condition step body))
walk-for s at attributes first condition step body t e = record {
  code = sym (ap (statement_code s) e);
  found = λ f. sym (ap (λ x. noted f (statement_sites s x)) e);
  scope = sym (ap (after_statement s) e);
  variables = λ v. sym (ap (λ x. v ++ statement_variables s x) e);
}

pub walk-while : (s : Scope) (at : ℕ) (attributes : Trees) (condition body t : Tree) → t ≡ a_while at attributes condition body
    → IsWalk s t (statement_code s (a_while 0 attributes condition body)) (statement_sites s (a_while 0 attributes condition body)) (behind (locals_in body) s) (statement_variables (looped s) body)
walk-while s at attributes condition body t e = record {
  code = sym (ap (statement_code s) e);
  found = λ f. sym (ap (λ x. noted f (statement_sites s x)) e);
  scope = sym (ap (after_statement s) e);
  variables = λ v. sym (ap (λ x. v ++ statement_variables s x) e);
}

pub walk-do : (s : Scope) (at : ℕ) (attributes : Trees) (body condition t : Tree) → t ≡ a_do at attributes body condition
    → IsWalk s t (statement_code s (a_do 0 attributes body condition)) (statement_sites s (a_do 0 attributes body condition)) (behind (locals_in body) s) (statement_variables (looped s) body)
walk-do s at attributes body condition t e = record {
  code = sym (ap (statement_code s) e);
  found = λ f. sym (ap (λ x. noted f (statement_sites s x)) e);
  scope = sym (ap (after_statement s) e);
  variables = λ v. sym (ap (λ x. v ++ statement_variables s x) e);
}

pub walk-block : (s : Scope) (at : ℕ) (statements : Trees) (t : Tree) → t ≡ a_block at statements
    → IsWalk s t (statement_code s (a_block 0 statements)) (statements_sites (opened s) statements) (behind (locals_among statements) s) (statements_variables (opened s) statements)
walk-block s at statements t e = record {
  code = sym (ap (statement_code s) e);
  found = λ f. sym (ap (λ x. noted f (statement_sites s x)) e);
  scope = sym (ap (after_statement s) e);
  variables = λ v. sym (ap (λ x. v ++ statement_variables s x) e);
}

pub walk-jump : (s : Scope) (at : ℕ) (value : Maybe) (t : Tree) → t ≡ a_jump at value → IsWalk s t (statement_code s (a_jump at value)) (statement_sites s (a_jump at value)) s []
walk-jump s at value t e = record {
  code = sym (ap (statement_code s) e);
  found = λ f. sym (ap (λ x. noted f (statement_sites s x)) e);
  scope = sym (behind-none s) ∙ sym (ap (after_statement s) e);
  variables = λ v. sym (ap (λ x. v ++ statement_variables s x) e);
}

pub walk-part : (s : Scope) (at : ℕ) (part : Maybe) (t : Tree) → t ≡ a_stmt at part → IsWalk s t (part_code s part) (statement_if s part) (after_part s part) (variables_if s part)
walk-part s at part t e = record {
  code = part-is s at part ∙ sym (ap (statement_code s) e);
  found = λ f. ap (noted f) (part-found s at part) ∙ sym (ap (λ x. noted f (statement_sites s x)) e);
  scope = part-scope s at part ∙ sym (ap (after_statement s) e);
  variables = λ v. sym (ap (λ x. v ++ statement_variables s x) e);
}

pub walk-local : (s : Scope) (at : ℕ) (constant : Option ℕ) (same type : Tree) (is_const : Bool) (starts : Trees) (t : Tree) → same ≡ type → is_const ≡ is_some constant → t ≡ a_local at constant type starts
    → IsWalk s t (starts_code s (named_type s same) is_const starts) (type_sites s same ++ starts_sites s (named_type s same) is_const starts) (after_starts (named_type s same) is_const s starts)
    (starts_variables s (named_type s same) is_const starts)
walk-local s at constant same type is_const starts t e is tree = record {
  code = local-is (statement_code s) (λ x k. starts_code s (named_type s x) k starts) at constant same type is_const starts t (λ x. refl) e is tree;
  found = λ f. local-is (λ x. noted f (statement_sites s x)) (λ x k. noted f (type_sites s x ++ starts_sites s (named_type s x) k starts)) at constant same type is_const starts t (λ x. refl) e is tree;
  scope = local-is (after_statement s) (λ x k. after_starts (named_type s x) k s starts) at constant same type is_const starts t (λ x. refl) e is tree;
  variables = λ v. local-is (λ x. v ++ statement_variables s x) (λ x k. v ++ starts_variables s (named_type s x) k starts) at constant same type is_const starts t (λ x. refl) e is tree;
}

-- ---- parts that may be left out

pub record IsPart (s : Scope) (part : Maybe) (t : Tree) : Type 0 where
  pub code : statement_code s t ≡ part_code s part
  pub other : (body : Option Stmts) → body ≡ statement_code s t → option_map (λ inner. some_stmt (single inner)) body ≡ statement_code_if s part
  pub found : (f : Option Broken) → noted f (statement_sites s t) ≡ noted f (statement_if s part)
  pub scope : after_statement s t ≡ after_part s part
  pub locals : locals_in t ≡ locals_if part
  pub variables : (v : List Variable) → v ++ statement_variables s t ≡ v ++ variables_if s part

pub part-there : (s : Scope) (part : Maybe) (t : Tree) → part ≡ present t → IsPart s part t
part-there s part t e = record {
  code = sym (ap (part_code s) e);
  other = λ body is. ap (option_map (λ inner. some_stmt (single inner))) is ∙ sym (ap (statement_code_if s) e);
  found = λ f. sym (ap (λ x. noted f (statement_if s x)) e);
  scope = sym (ap (after_part s) e);
  locals = sym (ap locals_if e);
  variables = λ v. sym (ap (λ x. v ++ variables_if s x) e);
}

-- ---- blocks

pub block-code : (s o : Scope) (statements : Trees) (body : Option Stmts) → body ≡ statements_code o statements → o ≡ opened s
    → option_map (λ inner. one_stmt (block_stmt inner)) body ≡ statement_code s (a_block 0 statements)
block-code s o statements body is opens = ap (option_map (λ inner. one_stmt (block_stmt inner))) (is ∙ ap (λ z. statements_code z statements) opens)
