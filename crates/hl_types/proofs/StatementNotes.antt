-- What statements leave of what is known, and what they break.
use Rattle.std.proofs.Common.{◌≡◌, ◌∙◌, refl, sym, ap, ℕ, ◌+◌, Bool, List, [], ◌∷◌, ◌++◌, drop, Option, Some, append_assoc}
use Rattle.hl_parser.specs.Trees.{Tree, Trees, Maybe, absent, present, a_local, a_for, an_if}
use Rattle.hl_parser.specs.Trees.{a_do, a_stmt, a_while}
use Rattle.hl_meaning.specs.Trees.{Expr, MaybeStmt, Stmts, do_stmt, if_stmt, while_stmt}
use Rattle.hl_rules.specs.Expressions.{with_three, with_two}
use Rattle.hl_rules.specs.Statements.{condition_code, condition_code_if, first_code_if, for_code, one_stmt, single, statement_code, statement_code_if, value_code_if}
use Rattle.hl_types.specs.Walks.{after_part, part_code}
use Rattle.hl_rules.specs.declared.found.Broken.{Broken}
use Rattle.hl_rules.specs.Declarations.{after_first, after_statement, locals_among, locals_first, locals_if, locals_in}
use Rattle.hl_rules.specs.Parts.{Site}
use Rattle.hl_rules.specs.Rules.{noted}
use Rattle.hl_rules.specs.Scopes.{Named, Scope, behind, looped, opened}
use Rattle.hl_rules.specs.Sites.{statement_if, statement_sites}
use Rattle.hl_types.specs.Walks.{after_statements, closed, outer_blocks}
use Rattle.hl_types.proofs.Closing.{behind-both, behind-none, closed-starts, closed-statement, closed-statements}
use Rattle.hl_types.proofs.Walking.{noted-both, noted-three}
use Rattle.hl_values.specs.ScopeChanges as held

-- ---- blocks

blocks-closed : (blocks : List (List Named)) → drop 1 blocks ≡ outer_blocks blocks
blocks-closed [] = refl
blocks-closed (block ∷ blocks) = refl

-- behind the innermost block, where a loop stands around it or not
closed-in : (i : Bool) (s : Scope) → held.closed i s ≡ record (closed s) { in_loop = i }
closed-in i s = ap (λ bs. record s { blocks = bs; in_loop = i }) (blocks-closed s.blocks)

abbrev around : Bool → Scope → Scope
around i s = record s { in_loop = i }

pub branch-behind : (s x y : Scope) (t : Tree) (i : Bool) → i ≡ s.in_loop → x ≡ after_statement (opened s) t → y ≡ held.closed i x → y ≡ behind (locals_in t) s
branch-behind s x y t i is inner e =
    e ∙ (ap (held.closed i) inner ∙ (closed-in i (after_statement (opened s) t) ∙ (ap (around i) (closed-statement (opened s) t) ∙ ap (λ b. around b (behind (locals_in t) s)) is)))

pub body-behind : (s x y : Scope) (t : Tree) (i : Bool) → i ≡ s.in_loop → x ≡ after_statement (looped s) t → y ≡ held.closed i x → y ≡ behind (locals_in t) s
body-behind s x y t i is inner e =
    e ∙ (ap (held.closed i) inner ∙ (closed-in i (after_statement (looped s) t) ∙ (ap (around i) (closed-statement (looped s) t) ∙ ap (λ b. around b (behind (locals_in t) s)) is)))

pub block-behind : (s x y : Scope) (ts : Trees) (i : Bool) → i ≡ s.in_loop → x ≡ after_statements (opened s) ts → y ≡ held.closed i x → y ≡ behind (locals_among ts) s
block-behind s x y ts i is inner e =
    e ∙ (ap (held.closed i) inner ∙ (closed-in i (after_statements (opened s) ts) ∙ (ap (around i) (closed-statements (opened s) ts) ∙ ap (λ b. around b (behind (locals_among ts) s)) is)))

closed-first : (s : Scope) (first : Maybe) → closed (after_first s first) ≡ behind (locals_first first) s
closed-first s absent = sym (behind-none s)
closed-first s (present (a_local at constant type starts)) = closed-starts _ _ (opened s) starts
closed-first s (present t) = sym (behind-none s)

pub for-behind : (s x y : Scope) (first : Maybe) (body : Tree) (i : Bool) → i ≡ s.in_loop → x ≡ behind (locals_in body) (after_first s first) → y ≡ held.closed i x
    → y ≡ behind (locals_first first + locals_in body) s
for-behind s x y first body i is inner e =
    e ∙ (ap (held.closed i) inner ∙ (closed-in i (behind (locals_in body) (after_first s first)) ∙
    (ap (λ z. around i (behind (locals_in body) z)) (closed-first s first) ∙
    (ap (λ b. around b (behind (locals_in body) (behind (locals_first first) s))) is ∙ behind-both (locals_first first) (locals_in body) s))))

pub if-behind : (s x y : Scope) (consequent : Tree) (alternative : Maybe) → x ≡ behind (locals_in consequent) s → y ≡ behind (locals_if alternative) x
    → y ≡ behind (locals_in consequent + locals_if alternative) s
if-behind s x y consequent alternative first second = second ∙ (ap (behind (locals_if alternative)) first ∙ behind-both (locals_in consequent) (locals_if alternative) s)

-- ---- what is noted, one part behind the other

pub noted-four : (f0 f1 f2 f3 f4 : Option Broken) (a b c d : List Site) → f1 ≡ noted f0 a → f2 ≡ noted f1 b → f3 ≡ noted f2 c → f4 ≡ noted f3 d
    → f4 ≡ noted f0 (a ++ (b ++ (c ++ d)))
noted-four f0 f1 f2 f3 f4 a b c d e1 e2 e3 e4 = noted-both f0 f1 f4 a (b ++ (c ++ d)) e1 (noted-three f1 f2 f3 f4 b c d e2 e3 e4)

pub noted-five : (f0 f1 f2 f3 f4 f5 : Option Broken) (a b c d e : List Site) → f1 ≡ noted f0 a → f2 ≡ noted f1 b → f3 ≡ noted f2 c → f4 ≡ noted f3 d → f5 ≡ noted f4 e
    → f5 ≡ noted f0 (a ++ (b ++ (c ++ (d ++ e))))
noted-five f0 f1 f2 f3 f4 f5 a b c d e e1 e2 e3 e4 e5 = noted-both f0 f1 f5 a (b ++ (c ++ (d ++ e))) e1 (noted-four f1 f2 f3 f4 f5 b c d e e2 e3 e4 e5)

-- ---- what statements become, of what their parts become

pub part-is : (s : Scope) (at : ℕ) (part : Maybe) → part_code s part ≡ statement_code s (a_stmt at part)
part-is s at absent = refl
part-is s at (present part) = refl

pub part-found : (s : Scope) (at : ℕ) (part : Maybe) → statement_if s part ≡ statement_sites s (a_stmt at part)
part-found s at absent = refl
part-found s at (present part) = refl

pub part-scope : (s : Scope) (at : ℕ) (part : Maybe) → after_part s part ≡ after_statement s (a_stmt at part)
part-scope s at absent = refl
part-scope s at (present part) = refl

pub if-is : (s : Scope) (at : ℕ) (attributes : Trees) (c consequent : Tree) (alternative : Maybe) (cond : Option Expr) (yes' : Option Stmts) (no' : Option MaybeStmt) (inner : Scope)
    → cond ≡ condition_code s c → yes' ≡ statement_code (opened s) consequent → inner ≡ behind (locals_in consequent) s → no' ≡ statement_code_if (opened inner) alternative
    → with_three (λ x i o. Some (one_stmt (if_stmt x (single i) o))) cond yes' no' ≡ statement_code s (an_if at attributes c consequent alternative)
if-is s at attributes c consequent alternative cond yes' no' inner is_cond is_yes is_inner is_no =
    ap (λ x. with_three (λ k i o. Some (one_stmt (if_stmt k (single i) o))) x yes' no') is_cond ∙
    (ap (λ x. with_three (λ k i o. Some (one_stmt (if_stmt k (single i) o))) (condition_code s c) x no') is_yes ∙
    ap (λ x. with_three (λ k i o. Some (one_stmt (if_stmt k (single i) o))) (condition_code s c) (statement_code (opened s) consequent) x) (is_no ∙ ap (λ z. statement_code_if (opened z) alternative) is_inner))

pub while-is : (s : Scope) (at : ℕ) (attributes : Trees) (c body : Tree) (cond : Option Expr) (inner : Option Stmts) → cond ≡ condition_code s c → inner ≡ statement_code (looped s) body
    → with_two (λ x i. Some (one_stmt (while_stmt x (single i)))) cond inner ≡ statement_code s (a_while at attributes c body)
while-is s at attributes c body cond inner is_cond is_inner =
    ap (λ x. with_two (λ k i. Some (one_stmt (while_stmt k (single i)))) x inner) is_cond ∙ ap (λ x. with_two (λ k i. Some (one_stmt (while_stmt k (single i)))) (condition_code s c) x) is_inner

pub do-is : (s : Scope) (at : ℕ) (attributes : Trees) (body c : Tree) (inner : Option Stmts) (cond : Option Expr) → inner ≡ statement_code (looped s) body → cond ≡ condition_code s c
    → with_two (λ i x. Some (one_stmt (do_stmt (single i) x))) inner cond ≡ statement_code s (a_do at attributes body c)
do-is s at attributes body c inner cond is_inner is_cond =
    ap (λ x. with_two (λ i k. Some (one_stmt (do_stmt (single i) k))) x cond) is_inner ∙ ap (λ x. with_two (λ i k. Some (one_stmt (do_stmt (single i) k))) (statement_code (looped s) body) x) is_cond

pub for-is : (s : Scope) (at : ℕ) (attributes : Trees) (first c step : Maybe) (body : Tree) (init : Option Stmts) (cond next : Option (Option Expr)) (inner : Option Stmts)
    → init ≡ first_code_if (opened s) first → cond ≡ condition_code_if (after_first s first) c → next ≡ value_code_if (after_first s first) step → inner ≡ statement_code (looped (after_first s first)) body
    → for_code init cond next inner ≡ statement_code s (a_for at attributes first c step body)
for-is s at attributes first c step body init cond next inner is_init is_cond is_next is_inner =
    let a = after_first s first in
    ap (λ x. for_code x cond next inner) is_init ∙ (ap (λ x. for_code (first_code_if (opened s) first) x next inner) is_cond ∙
    (ap (λ x. for_code (first_code_if (opened s) first) (condition_code_if a c) x inner) is_next ∙ ap (λ x. for_code (first_code_if (opened s) first) (condition_code_if a c) (value_code_if a step) x) is_inner))

-- ---- behind a condition with its attributes, or the head of a `for`

pub noted-headed : (f0 f1 f2 : Option Broken) (a b c : List Site) → f1 ≡ noted f0 (a ++ b) → f2 ≡ noted f1 c → f2 ≡ noted f0 (a ++ (b ++ c))
noted-headed f0 f1 f2 a b c e1 e2 = noted-both f0 f1 f2 (a ++ b) c e1 e2 ∙ ap (noted f0) (append_assoc a b c)

pub noted-head : (f0 f1 f2 : Option Broken) (a b c d e : List Site) → f1 ≡ noted f0 (a ++ (b ++ (c ++ d))) → f2 ≡ noted f1 e → f2 ≡ noted f0 (a ++ (b ++ (c ++ (d ++ e))))
noted-head f0 f1 f2 a b c d e e1 e2 =
    noted-headed f0 f1 f2 a (b ++ (c ++ d)) e e1 e2 ∙ ap (λ l. noted f0 (a ++ l)) (append_assoc b (c ++ d) e ∙ ap (λ l. b ++ l) (append_assoc c d e))
