-- Statements change their own block alone, and count the variables that they declare.
use Rattle.std.proofs.Common.{◌≡◌, ◌∙◌, refl, sym, ap, arith, ℕ, ◌+◌, Bool, List, [], ◌∷◌, Option}
use Rattle.hl_parser.specs.Trees.{Tree, Trees, no_trees, more_trees, absent, present, a_local, a_start, a_stmt}
use Rattle.hl_meaning.specs.Types.{Ty}
use Rattle.hl_rules.specs.Declarations.{after_start, after_starts, after_statement, locals_among, locals_in, start_count, starts_count}
use Rattle.hl_rules.specs.Scopes.{Named, Scope, behind, with_local}
use Rattle.hl_types.specs.Walks.{after_statements, closed}

pub behind-none : (s : Scope) → behind 0 s ≡ s
behind-none s = ap (λ n. record s { variables = n }) (omega arith)

pub behind-both : (m n : ℕ) (s : Scope) → behind n (behind m s) ≡ behind (m + n) s
behind-both m n s = ap (λ k. record s { variables = k }) (omega arith)

closed-blocks : (n : Named) (s : Scope) (blocks : List (List Named)) → closed (with_local n (record s { blocks = blocks })) ≡ closed (record s { blocks = blocks })
closed-blocks n s [] = refl
closed-blocks n s (block ∷ blocks) = refl

closed-local : (n : Named) (s : Scope) → closed (with_local n s) ≡ closed s
closed-local n s = closed-blocks n s s.blocks

closed-start : (ty : Option Ty) (is_const : Bool) (s : Scope) (t : Tree) → closed (after_start ty is_const s t) ≡ behind (start_count t) (closed s)
closed-start ty is_const s (a_start at declarator init) = ap (λ x. behind 1 x) (closed-local _ s)
closed-start ty is_const s t = sym (behind-none (closed s))

pub closed-starts : (ty : Option Ty) (is_const : Bool) (s : Scope) (ts : Trees) → closed (after_starts ty is_const s ts) ≡ behind (starts_count ts) (closed s)
closed-starts ty is_const s no_trees = sym (behind-none (closed s))
closed-starts ty is_const s (more_trees first rest) =
    closed-starts ty is_const (after_start ty is_const s first) rest ∙ (ap (λ x. behind (starts_count rest) x) (closed-start ty is_const s first) ∙ behind-both (start_count first) (starts_count rest) (closed s))

pub closed-statement : (s : Scope) (t : Tree) → closed (after_statement s t) ≡ behind (locals_in t) (closed s)
closed-statement s (a_stmt at absent) = sym (behind-none (closed s))
closed-statement s (a_stmt at (present part)) = closed-statement s part
closed-statement s (a_local at constant type starts) = closed-starts _ _ s starts
closed-statement s t = refl

pub closed-statements : (s : Scope) (ts : Trees) → closed (after_statements s ts) ≡ behind (locals_among ts) (closed s)
closed-statements s no_trees = sym (behind-none (closed s))
closed-statements s (more_trees first rest) =
    closed-statements (after_statement s first) rest ∙ (ap (λ x. behind (locals_among rest) x) (closed-statement s first) ∙ behind-both (locals_in first) (locals_among rest) (closed s))
