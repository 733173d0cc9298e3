use Rattle.std.proofs.Common.{◌≡◌, ◌∙◌, sym, ap, Bool, ◌&&◌, true, false}
use Rattle.hl_parser.specs.Views.{plain_of}
use Rattle.hl_parser.proofs.Plain.{plain-Block, plain-If, plain-Jump, plain-Stmt}
use Rattle.hl_rules.specs.DeclarationRules.{always_returns, is_return_word}
use Rattle.hl_values.specs.ScopeViews.{scope_of}
use Rattle.hl_types.proofs.DeclaredShapes.{always_returns-none}
use Rattle.hl_types.proofs.returns.+returning.Goals as goal

pub always_returns-returns-in-Stmt : goal.always_returns-returns-in-Stmt
always_returns-returns-in-Stmt t c =
    c.returns_if.ensures ∙ sym (ap (always_returns (scope_of c.args.scope.now).tokens) (ap plain_of c.in-Stmt.is ∙ plain-Stmt _ _))

pub always_returns-returns-in-Block : goal.always_returns-returns-in-Block
always_returns-returns-in-Block t c =
    c.one_returns.ensures ∙ sym (ap (always_returns (scope_of c.args.scope.now).tokens) (ap plain_of c.in-Block.is ∙ plain-Block _ _))

pub always_returns-returns-in-Jump : goal.always_returns-returns-in-Jump
always_returns-returns-in-Jump t c =
    c.is_return_word.ensures ∙ (ap is_return_word c.terminal_at.ensures ∙
    sym (ap (always_returns (scope_of c.args.scope.now).tokens) (ap plain_of c.in-Jump.is ∙ plain-Jump _ _)))

pub always_returns-returns-in_default : goal.always_returns-returns-in_default
always_returns-returns-in_default t c =
    sym (always_returns-none (scope_of c.args.scope.now).tokens c.args.tree.now c.in_default.not-Stmt c.in_default.not-Block c.in_default.not-If c.in_default.not-Jump)

both-then : (a r first second : Bool) → first ≡ a → second ≡ r → first ≡ true → second ≡ (a && r)
both-then a r true second e f h = f ∙ ap (λ b. b && r) e
both-then a r false second e f h = absurd (cc h)

both-else : (a r first : Bool) → first ≡ a → first ≡ false → first ≡ (a && r)
both-else a r false e h = ap (λ b. b && r) e
both-else a r true e h = absurd (cc h)

pub always_returns-returns-then-first : goal.always_returns-returns-then-first
always_returns-returns-then-first t c =
    let tokens = (scope_of c.args.scope.now).tokens in
    both-then _ _ _ _ (c.always_returns-first.ensures ∙ ap (λ x. always_returns tokens (plain_of x)) c.get.ensures) c.returns_if-second.ensures c.if-first.true ∙
    sym (ap (always_returns tokens) (ap plain_of c.in-If.is ∙ plain-If _ _ _ _ _))

pub always_returns-returns-else-first : goal.always_returns-returns-else-first
always_returns-returns-else-first t c =
    let tokens = (scope_of c.args.scope.now).tokens in
    both-else _ _ _ (c.always_returns-first.ensures ∙ ap (λ x. always_returns tokens (plain_of x)) c.get.ensures) c.if-first.false ∙
    sym (ap (always_returns tokens) (ap plain_of c.in-If.is ∙ plain-If _ _ _ _ _))
