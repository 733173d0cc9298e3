use Rattle.std.proofs.Common.{◌≡◌, ◌∙◌, refl, sym, ap, ℕ, Option}
use Rattle.hl_lexer.specs.declared.terminal.Terminal.{Terminal}
use Rattle.hl_lexer.specs.declared.terminal.Terminal.TheVariants as terminals
use Rattle.hl_rules.specs.declared.found.Broken.{Broken}
use Rattle.hl_rules.specs.Rules.{noted}
use Rattle.hl_rules.specs.Scopes.{Scope}
use Rattle.hl_rules.specs.Sites.{word_sites}
use Rattle.hl_rules.proofs.Noting.{noted-none, noted-variable}
use Rattle.hl_values.specs.ScopeViews.{scope_of}
use Rattle.hl_values.proofs.whole.note_word.Goals as goal

-- a token that is no name
word-none : (f : Option Broken) (s : Scope) (mark : Terminal) (at : ℕ) → (mark ≡ terminals.Name → ⊥) → f ≡ noted f (word_sites s mark at)
word-none f s terminals.Name at not = absurd (not refl)
word-none f s mark at not = sym (noted-none f)

pub returns-in-Name : goal.returns-in-Name
returns-in-Name c =
    let s = scope_of c.args.scope.now in
    c.note_variable.ensures ∙ sym (ap (λ m. noted c.args.found.now (word_sites s m c.args.at)) (sym c.terminal_at.ensures ∙ c.in-Name.is) ∙ noted-variable c.args.found.now s c.args.at)

pub returns-in_default : goal.returns-in_default
returns-in_default c =
    let s = scope_of c.args.scope.now in
    word-none c.args.found.now s c.terminal_at.result c.args.at c.in_default.not-Name ∙ ap (λ m. noted c.args.found.now (word_sites s m c.args.at)) c.terminal_at.ensures
