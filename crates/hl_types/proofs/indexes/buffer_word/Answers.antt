use Rattle.std.proofs.Common.{◌∙◌, sym, ap}
use Rattle.hl_rules.specs.Values.{buffer_sort, buffer_word}
use Rattle.hl_values.specs.ScopeViews.{scope_of}
use Rattle.hl_types.proofs.IndexLemmas.{word-other}
use Rattle.hl_types.proofs.indexes.buffer_word.Goals as goal

pub returns-in-Name : goal.returns-in-Name
returns-in-Name c =
    c.buffer_sort.ensures ∙ (ap buffer_sort c.sort_at.ensures ∙ ap (λ t. buffer_word (scope_of c.args.scope.now) t c.args.at) (sym c.in-Name.is ∙ c.terminal_at.ensures))

pub returns-in_default : goal.returns-in_default
returns-in_default c =
    word-other (scope_of c.args.scope.now) c.terminal_at.result c.args.at c.in_default.not-Name ∙ ap (λ t. buffer_word (scope_of c.args.scope.now) t c.args.at) c.terminal_at.ensures
