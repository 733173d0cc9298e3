use Rattle.std.proofs.Common.{◌∙◌, sym}
use Rattle.std.proofs.lemmas.List.{length-map}
use Rattle.hl_values.specs.ScopeViews.{plain_function, scope_of}
use Rattle.hl_types.proofs.functions.next_function.Goals as goal

pub returns-in-Ok : goal.returns-in-Ok
unfolding scope_of
returns-in-Ok c = c.in-Ok.ensures.1 ∙ (c.len.ensures.value ∙ sym (length-map c.args.scope.now.functions plain_function))
