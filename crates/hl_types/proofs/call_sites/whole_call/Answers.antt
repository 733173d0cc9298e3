use Rattle.std.proofs.Common.{◌∙◌, ap, map}
use Rattle.hl_parser.specs.Views.{plain_of}
use Rattle.hl_rules.specs.ExpressionRules.{argument_trees}
use Rattle.hl_rules.specs.Scopes.{sort_at}
use Rattle.hl_rules.specs.Values.{values_of}
use Rattle.hl_types.specs.Calls.{call_noted}
use Rattle.hl_values.specs.ScopeViews.{scope_of}
use Rattle.hl_values.specs.Views.{plain_value}
use Rattle.hl_types.proofs.ArgumentLemmas.{values-typed}
use Rattle.hl_types.proofs.CallLemmas.{call-found, call-typed}
use Rattle.hl_types.proofs.call_sites.whole_call.Goals as goal

pub called-requires : goal.called-requires
called-requires c =
    ap (values_of (scope_of c.args.scope.now)) c.trees_in-trees.ensures ∙
    values-typed (scope_of c.args.scope.now) (argument_trees (plain_of c.args.arguments.now)) c.args.args c.requires

pub returns-clause-typed : goal.returns-clause-typed
returns-clause-typed c =
    call-typed (scope_of c.args.scope.now) c.args.at (plain_of c.args.arguments.now) c.args.args c.in_ok-typed.typed c.behind.result c.requires c.in_ok-typed.ensures.typed c.behind.ensures

pub returns-clause-found : goal.returns-clause-found
returns-clause-found c = λ f before.
    let s = scope_of c.args.scope.now in
    call-found f c.args.found.now c.called.new.found s c.args.at (plain_of c.args.arguments.now) c.args.args c.requires before
    (c.in_ok-typed.ensures.found ∙ ap (λ l. call_noted c.args.found.now s c.args.at l (map plain_value c.args.args) (sort_at s c.args.at)) c.trees_in-trees.ensures)
