use Rattle.std.proofs.Common.{◌∙◌, ap, map}
use Rattle.hl_parser.specs.Views.{plain_of}
use Rattle.hl_rules.specs.Expressions.{first_at}
use Rattle.hl_rules.specs.Scopes.{spelled}
use Rattle.hl_rules.specs.Values.{buffer_named}
use Rattle.hl_types.specs.Arguments.{first_constant}
use Rattle.hl_types.specs.Calls.{method_known, method_noted}
use Rattle.hl_values.specs.Arguments.{plain_codes}
use Rattle.hl_values.specs.ScopeViews.{scope_of}
use Rattle.hl_values.specs.Views.{plain_value}
use Rattle.hl_types.proofs.MethodLemmas.{method-found, method-typed}
use Rattle.hl_types.proofs.method_sites.whole_method.Goals as goal

pub returns-clause-typed : goal.returns-clause-typed
returns-clause-typed c =
    let s = scope_of c.args.scope.now in
    let o = plain_of c.args.operand.now in
    let a = plain_of c.args.arguments.now in
    method-typed s c.args.at c.args.mark c.args.name o a c.args.args c.in_ok-typed.typed c.behind.result c.requires
    (c.in_ok-typed.ensures.typed ∙
    (ap (λ b. method_known s c.args.at b (spelled s c.args.name) c.first_at.result (first_constant c.args.args) (map plain_value c.args.args) (plain_codes c.args.args)) c.buffer_named.ensures ∙
    ap (λ n. method_known s c.args.at (buffer_named s o) (spelled s c.args.name) n (first_constant c.args.args) (map plain_value c.args.args) (plain_codes c.args.args)) (c.first_at.ensures ∙ ap first_at c.trees_in.ensures)))
    c.behind.ensures

pub returns-clause-found : goal.returns-clause-found
returns-clause-found c = λ f before.
    let s = scope_of c.args.scope.now in
    let o = plain_of c.args.operand.now in
    method-found f c.args.found.now c.method_called.new.found s c.args.at c.args.mark c.args.name o (plain_of c.args.arguments.now) c.args.args c.requires before
    (c.in_ok-typed.ensures.found ∙ ap (λ b. method_noted c.args.found.now s b c.args.name (map plain_value c.args.args)) c.buffer_named.ensures)
