use Rattle.hl_rules.specs.Source.{number_at}
use Rattle.hl_rules.specs.Values.{number_type}
use Rattle.hl_values.specs.ScopeViews.{scope_of}
use Rattle.hl_values.specs.Views.{plain_code_if}
use Rattle.std.proofs.Common.{Some}
use Rattle.hl_values.proofs.ExpressionLemmas.{number-known}
use Rattle.hl_values.proofs.word.number.Goals as goal

pub returns : goal.returns
returns c =
    let code = c.in_ok-code.ensures in
    number-known c.number_kind-kind.result c.number_at-number.result (number_at (scope_of c.args.scope.now).tokens c.args.at) c.args.at (number_type (scope_of c.args.scope.now) c.args.at) (plain_code_if (Some c.in_ok-code.code)) c.number_kind-kind.ensures c.number_at-number.ensures code
