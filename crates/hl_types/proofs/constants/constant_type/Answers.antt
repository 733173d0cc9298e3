use Rattle.std.proofs.Common.{◌∙◌, ap}
use Rattle.hl_parser.specs.Views.{plain_of}
use Rattle.hl_rules.specs.Constants.{declarator_type}
use Rattle.hl_values.specs.ScopeViews.{scope_of}
use Rattle.hl_values.specs.Views.{plain_type_if}
use Rattle.hl_types.proofs.DeclaredItems.{declared-noted}
use Rattle.hl_types.proofs.constants.constant_type.Goals as goal

pub returns-clause-own : goal.returns-clause-own
returns-clause-own c =
    c.in_ok-own.ensures.ty ∙ ap (λ o. declarator_type (scope_of c.args.scope.now) o (plain_of c.args.name.now)) c.named_type-named.ensures

pub returns-clause-found : goal.returns-clause-found
returns-clause-found c =
    declared-noted (scope_of c.args.scope.now) (plain_of c.args.ty.now) (plain_of c.args.name.now) (plain_type_if c.named_type-named.result) c.at.result c.args.found.now c.note_type.new.found c.declarator.new.found _
    c.note_type.ensures c.named_type-named.ensures c.in_ok-own.ensures.found c.at.ensures c.note_global.ensures
