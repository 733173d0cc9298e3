use Rattle.std.proofs.Common.{refl}
use Rattle.hl_parser.specs.Views.{plain_of}
use Rattle.hl_rules.specs.Expressions.{value_code}
use Rattle.hl_values.specs.ScopeViews.{scope_of}
use Rattle.hl_types.specs.Walks.{made_expr}
use Rattle.hl_types.proofs.TypedForms.{made-ok, value-made, whenever}
use Rattle.hl_types.proofs.conditions.run.Goals as goal

pub returns : goal.returns
returns c =
    let s = scope_of c.args.scope.now in
    let e = plain_of c.args.tree.now in
    record {
      code = made-ok c.value_if.result made_expr _ (value_code s e) c.value_if.ensures (value-made s e c.in_ok-typed.typed _ c.in_ok-typed.ensures.typed refl);
      found = whenever c.value_if.result c.in_ok-typed.ensures.found;
    }
