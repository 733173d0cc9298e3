use Rattle.std.proofs.Common.{refl}
use Rattle.hl_parser.specs.Views.{plain_of}
use Rattle.hl_rules.specs.Statements.{condition_code}
use Rattle.hl_values.specs.ScopeViews.{scope_of}
use Rattle.hl_types.specs.Walks.{made_expr}
use Rattle.hl_types.proofs.TypedForms.{condition-made, condition-noted, made-ok, whenever}
use Rattle.hl_types.proofs.conditions.condition.Goals as goal

pub returns : goal.returns
returns c =
    let s = scope_of c.args.scope.now in
    let e = plain_of c.args.tree.now in
    let typed = c.in_ok-typed.typed in
    let is = c.in_ok-typed.ensures.typed in
    record {
      code = made-ok c.converted_if.result made_expr _ (condition_code s e) c.converted_if.ensures (condition-made s e typed _ is refl);
      found =
          whenever c.converted_if.result
          (condition-noted s e typed c.args.found.now c.used.new.found c.note_if.new.found c.is_no_scalar.result c.at.result is c.in_ok-typed.ensures.found c.is_no_scalar.ensures c.at.ensures c.note_if.ensures);
    }
