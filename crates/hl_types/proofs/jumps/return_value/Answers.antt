use Rattle.hl_parser.specs.Views.{plain_of}
use Rattle.hl_rules.specs.Statements.{return_code}
use Rattle.hl_values.specs.ScopeViews.{scope_of}
use Rattle.hl_values.specs.Views.{plain_type_if}
use Rattle.std.proofs.lemmas.Result.{IfOk-weaker}
use Rattle.std.proofs.Common.{◌≡◌}
use Rattle.hl_types.specs.Walks.{made_expr, made_stmts}
use Rattle.hl_types.proofs.TypedForms.{result-is, return-made, return-noted, whenever}
use Rattle.hl_types.proofs.jumps.return_value.Goals as goal

pub returns : goal.returns
returns c =
    let s = scope_of c.args.scope.now in
    let e = plain_of c.args.value.now in
    let gives = plain_type_if c.args.scope.now.result in
    let typed = c.in_ok-typed.typed in
    let same = result-is c.args.scope.now in
    record {
      code =
          IfOk-weaker c.return_of.result _ (λ made. made_stmts made ≡ return_code s e)
          (λ made is. return-made s e typed gives (made_expr c.in_ok-made.made) (made_stmts made) c.in_ok-typed.ensures.typed same c.in_ok-made.ensures is) c.return_of.ensures;
      found =
          whenever c.return_of.result
          (return-noted s c.args.at e typed gives c.args.found.now c.used.new.found c.note_if.new.found c.note_conversion.new.found c.is_void_result.result c.at.result
          c.in_ok-typed.ensures.typed same c.in_ok-typed.ensures.found c.is_void_result.ensures c.note_if.ensures c.at.ensures c.note_conversion.ensures);
    }
