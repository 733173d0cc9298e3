use Rattle.std.proofs.Common.{refl, option_and_then}
use Rattle.hl_parser.specs.Views.{plain_of}
use Rattle.hl_rules.specs.Expressions.{value_in}
use Rattle.hl_values.specs.ScopeViews.{scope_of}
use Rattle.hl_values.specs.Views.{plain_type_if}
use Rattle.hl_types.specs.Walks.{made_expr}
use Rattle.hl_types.proofs.TypedForms.{made-ok, typed-to, value-noted, whenever}
use Rattle.hl_types.proofs.inits.value_init.Goals as goal

pub returns : goal.returns
returns c =
    let s = scope_of c.args.scope.now in
    let e = plain_of c.args.value.now in
    let ty = plain_type_if c.args.ty.now in
    let typed = c.in_ok-typed.typed in
    let is = c.in_ok-typed.ensures.typed in
    record {
      code = made-ok c.converted_to.result made_expr _ (option_and_then (λ own. value_in s own e) ty) c.converted_to.ensures (typed-to s e typed ty _ is refl);
      found =
          whenever c.converted_to.result
          (value-noted s e typed ty c.args.found.now c.used.new.found c.note_conversion.new.found c.at.result is c.in_ok-typed.ensures.found c.at.ensures c.note_conversion.ensures);
    }
