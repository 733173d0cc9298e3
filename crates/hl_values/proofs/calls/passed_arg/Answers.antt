use Rattle.std.proofs.Common.{◌∙◌, sym, ap}
use Rattle.std.specs.Prelude.{option_map}
use Rattle.hl_meaning.specs.Views.{plain_expr, plain_ty}
use Rattle.hl_values.specs.Views.{plain_code}
use Rattle.hl_values.proofs.CallLemmas.{value-passed}
use Rattle.hl_values.proofs.calls.passed_arg.Goals as goal

pub returns-in-Some : goal.returns-in-Some
returns-in-Some c =
    value-passed c.args.param.now.copying (plain_ty c.args.param.now.ty) (plain_code c.args.code) c.in-Some.value c.into_inner.result c.in-CopyIn.is c.into_inner.ensures
    (sym (ap (option_map plain_expr) c.in-Some.is) ∙ c.in_ok-value-in-CopyIn.ensures)
