use Rattle.std.proofs.Common.{sym, ap}
use Rattle.std.specs.Option.{option_copied}
use Rattle.hl_meaning.specs.Views.{plain_ty}
use Rattle.hl_values.specs.Views.{plain_code, plain_type_if}
use Rattle.hl_values.proofs.FormLemmas.{member-done}
use Rattle.hl_values.proofs.forms.member_code.Goals as goal

pub returns : goal.returns
returns c =
    let made = c.in_ok-stepped.ensures in
    let ty = c.in_ok-ty.ensures in
    member-done c.args.at c.args.number c.in-Some.number (plain_type_if (option_copied c.args.ty)) c.in_ok-ty.ty (plain_ty c.in-Some-ty.ty.now) (plain_code c.args.code) (plain_code c.in_ok-stepped.stepped) c.in-Some.is (ap (λ o. plain_type_if (option_copied o)) (sym c.in-Some-ty.is)) ty made
