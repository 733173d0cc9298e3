use Rattle.std.proofs.Common.{◌∙◌, sym, ap, None, Some}
use Rattle.hl_meaning.specs.Views.{plain_ty}
use Rattle.hl_rules.specs.Values.{value}
use Rattle.hl_values.specs.Known.{known}
use Rattle.hl_values.specs.Views.{plain_code_if, plain_standing, plain_type_if}
use Rattle.hl_types.proofs.IndexLemmas.{indexed-gone, indexed-there}
use Rattle.hl_types.proofs.indexes.indexed_value.Goals as goal

pub returns-in_ok-standing-in-Some : goal.returns-in_ok-standing-in-Some
returns-in_ok-standing-in-Some c = λ ty e.
    let behind = c.in_ok-standing-in-Some.ensures in
    ap (λ x. known (value (Some (plain_ty c.in-Some.element)) x) None (plain_code_if c.args.code)) behind ∙
    ap (λ v. known v None (plain_code_if c.args.code)) (indexed-there c.args.number ty (plain_standing c.args.standing) (plain_ty c.in-Some.element) (sym (ap plain_type_if c.in-Some.is) ∙ e))

pub returns-in-None : goal.returns-in-None
returns-in-None c = λ ty e.
    c.stepped.ensures ∙ ap (λ v. known v None (plain_code_if c.args.code)) (indexed-gone c.args.number ty (plain_standing c.args.standing) (sym (ap plain_type_if c.in-None.is) ∙ e))
