use Rattle.std.proofs.Common.{◌∙◌, sym, ap, Some}
use Rattle.std.specs.Option.{option_copied}
use Rattle.hl_meaning.specs.Views.{plain_ty}
use Rattle.hl_rules.specs.ExpressionRules.{is_past}
use Rattle.hl_values.specs.Views.{plain_type_if}
use Rattle.hl_types.proofs.IndexLemmas.{past-at, past-none, past-other}
use Rattle.hl_types.proofs.indexes.is_past.Goals as goal

pub returns-in_default-ty : goal.returns-in_default-ty
returns-in_default-ty c = past-none c.args.number ∙ sym (ap (λ o. is_past c.args.number (plain_type_if (option_copied o))) c.in_default-ty.is)

pub returns-in-Some-element_count : goal.returns-in-Some-element_count
returns-in-Some-element_count c =
    past-at c.in-Some.number c.in-Some-element_count.size (plain_ty c.in-Some-ty.ty.now) c.in-Some-element_count.ensures ∙
    (ap (λ n. is_past n (Some (plain_ty c.in-Some-ty.ty.now))) (sym c.in-Some.is) ∙ ap (λ o. is_past c.args.number (plain_type_if (option_copied o))) (sym c.in-Some-ty.is))

pub returns-in-None : goal.returns-in-None
returns-in-None c =
    past-other c.in-Some.number (plain_ty c.in-Some-ty.ty.now) c.in-None.ensures ∙
    (ap (λ n. is_past n (Some (plain_ty c.in-Some-ty.ty.now))) (sym c.in-Some.is) ∙ ap (λ o. is_past c.args.number (plain_type_if (option_copied o))) (sym c.in-Some-ty.is))
