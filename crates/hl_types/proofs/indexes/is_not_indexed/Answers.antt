use Rattle.std.proofs.Common.{◌∙◌, sym, ap, None}
use Rattle.std.specs.Option.{is_none, option_copied}
use Rattle.hl_meaning.specs.Views.{plain_ty}
use Rattle.hl_rules.specs.ExpressionRules.{is_not_indexed}
use Rattle.hl_values.specs.Views.{plain_type_if}
use Rattle.hl_types.proofs.DotLemmas.{none-found}
use Rattle.hl_types.proofs.IndexLemmas.{not_indexed-is}
use Rattle.hl_types.proofs.indexes.is_not_indexed.Goals as goal

pub returns-in-Some : goal.returns-in-Some
returns-in-Some c =
    none-found c.element_count.result c.is_none.result c.is_none.ensures ∙ (ap is_none c.element_count.ensures ∙
    (not_indexed-is (plain_ty c.in-Some.ty.now) ∙ sym (ap (λ o. is_not_indexed None (plain_type_if (option_copied o))) c.in-Some.is)))
