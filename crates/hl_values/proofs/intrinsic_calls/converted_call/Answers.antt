use Rattle.std.proofs.Common.{◌∙◌, sym, ap, map}
use Rattle.std.specs.Prelude.{option_map}
use Rattle.hl_meaning.specs.Views.{plain_exprs, plain_ty}
use Rattle.hl_rules.specs.Intrinsics.{passed}
use Rattle.hl_rules.specs.Nodes.{converted_each, type_of_code}
use Rattle.hl_values.specs.Intrinsics.{plain_passing}
use Rattle.hl_values.specs.Views.{plain_code}
use Rattle.hl_values.proofs.PassedLemmas.{intrinsic-made}
use Rattle.hl_values.proofs.intrinsic_calls.converted_call.Goals as goal

pub returns : goal.returns
returns c =
    intrinsic-made c.args.at c.args.number c.in-Some.signature c.args.codes.items (map plain_ty c.in_ok-types.types) c.in-Some-2.passing.takes c.in-Some-2.passing.gives c.in-Some-3.args (plain_code c.in_ok-value_node.field-0)
    (sym c.in-Some.is ∙ c.signature_of.ensures)
    (c.in_ok-types.ensures ∙ ap (λ l. map type_of_code (map plain_code l)) c.as_slice.ensures.value)
    (sym (ap (option_map plain_passing) c.in-Some-2.is) ∙ (c.in_ok-passing.ensures ∙ ap (λ l. passed c.in-Some.signature (map plain_ty l)) c.as_slice-2.ensures.value))
    (sym (ap (option_map plain_exprs) c.in-Some-3.is) ∙ (c.in_ok-args.ensures ∙ ap (λ l. converted_each (map plain_ty l) (map plain_code c.args.codes.items)) c.as_slice-3.ensures.value))
    c.in_ok-value_node.ensures
