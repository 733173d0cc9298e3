use Rattle.std.proofs.Common.{◌≡◌, ◌∙◌, sym, ap, map, None, Some}
use Rattle.std.specs.Option.{option_copied}
use Rattle.hl_meaning.specs.Views.{plain_ty}
use Rattle.hl_values.specs.Arguments.{typed_as}
use Rattle.hl_values.specs.Few.{each}
use Rattle.hl_values.specs.Views.{plain_type_if}
use Rattle.hl_values.proofs.ArgumentLemmas.{argument_types-each}
use Rattle.hl_values.proofs.EachLemmas.{held-more, slice-end, slice-stop}
use Rattle.hl_values.proofs.intrinsic_calls.argument_types.Goals as goal

pub loop-arg-preserved : goal.loop-arg-preserved
loop-arg-preserved c =
    held-more typed_as plain_ty c.args.args.now c.loop-arg.arg-index c.arg-item.result c.in_ok-copied-in-Some.field-0 c.loop-arg.types c.push.new.self (each typed_as c.args.args.now) c.loop-arg.invariant c.loop-arg-test.true c.arg-item.is
    (sym c.valued.ensures ∙ (ap (λ o. plain_type_if (option_copied o)) c.in-Some.is ∙ ap Some (sym c.in_ok-copied-in-Some.ensures))) c.in_ok-push-in-Some.ensures.ok

pub returns-in-None : goal.returns-in-None
returns-in-None c =
    slice-stop typed_as c.args.args.now c.loop-arg.arg-index c.arg-item.result (map plain_ty c.loop-arg.types) (each typed_as c.args.args.now) c.loop-arg.invariant c.loop-arg-test.true c.arg-item.is
    (sym c.valued.ensures ∙ ap (λ o. plain_type_if (option_copied o)) c.in-None.is) ∙ sym (argument_types-each c.args.args.now)

pub returns : goal.returns
returns c =
    slice-end typed_as c.args.args.now c.loop-arg.arg-index (map plain_ty c.loop-arg.types) (each typed_as c.args.args.now) c.loop-arg.invariant c.loop-arg-test.false ∙ sym (argument_types-each c.args.args.now)
