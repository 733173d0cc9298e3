use Rattle.std.proofs.Common.{◌∙◌, sym, ap, map}
use Rattle.std.specs.Prelude.{option_map}
use Rattle.hl_meaning.specs.Views.{plain_ty}
use Rattle.hl_values.specs.Views.{plain_value}
use Rattle.hl_values.proofs.ArgumentLemmas.{interlocked-gives}
use Rattle.hl_values.proofs.intrinsic_calls.intrinsic_type.Goals as goal

pub returns-then-atomic_fits : goal.returns-then-atomic_fits
returns-then-atomic_fits c =
    interlocked-gives c.args.number (map plain_value c.args.args.now) (map plain_ty c.in-Some.types) c.in-Some-interlocked_form.form
    (sym (ap (option_map (map plain_ty)) c.in-Some.is) ∙ c.in_ok-types.ensures) (sym c.in-Some-interlocked_form.is ∙ c.interlocked_form.ensures)
    (sym c.if-atomic_fits.true ∙ c.atomic_fits.ensures)
