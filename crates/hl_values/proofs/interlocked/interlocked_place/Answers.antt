use Rattle.std.proofs.Common.{◌≡◌, ◌∙◌, sym, ap, Some}
use Rattle.std.specs.Prelude.{option_map}
use Rattle.hl_meaning.specs.Views.{plain_location, plain_ty}
use Rattle.hl_rules.specs.Nodes.{place_of_code}
use Rattle.hl_values.specs.Atomics.{plain_operands}
use Rattle.hl_values.specs.Views.{plain_code}
use Rattle.hl_values.proofs.AtomicLemmas.{ok_along, place-behind}
use Rattle.hl_values.proofs.interlocked.interlocked_place.Goals as goal

pub returns-in_ok-ty-in-Some : goal.returns-in_ok-ty-in-Some
returns-in_ok-ty-in-Some c =
    ok_along c.interlocked.result _ _ c.interlocked.ensures
    (place-behind c.args.at c.args.form (plain_operands c.args.operands) c.into_inner-place.result c.in_ok-ty-in-Some.ty (place_of_code (plain_code c.args.target))
    (ap (λ x. option_map plain_location (Some x)) c.into_inner-place.ensures ∙ (sym (ap (option_map plain_location) c.in-Some.is) ∙ c.place.ensures)) c.in_ok-ty-in-Some.ensures)
