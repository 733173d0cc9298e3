use Rattle.std.proofs.Common.{◌∙◌, sym, ap}
use Rattle.std.specs.Prelude.{option_map}
use Rattle.hl_meaning.specs.Views.{plain_location}
use Rattle.hl_values.specs.Views.{plain_code}
use Rattle.hl_values.proofs.CallLemmas.{place-passed}
use Rattle.hl_values.proofs.calls.place_passed.Goals as goal

pub returns-in-Some : goal.returns-in-Some
returns-in-Some c =
    place-passed (plain_code c.args.code) c.in-Some.place c.into_inner.result c.into_inner.ensures
    (sym (ap (option_map plain_location) c.in-Some.is) ∙ c.place.ensures)
