use Rattle.std.proofs.Common.{◌∙◌, ap, ◌++◌}
use Rattle.hl_meaning.specs.Views.{plain_location}
use Rattle.hl_inline.specs.LastCalls.{place_path}
use Rattle.hl_inline.proofs.searching.path_to_call_in_place.Goals as goal

pub returns : goal.returns
returns c = c.in_ok-find_in_place.ensures.0 ∙ ap (λ l. l ++ place_path (plain_location c.args.place.now)) c.new-numbers.ensures
