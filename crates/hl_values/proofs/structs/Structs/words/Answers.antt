use Rattle.std.proofs.Common.{◌∙◌, ap, option_map, option_and_then, slice_get}
use Rattle.hl_values.specs.StructTables.{plain_structs}
use Rattle.hl_values.specs.WordCounts.{counted}
use Rattle.hl_values.proofs.StructLemmas.{words-at}
use Rattle.hl_values.proofs.structs.Structs.words.Goals as goal

pub returns : goal.returns
returns c =
    ap (λ o. option_and_then (λ d. d.words) o) c.in_ok-info.ensures.value ∙
    (words-at c.self.inside.list c.self.invariant.0 c.args.number ∙
    ap (λ l. option_map counted (option_and_then (λ d. d.words) (slice_get (plain_structs l) c.args.number))) c.self.view_is)
