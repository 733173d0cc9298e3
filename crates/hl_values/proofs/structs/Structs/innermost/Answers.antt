use Rattle.std.proofs.Common.{◌∙◌, ap, option_map, slice_get}
use Rattle.hl_values.specs.Innermost.{innermosts}
use Rattle.hl_values.proofs.StructLemmas.{innermost-at}
use Rattle.hl_values.proofs.structs.Structs.innermost.Goals as goal

pub returns : goal.returns
returns c =
    ap (λ o. option_map (λ d. d.innermost) o) c.in_ok-info.ensures.value ∙
    (innermost-at c.self.inside.list c.self.invariant.1 c.args.number ∙ ap (λ l. slice_get (innermosts l) c.args.number) c.self.view_is)
