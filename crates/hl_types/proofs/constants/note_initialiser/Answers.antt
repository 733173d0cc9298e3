use Rattle.std.proofs.Common.{◌∙◌, sym, ap, ◌∷◌, []}
use Rattle.hl_parser.specs.Views.{plain_of}
use Rattle.hl_rules.specs.Parts.{a_constant_init, site}
use Rattle.hl_rules.specs.Rules.{noted}
use Rattle.hl_rules.specs.Sites.{init_sites}
use Rattle.hl_rules.proofs.Noting.{noted-append}
use Rattle.hl_values.specs.ScopeViews.{scope_of}
use Rattle.hl_values.specs.Views.{plain_type_if}
use Rattle.hl_types.proofs.constants.note_initialiser.Goals as goal

pub returns : goal.returns
returns c =
    let s = scope_of c.args.scope.now in
    let tree = plain_of c.args.tree.now in
    c.note_constant_init.ensures ∙ (ap (λ f. noted f (site s (a_constant_init tree) ∷ [])) c.in_ok-init.ensures.found ∙
    sym (noted-append c.args.found.now (init_sites s (plain_type_if c.args.ty.now) tree) (site s (a_constant_init tree) ∷ [])))
