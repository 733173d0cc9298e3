use Rattle.std.proofs.Common.{◌∙◌, sym, ap}
use Rattle.hl_parser.specs.Views.{plain_trees}
use Rattle.hl_rules.specs.Elaboration.{thread_numbers}
use Rattle.hl_values.specs.ScopeViews.{scope_of}
use Rattle.hl_types.proofs.ThreadLemmas.{fits_group, have_threads-are, three-fits}
use Rattle.hl_types.proofs.threads.have_threads.Goals as goal

pub returns-in-Some : goal.returns-in-Some
returns-in-Some c =
    let s = scope_of c.args.scope.now in
    let trees = plain_trees c.args.arguments.now in
    c.is_group_size.ensures ∙ sym (have_threads-are s trees ∙ three-fits (thread_numbers s trees) c.in-Some.sizes (sym c.three_numbers.ensures ∙ c.in-Some.is))

pub returns-in-None : goal.returns-in-None
returns-in-None c =
    let s = scope_of c.args.scope.now in
    let trees = plain_trees c.args.arguments.now in
    sym (have_threads-are s trees ∙ ap fits_group (sym c.three_numbers.ensures ∙ c.in-None.is))
