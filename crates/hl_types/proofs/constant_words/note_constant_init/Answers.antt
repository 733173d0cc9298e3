use Rattle.std.proofs.Common.{◌∙◌, not, sym, ap}
use Rattle.hl_parser.specs.Views.{plain_of}
use Rattle.hl_rules.specs.DeclarationRules.{is_constant_init}
use Rattle.hl_rules.specs.Found.{breaking, broken_if, gathered}
use Rattle.hl_rules.proofs.Noting.{noted-constant_init}
use Rattle.hl_values.specs.ScopeViews.{scope_of}
use Rattle.hl_types.proofs.constant_words.note_constant_init.Goals as goal

pub returns : goal.returns
returns c =
    let s = scope_of c.args.scope.now in
    let f = c.args.found.now in
    let tree = plain_of c.args.tree.now in
    c.note_if.ensures ∙ (ap (λ b. gathered f (breaking 9 (broken_if (not b) c.at.result))) c.is_constant_init.ensures ∙
    (ap (λ a. gathered f (breaking 9 (broken_if (not (is_constant_init s tree)) a))) c.at.ensures ∙ sym (noted-constant_init f s tree)))
