use Rattle.std.proofs.Common.{◌∙◌, sym, ap}
use Rattle.hl_parser.specs.Trees.{a_result}
use Rattle.hl_parser.specs.Views.{plain_maybe, plain_of}
use Rattle.hl_parser.proofs.Plain.{plain-Result}
use Rattle.hl_rules.specs.Rules.{noted}
use Rattle.hl_rules.specs.Sites.{result_sites, type_sites}
use Rattle.hl_rules.proofs.Noting.{noted-none}
use Rattle.hl_values.specs.ScopeViews.{scope_of}
use Rattle.hl_types.proofs.AttributeLemmas.{result_sites-none}
use Rattle.hl_types.proofs.function_attributes.note_result.Goals as goal

pub returns-in-Some : goal.returns-in-Some
returns-in-Some c =
    let s = scope_of c.args.scope.now in
    c.note_type.ensures ∙ (ap (λ t. noted c.args.found.now (type_sites s (plain_of t))) c.get.ensures ∙
    sym (ap (λ x. noted c.args.found.now (result_sites s x)) (ap plain_of c.in-Result.is ∙ (plain-Result c.in-Result.at c.in-Result.ty ∙ ap (λ o. a_result c.in-Result.at (plain_maybe o)) c.in-Some.is))))

pub returns-in-None : goal.returns-in-None
returns-in-None c =
    let s = scope_of c.args.scope.now in
    sym (ap (λ x. noted c.args.found.now (result_sites s x)) (ap plain_of c.in-Result.is ∙ (plain-Result c.in-Result.at c.in-Result.ty ∙ ap (λ o. a_result c.in-Result.at (plain_maybe o)) c.in-None.is)) ∙ noted-none c.args.found.now)

pub returns-in_default : goal.returns-in_default
returns-in_default c =
    sym (ap (noted c.args.found.now) (result_sites-none (scope_of c.args.scope.now) c.args.gives.now c.in_default.not-Result) ∙ noted-none c.args.found.now)
