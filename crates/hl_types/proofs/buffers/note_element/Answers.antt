use Rattle.std.proofs.Common.{◌∙◌, sym, ap, option_map}
use Rattle.hl_parser.specs.Trees.{a_kind, present}
use Rattle.hl_parser.specs.Views.{plain_maybe, plain_of}
use Rattle.hl_parser.proofs.Plain.{plain-Kind}
use Rattle.hl_rules.specs.Constants.{named_type}
use Rattle.hl_rules.specs.Rules.{noted}
use Rattle.hl_rules.specs.Scopes.{words_if}
use Rattle.hl_rules.specs.Sites.{element_sites}
use Rattle.hl_rules.proofs.Noting.{noted-none}
use Rattle.hl_values.specs.ScopeViews.{scope_of}
use Rattle.hl_values.specs.WordCounts.{counted}
use Rattle.hl_types.proofs.BufferLemmas.{element-noted, no_kind}
use Rattle.hl_types.proofs.buffers.note_element.Goals as goal

pub returns-in-Some : goal.returns-in-Some
returns-in-Some c =
    let s = scope_of c.args.scope.now in
    let type = plain_of c.get-ty.result.now in
    element-noted s c.in-Kind.at type c.args.found.now c.note_type.new.found c.note_if.new.found c.is_more.result c.at.result c.note_type.ensures
    (c.is_more.ensures (words_if s.structs (named_type s type)) (c.words_if-words.ensures ∙ ap (λ ty. option_map counted (words_if s.structs ty)) c.named_type.ensures)) c.at.ensures c.note_if.ensures ∙
    (ap (λ x. noted c.args.found.now (element_sites s (a_kind c.in-Kind.at (present (plain_of x))))) c.get-ty.ensures ∙
    sym (ap (λ x. noted c.args.found.now (element_sites s x)) (ap plain_of c.in-Kind.is ∙ (plain-Kind c.in-Kind.at c.in-Kind.element ∙ ap (λ o. a_kind c.in-Kind.at (plain_maybe o)) c.in-Some.is))))

pub returns-in-None : goal.returns-in-None
returns-in-None c =
    sym (ap (λ x. noted c.args.found.now (element_sites (scope_of c.args.scope.now) x)) (ap plain_of c.in-Kind.is ∙ (plain-Kind c.in-Kind.at c.in-Kind.element ∙ ap (λ o. a_kind c.in-Kind.at (plain_maybe o)) c.in-None.is)) ∙ noted-none c.args.found.now)

pub returns-in_default : goal.returns-in_default
returns-in_default c =
    sym (ap (noted c.args.found.now) (no_kind (scope_of c.args.scope.now) c.args.kind.now c.in_default.not-Kind).found ∙ noted-none c.args.found.now)
