use Rattle.std.proofs.Common.{◌∙◌, ap, ◌++◌, ◌∷◌, [], map}
use Rattle.std.proofs.lemmas.List.{map-append}
use Rattle.hl_meaning.specs.Views.{plain_constant}
use Rattle.hl_parser.specs.Views.{plain_of}
use Rattle.hl_rules.specs.Declarations.{constant_value}
use Rattle.hl_values.specs.ScopeViews.{scope_of}
use Rattle.hl_values.specs.Views.{plain_type_if}
use Rattle.hl_types.proofs.DeclaredItems.{constant-behind, constant-made, constant-noted, known_constant}
use Rattle.hl_types.proofs.constants.constant.Goals as goal

pub returns-clause-scope : goal.returns-clause-scope
returns-clause-scope c =
    let s = scope_of c.args.scope.now in
    let init = plain_of c.args.tree.now in
    c.in_ok-declare_constant.ensures.scope ∙
    constant-behind s (plain_of c.args.name.now) init c.at-at.result _ (plain_type_if c.in_ok-known.known) c.constant_value-number.result c.at-at.ensures (c.in_ok-known.ensures ∙ c.in_ok-own.ensures.own)
    (c.constant_value-number.ensures ∙ ap (λ o. constant_value s o init) c.in_ok-own.ensures.own)

pub returns-clause-found : goal.returns-clause-found
returns-clause-found c =
    let s = scope_of c.args.scope.now in
    let init = plain_of c.args.tree.now in
    let own = plain_type_if c.in_ok-own.own in
    constant-noted s (plain_of c.args.ty.now) (plain_of c.args.name.now) init own c.args.found.now c.constant_type.new.found _
    c.in_ok-own.ensures.own c.in_ok-own.ensures.found c.in_ok-note_initialiser.ensures

pub returns-clause-made : goal.returns-clause-made
returns-clause-made c = λ none.
    let s = scope_of c.args.scope.now in
    let own = plain_type_if c.in_ok-own.own in
    let init = plain_of c.args.tree.now in
    let words = c.in_ok-words.words in
    let made = map plain_constant c.args.made.now in
    ap (map plain_constant) c.in_ok-push.ensures.ok ∙
    (map-append plain_constant c.args.made.now _ ∙
    (ap (λ v. made ++ known_constant v words ∷ []) c.in_ok-variable.ensures ∙
    ap (λ l. made ++ l) (constant-made s (plain_of c.args.ty.now) (plain_of c.args.name.now) init c.at-at.result own words c.at-at.ensures c.in_ok-own.ensures.own (c.in_ok-words.ensures none))))
