use Rattle.std.proofs.Common.{◌∙◌, None, Some, sym, ap, map, option_map}
use Rattle.std.proofs.lemmas.Result.{IfOk-weaker}
use Rattle.hl_meaning.specs.Views.{plain_ty}
use Rattle.hl_parser.specs.Views.{plain_of}
use Rattle.hl_rules.specs.DeclarationRules.{leaves_of}
use Rattle.hl_rules.specs.Elaboration.{init_words, leaf_word, leaf_words, word_in}
use Rattle.hl_values.specs.ScopeViews.{scope_of}
use Rattle.hl_types.specs.Kinds.{type_kinds}
use Rattle.hl_types.proofs.InitShapes.{init-tree, no_init}
use Rattle.hl_types.proofs.constant_words.init_words.Goals as goal

pub returns-in-Some : goal.returns-in-Some
returns-in-Some c =
    let s = scope_of c.args.scope.now in
    let kinds = type_kinds c.args.scope.now.structs (plain_ty c.args.ty.now) in
    IfOk-weaker c.value_words.result _ _
    (λ made is.
    is ∙ (ap (λ x. option_map (λ word. map (λ kind. word_in kind word) kinds) (leaf_word s (plain_of x))) c.get.ensures ∙
    sym (ap (init_words s kinds) (init-tree c.args.tree.now c.in-Init.at c.in-Init.value (Some c.in-Some.value) c.in-Init.parts c.in-Init.is c.in-Some.is))))
    c.value_words.ensures

pub returns-in-None : goal.returns-in-None
returns-in-None c =
    let s = scope_of c.args.scope.now in
    let kinds = type_kinds c.args.scope.now.structs (plain_ty c.args.ty.now) in
    let tree = init-tree c.args.tree.now c.in-Init.at c.in-Init.value None c.in-Init.parts c.in-Init.is c.in-None.is in
    IfOk-weaker c.brace_words.result _ _ (λ made is. is ∙ (ap (λ t. leaf_words s kinds (leaves_of t)) tree ∙ sym (ap (init_words s kinds) tree))) c.brace_words.ensures

pub returns-in_default : goal.returns-in_default
returns-in_default c =
    let s = scope_of c.args.scope.now in
    let kinds = type_kinds c.args.scope.now.structs (plain_ty c.args.ty.now) in
    IfOk-weaker c.brace_words-in_default.result _ _ (λ made is. is ∙ sym ((no_init s c.args.tree.now c.in_default.not-Init).words kinds)) c.brace_words-in_default.ensures
