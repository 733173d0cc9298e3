use Rattle.std.proofs.Common.{◌∙◌, Some, sym, ap, map, option_map}
use Rattle.hl_meaning.specs.Views.{plain_ty}
use Rattle.hl_rules.specs.Elaboration.{word_in}
use Rattle.hl_types.specs.Kinds.{type_kinds}
use Rattle.hl_types.proofs.constant_words.value_words.Goals as goal

pub returns-in_default : goal.returns-in_default
returns-in_default c =
    let kinds = type_kinds c.args.scope.now.structs (plain_ty c.args.ty.now) in
    sym (ap (option_map (λ word. map (λ kind. word_in kind word) kinds)) (sym c.leaf_word.ensures ∙ c.in_default.is))

pub returns : goal.returns
returns c =
    let kinds = type_kinds c.args.scope.now.structs (plain_ty c.args.ty.now) in
    ap Some (c.in_ok-filled.ensures ∙ ap (map (λ kind. word_in kind c.in-Some.word)) (c.as_slice.ensures.value ∙ c.in_ok-kinds.ensures)) ∙
    sym (ap (option_map (λ word. map (λ kind. word_in kind word) kinds)) (sym c.leaf_word.ensures ∙ c.in-Some.is))
