use Rattle.std.proofs.Common.{◌≡◌, ◌∙◌, ◌++◌, sym, ap, length, map}
use Rattle.std.proofs.lemmas.Result.{IfOk-weaker}
use Rattle.hl_meaning.specs.Views.{plain_ty}
use Rattle.hl_parser.specs.Views.{plain_of}
use Rattle.hl_rules.specs.DeclarationRules.{leaves_of}
use Rattle.hl_rules.specs.Elaboration.{leaf_word}
use Rattle.hl_values.specs.ScopeViews.{scope_of}
use Rattle.hl_types.specs.Kinds.{type_kinds}
use Rattle.hl_types.proofs.LeafLemmas.{kinds_if-count, kinds_if-is, words-listed, words-none}
use Rattle.hl_types.proofs.constant_words.brace_words.Goals as goal

pub words_in_kinds-requires : goal.words_in_kinds-requires
words_in_kinds-requires c =
    let kinds = type_kinds c.args.scope.now.structs (plain_ty c.args.ty.now) in
    let count : length c.in-Some.kinds ≡ c.len.result = kinds_if-count c.len.result kinds c.in-Some.kinds (sym c.in-Some.is ∙ c.in_ok-kinds.ensures) in
    ap (λ l. length l) c.as_slice.ensures.value ∙ (count ∙ (c.len.ensures.value ∙ ap (λ l. length l) (sym c.as_slice-2.ensures.value)))

pub returns-in_default : goal.returns-in_default
returns-in_default c =
    let s = scope_of c.args.scope.now in
    let leaves = leaves_of (plain_of c.args.tree.now) in
    words-none s (type_kinds c.args.scope.now.structs (plain_ty c.args.ty.now)) c.add_words.new.words leaves c.len.result c.len.ensures.value
    (c.in_ok-add_words.ensures ∙ ap (λ l. l ++ map (leaf_word s) leaves) c.new-words.ensures) (sym c.in_default.is ∙ c.in_ok-kinds.ensures)

pub returns : goal.returns
returns c =
    let s = scope_of c.args.scope.now in
    let kinds = type_kinds c.args.scope.now.structs (plain_ty c.args.ty.now) in
    let leaves = leaves_of (plain_of c.args.tree.now) in
    let listed : c.as_slice.result.now ≡ kinds = c.as_slice.ensures.value ∙ kinds_if-is c.len.result kinds c.in-Some.kinds (sym c.in-Some.is ∙ c.in_ok-kinds.ensures) in
    let are : c.as_slice-2.result.now ≡ map (leaf_word s) leaves = c.as_slice-2.ensures.value ∙ (c.in_ok-add_words.ensures ∙ ap (λ l. l ++ map (leaf_word s) leaves) c.new-words.ensures) in
    IfOk-weaker c.words_in_kinds.result _ _ (λ made is. is ∙ words-listed s kinds c.as_slice.result.now c.as_slice-2.result.now leaves listed are) c.words_in_kinds.ensures
