use Rattle.std.proofs.Common.{◌≡◌, ◌∙◌, [], None, Some, false, is_some, sym, ap, true, unwrap_or}
use Rattle.std.specs.Prelude.{option_and_then}
use Rattle.std.proofs.lemmas.Bool.{true≢false}
use Rattle.hl_meaning.specs.Layout.{kinds_of}
use Rattle.hl_meaning.specs.Views.{plain_ty}
use Rattle.hl_parser.specs.Views.{plain_of}
use Rattle.hl_rules.specs.Elaboration.{init_words}
use Rattle.hl_rules.specs.Statements.{struct_defs}
use Rattle.hl_values.specs.ScopeViews.{scope_of}
use Rattle.hl_values.specs.Views.{plain_type_if}
use Rattle.hl_types.proofs.LeafLemmas.{constant-words, scope-structs}
use Rattle.hl_types.proofs.constant_words.constant_words.Goals as goal

pub returns-then-is_some : goal.returns-then-is_some
returns-then-is_some c = λ e. let h : true ≡ false = c.if-is_some.ensures ∙ ap is_some e in absurd (true≢false h)

pub returns-in_default : goal.returns-in_default
returns-in_default c = λ e.
    let s = scope_of c.args.scope.now in
    c.new-in_default.ensures ∙
    sym (ap (λ o. unwrap_or (option_and_then (λ own. init_words s (kinds_of (struct_defs s.structs) own) (plain_of c.args.tree.now)) (plain_type_if o)) []) c.in_default.is)

pub returns-in-Some-2 : goal.returns-in-Some-2
returns-in-Some-2 c = λ e.
    constant-words (scope_of c.args.scope.now) c.args.scope.now.structs (plain_type_if c.args.ty.now) (plain_ty c.in-Some.ty) (Some c.in-Some-2.words) (plain_of c.args.tree.now)
    (scope-structs c.args.scope.now) (ap plain_type_if c.in-Some.is) (sym c.in-Some-2.is ∙ c.in_ok-words.ensures)

pub returns-in-None : goal.returns-in-None
returns-in-None c = λ e.
    c.new-in-None.ensures ∙
    constant-words (scope_of c.args.scope.now) c.args.scope.now.structs (plain_type_if c.args.ty.now) (plain_ty c.in-Some.ty) None (plain_of c.args.tree.now)
    (scope-structs c.args.scope.now) (ap plain_type_if c.in-Some.is) (sym c.in-None.is ∙ c.in_ok-words.ensures)
