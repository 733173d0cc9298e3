use Rattle.std.proofs.Common.{◌∙◌, ◌++◌, ap, map}
use Rattle.hl_meaning.specs.Views.{plain_ty}
use Rattle.hl_parser.specs.Trees.{absent, an_init}
use Rattle.hl_parser.specs.Views.{plain_trees}
use Rattle.hl_rules.specs.DeclarationRules.{leaves_among}
use Rattle.hl_rules.specs.Expressions.{code_of}
use Rattle.hl_rules.specs.Statements.{init_code}
use Rattle.std.specs.Prelude.{option_and_then}
use Rattle.std.proofs.Common.{sym}
use Rattle.hl_values.specs.ScopeViews.{scope_of}
use Rattle.hl_values.specs.Views.{plain_code_if, plain_type_if}
use Rattle.hl_types.proofs.LeafLemmas.{brace-noted, built-init, count-codes, scope-structs, whenever}
use Rattle.hl_types.proofs.braces.brace_init.Goals as goal

pub returns-in-Some-clause-code : goal.returns-in-Some-clause-code
returns-in-Some-clause-code c =
    let s = scope_of c.args.scope.now in
    let parts = plain_trees c.args.parts.now in
    built-init c.built_if.result s c.args.scope.now.structs (plain_ty c.in-Some.ty) (plain_type_if c.args.ty.now) c.args.at parts (map plain_code_if c.note_leaves.new.leaves.codes.items)
    (scope-structs c.args.scope.now) (ap plain_type_if c.in-Some.is)
    (c.in_ok-note_leaves.ensures.codes ∙ ap (λ l. map plain_code_if l ++ map (code_of s) (leaves_among parts)) c.new.ensures.items) c.built_if.ensures

pub returns-in-Some-clause-found : goal.returns-in-Some-clause-found
returns-in-Some-clause-found c =
    let s = scope_of c.args.scope.now in
    let parts = plain_trees c.args.parts.now in
    whenever c.built_if.result
    (c.note_count.ensures ∙ brace-noted c.args.found.now c.note_leaves.new.found s (plain_type_if c.args.ty.now) c.args.at _ _ parts
    (count-codes s c.note_leaves.new.leaves.codes.items (leaves_among parts)
    (c.in_ok-note_leaves.ensures.codes ∙ ap (λ l. map plain_code_if l ++ map (code_of s) (leaves_among parts)) c.new.ensures.items))
    c.in_ok-note_leaves.ensures.other c.in_ok-note_leaves.ensures.found)

pub returns-in-None-clause-code : goal.returns-in-None-clause-code
returns-in-None-clause-code c =
    sym (ap (λ o. option_and_then (λ own. init_code (scope_of c.args.scope.now) own (an_init c.args.at absent (plain_trees c.args.parts.now))) (plain_type_if o)) c.in-None.is)

pub returns-in-None-clause-found : goal.returns-in-None-clause-found
returns-in-None-clause-found c =
    let s = scope_of c.args.scope.now in
    let parts = plain_trees c.args.parts.now in
    c.note_count.ensures ∙ brace-noted c.args.found.now c.note_leaves.new.found s (plain_type_if c.args.ty.now) c.args.at _ _ parts
    (count-codes s c.note_leaves.new.leaves.codes.items (leaves_among parts)
    (c.in_ok-note_leaves.ensures.codes ∙ ap (λ l. map plain_code_if l ++ map (code_of s) (leaves_among parts)) c.new.ensures.items))
    c.in_ok-note_leaves.ensures.other c.in_ok-note_leaves.ensures.found
