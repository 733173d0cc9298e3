-- What calls of methods are and break.
use Rattle.std.proofs.Common.{◌≡◌, ◌∙◌, sym, ap, ℕ, List, [], ◌∷◌, ◌++◌, map, Option, Some}
use Rattle.std.specs.Prelude.{option_and_then}
use Rattle.std.proofs.lemmas.List.{append_assoc}
use Rattle.hl_parser.specs.Trees.{Tree, a_postfix, present}
use Rattle.hl_rules.specs.declared.found.Broken.{Broken}
use Rattle.hl_rules.specs.ExpressionRules.{argument_trees}
use Rattle.hl_rules.specs.Expressions.{argument_codes, first_at, first_number}
use Rattle.hl_rules.specs.Parts.{a_method_call, site}
use Rattle.hl_rules.specs.Rules.{noted}
use Rattle.hl_rules.specs.Scopes.{Scope, spelled}
use Rattle.hl_rules.specs.Sites.{argument_sites, buffer_or_used, expression_sites}
use Rattle.hl_rules.specs.Values.{arguments_of, buffer_named, method_type, plain_value}
use Rattle.hl_rules.proofs.Noting.{noted-append, noted-method_call}
use Rattle.hl_values.specs.declared.typed.Typed.{Typed}
use Rattle.hl_values.specs.Arguments.{plain_codes}
use Rattle.hl_values.specs.Known.{plain_known}
use Rattle.hl_values.specs.TypedViews.{IsTyped}
use Rattle.hl_values.specs.Views as views
use Rattle.hl_values.proofs.ExpressionLemmas.{known-typed}
use Rattle.hl_types.specs.Arguments.{AreTyped, behind_arguments, first_constant}
use Rattle.hl_types.specs.Calls.{buffer_code, buffer_of, method_known, method_noted}
use Rattle.hl_types.proofs.ArgumentLemmas.{arguments-typed, behind-code, first-typed, same-trees}

pub method-typed : (s : Scope) (at mark name : ℕ) (o a : Tree) (args : List Typed) (inner t : Typed) → AreTyped s (argument_trees a) args →
    plain_known inner ≡ method_known s at (buffer_named s o) (spelled s name) (first_at (argument_trees a)) (first_constant args) (map views.plain_value args) (plain_codes args) →
    plain_known t ≡ behind_arguments a (plain_known inner) → IsTyped s (a_postfix at o mark (Some name) (present a)) t
method-typed s at mark name o a args inner t typed h e =
    known-typed s (a_postfix at o mark (Some name) (present a)) t
    (e ∙ (ap (behind_arguments a) h ∙
    (behind-code s a args typed (plain_value (option_and_then (λ info. method_type info (spelled s name) (map views.plain_value args)) (buffer_of s (buffer_named s o))))
    (buffer_code s at (buffer_named s o) (spelled s name) (first_at (argument_trees a)) (first_constant args)) ∙
    (ap (λ n. method_known s at (buffer_named s o) (spelled s name) (first_at (argument_trees a)) n (map views.plain_value args) (argument_codes s a)) (sym (first-typed s (argument_trees a) args typed)) ∙
    (ap (λ v. method_known s at (buffer_named s o) (spelled s name) (first_at (argument_trees a)) (first_number s (argument_trees a)) v (argument_codes s a)) (sym (arguments-typed s a args typed)) ∙
    ap (λ l. method_known s at (buffer_named s o) (spelled s name) (first_at l) (first_number s l) (arguments_of s a) (argument_codes s a)) (sym (same-trees a)))))))

pub method-found : (f old new : Option Broken) (s : Scope) (at mark name : ℕ) (o a : Tree) (args : List Typed) → AreTyped s (argument_trees a) args →
    old ≡ noted f (buffer_or_used s o (expression_sites s o) ++ argument_sites s a) → new ≡ method_noted old s (buffer_named s o) name (map views.plain_value args) →
    new ≡ noted f (expression_sites s (a_postfix at o mark (Some name) (present a)))
method-found f old new s at mark name o a args typed before e =
    let place = site s (a_method_call o name a) ∷ [] in
    e ∙ (ap (λ v. method_noted old s (buffer_named s o) name v) (sym (arguments-typed s a args typed)) ∙
    (sym (noted-method_call old s o name a) ∙
    (ap (λ g. noted g place) before ∙
    (sym (noted-append f (buffer_or_used s o (expression_sites s o) ++ argument_sites s a) place) ∙
    ap (noted f) (append_assoc (buffer_or_used s o (expression_sites s o)) (argument_sites s a) place)))))
