-- What constructors are and break, and the components of their arguments, one after another.
use Rattle.std.proofs.Common.{◌≡◌, ◌∙◌, refl, sym, ap, ℕ, ◌+◌, ◌<◌, ◌≤◌, ◌==◌, List, [], ◌∷◌, drop, length, get_or, map, Option, None, Some}
use Rattle.std.specs.List.{fold}
use Rattle.std.specs.Prelude.{not, option_and_then, option_map}
use Rattle.std.proofs.lemmas.List.{at_drop_all, at_drop_more}
use Rattle.hl_meaning.specs.Types.{Ty, component_count}
use Rattle.hl_parser.specs.Trees.{Tree, a_primary, present}
use Rattle.hl_rules.specs.declared.found.Broken.{Broken}
use Rattle.hl_rules.specs.Constants.{basic_type}
use Rattle.hl_rules.specs.ExpressionRules.{argument_trees, is_other_sum}
use Rattle.hl_rules.specs.Expressions.{argument_codes, constructor_code}
use Rattle.hl_rules.specs.Parts.{a_constructor, site}
use Rattle.hl_rules.specs.Rules.{noted}
use Rattle.hl_rules.specs.Scopes.{Scope}
use Rattle.hl_rules.specs.Sites.{argument_sites, expression_sites}
use Rattle.hl_rules.specs.Values as values
use Rattle.hl_rules.specs.Values.{argument_types}
use Rattle.hl_rules.proofs.Noting.{noted-append, noted-constructor}
use Rattle.hl_values.specs.declared.typed.Typed.{Typed}
use Rattle.hl_values.specs.Arguments.{plain_codes, typed_as}
use Rattle.hl_values.specs.Known.{plain_known}
use Rattle.hl_values.specs.Noted.{noted_if}
use Rattle.hl_values.specs.TypedViews.{IsTyped}
use Rattle.hl_values.specs.Views.{plain_value}
use Rattle.hl_values.proofs.ExpressionLemmas.{known-typed}
use Rattle.hl_types.specs.Arguments.{AreTyped, behind_arguments}
use Rattle.hl_types.specs.Calls.{constructor_known, is_other_constructor}
use Rattle.hl_types.proofs.ArgumentLemmas.{arguments-typed, behind-code}

-- the components of some types, on top of others
abbrev pub components_on : (before : ℕ) → Option (List Ty) → Option ℕ
components_on before types = option_map (λ l. fold (λ a x. a + x) before (map component_count l)) types

on-more : (before : ℕ) (ty : Ty) (types : Option (List Ty)) → components_on before (option_map (λ l. ty ∷ l) types) ≡ components_on (before + component_count ty) types
on-more before ty None = refl
on-more before ty (Some types) = refl

pub components-more : (args : List Typed) (i : ℕ) (arg : Typed) (ty : Ty) (before after : ℕ) (whole : Option ℕ) → components_on before (argument_types (map plain_value (drop i args))) ≡ whole → i < length args → arg ≡ get_or args i arg → typed_as arg ≡ Some ty → after ≡ before + component_count ty → components_on after (argument_types (map plain_value (drop (i + 1) args))) ≡ whole
components-more args i arg ty before after whole inv within at is next =
    ap (λ n. components_on n (argument_types (map plain_value (drop (i + 1) args)))) next ∙
    (sym (on-more before ty (argument_types (map plain_value (drop (i + 1) args)))) ∙
    (ap (λ o. components_on before (option_and_then (λ t. option_map (λ l. t ∷ l) (argument_types (map plain_value (drop (i + 1) args)))) o)) (sym is) ∙
    (ap (λ (a : Typed). components_on before (argument_types (map plain_value (a ∷ drop (i + 1) args)))) at ∙
    (sym (at_drop_more (λ l. components_on before (argument_types (map plain_value l))) args i arg within) ∙ inv))))

pub components-end : (args : List Typed) (i before : ℕ) (whole : Option ℕ) → components_on before (argument_types (map plain_value (drop i args))) ≡ whole → length args ≤ i → Some before ≡ whole
components-end args i before whole inv past =
    sym (at_drop_all (λ l. components_on before (argument_types (map plain_value l))) args i past) ∙ inv

pub other-sum : (count all : ℕ) (types : Option (List Ty)) → Some all ≡ components_on 0 types → not (all == count) ≡ is_other_sum count types
other-sum count all None e = absurd (cc e)
other-sum count all (Some types) e =
    let same : all ≡ fold (λ a x. a + x) 0 (map component_count types) = cc e in
    ap (λ n. not (n == count)) same

-- ---- whole constructors

pub constructor-typed : (s : Scope) (at : ℕ) (basic a : Tree) (args : List Typed) (inner t : Typed) (ty : Ty) → AreTyped s (argument_trees a) args → ty ≡ basic_type s basic →
    plain_known inner ≡ constructor_known at ty (plain_codes args) → plain_known t ≡ behind_arguments a (plain_known inner) → IsTyped s (a_primary at (present basic) (present a)) t
constructor-typed s at basic a args inner t ty typed is h e =
    known-typed s (a_primary at (present basic) (present a)) t
    (e ∙ (ap (behind_arguments a) h ∙
    (behind-code s a args typed (values.plain_value (Some ty)) (λ l. constructor_code at ty l) ∙
    ap (λ u. constructor_known at u (argument_codes s a)) is)))

pub constructor-found : (f old new : Option Broken) (s : Scope) (at : ℕ) (basic a : Tree) (args : List Typed) (ty : Ty) → AreTyped s (argument_trees a) args → ty ≡ basic_type s basic →
    old ≡ noted f (argument_sites s a) → new ≡ noted_if old 33 (is_other_constructor ty (map plain_value args)) at → new ≡ noted f (expression_sites s (a_primary at (present basic) (present a)))
constructor-found f old new s at basic a args ty typed is before e =
    e ∙ (ap (λ u. noted_if old 33 (is_other_constructor u (map plain_value args)) at) is ∙
    (ap (λ v. noted_if old 33 (is_other_constructor (basic_type s basic) v) at) (sym (arguments-typed s a args typed)) ∙
    (sym (noted-constructor old s at basic a) ∙
    (ap (λ g. noted g (site s (a_constructor at basic a) ∷ [])) before ∙ sym (noted-append f (argument_sites s a) (site s (a_constructor at basic a) ∷ []))))))
