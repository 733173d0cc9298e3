use Rattle.std.proofs.Common.{◌∙◌, sym, ap}
use Rattle.hl_parser.specs.Trees.{a_primary, absent}
use Rattle.hl_parser.specs.Views.{plain_maybe, plain_of}
use Rattle.hl_parser.proofs.Plain.{plain-Primary}
use Rattle.hl_rules.specs.Values.{buffer_named}
use Rattle.hl_values.specs.ScopeViews.{scope_of}
use Rattle.hl_types.proofs.IndexLemmas.{named-other, named-part}
use Rattle.hl_types.proofs.indexes.buffer_named.Goals as goal

pub returns-in-Some : goal.returns-in-Some
returns-in-Some c =
    named-part (scope_of c.args.scope.now) c.in-Primary.at (plain_of c.in-Some.field-0) (plain_maybe c.in-Primary.arguments) ∙
    sym (ap (buffer_named (scope_of c.args.scope.now)) (ap plain_of c.in-Primary.is ∙
    (plain-Primary c.in-Primary.at c.in-Primary.part c.in-Primary.arguments ∙ ap (λ p. a_primary c.in-Primary.at (plain_maybe p) (plain_maybe c.in-Primary.arguments)) c.in-Some.is)))

pub returns-in-Some-arguments : goal.returns-in-Some-arguments
returns-in-Some-arguments c =
    sym (ap (buffer_named (scope_of c.args.scope.now)) (ap plain_of c.in-Primary.is ∙
    (plain-Primary c.in-Primary.at c.in-Primary.part c.in-Primary.arguments ∙
    (ap (λ p. a_primary c.in-Primary.at (plain_maybe p) (plain_maybe c.in-Primary.arguments)) c.in-None.is ∙
    ap (λ a. a_primary c.in-Primary.at absent (plain_maybe a)) c.in-Some-arguments.is))))

pub returns-in-None-arguments : goal.returns-in-None-arguments
returns-in-None-arguments c =
    c.buffer_word.ensures ∙
    sym (ap (buffer_named (scope_of c.args.scope.now)) (ap plain_of c.in-Primary.is ∙
    (plain-Primary c.in-Primary.at c.in-Primary.part c.in-Primary.arguments ∙
    (ap (λ p. a_primary c.in-Primary.at (plain_maybe p) (plain_maybe c.in-Primary.arguments)) c.in-None.is ∙
    ap (λ a. a_primary c.in-Primary.at absent (plain_maybe a)) c.in-None-arguments.is))))

pub returns-in_default : goal.returns-in_default
returns-in_default c = named-other (scope_of c.args.scope.now) c.args.tree.now c.in_default.not-Primary
