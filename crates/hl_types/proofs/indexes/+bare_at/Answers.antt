use Rattle.std.proofs.Common.{◌∙◌, sym, ap}
use Rattle.hl_parser.specs.declared.tree.Tree.{Tree}
use Rattle.hl_parser.specs.Trees.{a_primary, absent}
use Rattle.hl_parser.specs.Views.{plain_maybe, plain_of}
use Rattle.hl_parser.proofs.Plain.{plain-Primary}
use Rattle.hl_rules.specs.Expressions.{bare_at}
use Rattle.hl_types.proofs.IndexLemmas.{bare-called, bare-other}
use Rattle.hl_types.proofs.indexes.+bare_at.Goals as goal

pub returns-in-Some : goal.returns-in-Some
returns-in-Some t c =
    bare-called c.in-Primary.at (plain_maybe c.in-Primary.part) (plain_of c.in-Some.field-0) ∙
    sym (ap bare_at (ap plain_of c.in-Primary.is ∙
    (plain-Primary c.in-Primary.at c.in-Primary.part c.in-Primary.arguments ∙ ap (λ a. a_primary c.in-Primary.at (plain_maybe c.in-Primary.part) (plain_maybe a)) c.in-Some.is)))

pub returns-in-Some-part : goal.returns-in-Some-part
returns-in-Some-part t c =
    c.bare_at.ensures ∙ (ap (λ (x : Tree). bare_at (plain_of x)) c.get.ensures ∙
    sym (ap bare_at (ap plain_of c.in-Primary.is ∙
    (plain-Primary c.in-Primary.at c.in-Primary.part c.in-Primary.arguments ∙
    (ap (λ a. a_primary c.in-Primary.at (plain_maybe c.in-Primary.part) (plain_maybe a)) c.in-None.is ∙
    ap (λ p. a_primary c.in-Primary.at (plain_maybe p) absent) c.in-Some-part.is)))))

pub returns-in-None-part : goal.returns-in-None-part
returns-in-None-part t c =
    sym (ap bare_at (ap plain_of c.in-Primary.is ∙
    (plain-Primary c.in-Primary.at c.in-Primary.part c.in-Primary.arguments ∙
    (ap (λ a. a_primary c.in-Primary.at (plain_maybe c.in-Primary.part) (plain_maybe a)) c.in-None.is ∙
    ap (λ p. a_primary c.in-Primary.at (plain_maybe p) absent) c.in-None-part.is))))

pub returns-in_default : goal.returns-in_default
returns-in_default t c = c.at.ensures ∙ bare-other c.args.tree.now c.in_default.not-Primary
