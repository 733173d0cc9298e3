use Rattle.std.proofs.Common.{◌∙◌, sym, ap, ap₂, [], ◌∷◌}
use Rattle.hl_lexer.specs.Scanning.{number_or_none}
use Rattle.hl_lexer.proofs.MarkFacts.{other_second, other_third, single_below, single_first}
use Rattle.hl_lexer.proofs.mark.mark_of_three.Goals as goal

pub twice_with_equals-requires : goal.twice_with_equals-requires
twice_with_equals-requires c = single_below c.args.first c.args.single c.requires

pub returns-then-third-ne61 : goal.returns-then-third-ne61
returns-then-third-ne61 c = sym (other_third c.args.first c.args.second c.args.third c.if-third-ne61.true)

pub returns-then-second-first : goal.returns-then-second-first
returns-then-second-first c = sym (other_second c.args.first c.args.second c.args.third c.if-second-first.true)

pub returns : goal.returns
returns c =
    let first = single_first c.args.first c.args.single c.requires in
    c.twice_with_equals.ensures
    ∙ (ap₂ (λ a b. number_or_none (a ∷ b ∷ 61 ∷ [])) first (first ∙ sym c.if-second-first.false)
    ∙ ap (λ d. number_or_none (c.args.first ∷ c.args.second ∷ d ∷ [])) (sym c.if-third-ne61.false))
