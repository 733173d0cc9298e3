use Rattle.std.proofs.Common.{◌∙◌, sym, ap₂, [], ◌∷◌}
use Rattle.hl_lexer.specs.Scanning.{number_or_none}
use Rattle.hl_lexer.proofs.MarkFacts.{other_two, single_below, single_first}
use Rattle.hl_lexer.proofs.mark.mark_of_two.Goals as goal

pub with_equals-requires : goal.with_equals-requires
with_equals-requires c = single_below c.args.first c.args.single c.requires

pub twice_of-requires : goal.twice_of-requires
twice_of-requires c = single_below c.args.first c.args.single c.requires

pub returns-then-second-eq61 : goal.returns-then-second-eq61
returns-then-second-eq61 c =
    c.with_equals.ensures ∙ ap₂ (λ a b. number_or_none (a ∷ b ∷ [])) (single_first c.args.first c.args.single c.requires) (sym c.if-second-eq61.true)

pub returns-then-second-first : goal.returns-then-second-first
returns-then-second-first c =
    let first = single_first c.args.first c.args.single c.requires in
    c.twice_of.ensures ∙ ap₂ (λ a b. number_or_none (a ∷ b ∷ [])) first (first ∙ sym c.if-second-first.true)

pub returns-else-second-first : goal.returns-else-second-first
returns-else-second-first c = sym (other_two c.args.first c.args.second c.if-second-eq61.false c.if-second-first.false)
