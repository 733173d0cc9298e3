use Rattle.std.proofs.Common.{◌≡◌, ◌∙◌, sym, ap, ap₂, subst, [], ◌∷◌, take, slice_index}
use Rattle.hl_lexer.specs.Scanning.{number_or_none}
use Rattle.hl_lexer.specs.Tokens.{IsMark}
use Rattle.hl_lexer.proofs.MarkFacts.{at_most_one, at_most_three, at_most_two, front_of_three, front_of_two, one_is_mark, three_is_mark, three_within, two_is_mark, two_within}
use Rattle.hl_lexer.proofs.mark.longest_mark.Goals as goal
use Rattle.hl_lexer.proofs.mark.longest_mark.Goals.{After-mark_of_three-three, After-mark_of_two-two}

-- what was looked for
three : (c : After-mark_of_three-three) → c.mark_of_three-three.result ≡ number_or_none (front_of_three c.args.rest.now)
three c = c.mark_of_three-three.ensures ∙ ap₂ (λ a b. number_or_none (slice_index c.args.rest.now 0 ∷ a ∷ b ∷ [])) c.byte_at-second.ensures c.byte_at.ensures

two : (c : After-mark_of_two-two) → c.mark_of_two-two.result ≡ number_or_none (front_of_two c.args.rest.now)
two c = c.mark_of_two-two.ensures ∙ ap (λ b. number_or_none (slice_index c.args.rest.now 0 ∷ b ∷ [])) c.byte_at-second.ensures

pub returns-then-three-clause-within : goal.returns-then-three-clause-within
returns-then-three-clause-within c =
    let is = three (goal.at.returns-then-three-clause-within c).After-mark_of_three-three in
    three_within c.args.rest.now (λ e. c.if-three.true (is ∙ e))

pub returns-then-three-clause-mark : goal.returns-then-three-clause-mark
returns-then-three-clause-mark c =
    let is = three (goal.at.returns-then-three-clause-mark c).After-mark_of_three-three in
    subst (λ n. IsMark n (take 3 c.args.rest.now)) (sym is) (three_is_mark c.args.rest.now (λ e. c.if-three.true (is ∙ e)))

pub returns-then-three-clause-longest : goal.returns-then-three-clause-longest
returns-then-three-clause-longest c = λ n bytes after e mark. at_most_three n bytes mark

pub returns-then-two-clause-within : goal.returns-then-two-clause-within
returns-then-two-clause-within c =
    let is = two (goal.at.returns-then-two-clause-within c).After-mark_of_two-two in
    two_within c.args.rest.now (λ e. c.if-two.true (is ∙ e))

pub returns-then-two-clause-mark : goal.returns-then-two-clause-mark
returns-then-two-clause-mark c =
    let is = two (goal.at.returns-then-two-clause-mark c).After-mark_of_two-two in
    subst (λ n. IsMark n (take 2 c.args.rest.now)) (sym is) (two_is_mark c.args.rest.now (λ e. c.if-two.true (is ∙ e)))

pub returns-then-two-clause-longest : goal.returns-then-two-clause-longest
returns-then-two-clause-longest c = λ n bytes after e mark.
    let is = three (goal.at.returns-then-two-clause-longest c).After-mark_of_three-three in
    at_most_two n bytes after c.args.rest.now (sym is ∙ c.if-three.false) e mark

pub returns-clause-mark : goal.returns-clause-mark
returns-clause-mark c = one_is_mark c.args.single c.args.rest.now c.requires.some c.requires.class

pub returns-clause-longest : goal.returns-clause-longest
returns-clause-longest c = λ n bytes after e mark.
    let no_three = three (goal.at.returns-clause-longest c).After-mark_of_three-three in
    let no_two = two (goal.at.returns-clause-longest c).After-mark_of_two-two in
    at_most_one n bytes after c.args.rest.now (sym no_three ∙ c.if-three.false) (sym no_two ∙ c.if-two.false) e mark
