use Rattle.std.proofs.Common.{◌∙◌, sym, ap, nat_lt}
use Rattle.std.specs.List.{list_all}
use Rattle.hl_values.proofs.LetterLemmas.{within-there}
use Rattle.hl_values.proofs.standing.letters_within.Goals as goal

pub returns-then-are_below-clause-letters : goal.returns-then-are_below-clause-letters
returns-then-are_below-clause-letters c =
    let found = c.in_ok-letters.ensures in
    let h = c.if-are_below.ensures in
    within-there c.args.size c.args.name.now c.in-Some.letters (sym c.in-Some.is ∙ found.letters) (sym (h ∙ ap (list_all (λ letter. nat_lt letter c.args.size)) c.as_slice.ensures.value))
