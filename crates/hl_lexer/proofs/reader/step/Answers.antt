use Rattle.std.proofs.Common.{inr, subst}
use Rattle.std.proofs.lemmas.List.{take_rest}
use Rattle.hl_lexer.specs.Scanning.{BeginsNoSpace, BeginsNoToken, HasSpace}
use Rattle.hl_lexer.proofs.ReadFacts.{bad_byte}
use Rattle.hl_lexer.proofs.reader.step.Goals as goal

pub skip-requires-clause-space : goal.skip-requires-clause-space
skip-requires-clause-space c =
    let reader = c.args.reader.now in
    subst (λ rest. HasSpace rest c.in-Space.length) (take_rest reader.text.now reader.start) c.in-Space.ensures

pub returns-in-Nothing-clause-fault : goal.returns-in-Nothing-clause-fault
returns-in-Nothing-clause-fault c =
    let reader = c.args.reader.now in
    let rest = take_rest reader.text.now reader.start in
    let nothing = c.in-Nothing.ensures in
    inr (bad_byte reader c.requires.read c.requires.more (subst BeginsNoSpace rest nothing.0) (subst BeginsNoToken rest nothing.1))
