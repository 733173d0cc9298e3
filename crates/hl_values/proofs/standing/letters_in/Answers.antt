use Rattle.std.proofs.Common.{ap, length, length-append, arith, ℕ}
use Rattle.hl_rules.specs.Values.{letters_in}
use Rattle.hl_values.proofs.LetterLemmas.{letters-stop, letters-turn}
use Rattle.hl_values.proofs.standing.letters_in.Goals as goal

pub returns-in_default-clause-letters : goal.returns-in_default-clause-letters
returns-in_default-clause-letters c =
    let h = c.in_default.ensures in
    letters-stop c.args.alphabet.now c.args.name.now c.loop-letter.letters c.loop-letter.letter-index (letters_in c.args.alphabet.now c.args.name.now) c.loop-letter.invariant.0 c.loop-letter-test.true h

pub loop-letter-preserved : goal.loop-letter-preserved
loop-letter-preserved c =
    let h = c.in-Some.ensures in
    let pushed = c.in_ok-push.ensures in (
      letters-turn c.args.alphabet.now c.args.name.now c.loop-letter.letters c.push.new.self c.loop-letter.letter-index c.in-Some.number (letters_in c.args.alphabet.now c.args.name.now) c.loop-letter.invariant.0 c.loop-letter-test.true h pushed.ok,
      let was = c.loop-letter.invariant.1 in
          omega (arith, was, length-append {A = ℕ}, ap length pushed.ok),
    )
