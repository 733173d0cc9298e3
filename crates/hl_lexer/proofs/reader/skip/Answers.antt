use Rattle.std.proofs.Common.{◌≡◌, ◌∙◌, refl, ap, ◌+◌, ◌-◌, take, arith}
use Rattle.hl_lexer.specs.Reading.{place_past}
use Rattle.hl_lexer.proofs.ReadFacts.{read_space, rest_of}
use Rattle.hl_lexer.proofs.reader.skip.Goals as goal

pub returns-clause-read : goal.returns-clause-read
returns-clause-read c =
    let old = c.args.reader.now in
    let n = c.args.length in
    let count : old.start + n - old.start ≡ n = omega arith in
    read_space old _ n c.requires.read c.requires.space
    (record {
      some = c.requires.space.some;
      within = c.requires.space.within;
      text = refl;
      start = refl;
      place = c.past-reader.ensures ∙ ap (λ m. place_past old.place (take m (rest_of old))) count;
    })
    refl
