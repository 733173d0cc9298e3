use Rattle.std.proofs.Common.{◌≡◌, ◌∙◌, refl, sym, ap, inr, ◌+◌, ◌-◌, take, arith}
use Rattle.hl_lexer.proofs.ReadFacts.{one_too_many, read_token, rest_of, token_place}
use Rattle.hl_lexer.proofs.reader.take.Goals as goal

pub returns-then-len-eq-MOST_TOKENS-clause-fault : goal.returns-then-len-eq-MOST_TOKENS-clause-fault
returns-then-len-eq-MOST_TOKENS-clause-fault c =
    inr (one_too_many c.args.reader.now c.args.kind c.args.length c.requires.read c.requires.token (sym c.len.ensures.value ∙ c.if-len-eq-MOST_TOKENS.true))

pub returns-clause-read : goal.returns-clause-read
returns-clause-read c =
    let old = c.args.reader.now in
    let n = c.args.length in
    let count : old.start + n - old.start ≡ n = omega arith in
    read_token old _ c.args.kind n _ c.requires.read c.requires.token
    (record {
      some = c.requires.token.some;
      within = c.requires.token.within;
      text = refl;
      start = refl;
      place = token_place old c.args.kind n c.requires.token;
    })
    (omega (arith, c.requires.read.limit, c.len.ensures.value, c.if-len-eq-MOST_TOKENS.false))
    c.in_ok-push.ensures.ok
    (ap (λ m. record { kind = c.args.kind; text = take m (rest_of old); start = old.start; place = old.place }) count)
