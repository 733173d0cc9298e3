use Rattle.std.proofs.Common.{◌∙◌, ap, ◌+◌, ◌*◌, arith}
use Rattle.hl_lexer.specs.Scanning.{capped}
use Rattle.hl_lexer.proofs.ValueFacts.{capped_more}
use Rattle.hl_types.proofs.RegisterLemmas.{digit-worth}
use Rattle.hl_types.proofs.registers.digits_value.Goals as goal

pub loop-byte-preserved : goal.loop-byte-preserved
loop-byte-preserved c =
    let digits = c.args.digits.now in
    let index = c.loop-byte.byte-index in
    c.min-value.ensures ∙
    (ap (λ d. capped (c.loop-byte.value * 10 + d)) (c.from.ensures ∙ digit-worth digits index c.requires c.loop-byte-test.true) ∙
    capped_more c.loop-byte.value 10 digits index (omega arith) c.loop-byte-test.true c.loop-byte.invariant)
