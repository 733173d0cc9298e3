use Rattle.std.proofs.Common.{◌≡◌, ◌∙◌, ap, ◌+◌, ◌*◌, true, arith, get_or, lt-ltb}
use Rattle.std.specs.Char.{digit_value, is_digit}
use Rattle.std.proofs.lemmas.List.Elements.{All-more}
use Rattle.std.proofs.lemmas.Nat.{mul-le}
use Rattle.hl_lexer.specs.Scanning.{capped}
use Rattle.hl_lexer.proofs.ValueFacts.{capped_more}
use Rattle.hl_lexer.proofs.number.value.Goals as goal

pub overflow_mul-value : goal.overflow_mul-value
overflow_mul-value c =
    let number = c.loop-byte.invariant.number in
    omega (arith, mul-le c.loop-byte.value c.args.base 4294967296 16 (omega arith) c.requires.high)

pub loop-byte-preserved : goal.loop-byte-preserved
loop-byte-preserved c =
    let digits = c.args.digits.now in
    let index = c.loop-byte.byte-index in
    let found = c.in-Some.ensures.value in
    record {
      each = All-more (λ b. is_digit b c.args.base ≡ true) digits index 0 c.loop-byte-test.true c.loop-byte.invariant.each (lt-ltb (digit_value (get_or digits index 0)) c.args.base found.0);
      number =
          c.min-value.ensures
          ∙ (ap (λ d. capped (c.loop-byte.value * c.args.base + d)) found.1
          ∙ capped_more c.loop-byte.value c.args.base digits index (omega (arith, c.requires.low)) c.loop-byte-test.true c.loop-byte.invariant.number);
    }
