use Rattle.std.proofs.Common.{◌∙◌, sym}
use Rattle.trace_driver.proofs.Numbers.{no_number, parsed}
use Rattle.trace_driver.proofs.request.word_of.Goals as goal

pub returns-then-is_decimal : goal.returns-then-is_decimal
returns-then-is_decimal c =
    c.ok.ensures.value ∙ parsed 32 c.args.text.now c.parse.result c.parse.ensures.value.0 (sym c.is_decimal.ensures ∙ c.if-is_decimal.true)

pub returns-else-is_decimal : goal.returns-else-is_decimal
returns-else-is_decimal c = no_number 32 c.args.text.now (sym c.is_decimal.ensures ∙ c.if-is_decimal.false)
