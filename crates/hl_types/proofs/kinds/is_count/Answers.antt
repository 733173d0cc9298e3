use Rattle.std.proofs.Common.{◌^◌, ◌<◌, ◌∙◌, sym, arith}
use Rattle.hl_types.proofs.KindLemmas.{few-is, many-is}
use Rattle.hl_types.proofs.kinds.is_count.Goals as goal

pub returns-in-Few : goal.returns-in-Few
returns-in-Few c = λ known e. few-is c.in-Few.words known c.args.count (sym c.in-Few.is ∙ e)

pub returns-in-Many : goal.returns-in-Many
returns-in-Many c = λ known e. let small : c.args.count < 2 ^ 64 = omega (arith, c.ranges.count) in many-is known c.args.count small (sym c.in-Many.is ∙ e)
