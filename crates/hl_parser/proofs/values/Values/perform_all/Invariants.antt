use Rattle.std.proofs.Common.{take}
use Rattle.hl_parser.specs.Held.{Performed}
use Rattle.hl_parser.proofs.values.Values.perform_all.Given as goal

abbrev pub invariant-loop-act : goal.invariant-loop-act
invariant-loop-act l = Performed (take l.act-index l.acts) l.at l.fn.self l.self
