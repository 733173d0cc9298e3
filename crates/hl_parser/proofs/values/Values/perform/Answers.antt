use Rattle.std.proofs.Common.{sym, subst}
use Rattle.hl_parser.specs.Held.{IsHeld}
use Rattle.hl_parser.specs.Machine.{perform}
use Rattle.hl_parser.proofs.Deep.{stays_lost}
use Rattle.hl_parser.proofs.values.Values.perform.Goals as goal

pub returns-in_default : goal.returns-in_default
returns-in_default c values holds =
    let none = c.in_default.is in
    subst (λ k. IsHeld k (perform c.args.act c.args.at values)) (sym none) (stays_lost c.args.act c.args.at values (subst (λ k. IsHeld k values) none holds))
