use Rattle.std.proofs.Common.{◌≤◌, arith, sym}
use Rattle.std.proofs.lemmas.List.{get_or_past}
use Rattle.hl_lexer.specs.declared.terminal.Terminal.TheVariants.{Unlisted}
use Rattle.hl_lexer.specs.Terminals.{mark_terminals}
use Rattle.hl_lexer.proofs.terminal.mark_terminal.Goals as goal

pub returns-in_default : goal.returns-in_default
returns-in_default c =
    let past : 44 ≤ c.args.number = omega arith in
    sym (get_or_past mark_terminals c.args.number Unlisted past)
