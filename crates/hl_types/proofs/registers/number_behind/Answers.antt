use Rattle.std.proofs.Common.{◌∙◌, sym, ap}
use Rattle.hl_rules.specs.DeclarationRules.{decimal_number}
use Rattle.hl_types.proofs.RegisterLemmas.{behind-front, behind-none}
use Rattle.hl_types.proofs.registers.number_behind.Goals as goal

pub returns-in-Some : goal.returns-in-Some
returns-in-Some c =
    c.decimal_number.ensures ∙
    (ap decimal_number c.in-Some.ensures.cases.1 ∙
    sym (behind-front c.args.front.now c.args.text.now c.in-Some.ensures.cases.0))

pub returns-in-None : goal.returns-in-None
returns-in-None c = behind-none c.args.front.now c.args.text.now c.in-None.ensures.cases
