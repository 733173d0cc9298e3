use mathlib.Core.Logic.{inl}
use Rattle.std.proofs.Common.{ap, subst, ℕ}
use Rattle.std.specs.Prelude.{Ok, Err}
use Rattle.hl_lexer.specs.Tokens.{lexemes_of}
use Rattle.hl_parser.specs.Views.{plain_of}
use Rattle.hl_rules.specs.Rules.{BreaksFirst}
use Rattle.hl_types.specs.Elaborating.{GivesFault, GivesProgram, IsFault}
use Rattle.hl_types.specs.declared.fault.RuleFault.{RuleFault}
use Rattle.hl_types.specs.declared.fault.RuleFault.TheVariants.{Broken}
use Rattle.dxil_driver.specs.declared.compiler.CompileFault.{CompileFault}
use Rattle.dxil_driver.proofs.RuleFaults.{gives_rule, rule_named}
use Rattle.dxil_driver.proofs.compiler.read_rules.Goals as goal

pub returns-in-Ok-clause-every_program : goal.returns-in-Ok-clause-every_program
returns-in-Ok-clause-every_program c = λ program h. c.in-Ok.ensures.every_program program h

pub returns-in-Ok-clause-every_fault : goal.returns-in-Ok-clause-every_fault
returns-in-Ok-clause-every_fault c = λ fault place h.
    absurd (gives_rule (plain_of c.args.tree.now) (lexemes_of c.args.tokens.now) c.args.tokens.now.end c.args.entry.now (Ok c.in-Ok.program) c.in-Ok.ensures.every_fault fault place h)

pub returns-in-Err-Broken-clause-every_program : goal.returns-in-Err-Broken-clause-every_program
returns-in-Err-Broken-clause-every_program c = λ program h.
    subst (λ (f : RuleFault). GivesProgram (Err f) program) c.in-Err-Broken.field-0-is (c.in-Err-Broken.ensures.every_program program h)

pub returns-in-Err-Broken-clause-fault : goal.returns-in-Err-Broken-clause-fault
returns-in-Err-Broken-clause-fault c = (
  subst (IsFault (plain_of c.args.tree.now) (lexemes_of c.args.tokens.now) c.args.entry.now) c.in-Err-Broken.field-0-is c.in-Err-Broken.ensures.fault,
  c.place_of.ensures,
)

pub returns-in-Err-Broken-clause-every_fault : goal.returns-in-Err-Broken-clause-every_fault
returns-in-Err-Broken-clause-every_fault c = λ fault place h.
    let tree = plain_of c.args.tree.now in
    let tokens = lexemes_of c.args.tokens.now in
    inl (ap (λ (f : CompileFault). Err f) (rule_named tree tokens c.args.tokens.now.end c.args.entry.now c.in-Err-Broken.rule c.in-Err-Broken.at c.place_of.result c.place_of.ensures
    (gives_rule tree tokens c.args.tokens.now.end c.args.entry.now (Err (Broken c.in-Err-Broken.rule c.in-Err-Broken.at))
    (subst (λ (f : RuleFault). (at rule : ℕ) → BreaksFirst tree tokens c.args.entry.now at rule → GivesFault (Err f) (Broken rule at)) c.in-Err-Broken.field-0-is c.in-Err-Broken.ensures.every_fault)) fault place h))
