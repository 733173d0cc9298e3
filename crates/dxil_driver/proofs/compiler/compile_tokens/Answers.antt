use Rattle.std.proofs.Common.{◌≡◌, ℕ, List, sym, subst}
use Rattle.std.specs.Prelude.{Result, Err, IfErr}
use Rattle.hl_lexer.specs.Tokens.{lexemes_of}
use Rattle.hl_meaning.specs.Held.{plain_program}
use Rattle.dxil_driver.specs.declared.compiler.CompileFault.{CompileFault}
use Rattle.dxil_driver.specs.declared.compiler.CompileFault.TheVariants.{Memory}
use Rattle.dxil_driver.proofs.Compiling.{failed_complete, failed_every, program_complete, program_every}
use Rattle.dxil_driver.proofs.Errors.{answered, named, no_error}
use Rattle.dxil_driver.proofs.compiler.compile_tokens.Goals as goal

pub returns-in_err-program-clause-complete : goal.returns-in_err-program-clause-complete
returns-in_err-program-clause-complete c = λ form.
    let is : c.from_residual.result ≡ Err c.in_err-program.field-0.0 = answered c.from_residual.result c.in_err-program.field-0.0 c.from_residual.ensures.1 in
    subst (λ (r : Result (List ℕ) CompileFault). IfErr r (λ fault. fault ≡ Memory)) (sym is)
    (failed_complete (lexemes_of c.args.tokens.now) c.args.tokens.now.end c.args.entry.now c.in_err-program.field-0.0 c.in_err-program.ensures.every_program form)

pub returns-in_err-program-clause-every_fault : goal.returns-in_err-program-clause-every_fault
returns-in_err-program-clause-every_fault c = λ fault h.
    let is : c.from_residual.result ≡ Err c.in_err-program.field-0.0 = answered c.from_residual.result c.in_err-program.field-0.0 c.from_residual.ensures.1 in
    named is (failed_every (lexemes_of c.args.tokens.now) c.args.tokens.now.end c.args.entry.now c.in_err-program.field-0.0 c.in_err-program.ensures.every_program c.in_err-program.ensures.every_fault fault h)

pub returns-clause-complete : goal.returns-clause-complete
returns-clause-complete c =
    program_complete (lexemes_of c.args.tokens.now) c.args.tokens.now.end c.args.entry.now (plain_program c.in_ok-program.program) c.in_ok-program.ensures.every_program c.compile_program.result c.compile_program.ensures.fault

pub returns-clause-every_fault : goal.returns-clause-every_fault
returns-clause-every_fault c =
    program_every (lexemes_of c.args.tokens.now) c.args.tokens.now.end c.args.entry.now (plain_program c.in_ok-program.program) c.in_ok-program.ensures.every_program c.compile_program.result
    (λ fault h. no_error (c.in_ok-program.ensures.every_fault fault h)) c.compile_program.ensures.made c.compile_program.ensures.fault
