use Rattle.std.proofs.Common.{◌≡◌, arith}
use Rattle.std.specs.Prelude.{Err, ◌⊎◌}
use Rattle.std.specs.Result.{IsErrOf}
use Rattle.dxil_driver.specs.CompileFaults.{of_tokens}
use Rattle.dxil_driver.specs.declared.compiler.CompileFault.TheVariants.{Memory}
use Rattle.dxil_driver.proofs.SourcePrograms.{lex_every_program, lex_every_program_fault, lexed_program, lexed_program_fault, lexed_every_program_fault, spelled_program}
use Rattle.dxil_driver.proofs.Errors.{answered, named, no_error}
use Rattle.dxil_driver.proofs.compiler.program_of.Goals as goal

pub returns-in_err-tokens-clause-every_program : goal.returns-in_err-tokens-clause-every_program
returns-in_err-tokens-clause-every_program c = λ program within h.
    let is : c.from_residual.result ≡ Err (of_tokens c.in_err-tokens.field-0.0) = answered c.from_residual.result (of_tokens c.in_err-tokens.field-0.0) c.from_residual.ensures.1 in
    lex_every_program c.args.text.now c.args.entry.now within c.in_err-tokens.field-0.0 c.in_err-tokens.ensures.every_list c.from_residual.result is program h

pub returns-in_err-tokens-clause-every_fault : goal.returns-in_err-tokens-clause-every_fault
returns-in_err-tokens-clause-every_fault c = λ fault h.
    let is : c.from_residual.result ≡ Err (of_tokens c.in_err-tokens.field-0.0) = answered c.from_residual.result (of_tokens c.in_err-tokens.field-0.0) c.from_residual.ensures.1 in
    named is (lex_every_program_fault c.args.text.now c.args.entry.now (omega arith) c.in_err-tokens.field-0.0 c.in_err-tokens.ensures.every_list c.in_err-tokens.ensures.every_fault fault h)

pub read_program-requires : goal.read_program-requires
read_program-requires c = (c.args.text.now, c.in_ok-tokens.ensures.tokens)

pub returns-clause-program : goal.returns-clause-program
returns-clause-program c =
    lexed_program c.args.text.now c.args.entry.now (omega arith) c.in_ok-tokens.tokens c.in_ok-tokens.ensures.tokens c.in_ok-tokens.ensures.limit c.in_ok-tokens.ensures.every_list
    c.read_program.result c.read_program.ensures.program

pub returns-clause-every_program : goal.returns-clause-every_program
returns-clause-every_program c = λ program within h.
    c.read_program.ensures.every_program program
    (spelled_program c.args.text.now c.args.entry.now within c.in_ok-tokens.tokens c.in_ok-tokens.ensures.tokens c.in_ok-tokens.ensures.limit c.in_ok-tokens.ensures.every_list program h)

pub returns-clause-fault : goal.returns-clause-fault
returns-clause-fault c =
    lexed_program_fault c.args.text.now c.args.entry.now (omega arith) c.in_ok-tokens.tokens c.in_ok-tokens.ensures.tokens c.in_ok-tokens.ensures.limit c.in_ok-tokens.ensures.every_list
    c.read_program.result c.read_program.ensures.fault

pub returns-clause-every_fault : goal.returns-clause-every_fault
returns-clause-every_fault c = λ fault h.
    lexed_every_program_fault c.args.text.now c.args.entry.now (omega arith) c.in_ok-tokens.tokens c.in_ok-tokens.ensures.tokens c.in_ok-tokens.ensures.limit c.in_ok-tokens.ensures.every_list
    {R = λ answer. IsErrOf c.read_program.result answer ⊎ IsErrOf c.read_program.result Memory}
    (λ first is. no_error (c.in_ok-tokens.ensures.every_fault first is)) c.read_program.ensures.every_fault fault h
