use Rattle.std.proofs.Common.{◌≡◌, ℕ, List, sym, subst, arith}
use Rattle.std.specs.Prelude.{Result, Err, ◌⊎◌, IfOk, IfErr}
use Rattle.std.specs.Result.{IsErrOf}
use Rattle.dxil_driver.specs.Compiled.{Compiled, HasFirstForm}
use Rattle.dxil_driver.specs.CompileFaults.{HasFault, of_tokens}
use Rattle.dxil_driver.specs.declared.compiler.CompileFault.{CompileFault}
use Rattle.dxil_driver.specs.declared.compiler.CompileFault.TheVariants.{Memory}
use Rattle.dxil_driver.proofs.Compiling.{lex_complete, lex_every, lexed_compiled, lexed_fault, lexed_form, lexed_every}
use Rattle.dxil_driver.proofs.Errors.{answered, named, no_error}
use Rattle.dxil_driver.proofs.compiler.compile.Goals as goal

pub returns-in_err-tokens-clause-complete : goal.returns-in_err-tokens-clause-complete
returns-in_err-tokens-clause-complete c = λ within form.
    let is : c.from_residual.result ≡ Err (of_tokens c.in_err-tokens.field-0.0) = answered c.from_residual.result (of_tokens c.in_err-tokens.field-0.0) c.from_residual.ensures.1 in
    subst (λ (r : Result (List ℕ) CompileFault). IfErr r (λ fault. fault ≡ Memory)) (sym is)
    (lex_complete c.args.text.now c.args.options.now.entry within c.in_err-tokens.field-0.0 c.in_err-tokens.ensures.every_list form)

pub returns-in_err-tokens-clause-every_fault : goal.returns-in_err-tokens-clause-every_fault
returns-in_err-tokens-clause-every_fault c = λ fault h.
    let is : c.from_residual.result ≡ Err (of_tokens c.in_err-tokens.field-0.0) = answered c.from_residual.result (of_tokens c.in_err-tokens.field-0.0) c.from_residual.ensures.1 in
    named is (lex_every c.args.text.now c.args.options.now.entry (omega arith) c.in_err-tokens.field-0.0 c.in_err-tokens.ensures.every_list c.in_err-tokens.ensures.every_fault fault h)

pub compile_tokens-requires : goal.compile_tokens-requires
compile_tokens-requires c = (c.args.text.now, c.in_ok-tokens.ensures.tokens)

pub returns-clause-compiled : goal.returns-clause-compiled
returns-clause-compiled c =
    subst (λ (entry : List ℕ). IfOk c.compile_tokens.result (λ bytes. Compiled c.args.text.now entry bytes)) c.as_slice.ensures.value
    (lexed_compiled c.args.text.now c.as_slice.result.now (omega arith) c.in_ok-tokens.tokens c.in_ok-tokens.ensures.tokens c.in_ok-tokens.ensures.limit c.in_ok-tokens.ensures.every_list
    c.compile_tokens.result c.compile_tokens.ensures.made)

pub returns-clause-complete : goal.returns-clause-complete
returns-clause-complete c = λ within form.
    c.compile_tokens.ensures.complete
    (lexed_form c.args.text.now c.as_slice.result.now within c.in_ok-tokens.tokens c.in_ok-tokens.ensures.tokens c.in_ok-tokens.ensures.limit c.in_ok-tokens.ensures.every_list
    (subst (HasFirstForm c.args.text.now) (sym c.as_slice.ensures.value) form))

pub returns-clause-fault : goal.returns-clause-fault
returns-clause-fault c =
    subst (λ (entry : List ℕ). IfErr c.compile_tokens.result (λ fault. (fault ≡ Memory) ⊎ HasFault c.args.text.now entry fault)) c.as_slice.ensures.value
    (lexed_fault c.args.text.now c.as_slice.result.now (omega arith) c.in_ok-tokens.tokens c.in_ok-tokens.ensures.tokens c.in_ok-tokens.ensures.limit c.in_ok-tokens.ensures.every_list
    c.compile_tokens.result c.compile_tokens.ensures.fault)

pub returns-clause-every_fault : goal.returns-clause-every_fault
returns-clause-every_fault c = λ fault h.
    lexed_every c.args.text.now c.as_slice.result.now (omega arith) c.in_ok-tokens.tokens c.in_ok-tokens.ensures.tokens c.in_ok-tokens.ensures.limit c.in_ok-tokens.ensures.every_list
    {R = λ answer. IsErrOf c.compile_tokens.result answer ⊎ IsErrOf c.compile_tokens.result Memory}
    (λ first is. no_error (c.in_ok-tokens.ensures.every_fault first is)) c.compile_tokens.ensures.every_fault fault
    (subst (λ (entry : List ℕ). HasFault c.args.text.now entry fault) (sym c.as_slice.ensures.value) h)
