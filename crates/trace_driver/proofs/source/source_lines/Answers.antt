-- The lines are those of the run of the program's lane.
use Rattle.std.proofs.Common.{◌≡◌, List, ℕ, subst, sym}
use Rattle.std.specs.Prelude.{◌⊎◌, IfErr}
use Rattle.hl_meaning.specs.Programs.{Program}
use Rattle.hl_meaning.specs.Held.{plain_program}
use Rattle.hl_interpreter.specs.Runs.{run_of}
use Rattle.dxil_driver.specs.CompileFaults.{HasProgram, HasProgramFault}
use Rattle.dxil_driver.specs.declared.compiler.CompileFault.TheVariants.{Memory}
use Rattle.trace_driver.proofs.Told.{fault_answer, has_no_fault, memory_alone}
use Rattle.trace_driver.proofs.source.source_lines.Goals as goal

pub returns-in_err-program-clause-cause : goal.returns-in_err-program-clause-cause
returns-in_err-program-clause-cause c =
    subst (λ (entry : List ℕ). IfErr c.from_residual.result (λ fault. (fault ≡ Memory) ⊎ HasProgramFault c.args.text.now entry fault)) c.as_slice-entry.ensures.value
    (fault_answer c.args.text.now c.as_slice-entry.result.now c.from_residual.result c.in_err-program.field-0.0 c.from_residual.ensures.1 c.in_err-program.ensures.fault)

pub returns-in_err-program-clause-complete : goal.returns-in_err-program-clause-complete
returns-in_err-program-clause-complete c = λ within traced.
    memory_alone c.args.text.now c.as_slice-entry.result.now c.from_residual.result c.in_err-program.field-0.0 c.from_residual.ensures.1
    (λ program h. c.in_err-program.ensures.every_program program within h) (subst (λ (entry : List ℕ). (program : Program) × HasProgram c.args.text.now entry program) (sym c.as_slice-entry.ensures.value) traced)

pub returns-clause-gives : goal.returns-clause-gives
returns-clause-gives c = record {
  program = plain_program c.in_ok-program.program;
  is_program = subst (λ (entry : List ℕ). HasProgram c.args.text.now entry (plain_program c.in_ok-program.program)) c.as_slice-entry.ensures.value c.in_ok-program.ensures.program;
  run = run_of c.in_ok-run.run';
  is_run = rw c.as_slice-replies.ensures.value at c.in_ok-run.ensures;
  lines = c.in_ok-lines.ensures;
}

pub returns-clause-accepted : goal.returns-clause-accepted
returns-clause-accepted c = λ refused.
    has_no_fault c.args.text.now c.as_slice-entry.result.now c.in_ok-program.program c.in_ok-program.ensures.every_fault refused.0
    (subst (λ (entry : List ℕ). HasProgramFault c.args.text.now entry refused.0) (sym c.as_slice-entry.ensures.value) refused.1)
