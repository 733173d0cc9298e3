-- What is answered is answered for all that was left.
use Rattle.std.proofs.Common.{rules, ap, ◌≡◌, ◌≤◌, List, ℕ, length, subst, sym, Err}
use Rattle.std.specs.Prelude.{◌⊎◌, IfErr}
use Rattle.base_core.specs.declared.whole.ReadStop.{ReadStop}
use Rattle.dxil_driver.specs.CompileFaults.{HasProgramFault}
use Rattle.dxil_driver.specs.Refusal.{refusal_of_compile, refusal_of_stop}
use Rattle.dxil_driver.specs.Compiled.{most_source}
use Rattle.dxil_driver.specs.Tool.{TakesAll}
use Rattle.dxil_driver.specs.declared.compiler.CompileFault.TheVariants.{Memory}
use Rattle.dxil_driver.specs.declared.refusal.Refusal.TheVariants.{Memory as NoMemory}
use Rattle.trace_driver.specs.Traces.{IsRefusedText, IsTraced, StandsFor, Traces}
use Rattle.trace_driver.proofs.Told.{compile_memory, fault_stands, refused_for, said_of_all, stop_stands, traces_all}
use Rattle.trace_driver.proofs.tool.run.Goals as goal

pub returns-in_err-text-clause-cause : goal.returns-in_err-text-clause-cause
returns-in_err-text-clause-cause g c =
    refused_for (StandsFor g.I.Source.left g.I.Source.taken c.args.input.now c.read_whole.new.input g.I.Source.faults c.args.request.now) c.from_residual.result (refusal_of_stop c.in_err-text.field-0.0) c.from_residual.ensures.1
    (stop_stands g.I.Source.left g.I.Source.taken g.I.Source.faults c.args.input.now c.read_whole.new.input c.args.request.now c.in_err-text.field-0.0
    c.in_err-text.ensures.front (λ e. c.in_err-text.ensures.fault (ap (λ (s : ReadStop). Err s) e)) (λ e. c.in_err-text.ensures.too_long.0 (ap (λ (s : ReadStop). Err s) e)))

pub returns-in_err-lines-clause-cause : goal.returns-in_err-lines-clause-cause
returns-in_err-lines-clause-cause g c =
    let takes : TakesAll g.I.Source.left g.I.Source.taken c.args.input.now c.read_whole.new.input c.in_ok-text.text = search rules in
    refused_for (StandsFor g.I.Source.left g.I.Source.taken c.args.input.now c.read_whole.new.input g.I.Source.faults c.args.request.now) c.from_residual-in_err-lines.result (refusal_of_compile c.in_err-lines.field-0.0) c.from_residual-in_err-lines.ensures.1
    (fault_stands g.I.Source.left g.I.Source.taken g.I.Source.faults c.args.input.now c.read_whole.new.input c.args.request.now c.in_ok-text.text c.in_err-lines.field-0.0 takes
    (subst (λ (text : List ℕ). (c.in_err-lines.field-0.0 ≡ Memory) ⊎ HasProgramFault text c.args.request.now.entry c.in_err-lines.field-0.0) c.as_slice.ensures.value c.in_err-lines.ensures.cause))

pub returns-in_err-lines-clause-complete : goal.returns-in_err-lines-clause-complete
returns-in_err-lines-clause-complete g c = λ calm.
    said_of_all (λ (all : List ℕ). length all ≤ most_source → IsTraced c.args.request.now all → IfErr c.from_residual-in_err-lines.result (λ refusal. refusal ≡ NoMemory))
    (g.I.Source.left c.args.input.now) c.in_ok-text.text c.in_ok-text.ensures.whole
    (λ within traced. compile_memory c.from_residual-in_err-lines.result c.in_err-lines.field-0.0 c.from_residual-in_err-lines.ensures.1
    (c.in_err-lines.ensures.complete (subst (λ (text : List ℕ). length text ≤ most_source) (sym c.as_slice.ensures.value) within) (subst (λ (text : List ℕ). IsTraced c.args.request.now text) (sym c.as_slice.ensures.value) traced)))

pub returns-clause-gives : goal.returns-clause-gives
returns-clause-gives g c =
    let takes : TakesAll g.I.Source.left g.I.Source.taken c.args.input.now c.read_whole.new.input c.in_ok-text.text = search rules in
    traces_all g.I.Source.left g.I.Source.taken g.I.Source.faults c.args.input.now c.read_whole.new.input c.args.request.now c.in_ok-text.text c.in_ok-lines.lines takes
    (subst (λ (text : List ℕ). Traces c.args.request.now text c.in_ok-lines.lines) c.as_slice.ensures.value c.in_ok-lines.ensures.gives)

pub returns-clause-accepted : goal.returns-clause-accepted
returns-clause-accepted g c =
    said_of_all (λ (all : List ℕ). ¬ IsRefusedText c.args.request.now all) (g.I.Source.left c.args.input.now) c.in_ok-text.text c.in_ok-text.ensures.whole
    (subst (λ (text : List ℕ). ¬ IsRefusedText c.args.request.now text) c.as_slice.ensures.value c.in_ok-lines.ensures.accepted)
