-- Where a result was made, the input isn't refused; a refusal was told, or the notes failed in its line.
use mathlib.Core.Logic.{inr}
use Rattle.std.proofs.Common.{IfSome, length, map, string_bytes, subst, ◌≤◌}
use Rattle.base_core.specs.Counts.{HasRisen}
use Rattle.dxil_driver.specs.Commands.{Accepts, Asks, IsRefusedText, IsUsage, limit_of}
use Rattle.dxil_driver.specs.Tool.{IsDoneOrMemory, IsStop}
use Rattle.dxil_driver.specs.declared.command.Command.{Command}
use Rattle.dxil_driver.specs.declared.refusal.Refusal.TheVariants.{Memory, Usage}
use Rattle.dxil_driver.proofs.ChosenOnce.{same_command}
use Rattle.dxil_driver.proofs.Matches.{none_says, some_says}
use Rattle.dxil_driver.proofs.Refused.{done_or_memory, stops_refused, stands, is_told, fails_notes}
use Rattle.dxil_driver.proofs.RefusedText.{refused_input, told_status}
use Rattle.dxil_driver.proofs.commands.tool.Goals as goal

pub returns-in-Err-clause-write_fault : goal.returns-in-Err-clause-write_fault
returns-in-Err-clause-write_fault g c = λ fault.
    inr (fails_notes g.I.Source.left g.I.Source.taken g.I.Source.faults g.O.Sink.written g.N.Sink.written g.N.Sink.faults (map string_bytes c.args.words.now) c.args.input.now c.args.input.now c.args.output.now c.args.notes.now c.refuse.new.notes Memory c.refuse.result
    tt c.refuse.ensures.told fault)

pub returns-in-Err-clause-told : goal.returns-in-Err-clause-told
returns-in-Err-clause-told g c = λ done other.
    is_told g.I.Source.left g.I.Source.taken g.I.Source.faults g.O.Sink.written g.N.Sink.written g.N.Sink.faults (map string_bytes c.args.words.now) c.args.input.now c.args.input.now c.args.output.now c.args.notes.now c.refuse.new.notes Memory c.refuse.result
    tt c.refuse.ensures.told other

pub returns-in-Ok-None-clause-write_fault : goal.returns-in-Ok-None-clause-write_fault
returns-in-Ok-None-clause-write_fault g c = λ fault.
    inr (fails_notes g.I.Source.left g.I.Source.taken g.I.Source.faults g.O.Sink.written g.N.Sink.written g.N.Sink.faults (map string_bytes c.args.words.now) c.args.input.now c.args.input.now c.args.output.now c.args.notes.now c.refuse-in-Ok-None.new.notes Usage c.refuse-in-Ok-None.result
    (none_says (IsUsage (map string_bytes c.args.words.now)) (Asks (map string_bytes c.args.words.now)) c.in-Ok-None.field-0 c.in-Ok-None.ensures c.in-Ok-None.field-0-is) c.refuse-in-Ok-None.ensures.told fault)

pub returns-in-Ok-None-clause-told : goal.returns-in-Ok-None-clause-told
returns-in-Ok-None-clause-told g c = λ done other.
    is_told g.I.Source.left g.I.Source.taken g.I.Source.faults g.O.Sink.written g.N.Sink.written g.N.Sink.faults (map string_bytes c.args.words.now) c.args.input.now c.args.input.now c.args.output.now c.args.notes.now c.refuse-in-Ok-None.new.notes Usage c.refuse-in-Ok-None.result
    (none_says (IsUsage (map string_bytes c.args.words.now)) (Asks (map string_bytes c.args.words.now)) c.in-Ok-None.field-0 c.in-Ok-None.ensures c.in-Ok-None.field-0-is) c.refuse-in-Ok-None.ensures.told other

pub returns-in-Ok-clause-refusals : goal.returns-in-Ok-clause-refusals
returns-in-Ok-clause-refusals g c = λ command words.
    subst (λ (k : Command). IfSome (g.I.Source.left c.args.input.now) (λ all. IsRefusedText k all → IsStop c.deliver.result))
    (same_command (map string_bytes c.args.words.now) c.in-Ok-Some.command command (some_says (IsUsage (map string_bytes c.args.words.now)) (Asks (map string_bytes c.args.words.now)) c.in-Ok-Some.field-0 c.in-Ok-Some.command c.in-Ok-Some.ensures c.in-Ok-Some.field-0-is) words)
    (stops_refused c.in-Ok-Some.command (g.I.Source.left c.args.input.now) c.deliver.result c.in-Ok.ensures.accepted)

pub returns-clause-write_fault : goal.returns-clause-write_fault
returns-clause-write_fault g c = λ fault.
    inr (fails_notes g.I.Source.left g.I.Source.taken g.I.Source.faults g.O.Sink.written g.N.Sink.written g.N.Sink.faults (map string_bytes c.args.words.now) c.args.input.now c.run.new.input c.args.output.now c.args.notes.now c.refuse-in-Err-run.new.notes c.in-Err-run.refusal c.refuse-in-Err-run.result
    (stands g.I.Source.left g.I.Source.taken g.I.Source.faults c.args.input.now c.run.new.input (map string_bytes c.args.words.now) c.in-Ok-Some.command c.in-Err-run.refusal
    (some_says (IsUsage (map string_bytes c.args.words.now)) (Asks (map string_bytes c.args.words.now)) c.in-Ok-Some.field-0 c.in-Ok-Some.command c.in-Ok-Some.ensures c.in-Ok-Some.field-0-is) c.in-Err-run.ensures.cause) c.refuse-in-Err-run.ensures.told fault)

pub returns-clause-told : goal.returns-clause-told
returns-clause-told g c = λ done other.
    is_told g.I.Source.left g.I.Source.taken g.I.Source.faults g.O.Sink.written g.N.Sink.written g.N.Sink.faults (map string_bytes c.args.words.now) c.args.input.now c.run.new.input c.args.output.now c.args.notes.now c.refuse-in-Err-run.new.notes c.in-Err-run.refusal c.refuse-in-Err-run.result
    (stands g.I.Source.left g.I.Source.taken g.I.Source.faults c.args.input.now c.run.new.input (map string_bytes c.args.words.now) c.in-Ok-Some.command c.in-Err-run.refusal
    (some_says (IsUsage (map string_bytes c.args.words.now)) (Asks (map string_bytes c.args.words.now)) c.in-Ok-Some.field-0 c.in-Ok-Some.command c.in-Ok-Some.ensures c.in-Ok-Some.field-0-is) c.in-Err-run.ensures.cause) c.refuse-in-Err-run.ensures.told other

pub returns-clause-complete : goal.returns-clause-complete
returns-clause-complete g c = λ command words calm quiet.
    subst (λ (k : Command). IfSome (g.I.Source.left c.args.input.now) (λ all. length all ≤ limit_of k → Accepts k all → IsDoneOrMemory c.refuse-in-Err-run.result (HasRisen (g.N.Sink.faults c.args.notes.now) (g.N.Sink.faults c.refuse-in-Err-run.new.notes))))
    (same_command (map string_bytes c.args.words.now) c.in-Ok-Some.command command (some_says (IsUsage (map string_bytes c.args.words.now)) (Asks (map string_bytes c.args.words.now)) c.in-Ok-Some.field-0 c.in-Ok-Some.command c.in-Ok-Some.ensures c.in-Ok-Some.field-0-is) words)
    (done_or_memory g.N.Sink.written g.N.Sink.faults c.args.notes.now c.refuse-in-Err-run.new.notes c.in-Err-run.refusal c.refuse-in-Err-run.result c.in-Ok-Some.command (g.I.Source.left c.args.input.now) (c.in-Err-run.ensures.complete calm) c.refuse-in-Err-run.ensures.told)

pub returns-clause-refused : goal.returns-clause-refused
returns-clause-refused g c = λ refused. (
  c.in-Ok-Some.command,
  some_says (IsUsage (map string_bytes c.args.words.now)) (Asks (map string_bytes c.args.words.now)) c.in-Ok-Some.field-0 c.in-Ok-Some.command c.in-Ok-Some.ensures c.in-Ok-Some.field-0-is,
  refused_input g.I.Source.left g.I.Source.taken g.I.Source.faults c.args.input.now c.run.new.input c.in-Ok-Some.command c.in-Err-run.refusal c.in-Err-run.ensures.cause
      (told_status g.N.Sink.written g.N.Sink.faults c.args.notes.now c.refuse-in-Err-run.new.notes c.in-Err-run.refusal c.refuse-in-Err-run.result c.refuse-in-Err-run.ensures.told refused),
)
