-- Where lines were made, the text isn't refused; a refusal was told, or the notes failed in its line.
use mathlib.Core.Logic.{inl, inr}
use Rattle.std.proofs.Common.{IfSome, List, ℕ, length, map, string_bytes, subst, ◌≤◌}
use Rattle.std.proofs.lemmas.Option.{MatchOption-at_none, MatchOption-at_some}
use Rattle.base_core.specs.Counts.{HasRisen}
use Rattle.dxil_driver.specs.Compiled.{most_source}
use Rattle.std.specs.Io.KnownBytes.{Appends}
use Rattle.dxil_driver.specs.Tool.{Cuts, IsDoneOrMemory, IsStop}
use Rattle.dxil_driver.specs.declared.refusal.Refusal.TheVariants.{Memory, Usage}
use Rattle.trace_driver.specs.Requests.{Asks, IsUsage}
use Rattle.trace_driver.specs.Traces.{IsRefusedText, IsTraced, is_stopped, is_usage, no_room}
use Rattle.trace_driver.specs.declared.request.Request.{Request}
use Rattle.trace_driver.proofs.Asked.{same_request}
use Rattle.trace_driver.proofs.Told.{done_or_memory, fails_notes, is_told, stands_other, stops_refused, stops_told}
use Rattle.trace_driver.proofs.tool.trace.Goals as goal

pub returns-in-Err-clause-told : goal.returns-in-Err-clause-told
returns-in-Err-clause-told g c = λ done other.
    is_told g.I.Source.left g.I.Source.taken g.I.Source.faults g.O.Sink.written g.N.Sink.written g.N.Sink.faults (map string_bytes c.args.words.now) c.args.input.now c.args.input.now c.args.output.now c.args.notes.now c.refuse.new.notes Memory c.refuse.result
    no_room no_room c.refuse.ensures.told other

pub returns-in-Err-clause-write_fault : goal.returns-in-Err-clause-write_fault
returns-in-Err-clause-write_fault g c = λ fault.
    inr (fails_notes g.I.Source.left g.I.Source.taken g.I.Source.faults g.O.Sink.written g.N.Sink.written g.N.Sink.faults (map string_bytes c.args.words.now) c.args.input.now c.args.input.now c.args.output.now c.args.notes.now c.refuse.new.notes Memory c.refuse.result
    no_room no_room c.refuse.ensures.told fault)

pub returns-in-Ok-None-clause-told : goal.returns-in-Ok-None-clause-told
returns-in-Ok-None-clause-told g c = λ done other.
    is_told g.I.Source.left g.I.Source.taken g.I.Source.faults g.O.Sink.written g.N.Sink.written g.N.Sink.faults (map string_bytes c.args.words.now) c.args.input.now c.args.input.now c.args.output.now c.args.notes.now c.refuse-in-Ok-None.new.notes Usage c.refuse-in-Ok-None.result
    (is_usage (MatchOption-at_none (IsUsage (map string_bytes c.args.words.now)) (Asks (map string_bytes c.args.words.now)) c.in-Ok-None.field-0-is c.in-Ok-None.ensures)) no_room c.refuse-in-Ok-None.ensures.told other

pub returns-in-Ok-None-clause-write_fault : goal.returns-in-Ok-None-clause-write_fault
returns-in-Ok-None-clause-write_fault g c = λ fault.
    inr (fails_notes g.I.Source.left g.I.Source.taken g.I.Source.faults g.O.Sink.written g.N.Sink.written g.N.Sink.faults (map string_bytes c.args.words.now) c.args.input.now c.args.input.now c.args.output.now c.args.notes.now c.refuse-in-Ok-None.new.notes Usage c.refuse-in-Ok-None.result
    (is_usage (MatchOption-at_none (IsUsage (map string_bytes c.args.words.now)) (Asks (map string_bytes c.args.words.now)) c.in-Ok-None.field-0-is c.in-Ok-None.ensures)) no_room c.refuse-in-Ok-None.ensures.told fault)

pub returns-clause-told : goal.returns-clause-told
returns-clause-told g c = λ done other.
    is_told g.I.Source.left g.I.Source.taken g.I.Source.faults g.O.Sink.written g.N.Sink.written g.N.Sink.faults (map string_bytes c.args.words.now) c.args.input.now c.run.new.input c.args.output.now c.args.notes.now c.refuse-in-Err-run.new.notes c.in-Err-run.refusal c.refuse-in-Err-run.result
    (is_stopped c.in-Ok-Some.request c.in-Err-run.refusal (MatchOption-at_some (IsUsage (map string_bytes c.args.words.now)) (Asks (map string_bytes c.args.words.now)) c.in-Ok-Some.request c.in-Ok-Some.field-0-is c.in-Ok-Some.ensures) c.in-Err-run.ensures.cause) no_room c.refuse-in-Err-run.ensures.told other

pub returns-clause-write_fault : goal.returns-clause-write_fault
returns-clause-write_fault g c = λ fault.
    inr (fails_notes g.I.Source.left g.I.Source.taken g.I.Source.faults g.O.Sink.written g.N.Sink.written g.N.Sink.faults (map string_bytes c.args.words.now) c.args.input.now c.run.new.input c.args.output.now c.args.notes.now c.refuse-in-Err-run.new.notes c.in-Err-run.refusal c.refuse-in-Err-run.result
    (is_stopped c.in-Ok-Some.request c.in-Err-run.refusal (MatchOption-at_some (IsUsage (map string_bytes c.args.words.now)) (Asks (map string_bytes c.args.words.now)) c.in-Ok-Some.request c.in-Ok-Some.field-0-is c.in-Ok-Some.ensures) c.in-Err-run.ensures.cause) no_room c.refuse-in-Err-run.ensures.told fault)

pub returns-in-Ok-clause-done : goal.returns-in-Ok-clause-done
returns-in-Ok-clause-done g c = λ done. record {
  request = c.in-Ok-Some.request;
  asked = (MatchOption-at_some (IsUsage (map string_bytes c.args.words.now)) (Asks (map string_bytes c.args.words.now)) c.in-Ok-Some.request c.in-Ok-Some.field-0-is c.in-Ok-Some.ensures);
  bytes = c.in-Ok.lines;
  traced = c.in-Ok.ensures.gives;
  output = subst (λ (lines : List ℕ). Appends (g.O.Sink.written c.args.output.now) (g.O.Sink.written c.deliver.new.output) lines) c.as_slice.ensures.value (c.deliver.ensures.done done).0;
  notes = (c.deliver.ensures.done done).1;
}

pub returns-in-Ok-clause-write_fault : goal.returns-in-Ok-clause-write_fault
returns-in-Ok-clause-write_fault g c = λ fault. inl (record {
  request = c.in-Ok-Some.request;
  asked = (MatchOption-at_some (IsUsage (map string_bytes c.args.words.now)) (Asks (map string_bytes c.args.words.now)) c.in-Ok-Some.request c.in-Ok-Some.field-0-is c.in-Ok-Some.ensures);
  bytes = c.in-Ok.lines;
  traced = c.in-Ok.ensures.gives;
  output = subst (λ (lines : List ℕ). Cuts g.O.Sink.written g.O.Sink.faults c.args.output.now c.deliver.new.output lines) c.as_slice.ensures.value (c.deliver.ensures.fault fault).0;
  notes = (c.deliver.ensures.fault fault).1;
})

pub returns-in-Ok-clause-refusals : goal.returns-in-Ok-clause-refusals
returns-in-Ok-clause-refusals g c = λ request words.
    subst (λ (k : Request). IfSome (g.I.Source.left c.args.input.now) (λ all. IsRefusedText k all → IsStop c.deliver.result))
    (same_request (map string_bytes c.args.words.now) c.in-Ok-Some.request request (MatchOption-at_some (IsUsage (map string_bytes c.args.words.now)) (Asks (map string_bytes c.args.words.now)) c.in-Ok-Some.request c.in-Ok-Some.field-0-is c.in-Ok-Some.ensures) words)
    (stops_refused c.in-Ok-Some.request (g.I.Source.left c.args.input.now) c.deliver.result c.in-Ok.ensures.accepted)

pub returns-clause-complete : goal.returns-clause-complete
returns-clause-complete g c = λ request words calm quiet.
    subst (λ (k : Request). IfSome (g.I.Source.left c.args.input.now) (λ all. length all ≤ most_source → IsTraced k all → IsDoneOrMemory c.refuse-in-Err-run.result (HasRisen (g.N.Sink.faults c.args.notes.now) (g.N.Sink.faults c.refuse-in-Err-run.new.notes))))
    (same_request (map string_bytes c.args.words.now) c.in-Ok-Some.request request (MatchOption-at_some (IsUsage (map string_bytes c.args.words.now)) (Asks (map string_bytes c.args.words.now)) c.in-Ok-Some.request c.in-Ok-Some.field-0-is c.in-Ok-Some.ensures) words)
    (done_or_memory g.N.Sink.written g.N.Sink.faults c.args.notes.now c.refuse-in-Err-run.new.notes c.in-Err-run.refusal c.refuse-in-Err-run.result c.in-Ok-Some.request (g.I.Source.left c.args.input.now) (c.in-Err-run.ensures.complete calm) c.refuse-in-Err-run.ensures.told)

pub returns-clause-refusals : goal.returns-clause-refusals
returns-clause-refusals g c = λ request words.
    stops_told g.N.Sink.written g.N.Sink.faults c.args.notes.now c.refuse-in-Err-run.new.notes c.in-Err-run.refusal c.refuse-in-Err-run.result request (g.I.Source.left c.args.input.now)
    c.refuse-in-Err-run.ensures.told (stands_other g.I.Source.left g.I.Source.taken g.I.Source.faults c.args.input.now c.run.new.input c.in-Ok-Some.request c.in-Err-run.refusal c.in-Err-run.ensures.cause)

pub returns-in-Ok-None-clause-refusals : goal.returns-in-Ok-None-clause-refusals
returns-in-Ok-None-clause-refusals g c = λ request asked.
    absurd (MatchOption-at_none (IsUsage (map string_bytes c.args.words.now)) (Asks (map string_bytes c.args.words.now)) c.in-Ok-None.field-0-is c.in-Ok-None.ensures request asked)

pub returns-in-Ok-None-clause-complete : goal.returns-in-Ok-None-clause-complete
returns-in-Ok-None-clause-complete g c = λ request asked calm quiet.
    absurd (MatchOption-at_none (IsUsage (map string_bytes c.args.words.now)) (Asks (map string_bytes c.args.words.now)) c.in-Ok-None.field-0-is c.in-Ok-None.ensures request asked)

pub returns-in-Ok-clause-other_words : goal.returns-in-Ok-clause-other_words
returns-in-Ok-clause-other_words g c = λ usage.
    absurd (usage c.in-Ok-Some.request (MatchOption-at_some (IsUsage (map string_bytes c.args.words.now)) (Asks (map string_bytes c.args.words.now)) c.in-Ok-Some.request c.in-Ok-Some.field-0-is c.in-Ok-Some.ensures))

pub returns-clause-other_words : goal.returns-clause-other_words
returns-clause-other_words g c = λ usage.
    absurd (usage c.in-Ok-Some.request (MatchOption-at_some (IsUsage (map string_bytes c.args.words.now)) (Asks (map string_bytes c.args.words.now)) c.in-Ok-Some.request c.in-Ok-Some.field-0-is c.in-Ok-Some.ensures))
