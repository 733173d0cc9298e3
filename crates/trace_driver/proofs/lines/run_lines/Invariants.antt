use Rattle.std.proofs.Common.{◌≡◌, ◌++◌, drop, flat_map}
use Rattle.trace_driver.specs.Lines.{event_line}
use Rattle.trace_driver.proofs.lines.run_lines.Given as goal

abbrev pub invariant-loop-event : goal.invariant-loop-event
invariant-loop-event l = l.lines ++ flat_map event_line (drop l.event-index l.event-items) ≡ flat_map event_line l.event-items
