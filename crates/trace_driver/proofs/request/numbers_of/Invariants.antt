use Rattle.std.proofs.Common.{◌≡◌, drop, map, string_bytes}
use Rattle.trace_driver.specs.Requests.{each_of, number_of}
use Rattle.trace_driver.proofs.Eaches.{with_rest}
use Rattle.trace_driver.proofs.request.numbers_of.Given as goal

abbrev pub invariant-loop-word : goal.invariant-loop-word
invariant-loop-word l = with_rest (number_of 32) string_bytes l.numbers (drop l.word-index l.words) ≡ each_of (number_of 32) (map string_bytes l.words)
