use Rattle.std.proofs.Common.{◌≡◌, drop, map, string_bytes}
use Rattle.trace_driver.specs.Requests.{each_of, reply_of}
use Rattle.trace_driver.proofs.Eaches.{with_rest}
use Rattle.trace_driver.proofs.request.replies_of.Given as goal

abbrev pub invariant-loop-word : goal.invariant-loop-word
invariant-loop-word l = with_rest reply_of string_bytes l.replies (drop l.word-index l.words) ≡ each_of reply_of (map string_bytes l.words)
