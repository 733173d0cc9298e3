use Rattle.std.proofs.Common.{◌≡◌, map, length}
use Rattle.std.specs.Vec.Iter.{into_iter_items, into_iter_len}
use Rattle.hl_values.specs.Arguments.{becomes}
use Rattle.hl_values.specs.Few.{each}
use Rattle.hl_values.specs.Views.{plain_code}
use Rattle.hl_values.proofs.EachLemmas.{before}
use Rattle.hl_types.proofs.arguments.codes_of.Given as goal

abbrev pub invariant-loop-arg : goal.invariant-loop-arg
invariant-loop-arg l =
    (before (map plain_code l.codes.items) (each becomes (into_iter_items l.arg-iterator)) ≡ each becomes l.fn.args)
    × (into_iter_len l.arg-iterator ≡ length (into_iter_items l.arg-iterator))
