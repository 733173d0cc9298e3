use Rattle.std.proofs.Common.{◌≡◌, map, drop, length}
use Rattle.std.specs.Prelude.{option_map}
use Rattle.std.specs.Vec.Iter.{into_iter_items, into_iter_len}
use Rattle.hl_types.specs.Leaves.{leaves_in}
use Rattle.hl_values.specs.Views.{plain_code_if}
use Rattle.hl_values.proofs.NodeLemmas.{exprs_before}
use Rattle.hl_types.proofs.braces.leaves_in.Given as goal

abbrev pub invariant-loop-kind : goal.invariant-loop-kind
invariant-loop-kind l =
    (option_map (exprs_before l.exprs) (leaves_in (drop l.kind-index l.kinds) (map plain_code_if (into_iter_items l.rest))) ≡ leaves_in l.kinds (map plain_code_if l.fn.codes.items))
    × (into_iter_len l.rest ≡ length (into_iter_items l.rest))
