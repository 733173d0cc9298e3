use Rattle.std.proofs.Common.{◌≡◌, map, length}
use Rattle.std.specs.Prelude.{option_map}
use Rattle.std.specs.Vec.Iter.{into_iter_items, into_iter_len}
use Rattle.hl_rules.specs.Nodes.{in_kind}
use Rattle.hl_values.specs.Views.{plain_code}
use Rattle.hl_values.proofs.NodeLemmas.{exprs_before}
use Rattle.hl_values.proofs.nodes.in_kind.Given as goal

abbrev pub invariant-loop-code : goal.invariant-loop-code
invariant-loop-code l =
    (option_map (exprs_before l.exprs) (in_kind l.kind (map plain_code (into_iter_items l.code-iterator))) ≡ in_kind l.kind (map plain_code l.fn.codes.items))
    × (into_iter_len l.code-iterator ≡ length (into_iter_items l.code-iterator))
