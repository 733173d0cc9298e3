use Rattle.std.proofs.Common.{◌≡◌, map, drop, length}
use Rattle.std.specs.Prelude.{option_map}
use Rattle.std.specs.Vec.Iter.{into_iter_items, into_iter_len}
use Rattle.hl_meaning.specs.Views.{plain_ty}
use Rattle.hl_rules.specs.Nodes.{converted_each}
use Rattle.hl_values.specs.Views.{plain_code}
use Rattle.hl_values.proofs.NodeLemmas.{exprs_before}
use Rattle.hl_values.proofs.nodes.converted_each.Given as goal

abbrev pub invariant-loop-ty : goal.invariant-loop-ty
invariant-loop-ty l =
    (option_map (exprs_before l.exprs) (converted_each (map plain_ty (drop l.ty-index l.types)) (map plain_code (into_iter_items l.rest))) ≡
    converted_each (map plain_ty l.types) (map plain_code l.fn.codes.items))
    × (into_iter_len l.rest ≡ length (into_iter_items l.rest))
