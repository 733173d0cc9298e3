use Rattle.std.proofs.Common.{◌≡◌, map, drop, length}
use Rattle.std.specs.Prelude.{option_map}
use Rattle.std.specs.Vec.Iter.{into_iter_items, into_iter_len}
use Rattle.hl_overload.specs.Views.{plain_params}
use Rattle.hl_rules.specs.Expressions.{passed_args}
use Rattle.hl_values.specs.Views.{plain_code}
use Rattle.hl_values.proofs.PassedLemmas.{args_before}
use Rattle.hl_values.proofs.calls.passed_args.Given as goal

abbrev pub invariant-loop-param : goal.invariant-loop-param
invariant-loop-param l =
    (option_map (args_before l.args) (passed_args (plain_params (drop l.param-index l.params)) (map plain_code (into_iter_items l.rest))) ≡
    passed_args (plain_params l.params) (map plain_code l.fn.codes.items))
    × (into_iter_len l.rest ≡ length (into_iter_items l.rest))
