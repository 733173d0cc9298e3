-- What a comparison, `&&` or `||` says, by the number of its mark.
use Rattle.std.specs.Prelude.{ℕ, ◌==◌, ◌&&◌, ◌||◌, not, Bool, false, if◌then◌else◌}
use Rattle.hl_meaning.specs.declared.ty.Kind.{Kind}
use Rattle.hl_source.specs.Operations.{less}
use Rattle.lane_core.specs.Words.{holds}

abbrev pub truth_of : (op : ℕ) → Kind → ℕ → ℕ → Bool
truth_of op kind a b =
    if op == 17 then less kind a b else (
    if op == 18 then less kind b a else (
    if op == 26 then a == b else (
    if op == 27 then not (a == b) else (
    if op == 28 then not (less kind b a) else (
    if op == 29 then not (less kind a b) else (
    if op == 24 then holds a && holds b else (
    if op == 25 then holds a || holds b else false)))))))
