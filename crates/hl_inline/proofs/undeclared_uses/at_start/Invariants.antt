use Rattle.std.proofs.Common.{◌≡◌, false, map, replicate}
use Rattle.std.specs.List.{range_with_len}
use Rattle.hl_inline.specs.Marking.{declarations}
use Rattle.hl_inline.proofs.undeclared_uses.at_start.Given as goal

abbrev pub invariant-loop-number : goal.invariant-loop-number
invariant-loop-number l = record {
  counts : l.declared.items ≡ map (declarations (range_with_len 0 l.parameters)) (range_with_len 0 l.number);
  marks : l.used_undeclared.items ≡ replicate l.number false;
}
