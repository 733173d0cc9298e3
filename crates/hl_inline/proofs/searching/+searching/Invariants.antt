use Rattle.std.proofs.Common.{◌+◌, drop}
use Rattle.hl_inline.proofs.LastCallLemmas.{held-part_paths, held-paths}
use Rattle.hl_inline.specs.LastCalls.{Finds, path_from}
use Rattle.hl_inline.proofs.searching.+searching.Given as goal

abbrev pub invariant-find_in_exprs-loop-index : goal.invariant-find_in_exprs-loop-index
invariant-find_in_exprs-loop-index l = Finds l.fn.numbers l.numbers l.found (path_from (l.index + 1) (held-paths (drop l.index l.exprs)))

abbrev pub invariant-find_in_parts-loop-index : goal.invariant-find_in_parts-loop-index
invariant-find_in_parts-loop-index l = Finds l.fn.numbers l.numbers l.found (path_from (l.index + 2) (held-part_paths (drop l.index l.parts)))
