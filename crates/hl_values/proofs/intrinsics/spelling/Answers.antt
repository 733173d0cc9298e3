use Rattle.std.proofs.Common.{ap, length, arith}
use Rattle.hl_values.proofs.IntrinsicTable.{letters_are, starts_rise, starts_within}
use Rattle.hl_values.proofs.intrinsics.spelling.Goals as goal

pub slice_bounds-result-count : goal.slice_bounds-result-count
slice_bounds-result-count c = let a = starts_rise c.args.number c.requires in omega (arith, c.start_of-start.ensures, c.start_of-end.ensures)

pub slice_bounds-result-start : goal.slice_bounds-result-start
slice_bounds-result-start c = let a = starts_rise c.args.number c.requires in omega (arith, c.start_of-start.ensures, c.start_of-end.ensures)

pub slice_bounds-result-end : goal.slice_bounds-result-end
slice_bounds-result-end c = let a = starts_within c.args.number c.requires in omega (arith, c.start_of-end.ensures, ap length c.letters.ensures)

pub returns : goal.returns
returns c = rw (c.start_of-start.ensures, c.start_of-end.ensures, c.letters.ensures) (letters_are c.args.number c.requires)
