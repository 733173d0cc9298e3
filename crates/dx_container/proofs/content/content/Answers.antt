use Rattle.std.proofs.Common.{◌≡◌, ◌≤◌, ℕ, ◌+◌, ◌-◌, List, length, take, drop, arith, length-take, length-drop}
use Rattle.dx_container.proofs.Contained.{has_room, is_6}
use Rattle.dx_container.proofs.content.content.Goals as goal

pub word-size-requires : goal.word-size-requires
word-size-requires c = let a = has_room c.args.bytes.now c.args.part c.requires.faultless in omega arith

pub word-requires : goal.word-requires
word-requires c = let a = has_room c.args.bytes.now c.args.part c.requires.faultless in omega arith

pub slice_bounds-result-count : goal.slice_bounds-result-count
slice_bounds-result-count c = let a = has_room c.args.bytes.now c.args.part c.requires.faultless in omega arith

pub slice_bounds-result-start : goal.slice_bounds-result-start
slice_bounds-result-start c = let a = has_room c.args.bytes.now c.args.part c.requires.faultless in omega arith

-- how long a slice is
taken : (n p : ℕ) (bytes : List ℕ) → p + n ≤ length bytes → n ≡ length (take n (take (length bytes - p) (drop p bytes)))
taken n p bytes h = omega (arith, length-take {A = ℕ}, length-drop {A = ℕ})

pub slice_bounds-result-end-2 : goal.slice_bounds-result-end-2
slice_bounds-result-end-2 c = let a = has_room c.args.bytes.now c.args.part c.requires.faultless in taken c.word-size.result (c.args.part + 32) c.args.bytes.now (omega (arith, c.word-size.ensures.value))

pub returns-clause-major : goal.returns-clause-major
returns-clause-major c = is_6 c.args.bytes.now c.args.part c.requires.faultless
