use Rattle.std.proofs.Common.{◌≡◌, map, take}
use Rattle.hl_meaning.specs.Views.{plain_arg, plain_expr, plain_part}
use Rattle.hl_inline.proofs.copies.+copying.Given as goal

abbrev pub invariant-copied_parts-loop-part : goal.invariant-copied_parts-loop-part
invariant-copied_parts-loop-part l = map plain_part l.copies ≡ map plain_part (take l.part-index l.part-items)

abbrev pub invariant-copied_exprs-loop-expr : goal.invariant-copied_exprs-loop-expr
invariant-copied_exprs-loop-expr l = map plain_expr l.copies ≡ map plain_expr (take l.expr-index l.expr-items)

abbrev pub invariant-copied_args-loop-arg : goal.invariant-copied_args-loop-arg
invariant-copied_args-loop-arg l = map plain_arg l.copies ≡ map plain_arg (take l.arg-index l.arg-items)
