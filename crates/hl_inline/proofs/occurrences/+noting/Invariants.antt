use Rattle.std.proofs.Common.{◌≡◌, drop}
use Rattle.hl_meaning.specs.Views.{plain_args, plain_exprs, plain_parts}
use Rattle.hl_inline.specs.Occurrences.{args_occurrences, exprs_occurrences, parts_occurrences}
use Rattle.hl_inline.specs.Marking.{mark_occurrences}
use Rattle.hl_inline.proofs.occurrences.+noting.Given as goal

abbrev pub invariant-note_exprs-loop-expr : goal.invariant-note_exprs-loop-expr
invariant-note_exprs-loop-expr l = mark_occurrences l.declared (exprs_occurrences (plain_exprs (drop l.expr-index l.exprs))) l.used_undeclared ≡ mark_occurrences l.declared (exprs_occurrences (plain_exprs l.exprs)) l.initial.used_undeclared

abbrev pub invariant-note_args-loop-arg : goal.invariant-note_args-loop-arg
invariant-note_args-loop-arg l = mark_occurrences l.declared (args_occurrences (plain_args (drop l.arg-index l.args))) l.used_undeclared ≡ mark_occurrences l.declared (args_occurrences (plain_args l.args)) l.initial.used_undeclared

abbrev pub invariant-note_parts-loop-part : goal.invariant-note_parts-loop-part
invariant-note_parts-loop-part l = mark_occurrences l.declared (parts_occurrences (plain_parts (drop l.part-index l.parts))) l.used_undeclared ≡ mark_occurrences l.declared (parts_occurrences (plain_parts l.parts)) l.initial.used_undeclared
