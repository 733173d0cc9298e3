use Rattle.std.proofs.Common.{◌≡◌, ℕ, Bool, List, take}
use Rattle.hl_meaning.specs.Views.{plain_stmts}
use Rattle.hl_inline.specs.UsedUndeclared.{declared_in, used_undeclared_in}
use Rattle.hl_inline.specs.Marking.{mark_all, marking, plain_usage}
use Rattle.hl_inline.proofs.undeclared_uses.+walking.Given as goal

abbrev pub invariant-note_stmts-loop-stmt : goal.invariant-note_stmts-loop-stmt
invariant-note_stmts-loop-stmt l = (known : List ℕ) → (marks : List Bool) → plain_usage l.initial.usage ≡ marking known marks
    → plain_usage l.usage ≡ marking (declared_in known (plain_stmts (take l.stmt-index l.stmt-items))) (mark_all (used_undeclared_in known (plain_stmts (take l.stmt-index l.stmt-items))) marks)
