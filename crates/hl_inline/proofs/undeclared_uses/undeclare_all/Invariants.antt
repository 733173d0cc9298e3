use Rattle.std.proofs.Common.{◌≡◌, ℕ, Bool, List, drop}
use Rattle.hl_meaning.specs.Views.{plain_stmts}
use Rattle.hl_inline.specs.UsedUndeclared.{declared_in}
use Rattle.hl_inline.specs.Marking.{marking, plain_usage}
use Rattle.hl_inline.proofs.undeclared_uses.undeclare_all.Given as goal

abbrev pub invariant-loop-stmt : goal.invariant-loop-stmt
invariant-loop-stmt l = (known : List ℕ) → (marks : List Bool) → plain_usage l.initial.usage ≡ marking (declared_in known (plain_stmts l.stmts)) marks
    → plain_usage l.usage ≡ marking (declared_in known (plain_stmts (drop l.stmt-index l.stmt-items))) marks
