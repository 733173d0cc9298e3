use Rattle.dx_validate.proofs.BodySearch.{Passed}
use Rattle.dx_validate.proofs.rules.first_body_fault.Given as goal

abbrev pub invariant-loop-place : goal.invariant-loop-place
invariant-loop-place l = Passed l.types l.functions l.place l.found
