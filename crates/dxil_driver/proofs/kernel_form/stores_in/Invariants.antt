use Rattle.std.proofs.Common.{◌≡◌, ◌++◌, drop, option_map}
use Rattle.hl_meaning.specs.Views.{plain_stmts}
use Rattle.dxil_driver.specs.FirstForm.{stores_of}
use Rattle.dxil_driver.proofs.kernel_form.stores_in.Given as goal

-- the stores so far, and those of the statements that are left, are all of them
abbrev pub invariant-loop-statement : goal.invariant-loop-statement
invariant-loop-statement l =
    option_map (λ stores. l.stores ++ stores) (stores_of (plain_stmts (drop l.statement-index l.statements))) ≡ stores_of (plain_stmts l.statements)
