use Rattle.std.proofs.Common.{◌∙◌, ap, sym}
use Rattle.hl_meaning.specs.Views.{plain_stmt}
use Rattle.hl_meaning.proofs.Plain.{plain_stmt-Block, plain_stmt-Break, plain_stmt-Continue, plain_stmt-Do, plain_stmt-For, plain_stmt-If, plain_stmt-Local, plain_stmt-Return, plain_stmt-Run, plain_stmt-While}
use Rattle.hl_inline.specs.Marking.{declared_variable}
use Rattle.hl_inline.proofs.undeclared_uses.declared_variable.Goals as goal

pub returns-in-Local : goal.returns-in-Local
returns-in-Local c = sym (ap declared_variable (ap plain_stmt c.in-Local.is ∙ plain_stmt-Local _ _))

pub returns-in-Block : goal.returns-in-Block
returns-in-Block c = sym (ap declared_variable (ap plain_stmt c.in-Block.is ∙ plain_stmt-Block _))

pub returns-in-Run : goal.returns-in-Run
returns-in-Run c = sym (ap declared_variable (ap plain_stmt c.in-Run.is ∙ plain_stmt-Run _))

pub returns-in-If : goal.returns-in-If
returns-in-If c = sym (ap declared_variable (ap plain_stmt c.in-If.is ∙ plain_stmt-If _ _ _))

pub returns-in-For : goal.returns-in-For
returns-in-For c = sym (ap declared_variable (ap plain_stmt c.in-For.is ∙ plain_stmt-For _ _ _ _))

pub returns-in-While : goal.returns-in-While
returns-in-While c = sym (ap declared_variable (ap plain_stmt c.in-While.is ∙ plain_stmt-While _ _))

pub returns-in-Do : goal.returns-in-Do
returns-in-Do c = sym (ap declared_variable (ap plain_stmt c.in-Do.is ∙ plain_stmt-Do _ _))

pub returns-in-Break : goal.returns-in-Break
returns-in-Break c = sym (ap declared_variable (ap plain_stmt c.in-Break.is ∙ plain_stmt-Break))

pub returns-in-Continue : goal.returns-in-Continue
returns-in-Continue c = sym (ap declared_variable (ap plain_stmt c.in-Continue.is ∙ plain_stmt-Continue))

pub returns-in-Return : goal.returns-in-Return
returns-in-Return c = sym (ap declared_variable (ap plain_stmt c.in-Return.is ∙ plain_stmt-Return _))
