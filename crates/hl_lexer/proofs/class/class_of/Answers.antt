use Rattle.std.proofs.Common.{◌≡◌, ◌∙◌, sym, ap, arith}
use Rattle.hl_lexer.specs.Scanning.{class_of}
use Rattle.hl_lexer.proofs.ClassFacts.{class_in_table, code_class, other_code}
use Rattle.hl_lexer.proofs.class.class_of.Goals as goal
use Rattle.hl_lexer.proofs.class.class_of.Goals.{After-code_of-code}

-- what the table has
in_table : (c : After-code_of-code) → code_class c.code_of-code.result ≡ class_of c.args.byte
in_table c = class_in_table c.code_of-code.result c.args.byte (omega arith) c.code_of-code.ensures

pub returns-then-code : goal.returns-then-code
returns-then-code c = sym (ap code_class c.if-code.true) ∙ in_table (goal.at.returns-then-code c).After-code_of-code

pub returns-then-code-2 : goal.returns-then-code-2
returns-then-code-2 c = sym (ap code_class c.if-code-2.true) ∙ in_table (goal.at.returns-then-code-2 c).After-code_of-code

pub returns-then-code-3 : goal.returns-then-code-3
returns-then-code-3 c = sym (ap code_class c.if-code-3.true) ∙ in_table (goal.at.returns-then-code-3 c).After-code_of-code

pub returns-then-code-4 : goal.returns-then-code-4
returns-then-code-4 c = sym (ap code_class c.if-code-4.true) ∙ in_table (goal.at.returns-then-code-4 c).After-code_of-code

pub returns-else-code-4 : goal.returns-else-code-4
returns-else-code-4 c =
    sym (other_code c.code_of-code.result c.if-code-4.false c.if-code-2.false c.if-code.false c.if-code-3.false)
    ∙ in_table (goal.at.returns-else-code-4 c).After-code_of-code
