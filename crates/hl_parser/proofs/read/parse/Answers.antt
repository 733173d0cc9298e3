use Rattle.std.proofs.Common.{subst, IfOk, IfErr}
use Rattle.hl_parser.specs.Parsing.{IsAnswer, IsFault, terminals_of}
use Rattle.hl_parser.specs.Views.{plain_of}
use Rattle.hl_parser.proofs.ParseFacts.{gives_syntax, gives_too_deep, gives_tree}
use Rattle.hl_parser.proofs.read.parse.Goals as goal
use Rattle.hl_parser.proofs.read.parse.Goals.{After-read}

answers : (c : After-read) → IfOk c.read.result (λ tree. IsAnswer (terminals_of c.args.tokens.now.list) (plain_of tree))
answers c = subst (λ xs. IfOk c.read.result (λ tree. IsAnswer (terminals_of xs) (plain_of tree))) c.as_slice.ensures.value c.read.ensures.tree

faults : (c : After-read) → IfErr c.read.result (IsFault (terminals_of c.args.tokens.now.list))
faults c = subst (λ xs. IfErr c.read.result (IsFault (terminals_of xs))) c.as_slice.ensures.value c.read.ensures.fault

pub returns-clause-every_tree : goal.returns-clause-every_tree
returns-clause-every_tree c = λ tree spelled shallow.
    gives_tree (terminals_of c.args.tokens.now.list) c.read.result tree (answers c) (faults c) spelled shallow

pub returns-clause-every_syntax : goal.returns-clause-every_syntax
returns-clause-every_syntax c = λ at fault. gives_syntax (terminals_of c.args.tokens.now.list) c.read.result at (answers c) (faults c) fault

pub returns-clause-every_depth : goal.returns-clause-every_depth
returns-clause-every_depth c = λ deep. gives_too_deep (terminals_of c.args.tokens.now.list) c.read.result (answers c) (faults c) deep
