use mathlib.Core.Logic.{inl}
use Rattle.std.proofs.Common.{ap, subst, ℕ}
use Rattle.std.specs.Prelude.{Ok, Err}
use Rattle.hl_parser.specs.Grammar.{IsSyntaxFault}
use Rattle.hl_parser.specs.Parsing.{GivesFault, GivesTree, IsFault, SpellsTooDeep, terminals_of}
use Rattle.hl_parser.specs.declared.fault.ParseFault.{ParseFault}
use Rattle.hl_parser.specs.declared.fault.ParseFault.TheVariants.{Syntax, TooDeep}
use Rattle.hl_parser.specs.Views.{plain_of}
use Rattle.dxil_driver.specs.declared.compiler.CompileFault.{CompileFault}
use Rattle.dxil_driver.proofs.TreeFaults.{tree_is, is_spelled, gives, is_broken, is_deep, syntax_named, depth_named}
use Rattle.dxil_driver.proofs.compiler.read_tree.Goals as goal

pub returns-in-Ok-clause-tree : goal.returns-in-Ok-clause-tree
returns-in-Ok-clause-tree c = tree_is c.args.tokens.now.list (plain_of c.in-Ok.tree) c.in-Ok.ensures.tree

pub returns-in-Ok-clause-every_tree : goal.returns-in-Ok-clause-every_tree
returns-in-Ok-clause-every_tree c = λ tree h. c.in-Ok.ensures.every_tree tree (is_spelled c.args.tokens.now.list tree h) h.shallow

pub returns-in-Ok-clause-every_fault : goal.returns-in-Ok-clause-every_fault
returns-in-Ok-clause-every_fault c = λ fault place h.
    absurd (gives c.args.tokens.now.list c.args.tokens.now.end (Ok c.in-Ok.tree) c.in-Ok.ensures.every_syntax c.in-Ok.ensures.every_depth fault place h)

pub returns-in-Err-Syntax-clause-every_tree : goal.returns-in-Err-Syntax-clause-every_tree
returns-in-Err-Syntax-clause-every_tree c = λ tree h.
    subst (λ (f : ParseFault). GivesTree (Err f) (tree)) c.in-Err-Syntax.field-0-is (c.in-Err-Syntax.ensures.every_tree tree (is_spelled c.args.tokens.now.list tree h) h.shallow)

pub returns-in-Err-Syntax-clause-fault : goal.returns-in-Err-Syntax-clause-fault
returns-in-Err-Syntax-clause-fault c = is_broken c.args.tokens.now.list c.args.tokens.now.end c.in-Err-Syntax.at c.place_of.result (subst (IsFault (terminals_of c.args.tokens.now.list)) c.in-Err-Syntax.field-0-is c.in-Err-Syntax.ensures.fault) c.place_of.ensures

pub returns-in-Err-Syntax-clause-every_fault : goal.returns-in-Err-Syntax-clause-every_fault
returns-in-Err-Syntax-clause-every_fault c = λ fault place h.
    inl (ap (λ (f : CompileFault). Err f) (syntax_named c.args.tokens.now.list c.args.tokens.now.end c.in-Err-Syntax.at c.place_of.result c.place_of.ensures
    (gives c.args.tokens.now.list c.args.tokens.now.end (Err (Syntax c.in-Err-Syntax.at))
    (subst (λ (f : ParseFault). (at : ℕ) → IsSyntaxFault (terminals_of c.args.tokens.now.list) at → GivesFault (Err f) (Syntax at)) c.in-Err-Syntax.field-0-is c.in-Err-Syntax.ensures.every_syntax)
    (subst (λ (f : ParseFault). SpellsTooDeep (terminals_of c.args.tokens.now.list) → GivesFault (Err f) TooDeep) c.in-Err-Syntax.field-0-is c.in-Err-Syntax.ensures.every_depth)) fault place h))

pub returns-in-Err-TooDeep-clause-every_tree : goal.returns-in-Err-TooDeep-clause-every_tree
returns-in-Err-TooDeep-clause-every_tree c = λ tree h.
    subst (λ (f : ParseFault). GivesTree (Err f) (tree)) c.in-Err-TooDeep.field-0-is (c.in-Err-TooDeep.ensures.every_tree tree (is_spelled c.args.tokens.now.list tree h) h.shallow)

pub returns-in-Err-TooDeep-clause-fault : goal.returns-in-Err-TooDeep-clause-fault
returns-in-Err-TooDeep-clause-fault c = is_deep c.args.tokens.now.list (subst (IsFault (terminals_of c.args.tokens.now.list)) c.in-Err-TooDeep.field-0-is c.in-Err-TooDeep.ensures.fault)

pub returns-in-Err-TooDeep-clause-every_fault : goal.returns-in-Err-TooDeep-clause-every_fault
returns-in-Err-TooDeep-clause-every_fault c = λ fault place h.
    inl (ap (λ (f : CompileFault). Err f) (depth_named c.args.tokens.now.list c.args.tokens.now.end
    (gives c.args.tokens.now.list c.args.tokens.now.end (Err TooDeep)
    (subst (λ (f : ParseFault). (at : ℕ) → IsSyntaxFault (terminals_of c.args.tokens.now.list) at → GivesFault (Err f) (Syntax at)) c.in-Err-TooDeep.field-0-is c.in-Err-TooDeep.ensures.every_syntax)
    (subst (λ (f : ParseFault). SpellsTooDeep (terminals_of c.args.tokens.now.list) → GivesFault (Err f) TooDeep) c.in-Err-TooDeep.field-0-is c.in-Err-TooDeep.ensures.every_depth)) fault place h))
