use Rattle.std.proofs.Common.{◌∙◌, sym, ap, subst, IfOk, arith}
use Rattle.hl_parser.specs.Held.{Makes, values_of}
use Rattle.hl_parser.specs.Machine.{put}
use Rattle.hl_parser.specs.Trees.{a_block, no_trees}
use Rattle.hl_parser.specs.Trees as plain
use Rattle.hl_parser.proofs.Plain.{plain-Block}
use Rattle.hl_parser.proofs.make_statements.make_block.Goals as goal

pub put-requires : goal.put-requires
put-requires c =
    let same = plain-Block c.in-Some-take_token.at c.in-Some.statements.trees in
    omega (arith, ap plain.depth same, c.in-Some.statements.measured)

pub returns : goal.returns
returns c =
    let same = plain-Block c.in-Some-take_token.at c.in-Some.statements.trees in
    let rest = values_of c.take_token.new.values in
    subst (λ k. IfOk c.put.result (λ made. Makes k made c.put.new.values))
    (sym (c.in-Some.ensures _ ∙ (c.in-Some-take_token.ensures _ ∙ (ap (λ t. put t rest) (sym same)))))
    c.put.ensures
