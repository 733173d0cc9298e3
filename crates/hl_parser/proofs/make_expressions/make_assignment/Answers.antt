use Rattle.std.proofs.Common.{◌∙◌, sym, ap, subst, IfOk, arith}
use Rattle.hl_parser.specs.Held.{Makes, values_of}
use Rattle.hl_parser.specs.Machine.{put}
use Rattle.hl_parser.specs.Trees.{an_expr, no_trees}
use Rattle.hl_parser.specs.Trees as plain
use Rattle.hl_parser.specs.Views.{plain_of}
use Rattle.hl_parser.proofs.Plain.{plain-Expr}
use Rattle.hl_parser.proofs.make_expressions.make_assignment.Goals as goal

pub put-requires : goal.put-requires
put-requires c =
    let same = plain-Expr c.at-at.result c.in-Some-take_tree.left.tree c.in-Some-take_token.mark c.in-Some.right.tree in
    omega (arith, ap plain.depth same, c.in-Some.right.measured, c.in-Some-take_tree.left.measured)

pub returns : goal.returns
returns c =
    let same = plain-Expr c.at-at.result c.in-Some-take_tree.left.tree c.in-Some-take_token.mark c.in-Some.right.tree in
    let rest = values_of c.take_tree-2.new.values in
    subst (λ k. IfOk c.put.result (λ made. Makes k made c.put.new.values))
    (sym (c.in-Some.ensures _ ∙ (c.in-Some-take_token.ensures _ ∙ (c.in-Some-take_tree.ensures _ ∙ (ap (λ t. put t rest) (ap (λ a. an_expr a (plain_of c.in-Some-take_tree.left.tree) c.in-Some-take_token.mark (plain_of c.in-Some.right.tree)) (sym (c.at-at.ensures ∙ ap (λ t. plain.at_of (plain_of t)) c.get.ensures)) ∙ sym same))))))
    c.put.ensures
