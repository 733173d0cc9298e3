use Rattle.std.proofs.Common.{◌∙◌, sym, ap, subst, IfOk, arith}
use Rattle.hl_parser.specs.Grammar as grammar
use Rattle.hl_parser.specs.Held.{Makes, values_of}
use Rattle.hl_parser.specs.Machine.{put}
use Rattle.hl_parser.specs.Trees.{an_if, no_trees}
use Rattle.hl_parser.specs.Trees as plain
use Rattle.hl_parser.specs.Views.{plain_maybe, plain_of, plain_trees}
use Rattle.hl_parser.proofs.Plain.{plain-If}
use Rattle.hl_parser.proofs.make_statements.make_if.Goals as goal

pub put-requires : goal.put-requires
put-requires c =
    let same = plain-If c.first_among-at.result c.in-Some-take_trees.attributes.trees c.in-Some-take_tree-2.condition.tree c.in-Some-take_tree.consequent.tree c.in-Some.alternative.tree in
    omega (arith, ap plain.depth same, c.in-Some.alternative.measured, c.in-Some-take_tree.consequent.measured, c.in-Some-take_tree-2.condition.measured, c.in-Some-take_trees.attributes.measured)

pub returns : goal.returns
returns c =
    let same = plain-If c.first_among-at.result c.in-Some-take_trees.attributes.trees c.in-Some-take_tree-2.condition.tree c.in-Some-take_tree.consequent.tree c.in-Some.alternative.tree in
    let rest = values_of c.take_trees.new.values in
    subst (λ k. IfOk c.put.result (λ made. Makes k made c.put.new.values))
    (sym (c.in-Some.ensures _ ∙ (c.in-Some-take_tree.ensures _ ∙ (c.in-Some-take_tree-2.ensures _ ∙ (c.in-Some-take_token.ensures _ ∙ (c.in-Some-take_trees.ensures _ ∙ (ap (λ t. put t rest) (ap (λ a. an_if a (plain_trees c.in-Some-take_trees.attributes.trees) (plain_of c.in-Some-take_tree-2.condition.tree) (plain_of c.in-Some-take_tree.consequent.tree) (plain_maybe c.in-Some.alternative.tree)) (sym (c.first_among-at.ensures ∙ ap (λ ts. grammar.first_among (plain_trees ts) c.in-Some-take_token.word) c.as_slice.ensures)) ∙ sym same))))))))
    c.put.ensures
