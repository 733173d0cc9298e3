use Rattle.std.proofs.Common.{◌∙◌, sym, ap, subst, IfOk, arith}
use Rattle.hl_parser.specs.Held.{Makes, values_of}
use Rattle.hl_parser.specs.Machine.{put}
use Rattle.hl_parser.specs.Trees.{a_choice, no_trees}
use Rattle.hl_parser.specs.Trees as plain
use Rattle.hl_parser.specs.Views.{plain_of}
use Rattle.hl_parser.proofs.Plain.{plain-Choice}
use Rattle.hl_parser.proofs.make_expressions.make_choice.Goals as goal

pub put-requires : goal.put-requires
put-requires c =
    let same = plain-Choice c.at-at.result c.in-Some-take_tree-2.condition.tree c.in-Some-take_tree.consequent.tree c.in-Some.alternative.tree in
    omega (arith, ap plain.depth same, c.in-Some.alternative.measured, c.in-Some-take_tree.consequent.measured, c.in-Some-take_tree-2.condition.measured)

pub returns : goal.returns
returns c =
    let same = plain-Choice c.at-at.result c.in-Some-take_tree-2.condition.tree c.in-Some-take_tree.consequent.tree c.in-Some.alternative.tree in
    let rest = values_of c.take_tree-3.new.values in
    subst (λ k. IfOk c.put.result (λ made. Makes k made c.put.new.values))
    (sym (c.in-Some.ensures _ ∙ (c.in-Some-take_tree.ensures _ ∙ (c.in-Some-take_tree-2.ensures _ ∙ (ap (λ t. put t rest) (ap (λ a. a_choice a (plain_of c.in-Some-take_tree-2.condition.tree) (plain_of c.in-Some-take_tree.consequent.tree) (plain_of c.in-Some.alternative.tree)) (sym (c.at-at.ensures ∙ ap (λ t. plain.at_of (plain_of t)) c.get.ensures)) ∙ sym same))))))
    c.put.ensures
