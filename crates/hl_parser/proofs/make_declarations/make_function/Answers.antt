use Rattle.std.proofs.Common.{◌∙◌, sym, ap, subst, IfOk, arith}
use Rattle.hl_parser.specs.Grammar as grammar
use Rattle.hl_parser.specs.Held.{Makes, values_of}
use Rattle.hl_parser.specs.Machine.{put}
use Rattle.hl_parser.specs.Trees.{a_function, no_trees}
use Rattle.hl_parser.specs.Trees as plain
use Rattle.hl_parser.specs.Views.{plain_of, plain_trees}
use Rattle.hl_parser.proofs.Plain.{plain-Function}
use Rattle.hl_parser.proofs.make_declarations.make_function.Goals as goal

pub put-requires : goal.put-requires
put-requires c =
    let same = plain-Function c.first_among-at.result c.in-Some-take_trees-2.attributes.trees c.in-Some-take_tree.result.tree c.in-Some-take_token.name c.in-Some-take_trees.params.trees c.in-Some.block.tree in
    omega (arith, ap plain.depth same, c.in-Some.block.measured, c.in-Some-take_trees.params.measured, c.in-Some-take_tree.result.measured, c.in-Some-take_trees-2.attributes.measured)

pub returns : goal.returns
returns c =
    let same = plain-Function c.first_among-at.result c.in-Some-take_trees-2.attributes.trees c.in-Some-take_tree.result.tree c.in-Some-take_token.name c.in-Some-take_trees.params.trees c.in-Some.block.tree in
    let rest = values_of c.take_trees-2.new.values in
    subst (λ k. IfOk c.put.result (λ made. Makes k made c.put.new.values))
    (sym (c.in-Some.ensures _ ∙ (c.in-Some-take_trees.ensures _ ∙ (c.in-Some-take_token.ensures _ ∙ (c.in-Some-take_tree.ensures _ ∙ (c.in-Some-take_trees-2.ensures _ ∙ (ap (λ t. put t rest) (ap (λ a. a_function a (plain_trees c.in-Some-take_trees-2.attributes.trees) (plain_of c.in-Some-take_tree.result.tree) c.in-Some-take_token.name (plain_trees c.in-Some-take_trees.params.trees) (plain_of c.in-Some.block.tree)) (sym (c.first_among-at.ensures ∙ (ap (λ ts. grammar.first_among (plain_trees ts) c.at-other.result) c.as_slice.ensures ∙ ap (λ o. grammar.first_among (plain_trees c.in-Some-take_trees-2.attributes.trees) o) (c.at-other.ensures ∙ ap (λ t. plain.at_of (plain_of t)) c.get.ensures)))) ∙ sym same))))))))
    c.put.ensures
