use Rattle.std.proofs.Common.{◌∙◌, sym, ap, subst, IfOk, arith}
use Rattle.hl_parser.specs.Grammar as grammar
use Rattle.hl_parser.specs.Held.{Makes, values_of}
use Rattle.hl_parser.specs.Machine.{put}
use Rattle.hl_parser.specs.Trees.{a_param, no_trees}
use Rattle.hl_parser.specs.Trees as plain
use Rattle.hl_parser.specs.Views.{plain_maybe, plain_of}
use Rattle.hl_parser.proofs.Plain.{plain-Param}
use Rattle.hl_parser.proofs.make_declarations.make_param.Goals as goal

pub put-requires : goal.put-requires
put-requires c =
    let same = plain-Param c.first_of-at.result c.in-Some-take_option.constant c.in-Some-take_maybe.direction.tree c.in-Some-take_tree-2.ty.tree c.in-Some-take_tree.declarator.tree c.in-Some.semantic in
    omega (arith, ap plain.depth same, c.in-Some-take_tree.declarator.measured, c.in-Some-take_tree-2.ty.measured, c.in-Some-take_maybe.direction.measured)

pub returns : goal.returns
returns c =
    let same = plain-Param c.first_of-at.result c.in-Some-take_option.constant c.in-Some-take_maybe.direction.tree c.in-Some-take_tree-2.ty.tree c.in-Some-take_tree.declarator.tree c.in-Some.semantic in
    let rest = values_of c.take_option-2.new.values in
    subst (λ k. IfOk c.put.result (λ made. Makes k made c.put.new.values))
    (sym (c.in-Some.ensures _ ∙ (c.in-Some-take_tree.ensures _ ∙ (c.in-Some-take_tree-2.ensures _ ∙ (c.in-Some-take_maybe.ensures _ ∙ (c.in-Some-take_option.ensures _ ∙ (ap (λ t. put t rest) (ap (λ a. a_param a c.in-Some-take_option.constant (plain_maybe c.in-Some-take_maybe.direction.tree) (plain_of c.in-Some-take_tree-2.ty.tree) (plain_of c.in-Some-take_tree.declarator.tree) c.in-Some.semantic) (sym (c.first_of-at.ensures ∙ ap (λ o. grammar.first_of c.in-Some-take_option.constant o) (c.first_if-behind.ensures ∙ ap (λ o. grammar.first_if (plain_maybe c.in-Some-take_maybe.direction.tree) o) (c.at-other.ensures ∙ ap (λ t. plain.at_of (plain_of t)) c.get.ensures)))) ∙ sym same))))))))
    c.put.ensures
