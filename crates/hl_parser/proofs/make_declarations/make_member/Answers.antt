use Rattle.std.proofs.Common.{◌∙◌, sym, ap, subst, IfOk, arith}
use Rattle.hl_parser.specs.Held.{Makes, values_of}
use Rattle.hl_parser.specs.Machine.{put}
use Rattle.hl_parser.specs.Trees.{a_member, no_trees}
use Rattle.hl_parser.specs.Trees as plain
use Rattle.hl_parser.specs.Views.{plain_of, plain_trees}
use Rattle.hl_parser.proofs.Plain.{plain-Member}
use Rattle.hl_parser.proofs.make_declarations.make_member.Goals as goal

pub put-requires : goal.put-requires
put-requires c =
    let same = plain-Member c.at-at.result c.in-Some-take_tree.ty.tree c.in-Some.declarators.trees in
    omega (arith, ap plain.depth same, c.in-Some.declarators.measured, c.in-Some-take_tree.ty.measured)

pub returns : goal.returns
returns c =
    let same = plain-Member c.at-at.result c.in-Some-take_tree.ty.tree c.in-Some.declarators.trees in
    let rest = values_of c.take_tree.new.values in
    subst (λ k. IfOk c.put.result (λ made. Makes k made c.put.new.values))
    (sym (c.in-Some.ensures _ ∙ (c.in-Some-take_tree.ensures _ ∙ (ap (λ t. put t rest) (ap (λ a. a_member a (plain_of c.in-Some-take_tree.ty.tree) (plain_trees c.in-Some.declarators.trees)) (sym (c.at-at.ensures ∙ ap (λ t. plain.at_of (plain_of t)) c.get.ensures)) ∙ sym same)))))
    c.put.ensures
