use Rattle.std.proofs.Common.{◌∙◌, sym, ap, subst, IfOk, arith}
use Rattle.hl_parser.specs.Held.{Makes, values_of}
use Rattle.hl_parser.specs.Machine.{put}
use Rattle.hl_parser.specs.Trees.{a_start, no_trees}
use Rattle.hl_parser.specs.Trees as plain
use Rattle.hl_parser.specs.Views.{plain_maybe, plain_of}
use Rattle.hl_parser.proofs.Plain.{plain-Start}
use Rattle.hl_parser.proofs.make_statements.make_start.Goals as goal

pub put-requires : goal.put-requires
put-requires c =
    let same = plain-Start c.at-at.result c.in-Some-take_tree.declarator.tree c.in-Some.init.tree in
    omega (arith, ap plain.depth same, c.in-Some.init.measured, c.in-Some-take_tree.declarator.measured)

pub returns : goal.returns
returns c =
    let same = plain-Start c.at-at.result c.in-Some-take_tree.declarator.tree c.in-Some.init.tree in
    let rest = values_of c.take_tree.new.values in
    subst (λ k. IfOk c.put.result (λ made. Makes k made c.put.new.values))
    (sym (c.in-Some.ensures _ ∙ (c.in-Some-take_tree.ensures _ ∙ (ap (λ t. put t rest) (ap (λ a. a_start a (plain_of c.in-Some-take_tree.declarator.tree) (plain_maybe c.in-Some.init.tree)) (sym (c.at-at.ensures ∙ ap (λ t. plain.at_of (plain_of t)) c.get.ensures)) ∙ sym same)))))
    c.put.ensures
