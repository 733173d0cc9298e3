use Rattle.std.proofs.Common.{◌∙◌, sym, ap, subst, Some, IfOk, arith}
use Rattle.hl_parser.specs.Held.{Makes, values_of}
use Rattle.hl_parser.specs.Machine.{put}
use Rattle.hl_parser.specs.Trees.{an_init, no_trees}
use Rattle.hl_parser.specs.Trees as plain
use Rattle.hl_parser.specs.Views.{plain_maybe, plain_of, plain_trees}
use Rattle.hl_parser.proofs.Plain.{plain-Init}
use Rattle.hl_parser.proofs.make_declarations.make_value.Goals as goal

pub put-requires : goal.put-requires
put-requires c =
    let same = plain-Init c.at-at.result (Some c.in-Some.value.tree) c.new.result in
    omega (arith, ap plain.depth same, c.in-Some.value.measured, ap (λ ts. plain.depths (plain_trees ts)) c.new.ensures)

pub returns : goal.returns
returns c =
    let same = plain-Init c.at-at.result (Some c.in-Some.value.tree) c.new.result in
    let rest = values_of c.take_tree.new.values in
    subst (λ k. IfOk c.put.result (λ made. Makes k made c.put.new.values))
    (sym (c.in-Some.ensures _ ∙ (ap (λ t. put t rest) (ap (λ a. an_init a (plain_maybe (Some c.in-Some.value.tree)) no_trees) (sym (c.at-at.ensures ∙ ap (λ t. plain.at_of (plain_of t)) c.get.ensures)) ∙ (ap (λ ts. an_init c.at-at.result (plain_maybe (Some c.in-Some.value.tree)) (plain_trees ts)) (sym c.new.ensures) ∙ sym same)))))
    c.put.ensures
