use Rattle.std.proofs.Common.{◌∙◌, sym, ap, subst, Some, IfOk, arith}
use Rattle.hl_parser.specs.Held.{Makes, values_of}
use Rattle.hl_parser.specs.Machine.{put}
use Rattle.hl_parser.specs.Trees.{a_result, no_trees}
use Rattle.hl_parser.specs.Trees as plain
use Rattle.hl_parser.specs.Views.{plain_maybe, plain_of}
use Rattle.hl_parser.proofs.Plain.{plain-Result}
use Rattle.hl_parser.proofs.make_declarations.make_type_result.Goals as goal

pub put-requires : goal.put-requires
put-requires c =
    let same = plain-Result c.at-at.result (Some c.in-Some.ty.tree) in
    omega (arith, ap plain.depth same, c.in-Some.ty.measured)

pub returns : goal.returns
returns c =
    let same = plain-Result c.at-at.result (Some c.in-Some.ty.tree) in
    let rest = values_of c.take_tree.new.values in
    subst (λ k. IfOk c.put.result (λ made. Makes k made c.put.new.values))
    (sym (c.in-Some.ensures _ ∙ (ap (λ t. put t rest) (ap (λ a. a_result a (plain_maybe (Some c.in-Some.ty.tree))) (sym (c.at-at.ensures ∙ ap (λ t. plain.at_of (plain_of t)) c.get.ensures)) ∙ sym same))))
    c.put.ensures
