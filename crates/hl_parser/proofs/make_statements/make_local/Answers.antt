use Rattle.std.proofs.Common.{◌∙◌, sym, ap, subst, IfOk, arith}
use Rattle.hl_parser.specs.Grammar as grammar
use Rattle.hl_parser.specs.Held.{Makes, values_of}
use Rattle.hl_parser.specs.Machine.{put}
use Rattle.hl_parser.specs.Trees.{a_local, no_trees}
use Rattle.hl_parser.specs.Trees as plain
use Rattle.hl_parser.specs.Views.{plain_of, plain_trees}
use Rattle.hl_parser.proofs.Plain.{plain-Local}
use Rattle.hl_parser.proofs.make_statements.make_local.Goals as goal

pub put-requires : goal.put-requires
put-requires c =
    let same = plain-Local c.first_of-at.result c.in-Some-take_option.constant c.in-Some-take_tree.ty.tree c.in-Some.starts.trees in
    omega (arith, ap plain.depth same, c.in-Some.starts.measured, c.in-Some-take_tree.ty.measured)

pub returns : goal.returns
returns c =
    let same = plain-Local c.first_of-at.result c.in-Some-take_option.constant c.in-Some-take_tree.ty.tree c.in-Some.starts.trees in
    let rest = values_of c.take_option.new.values in
    subst (λ k. IfOk c.put.result (λ made. Makes k made c.put.new.values))
    (sym (c.in-Some.ensures _ ∙ (c.in-Some-take_tree.ensures _ ∙ (c.in-Some-take_option.ensures _ ∙ (ap (λ t. put t rest) (ap (λ a. a_local a c.in-Some-take_option.constant (plain_of c.in-Some-take_tree.ty.tree) (plain_trees c.in-Some.starts.trees)) (sym (c.first_of-at.ensures ∙ ap (λ o. grammar.first_of c.in-Some-take_option.constant o) (c.at-other.ensures ∙ ap (λ t. plain.at_of (plain_of t)) c.get.ensures))) ∙ sym same))))))
    c.put.ensures
