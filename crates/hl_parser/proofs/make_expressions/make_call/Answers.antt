use Rattle.std.proofs.Common.{◌∙◌, sym, ap, subst, None, Some, IfOk, arith}
use Rattle.hl_parser.specs.Held.{Makes, values_of}
use Rattle.hl_parser.specs.Machine.{put}
use Rattle.hl_parser.specs.Trees.{a_primary, no_trees}
use Rattle.hl_parser.specs.Trees as plain
use Rattle.hl_parser.proofs.Plain.{plain-Primary}
use Rattle.hl_parser.proofs.make_expressions.make_call.Goals as goal

pub put-requires : goal.put-requires
put-requires c =
    let same = plain-Primary c.in-Some-take_token.at None (Some c.in-Some.arguments.tree) in
    omega (arith, ap plain.depth same, c.in-Some.arguments.measured)

pub returns : goal.returns
returns c =
    let same = plain-Primary c.in-Some-take_token.at None (Some c.in-Some.arguments.tree) in
    let rest = values_of c.take_token.new.values in
    subst (λ k. IfOk c.put.result (λ made. Makes k made c.put.new.values))
    (sym (c.in-Some.ensures _ ∙ (c.in-Some-take_token.ensures _ ∙ (ap (λ t. put t rest) (sym same)))))
    c.put.ensures
