use Rattle.std.proofs.Common.{◌∙◌, sym, ap, subst, IfOk, arith}
use Rattle.hl_parser.specs.Held.{Makes, values_of}
use Rattle.hl_parser.specs.Machine.{put}
use Rattle.hl_parser.specs.Trees.{a_struct, no_trees}
use Rattle.hl_parser.specs.Trees as plain
use Rattle.hl_parser.proofs.Plain.{plain-Struct}
use Rattle.hl_parser.proofs.make_declarations.make_struct.Goals as goal

pub put-requires : goal.put-requires
put-requires c =
    let same = plain-Struct c.in-Some-take_token-2.at c.in-Some-take_token.name c.in-Some.members.trees in
    omega (arith, ap plain.depth same, c.in-Some.members.measured)

pub returns : goal.returns
returns c =
    let same = plain-Struct c.in-Some-take_token-2.at c.in-Some-take_token.name c.in-Some.members.trees in
    let rest = values_of c.take_token-2.new.values in
    subst (λ k. IfOk c.put.result (λ made. Makes k made c.put.new.values))
    (sym (c.in-Some.ensures _ ∙ (c.in-Some-take_token.ensures _ ∙ (c.in-Some-take_token-2.ensures _ ∙ (ap (λ t. put t rest) (sym same))))))
    c.put.ensures
