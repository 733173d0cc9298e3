use Rattle.std.proofs.Common.{◌∙◌, sym, ap, subst, IfOk, arith}
use Rattle.hl_parser.specs.Grammar as grammar
use Rattle.hl_parser.specs.Held.{Makes, values_of}
use Rattle.hl_parser.specs.Machine.{put}
use Rattle.hl_parser.specs.Trees.{a_program, no_trees}
use Rattle.hl_parser.specs.Trees as plain
use Rattle.hl_parser.specs.Views.{plain_trees}
use Rattle.hl_parser.proofs.Plain.{plain-Program}
use Rattle.hl_parser.proofs.make_declarations.make_program.Goals as goal

pub put-requires : goal.put-requires
put-requires c =
    let same = plain-Program c.first_among-at.result c.in-Some.items.trees in
    omega (arith, ap plain.depth same, c.in-Some.items.measured)

pub returns : goal.returns
returns c =
    let same = plain-Program c.first_among-at.result c.in-Some.items.trees in
    let rest = values_of c.take_trees.new.values in
    subst (λ k. IfOk c.put.result (λ made. Makes k made c.put.new.values))
    (sym (c.in-Some.ensures _ ∙ (ap (λ t. put t rest) (ap (λ a. a_program a (plain_trees c.in-Some.items.trees)) (sym (c.first_among-at.ensures ∙ ap (λ ts. grammar.first_among (plain_trees ts) 0) c.as_slice.ensures)) ∙ sym same))))
    c.put.ensures
