use Rattle.std.proofs.Common.{◌∙◌, sym, ap, subst, ◌∷◌, [], ◌++◌, IfOk, arith}
use Rattle.hl_parser.specs.Held.{Makes, values_of}
use Rattle.hl_parser.specs.Machine.{kept, trees_value}
use Rattle.hl_parser.specs.Trees.{depths}
use Rattle.hl_parser.specs.Views.{plain_of, plain_trees}
use Rattle.hl_parser.proofs.Deep.{depths-append}
use Rattle.hl_parser.proofs.TreesAppend.{plain_append}
use Rattle.hl_parser.proofs.make.make_append.Goals as goal

pub put_part-requires-clause-measured : goal.put_part-requires-clause-measured
put_part-requires-clause-measured c =
    let ts = c.in-Some-take_trees.trees.trees in
    let t = c.in-Some.tree.tree in
    let grown = ap plain_trees (c.in_ok-push.ensures.ok ∙ ap (λ t. ts ++ (t ∷ [])) c.into_inner.ensures) ∙ plain_append ts t in
    let deep = ap depths grown ∙ depths-append (plain_trees ts) (plain_of t) in
    omega (arith, deep, c.max-depth.ensures, c.in-Some.tree.measured, c.in-Some-take_trees.trees.measured)

pub returns : goal.returns
returns c =
    let ts = c.in-Some-take_trees.trees.trees in
    let t = c.in-Some.tree.tree in
    let grown = ap plain_trees (c.in_ok-push.ensures.ok ∙ ap (λ t. ts ++ (t ∷ [])) c.into_inner.ensures) ∙ plain_append ts t in
    let rest = values_of c.take_trees.new.values in
    subst (λ k. IfOk c.put_part.result (λ made. Makes k made c.put_part.new.values))
    (sym (c.in-Some.ensures _ ∙ (c.in-Some-take_trees.ensures _ ∙ ap (λ ts. kept (trees_value ts ∷ rest)) (sym grown))))
    c.put_part.ensures
