use Rattle.std.proofs.Common.{◌∙◌, ◌+◌, ◌++◌, ap, append-nil, arith, drop, get_or, map, sym}
use Rattle.hl_meaning.specs.declared.ty.Kind.TheVariants.{Bool}
use Rattle.hl_meaning.specs.Trees.{an_expr, literal_form}
use Rattle.hl_meaning.specs.Types.{scalar_type}
use Rattle.hl_meaning.specs.Views.{plain_expr}
use Rattle.hl_meaning.proofs.Plain.{plain_form-Literal, plain_ty-Scalar}
use Rattle.hl_inline.specs.InlinedPrograms.{literals}
use Rattle.hl_inline.proofs.Gathering.{made-next, mapped-more}
use Rattle.hl_inline.proofs.GivenForms.{expr-as}
use Rattle.hl_inline.proofs.Growing.{literals-next, literals-over}
use Rattle.hl_inline.proofs.constants.literals.Goals as goal

pub loop-index-init : goal.loop-index-init
loop-index-init c = ap (λ l. map plain_expr l ++ literals c.args.at c.args.kinds.now c.args.words.now) c.new-parts.ensures

pub loop-index-preserved : goal.loop-index-preserved
loop-index-preserved c =
    let at = c.args.at in
    let kinds = c.args.kinds.now in
    let words = c.args.words.now in
    let i = c.loop-index.index in
    let parts = map plain_expr c.loop-index.parts in
    let kind = get_or kinds i Bool in
    let word = get_or words i 0 in
    let rest = literals at (drop (i + 1) kinds) (drop (i + 1) words) in
    ap (λ l. l ++ rest) (mapped-more plain_expr c.loop-index.parts _ _ (an_expr (scalar_type kind) at (literal_form word)) c.in_ok-push.ensures.ok (expr-as _ _ _ (plain_ty-Scalar kind) (plain_form-Literal word))) ∙
    made-next parts (an_expr (scalar_type kind) at (literal_form word)) rest (literals at kinds words)
    (ap (λ l. parts ++ l) (sym (literals-next at kinds words i Bool 0 (omega (arith, c.min-count.ensures, c.loop-index-test.true)) (omega (arith, c.min-count.ensures, c.loop-index-test.true)))) ∙ c.loop-index.invariant)

pub returns : goal.returns
returns c =
    let parts = map plain_expr c.loop-index.parts in
    sym (ap (λ l. parts ++ l) (literals-over c.args.at c.args.kinds.now c.args.words.now c.loop-index.index (omega (arith, c.min-count.ensures, c.loop-index-test.false))) ∙ append-nil parts) ∙ c.loop-index.invariant
