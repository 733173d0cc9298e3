use Rattle.std.proofs.Common.{refl, subst}
use Rattle.std.proofs.lemmas.Result.{err_from_is_err_and}
use Rattle.bc_stream.specs.declared.read.TheConstants.{OUTSIDE}
use Rattle.bc_stream.specs.Blocks.{contents_of}
use Rattle.bc_stream.specs.Pieces.{PieceAt}
use Rattle.bc_stream.proofs.BodyLemmas.{outermost_at, outermost_inner, only_heads_outside, knows_outside}
use Rattle.bc_stream.proofs.read.read_outermost.Goals as goal

pub returns-in_default : goal.returns-in_default
returns-in_default c =
    absurd (only_heads_outside c.args.bytes.now OUTSIDE c.args.at c.in_ok-id.field-0 (knows_outside OUTSIDE refl refl refl) c.in_ok-id.ensures c.in_default.not-Enter)

pub returns-in_err-body : goal.returns-in_err-body
returns-in_err-body c =
    let p = err_from_is_err_and c.from_residual-in_err-body.result c.from_residual-in_err-body.ensures.1 in
    rw (p.1, p.2) (outermost_inner c.args.bytes.now OUTSIDE c.in-Enter.inner c.args.at c.in-Enter.id c.in-Enter.to c.in_err-body.field-0.0
    (subst (PieceAt c.args.bytes.now OUTSIDE c.args.at) c.in-Enter.is c.in_ok-id.ensures) c.in_err-body.ensures.body)

pub returns : goal.returns
returns c =
    outermost_at c.args.bytes.now OUTSIDE c.in-Enter.inner c.args.at c.in-Enter.id c.in-Enter.to c.in_ok-body.body (contents_of c.args.blocks.now) (contents_of c.push_outermost.new.blocks)
    (knows_outside OUTSIDE refl refl refl) (subst (PieceAt c.args.bytes.now OUTSIDE c.args.at) c.in-Enter.is c.in_ok-id.ensures) c.in_ok-body.ensures.body c.in_ok-push_outermost.ensures.ok
