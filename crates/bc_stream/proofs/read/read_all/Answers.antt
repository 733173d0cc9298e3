use Rattle.std.proofs.Common.{refl}
use Rattle.std.proofs.lemmas.Result.{err_from_is_err_and}
use Rattle.bc_stream.specs.declared.read.TheConstants.{OUTSIDE}
use Rattle.bc_stream.specs.Blocks.{contents_of}
use Rattle.bc_stream.proofs.BodyLemmas.{blocks_more, blocks_spelled, blocks_fault, knows_outside}
use Rattle.bc_stream.proofs.read.read_all.Goals as goal

pub returns-in_err-at : goal.returns-in_err-at
returns-in_err-at c =
    let p = err_from_is_err_and c.from_residual.result c.from_residual.ensures.1 in
    rw (p.1, p.2) (blocks_fault c.args.bytes.now OUTSIDE (contents_of c.loop-alloc.blocks) c.loop-alloc.at c.in_err-at.field-0.0 c.requires.magic (knows_outside OUTSIDE refl refl refl)
    c.loop-alloc.invariant c.in_err-at.ensures)

pub loop-alloc-preserved : goal.loop-alloc-preserved
loop-alloc-preserved c =
    blocks_more c.args.bytes.now c.loop-alloc.at c.in_ok-at.at (contents_of c.loop-alloc.blocks) (contents_of c.read_outermost.new.blocks) c.loop-alloc.invariant c.in_ok-at.ensures

pub returns : goal.returns
returns c =
    blocks_spelled c.args.bytes.now (contents_of c.loop-alloc.blocks) c.loop-alloc.at c.requires.magic c.loop-alloc.invariant (c.loop-alloc-test.ensures.0 refl)
