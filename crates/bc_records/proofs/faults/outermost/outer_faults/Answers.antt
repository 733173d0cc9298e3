use Rattle.std.proofs.Common.{◌≡◌, ◌∙◌, ◌==◌, ◌||◌, ℕ, Bool, Option, None, ap, sym, arith}
use Rattle.bc_stream.specs.Blocks.{Contents, contents_of, parts_contents, no_more}
use Rattle.bc_stream.proofs.BlockLemmas.{contents_of-none}
use Rattle.bc_records.specs.Codes.{module_block}
use Rattle.bc_records.specs.Entries.{block_count}
use Rattle.bc_records.specs.FaultSearch.{fault_at, first_kind, or_else}
use Rattle.bc_records.specs.RecordKinds.{has_block, kind_unless}
use Rattle.bc_records.proofs.FaultWalk.{told-exit, or_else-none}
use Rattle.bc_records.proofs.FaultOuter.{outer_past, outer_rest, outer_fault, outer-start, outer-more, outer-found, outer-end, outer-count, outer-seen, outer-room}
use Rattle.bc_records.proofs.faults.outermost.outer_faults.Goals as goal

pub loop-block-init : goal.loop-block-init
loop-block-init c = record {
  walked = outer-start c.args.blocks.now;
  seen = ap (has_block module_block) contents_of-none;
  left = omega arith;
  numbered = λ more. sym (ap block_count contents_of-none);
}

pub outer_part-requires : goal.outer_part-requires
outer_part-requires c =
    omega (arith, c.requires, (c.loop-block.invariant.numbered c.loop-block-test.true), outer-room c.args.blocks.now c.loop-block.block-index c.block-item.result c.loop-block-test.true c.block-item.is)

-- there is a MODULE
missing : (first : Option ℕ) (blocks : Contents) (has : Bool) → has ≡ has_block module_block blocks → first ≡ first_kind (kind_unless has 1) → fault_at 0 0 first ≡ None →
    fault_at 0 0 (first_kind (kind_unless (has_block module_block blocks) 1)) ≡ None
missing first blocks has is told free = ap (λ b. fault_at 0 0 (first_kind (kind_unless b 1))) (sym is) ∙ (ap (fault_at 0 0) (sym told) ∙ free)

pub returns-in_err-outer_part : goal.returns-in_err-outer_part
returns-in_err-outer_part c =
    let blocks = c.args.blocks.now in
    let i = c.loop-block.block-index in
    let b = c.block-item.result in
    let head = fault_at 0 0 (first_kind (kind_unless (has_block module_block (contents_of blocks)) 1)) in
    told-exit c.from_residual-in_err-outer_part.result c.in_err-outer_part.field-0.0
    (outer_fault (outer_past blocks i) c.loop-block.number b.id (parts_contents b.parts))
    (or_else head (outer_rest no_more (contents_of blocks)))
    c.from_residual-in_err-outer_part.ensures.1
    (λ f is. or_else-none head (outer_rest no_more (contents_of blocks)) (missing c.unless.result (contents_of blocks) c.has_module.result c.has_module.ensures c.unless.ensures c.in_ok-free_at.ensures)
    ∙ outer-found blocks i b c.loop-block-test.true c.block-item.is c.loop-block.invariant.walked f
    (ap (λ n. outer_fault (outer_past blocks i) n b.id (parts_contents b.parts)) (sym (c.loop-block.invariant.numbered c.loop-block-test.true)) ∙ is))
    (c.in_err-outer_part.ensures (outer_past blocks i) c.loop-block.invariant.seen)

pub loop-block-preserved : goal.loop-block-preserved
loop-block-preserved c =
    let blocks = c.args.blocks.now in
    let i = c.loop-block.block-index in
    let b = c.block-item.result in
    let room = outer-room blocks i b c.loop-block-test.true c.block-item.is in
    record {
      walked = outer-more blocks i b c.loop-block-test.true c.block-item.is c.loop-block.invariant.walked
          (ap (λ n. outer_fault (outer_past blocks i) n b.id (parts_contents b.parts)) (sym (c.loop-block.invariant.numbered c.loop-block-test.true))
          ∙ c.in_ok-outer_part.ensures (outer_past blocks i) c.loop-block.invariant.seen);
      seen = outer-seen blocks i b c.loop-block-test.true c.block-item.is
          ∙ (ap (λ t. t || (b.id == module_block)) c.loop-block.invariant.seen ∙ sym c.module_behind-seen.ensures);
      left = omega (arith, c.loop-block.invariant.left);
      numbered = λ more. omega (
        arith,
        outer-count blocks i b c.loop-block-test.true c.block-item.is,
        (c.loop-block.invariant.numbered c.loop-block-test.true),
        c.number_behind-number.ensures (omega (arith, more, c.loop-block.invariant.left, c.loop-block-test.true)) (omega (arith, c.requires, room, (c.loop-block.invariant.numbered c.loop-block-test.true))),
      );
    }

pub returns : goal.returns
returns c =
    let blocks = c.args.blocks.now in
    let head = fault_at 0 0 (first_kind (kind_unless (has_block module_block (contents_of blocks)) 1)) in
    or_else-none head (outer_rest no_more (contents_of blocks)) (missing c.unless.result (contents_of blocks) c.has_module.result c.has_module.ensures c.unless.ensures c.in_ok-free_at.ensures)
    ∙ outer-end blocks c.loop-block.block-index c.loop-block-test.false c.loop-block.invariant.walked
