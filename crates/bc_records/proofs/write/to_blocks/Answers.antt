use Rattle.std.proofs.Common.{◌≡◌, ◌^◌, ◌<◌, ◌≤◌, ◌∙◌, ap, sym, subst}
use Rattle.ir_core.specs.declared.module.Module.{Module}
use Rattle.bc_stream.specs.Spelling.{most_levels}
use Rattle.bc_stream.specs.Blocks.{Contents, HasNoBlockZero, levels, no_more, a_block, append, contents_of, parts_contents}
use Rattle.bc_records.specs.Entries.{block_count}
use Rattle.bc_records.specs.Records.{Recorded}
use Rattle.bc_records.specs.Written.{module_contents, written}
use Rattle.bc_records.proofs.ModuleWritten.{recorded}
use Rattle.bc_records.proofs.WrittenBlocks.{no_zero_written, written_levels, written_few}
use Rattle.bc_records.proofs.write.to_blocks.Goals as goal

-- the outermost block, alone
alone_is : (m : Module) (none all parts : Contents) → none ≡ no_more → all ≡ append none (a_block 8 parts no_more) → parts ≡ module_contents m → all ≡ written m
alone_is m none all parts none_is pushed parts_is =
    pushed ∙ (ap (λ c. append c (a_block 8 parts no_more)) none_is ∙ ap (λ c. a_block 8 c no_more) parts_is)

pub returns-clause-recorded : goal.returns-clause-recorded
returns-clause-recorded c =
    subst (λ blocks. Recorded blocks c.args.module.now)
    (sym (alone_is c.args.module.now (contents_of c.no_blocks-blocks.result) (contents_of c.push_outermost.new.blocks) (parts_contents c.in_ok-parts.parts)
    c.no_blocks-blocks.ensures c.in_ok-push_outermost.ensures.ok c.in_ok-parts.ensures.value))
    (recorded c.args.module.now c.requires.whole c.requires.listed c.in_ok-parts.ensures.range)

pub returns-clause-no_block_zero : goal.returns-clause-no_block_zero
returns-clause-no_block_zero c =
    subst HasNoBlockZero
    (sym (alone_is c.args.module.now (contents_of c.no_blocks-blocks.result) (contents_of c.push_outermost.new.blocks) (parts_contents c.in_ok-parts.parts)
    c.no_blocks-blocks.ensures c.in_ok-push_outermost.ensures.ok c.in_ok-parts.ensures.value))
    (no_zero_written c.args.module.now)

pub returns-clause-nesting : goal.returns-clause-nesting
returns-clause-nesting c =
    subst (λ blocks. levels blocks ≤ most_levels)
    (sym (alone_is c.args.module.now (contents_of c.no_blocks-blocks.result) (contents_of c.push_outermost.new.blocks) (parts_contents c.in_ok-parts.parts)
    c.no_blocks-blocks.ensures c.in_ok-push_outermost.ensures.ok c.in_ok-parts.ensures.value))
    (written_levels c.args.module.now)

pub returns-clause-few : goal.returns-clause-few
returns-clause-few c =
    subst (λ blocks. block_count blocks < 2 ^ 32)
    (sym (alone_is c.args.module.now (contents_of c.no_blocks-blocks.result) (contents_of c.push_outermost.new.blocks) (parts_contents c.in_ok-parts.parts)
    c.no_blocks-blocks.ensures c.in_ok-push_outermost.ensures.ok c.in_ok-parts.ensures.value))
    (written_few c.args.module.now c.requires.whole.few_bodies)
