use Rattle.std.proofs.Common.{[], ◌∷◌}
use Rattle.bc_stream.specs.Blocks.{parts_contents}
use Rattle.bc_records.specs.Entries.{entry}
use Rattle.bc_records.proofs.Steps.{twice}
use Rattle.bc_records.proofs.metadata.push_named.Goals as goal

pub returns-clause-ok : goal.returns-clause-ok
returns-clause-ok c =
    twice (parts_contents c.args.parts.now) (parts_contents c.push_text.new.parts) (parts_contents c.push_words.new.parts)
    (entry 4 c.args.named.now.name ∷ []) (entry 10 c.args.named.now.ids ∷ []) c.in_ok-push_text.ensures.ok c.in_ok-push_words.ensures.ok
