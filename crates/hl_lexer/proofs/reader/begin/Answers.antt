use Rattle.std.proofs.Common.{refl}
use Rattle.hl_lexer.proofs.ReadFacts.{reads_start}
use Rattle.hl_lexer.proofs.reader.begin.Goals as goal

pub returns-clause-read : goal.returns-clause-read
returns-clause-read c = reads_start _ c.order_mark_length-start.ensures c.requires refl c.new.ensures
