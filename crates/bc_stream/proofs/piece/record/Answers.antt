use Rattle.std.proofs.lemmas.Option.{MatchOption-at_none, MatchOption-at_some}
use Rattle.bc_stream.specs.Reading.{NoRecord, RecordAt}
use Rattle.bc_stream.proofs.PieceLemmas.{fault_at, cut_record, large_code, large_value, outside_record}
use Rattle.bc_stream.proofs.piece.record.Goals as goal

pub returns-in_default : goal.returns-in_default
returns-in_default c =
    fault_at c.args.bytes.now c.args.scope c.args.at 2 c.fault.result c.fault.ensures
    (cut_record c.args.bytes.now c.args.scope c.args.at c.args.behind c.requires.behind c.requires.id
    (MatchOption-at_none (NoRecord c.args.bytes.now c.args.behind) (RecordAt c.args.bytes.now c.args.behind) c.in_default.is c.in_ok-found.ensures))

pub returns-in_default-in_word : goal.returns-in_default-in_word
returns-in_default-in_word c =
    fault_at c.args.bytes.now c.args.scope c.args.at 4 c.fault-in_default-in_word.result c.fault-in_default-in_word.ensures
    (large_code c.args.bytes.now c.args.scope c.args.at c.args.behind c.in-Some.found c.requires.behind c.requires.id
    (MatchOption-at_some (NoRecord c.args.bytes.now c.args.behind) (RecordAt c.args.bytes.now c.args.behind) c.in-Some.found c.in-Some.is c.in_ok-found.ensures)
    c.in_default-in_word.ensures)

pub returns-in_default-values : goal.returns-in_default-values
returns-in_default-values c =
    fault_at c.args.bytes.now c.args.scope c.args.at 4 c.fault-in_default-values.result c.fault-in_default-values.ensures
    (large_value c.args.bytes.now c.args.scope c.args.at c.args.behind c.in-Some.found c.requires.behind c.requires.id
    (MatchOption-at_some (NoRecord c.args.bytes.now c.args.behind) (RecordAt c.args.bytes.now c.args.behind) c.in-Some.found c.in-Some.is c.in_ok-found.ensures)
    c.in_default-values.is)

pub returns-then-scope-eq0 : goal.returns-then-scope-eq0
returns-then-scope-eq0 c =
    fault_at c.args.bytes.now c.args.scope c.args.at 7 c.fault-then-scope-eq0.result c.fault-then-scope-eq0.ensures
    (outside_record c.args.bytes.now c.args.scope c.args.at c.args.behind c.in-Some-in_word.code c.in-Some-values.values c.in-Some.found c.requires.behind c.requires.id
    (MatchOption-at_some (NoRecord c.args.bytes.now c.args.behind) (RecordAt c.args.bytes.now c.args.behind) c.in-Some.found c.in-Some.is c.in_ok-found.ensures)
    c.in-Some-in_word.ensures c.in-Some-values.is c.if-scope-eq0.true)
