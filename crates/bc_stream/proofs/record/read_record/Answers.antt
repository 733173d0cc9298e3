use Rattle.std.proofs.lemmas.Option.{MatchOption-at_none}
use Rattle.bc_stream.specs.Reading.{NoValues, ValuesAt}
use Rattle.bc_stream.proofs.RecordLemmas.{no_code, no_count, no_room, no_values}
use Rattle.bc_stream.proofs.record.read_record.Goals as goal

pub returns-in_default : goal.returns-in_default
returns-in_default c = no_code c.args.bytes.now c.args.at c.in_default.ensures

pub returns-in_default-read_number : goal.returns-in_default-read_number
returns-in_default-read_number c = no_count c.args.bytes.now c.args.at c.in-Some.code c.in-Some.ensures c.in_default-read_number.ensures

pub returns-in_default-count_within : goal.returns-in_default-count_within
returns-in_default-count_within c =
    no_room c.args.bytes.now c.args.at c.bits_left.result c.in-Some.code c.in-Some-read_number.count c.in-Some.ensures c.in-Some-read_number.ensures c.in_default-count_within.ensures c.bits_left.ensures

pub returns-in-None : goal.returns-in-None
returns-in-None c =
    no_values c.args.bytes.now c.args.at c.bits_left.result c.in-Some-count_within.count_here c.in-Some.code c.in-Some-read_number.count c.in-Some.ensures c.in-Some-read_number.ensures
    c.in-Some-count_within.ensures
    (MatchOption-at_none (NoValues c.args.bytes.now c.in-Some-count_within.count_here c.in-Some-read_number.count.to)
    (ValuesAt c.args.bytes.now c.in-Some-count_within.count_here c.in-Some-read_number.count.to) c.in-None.is c.in_ok-values.ensures)
