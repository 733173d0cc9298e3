use Rattle.std.proofs.Common.{arith}
use Rattle.bc_stream.proofs.PieceLemmas.{fault_at, cut_enter, large_id, large_width, too_deep_head, zero_head}
use Rattle.bc_stream.proofs.piece.enter.Goals as goal

pub returns-in_default : goal.returns-in_default
returns-in_default c =
    fault_at c.args.bytes.now c.args.scope c.args.at 2 c.fault.result c.fault.ensures
    (cut_enter c.args.bytes.now c.args.scope c.args.at c.args.behind c.requires.behind c.requires.id c.in_default.ensures)

pub returns-in_default-in_word : goal.returns-in_default-in_word
returns-in_default-in_word c =
    fault_at c.args.bytes.now c.args.scope c.args.at 4 c.fault-in_default-in_word.result c.fault-in_default-in_word.ensures
    (large_id c.args.bytes.now c.args.scope c.args.at c.args.behind c.in-Some.head c.requires.behind c.requires.id c.in-Some.ensures c.in_default-in_word.ensures)

pub returns-in_default-in_limit : goal.returns-in_default-in_limit
returns-in_default-in_limit c =
    fault_at c.args.bytes.now c.args.scope c.args.at 4 c.fault-in_default-in_limit.result c.fault-in_default-in_limit.ensures
    (large_width c.args.bytes.now c.args.scope c.args.at c.args.behind c.in-Some.head c.requires.behind c.requires.id c.in-Some.ensures c.in_default-in_limit.ensures)

pub returns-then-scope-ge-MOST_LEVELS : goal.returns-then-scope-ge-MOST_LEVELS
returns-then-scope-ge-MOST_LEVELS c =
    fault_at c.args.bytes.now c.args.scope c.args.at 9 c.fault-then-scope-ge-MOST_LEVELS.result c.fault-then-scope-ge-MOST_LEVELS.ensures
    (too_deep_head c.args.bytes.now c.args.scope c.args.at c.args.behind c.in-Some-in_word.id c.in-Some-in_limit.width c.in-Some.head c.requires.behind c.requires.id c.in-Some.ensures
    c.in-Some-in_word.ensures c.in-Some-in_limit.ensures c.if-scope-ge-MOST_LEVELS.true)

pub returns-then-id-eq0 : goal.returns-then-id-eq0
returns-then-id-eq0 c =
    fault_at c.args.bytes.now c.args.scope c.args.at 10 c.fault-then-id-eq0.result c.fault-then-id-eq0.ensures
    (zero_head c.args.bytes.now c.args.scope c.args.at c.args.behind c.in-Some-in_word.id c.in-Some-in_limit.width c.in-Some.head c.requires.behind c.requires.id c.in-Some.ensures
    c.in-Some-in_word.ensures c.in-Some-in_limit.ensures (omega (arith, c.if-scope-ge-MOST_LEVELS.false)) c.if-id-eq0.true)
