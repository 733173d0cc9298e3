use Rattle.bc_stream.proofs.PieceLemmas.{no_head_id, no_head_width, no_head_gap, no_head_words}
use Rattle.bc_stream.proofs.piece.read_head.Goals as goal

pub returns-in_default : goal.returns-in_default
returns-in_default c = no_head_id c.args.bytes.now c.args.at c.in_default.ensures

pub returns-in_default-read_number : goal.returns-in_default-read_number
returns-in_default-read_number c = no_head_width c.args.bytes.now c.args.at c.in-Some.id c.in-Some.ensures c.in_default-read_number.ensures

pub returns-in_default-align : goal.returns-in_default-align
returns-in_default-align c =
    no_head_gap c.args.bytes.now c.args.at c.in-Some.id c.in-Some-read_number.width c.in-Some.ensures c.in-Some-read_number.ensures c.in_default-align.ensures

pub returns-in_default-read_fixed : goal.returns-in_default-read_fixed
returns-in_default-read_fixed c =
    no_head_words c.args.bytes.now c.args.at c.in-Some-align.start c.in-Some.id c.in-Some-read_number.width c.in-Some.ensures c.in-Some-read_number.ensures c.in-Some-align.ensures c.in_default-read_fixed.ensures
