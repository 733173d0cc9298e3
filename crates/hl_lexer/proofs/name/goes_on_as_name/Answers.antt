use Rattle.std.proofs.Common.{◌<◌, length, subst, arith}
use Rattle.std.proofs.lemmas.List.{take_all}
use Rattle.std.specs.List.{AllPass}
use Rattle.hl_lexer.specs.Bytes.{is_word_byte}
use Rattle.hl_lexer.proofs.NameFacts.{name_unless_word, name_whole}
use Rattle.hl_lexer.proofs.name.goes_on_as_name.Goals as goal

pub returns-then-word_length-text : goal.returns-then-word_length-text
returns-then-word_length-text c =
    let short : c.word_length.result < length c.args.text.now = c.if-word_length-text.true in
    name_whole c.args.text.now c.word_length.result short c.word_length.ensures.run c.word_length.ensures.end

pub returns : goal.returns
returns c =
    let run : AllPass is_word_byte c.args.text.now = subst (AllPass is_word_byte) (take_all c.word_length.result c.args.text.now (omega (arith, c.if-word_length-text.false))) c.word_length.ensures.run in
    name_unless_word c.args.text.now c.word_number.result c.is_none.result c.is_none.ensures c.requires.some c.requires.class run c.word_number.ensures
